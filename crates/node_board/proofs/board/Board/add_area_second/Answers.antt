use Rattle.std.proofs.Common.{ℕ, ◌∙◌, ap, sym, subst}
use Rattle.std.proofs.lemmas.Int.{to_z-of_z}
use Rattle.std.specs.Int.RustNames.{unsigned_abs}
use Rattle.node_board.specs.Acts.{CanDeposit}
use Rattle.node_board.specs.Shows.{work_of}
use Rattle.node_board.proofs.DepositLemmas.{second_area_deposit}
use Rattle.node_board.proofs.Calls.{ends_are}
use Rattle.node_board.proofs.FurtherLemmas.{same_share}
use Rattle.node_board.proofs.board.Board.add_area_second.Goals as goal

pub add-requires-clause-can : goal.add-requires-clause-can
add-requires-clause-can g c =
    let ends = ends_are g.P.PhaseLaw.law c.self.view_is c.seat.view_is c.seat.inside.item c.seat.invariant.3 c.ends-far.result c.ends-far.ensures in
    subst (λ (n : ℕ). CanDeposit (g.P.PhaseLaw.law c.args.self.now.law) (work_of c.args.seat.now.view)
    (record { node = n; sum = 2; amount = c.unsigned_abs.result }))
    (sym (ap (λ (x : ℕ × ℕ). x.1) ends))
    (subst (λ (m : ℕ). CanDeposit (g.P.PhaseLaw.law c.args.self.now.law) (work_of c.args.seat.now.view)
    (record { node = ((g.P.PhaseLaw.law c.args.self.now.law).ends (work_of c.args.seat.now.view).item).1; sum = 2; amount = m }))
    (ap unsigned_abs (sym c.requires.share) ∙ sym (simp (to_z-of_z, c.ranges.area) at c.unsigned_abs.ensures.value))
    (second_area_deposit (g.met.P.PhaseLaw.good c.args.self.now.law) (work_of c.args.seat.now.view) c.requires.ready))

pub returns-clause-share : goal.returns-clause-share
returns-clause-share g c =
    same_share (g.P.PhaseLaw.law c.args.self.now.law) c.args.seat.now.view c.add.new.seat.view c.add.ensures.view
