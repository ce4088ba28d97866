use Rattle.std.proofs.Common.{ℕ, ◌∙◌, ap, sym, subst}
use Rattle.std.proofs.lemmas.Int.{to_z-of_z}
use Rattle.phase_machine.specs.Items.{reaching, share_at}
use Rattle.node_board.specs.Acts.{CanDeposit}
use Rattle.node_board.specs.Shows.{work_of}
use Rattle.node_board.proofs.DepositLemmas.{second_deposit}
use Rattle.node_board.proofs.Calls.{ends_are}
use Rattle.node_board.proofs.FurtherLemmas.{same_share}
use Rattle.node_board.proofs.board.Board.add_second.Goals as goal

pub add-requires-clause-can : goal.add-requires-clause-can
add-requires-clause-can g c =
    let ends = ends_are g.P.PhaseLaw.law c.self.view_is c.seat.view_is c.seat.inside.item c.seat.invariant.3 c.ends-far.result c.ends-far.ensures in
    subst (CanDeposit (g.P.PhaseLaw.law c.args.self.now.law) (work_of c.args.seat.now.view))
    (ap (λ (n : ℕ). reaching n (share_at (g.P.PhaseLaw.law c.args.self.now.law) (work_of c.args.seat.now.view)).q)
    (sym (ap (λ (x : ℕ × ℕ). x.1) ends))
    ∙ ap (reaching c.ends-far.result.1) (sym c.requires.share)
    ∙ (simp (to_z-of_z, c.ranges.q) at (c.reaching_part-sum.ensures.deposit c.ends-far.result.1)))
    (second_deposit (g.met.P.PhaseLaw.good c.args.self.now.law) (work_of c.args.seat.now.view) c.requires.ready)

pub returns-clause-share : goal.returns-clause-share
returns-clause-share g c =
    same_share (g.P.PhaseLaw.law c.args.self.now.law) c.args.seat.now.view c.add.new.seat.view c.add.ensures.view
