use Rattle.std.proofs.Common.{◌≡◌, ℕ, ◌-◌, slice_set, ◌∙◌, ap, arith}
use Rattle.std.proofs.lemmas.Int.{to_z-of_z}
use Rattle.phase_machine.specs.Places.{link_place}
use Rattle.node_board.specs.Known.{at_known}
use Rattle.node_board.specs.Seen.{plan_of}
use Rattle.node_board.proofs.SetLemmas.{fixed_link}
use Rattle.node_board.proofs.board.Board.set_link_word.Goals as goal

pub set_signed-requires-clause-can : goal.set_signed-requires-clause-can
set_signed-requires-clause-can g c =
    simp (to_z-of_z, c.ranges.value)
    (fixed_link (g.met.P.PhaseLaw.good c.args.self.now.law) (plan_of c.args.lead.now.view) c.requires.rests c.requires.even
    c.args.link c.args.k c.link_word-word.result c.args.value c.requires.link c.requires.few c.requires.range c.link_word-word.ensures)

pub returns-clause-view : goal.returns-clause-view
returns-clause-view g c =
    let at : c.link_word-word.result - 1 ≡ link_place c.args.link c.args.k = omega (arith, c.link_word-word.ensures) in
    (simp (to_z-of_z, c.ranges.value) at c.set_signed.ensures.view)
    ∙ ap (λ (j : ℕ). at_known c.args.lead.now.view (slice_set (plan_of c.args.lead.now.view).known j c.args.value)) at
