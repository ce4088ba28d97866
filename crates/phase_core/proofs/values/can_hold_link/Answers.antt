use Rattle.std.proofs.lemmas.Int.{to_z-of_z}
use Rattle.phase_core.proofs.SetLemmas.{link_holds, link_held}
use Rattle.phase_core.proofs.values.can_hold_link.Goals as goal

pub returns-then-reads_link_word : goal.returns-then-reads_link_word
returns-then-reads_link_word g c =
    let law = (g.P.PhaseLaw.law c.args.law.now) in
    let word = simp (to_z-of_z, c.ranges.value) at c.is_link_word.ensures in
    let reads = c.reads_link_word.ensures.0 c.if-reads_link_word.true in (
      (λ on.
          link_holds law c.args.buffer c.requires.buffer c.args.place c.args.value c.requires.from c.requires.to reads (word.0 on)),
      (λ both.
          word.1
          (link_held law c.args.buffer c.requires.buffer c.args.place c.args.value c.requires.from c.requires.to both.0 both.1).1),
    )
