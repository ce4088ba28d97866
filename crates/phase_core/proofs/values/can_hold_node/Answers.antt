use Rattle.std.proofs.lemmas.Int.{to_z-of_z}
use Rattle.phase_core.proofs.SetLemmas.{node_holds, node_held}
use Rattle.phase_core.proofs.values.can_hold_node.Goals as goal

pub returns-then-reads_node_word : goal.returns-then-reads_node_word
returns-then-reads_node_word g c =
    let law = (g.P.PhaseLaw.law c.args.law.now) in
    let word = simp (to_z-of_z, c.ranges.value, c.links.ensures) at c.is_node_word.ensures in
    let read = rw c.links.ensures at c.reads_node_word.ensures in
    let reads = read.0 c.if-reads_node_word.true in (
      (λ on.
          node_holds law c.args.buffer c.requires.buffer c.args.place c.args.value c.requires.from c.requires.to reads (word.0 on)),
      (λ both.
          word.1
          (node_held law c.args.buffer c.requires.buffer c.args.place c.args.value c.requires.from c.requires.to both.0 both.1).1),
    )
