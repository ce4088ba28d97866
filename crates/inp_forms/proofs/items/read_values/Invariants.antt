use Rattle.inp_forms.specs.Context.{context_of}
use Rattle.inp_forms.proofs.ItemLemmas.{ReadSoFar}
use Rattle.inp_forms.proofs.items.read_values.Given as goal

abbrev pub invariant-loop-place : goal.invariant-loop-place
invariant-loop-place g l = ReadSoFar (context_of l.known) l.naming l.items l.tokens l.place l.values
