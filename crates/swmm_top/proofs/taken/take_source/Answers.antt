-- The bytes that are read decide of the whole input.
use Rattle.swmm_top.proofs.OutcomeLemmas.{front_is_taken}
use Rattle.swmm_top.proofs.taken.take_source.Goals as goal

pub returns-in-Ok-clause-taken : goal.returns-in-Ok-clause-taken
returns-in-Ok-clause-taken g c = front_is_taken _ _ _ _ _ _ _ c.in-Ok.ensures.bytes c.deref.ensures.value c.take_input.ensures.taken
