-- An input that is too long, and one that is read.
use Rattle.swmm_top.proofs.OutcomeLemmas.{long_refused, refusal_put}
use Rattle.swmm_top.proofs.taken.take_input.Goals as goal

pub returns-then-input-gt-INPUT_LIMIT-clause-taken : goal.returns-then-input-gt-INPUT_LIMIT-clause-taken
returns-then-input-gt-INPUT_LIMIT-clause-taken g c =
    refusal_put c.args.input.now _ _ _ _ _ _ (long_refused c.args.input.now c.if-input-gt-INPUT_LIMIT.true) c.put_input_too_long.ensures.bytes
    c.refused.ensures.done c.refused.ensures.failed
