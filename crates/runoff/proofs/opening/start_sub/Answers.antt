use Rattle.runoff.specs.RunoffStep.{start_of_sub}
use Rattle.runoff.proofs.opening.start_sub.Goals as goal

pub returns-clause-value : goal.returns-clause-value
unfolding start_of_sub
returns-clause-value c =
    let i = c.infil_in.ensures.value in
    let s = c.start_state.ensures.value in
    rw (s, i)
