use Rattle.std.proofs.lemmas.Int.{to_z-of_z}
use Rattle.fixed_num.proofs.Bounds.{within_between, fits64}
use Rattle.runoff.specs.RunoffStep.{opening_of_sub}
use Rattle.runoff.proofs.opening.opening_sub.Goals as goal

pub returns-clause-value : goal.returns-clause-value
unfolding opening_of_sub
returns-clause-value c =
    let i = c.infil_in.ensures.value in
    let s = c.opening_state.ensures.value in
    simp (to_z-of_z, fits64 (within_between c.requires.state.flow) tt) (rw (s, i))
