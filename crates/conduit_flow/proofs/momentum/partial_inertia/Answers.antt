use Rattle.std.proofs.Common.{FitsSigned, refl, rules}
use Rattle.std.specs.Int.{w64, w128}
use Rattle.std.proofs.lemmas.Int.{to_z-of_z}
use Rattle.fixed_num.proofs.Bounds.{within_between, fits64}
use Rattle.conduit_flow.specs.Momentum.{inertia_of}
use Rattle.conduit_flow.proofs.momentum.partial_inertia.Goals as goal

pub returns-then-middle-clause-value : goal.returns-then-middle-clause-value
unfolding inertia_of
returns-then-middle-clause-value c = rw c.if-middle.true refl

pub returns-clause-value : goal.returns-clause-value
unfolding inertia_of
returns-clause-value c =
    let wave = fits64 (within_between c.requires.middle.wave) tt in
    let froude : FitsSigned w128 c.froude.result = search rules in
    let result : FitsSigned w64 c.partial.result = search rules in
    let f = simp (to_z-of_z, c.ranges.velocity, wave) at c.froude.ensures in
    let p = simp (to_z-of_z, froude) at c.partial.ensures.value in
    simp (to_z-of_z, result) (rw c.if-middle.false (cc (f, p)))
