use Rattle.std.proofs.Common.{◌≡◌, ◌^◌, pos, sym, subst, ◌∙◌, FitsSigned, rules}
use Rattle.std.specs.Int.{w64}
use Rattle.std.proofs.lemmas.Int.{to_z-of_z}
use Rattle.infiltration.specs.Infiltration.{IsStateUpTo, method_of, taken_by, state_after, state_by}
use Rattle.infiltration.specs.declared.states.InfilState.TheVariants.{Horton as HortonAt, Number as NumberAt}
use Rattle.infiltration.proofs.MethodLemmas.{horton_state, number_state}
use Rattle.infiltration.proofs.StateLaws.{growth}
use Rattle.infiltration.proofs.infiltration.infiltrate.Goals as goal
use Rattle.infiltration.proofs.infiltration.infiltrate.Goals.{After-step-step, After-step-step-in-Number}

pub step-step-requires-clause-state : goal.step-step-requires-clause-state
step-step-requires-clause-state c =
    let m = sym c.method_in.ensures ∙ c.in-Horton.is in
    let s = rw m at c.requires.state in
    rw c.horton_in.ensures (horton_state (pos (10 ^ 16)) c.in-Horton.curve c.args.state.now s)

pub step-step-requires-in-Number-clause-state : goal.step-step-requires-in-Number-clause-state
step-step-requires-in-Number-clause-state c =
    let m = sym c.method_in.ensures ∙ c.in-Number.is in
    let s = rw m at c.requires.state in
    rw c.number_in.ensures (number_state (pos (10 ^ 16)) c.in-Number.curve c.args.state.now s)

horton_after : (c : After-step-step) → HortonAt c.step-step.result.state ≡ state_after c.args.infil.now c.args.state.now c.args.rain c.args.available c.args.ms
unfolding state_by
horton_after c =
    let m = sym c.method_in.ensures ∙ c.in-Horton.is in
    let s = c.horton_in.ensures in
    let e = simp (to_z-of_z, c.ranges.available, c.ranges.ms) at c.step-step.ensures.state in
    rw (m, ← s, e)

number_after : (c : After-step-step-in-Number) → NumberAt c.step-step-in-Number.result.state ≡ state_after c.args.infil.now c.args.state.now c.args.rain c.args.available c.args.ms
unfolding state_by
number_after c =
    let m = sym c.method_in.ensures ∙ c.in-Number.is in
    let s = c.number_in.ensures in
    let e = simp (to_z-of_z, c.ranges.rain, c.ranges.available, c.ranges.ms) at c.step-step-in-Number.ensures.state in
    rw (m, ← s, e)

pub returns-in-Horton-clause-taken : goal.returns-in-Horton-clause-taken
unfolding taken_by
returns-in-Horton-clause-taken c =
    let taken : FitsSigned w64 c.step-step.result.taken = search rules in
    let m = sym c.method_in.ensures ∙ c.in-Horton.is in
    let s = c.horton_in.ensures in
    let e = simp (to_z-of_z, c.ranges.available, c.ranges.ms) at c.step-step.ensures.taken in
    simp (to_z-of_z, taken) (rw (m, ← s) e)

pub returns-in-Horton-clause-after : goal.returns-in-Horton-clause-after
returns-in-Horton-clause-after c = horton_after (goal.at.returns-in-Horton-clause-after c).After-step-step

pub returns-in-Horton-clause-growth : goal.returns-in-Horton-clause-growth
returns-in-Horton-clause-growth c =
    let e = horton_after (goal.at.returns-in-Horton-clause-growth c).After-step-step in
    λ slow most h. rw e (growth most (method_of c.args.infil.now) c.args.state.now c.args.rain c.args.available c.args.ms c.requires.infil h c.requires.rain c.requires.time slow)

pub returns-in-Number-clause-taken : goal.returns-in-Number-clause-taken
unfolding taken_by
returns-in-Number-clause-taken c =
    let taken : FitsSigned w64 c.step-step-in-Number.result.taken = search rules in
    let m = sym c.method_in.ensures ∙ c.in-Number.is in
    let s = c.number_in.ensures in
    let e = simp (to_z-of_z, c.ranges.rain, c.ranges.available) at c.step-step-in-Number.ensures.taken in
    simp (to_z-of_z, taken) (rw (m, ← s) e)

pub returns-in-Number-clause-after : goal.returns-in-Number-clause-after
returns-in-Number-clause-after c = number_after (goal.at.returns-in-Number-clause-after c).After-step-step-in-Number

pub returns-in-Number-clause-growth : goal.returns-in-Number-clause-growth
returns-in-Number-clause-growth c =
    let e = number_after (goal.at.returns-in-Number-clause-growth c).After-step-step-in-Number in
    λ slow most h. rw e (growth most (method_of c.args.infil.now) c.args.state.now c.args.rain c.args.available c.args.ms c.requires.infil h c.requires.rain c.requires.time slow)
