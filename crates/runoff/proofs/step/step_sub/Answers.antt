use Rattle.std.proofs.Common.{◌≡◌, ◌*◌, ◌^◌, ℤ, pos, ◌+ℤ◌, ◌*ℤ◌, ◌≤ℤ◌, refl, FitsSigned, rules, arith}
use Rattle.std.specs.Int.{w64}
use Rattle.std.proofs.lemmas.Int.{ints, to_z-of_z}
use Rattle.fixed_num.proofs.Bounds.{within_between, fits64, fits128}
use Rattle.infiltration.specs.Depths.{depth_of}
use Rattle.infiltration.proofs.DepthLemmas.{depth_slow}
use Rattle.runoff.specs.RunoffStep.{flow_of, sub_state_after, sub_step_of}
use Rattle.runoff.proofs.step.step_sub.Goals as goal
use Rattle.runoff.proofs.step.step_sub.Goals.{After-flow}

whole_step : (c : After-flow) → c.whole-step.result ≡ sub_step_of c.args.sub.now c.args.state.now c.args.rate c.args.ms
unfolding sub_step_of
whole_step c =
    let p = simp (to_z-of_z, c.ranges.rate, c.ranges.ms) at c.pervious_step-pervious.ensures.value in
    let b = simp (to_z-of_z, c.ranges.rate, c.ranges.ms) at c.bare_step-bare.ensures.value in
    let q = simp (to_z-of_z, c.ranges.rate, c.ranges.ms) at c.paved_step-paved.ensures.value in
    let w = c.whole-step.ensures.value in
    rw (p, b, q) at w

pub returns-clause-step : goal.returns-clause-step
returns-clause-step c = whole_step (goal.at.returns-clause-step c).After-flow

pub returns-clause-after : goal.returns-clause-after
unfolding sub_state_after
returns-clause-after c =
    let w = whole_step (goal.at.returns-clause-after c).After-flow in
    let p = simp (to_z-of_z, c.ranges.rate, c.ranges.ms) at c.pervious_step-pervious.ensures.value in
    let b = simp (to_z-of_z, c.ranges.rate, c.ranges.ms) at c.bare_step-bare.ensures.value in
    let q = simp (to_z-of_z, c.ranges.rate, c.ranges.ms) at c.paved_step-paved.ensures.value in
    let s = simp (to_z-of_z, c.ranges.rate, c.ranges.ms) at c.soak-soil.ensures.infil in
    let f = simp (to_z-of_z, fits128 c.whole-step.ensures.range.runoff tt, c.ranges.ms) at c.flow.ensures.value in
    let first : FitsSigned w64 c.pervious_step-pervious.result.depth = search rules in
    let second : FitsSigned w64 c.bare_step-bare.result.depth = search rules in
    let third : FitsSigned w64 c.paved_step-paved.result.depth = search rules in
    simp (to_z-of_z, first, second, third, fits64 (within_between c.flow.ensures.range) tt) (cc (w, p, b, q, s, f))

pub returns-clause-growth : goal.returns-clause-growth
returns-clause-growth c =
    let slow = depth_slow c.requires.rate c.requires.time in
    let p = simp (to_z-of_z, c.ranges.rate, c.ranges.ms) at c.pervious_step-pervious.ensures.depth in
    let b = simp (to_z-of_z, c.ranges.rate, c.ranges.ms) at c.bare_step-bare.ensures.depth in
    let q = simp (to_z-of_z, c.ranges.rate, c.ranges.ms) at c.paved_step-paved.ensures.depth in
    let g = simp (to_z-of_z, c.ranges.ms) at c.soak-soil.ensures.growth in
    let first : FitsSigned w64 c.pervious_step-pervious.result.depth = search rules in
    let second : FitsSigned w64 c.bare_step-bare.result.depth = search rules in
    let third : FitsSigned w64 c.paved_step-paved.result.depth = search rules in
    λ most h.
    simp (to_z-of_z, first, second, third, fits64 (within_between c.flow.ensures.range) tt) (record {
      depths = record {
        three = refl;
        pervious = record { from = p.from; to = omega (arith, ints, slow, p.to, h.depths.pervious.to) };
        bare = record { from = b.from; to = omega (arith, ints, slow, b.to, h.depths.bare.to) };
        paved = record { from = q.from; to = omega (arith, ints, slow, q.to, h.depths.paved.to) };
      };
      infil = g most h.infil;
      flow = c.flow.ensures.range;
    })
