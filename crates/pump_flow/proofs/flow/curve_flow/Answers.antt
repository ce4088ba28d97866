use Rattle.std.proofs.Common.{◌≡◌, ◌*◌, ◌^◌, pos}
use Rattle.std.proofs.lemmas.Int.{to_z-of_z}
use Rattle.fixed_num.specs.Ranges.{IsBetween, IsWithin}
use Rattle.fixed_num.proofs.Bounds.{within_between, within_mul, within_number, fits128, fits_wider}
use Rattle.pump_flow.specs.PumpFlow.{curve_flow_of}
use Rattle.pump_flow.proofs.FlowLemmas.{curve_flow-between, scaled-within, within_nat}
use Rattle.pump_flow.proofs.flow.curve_flow.Goals as goal
use Rattle.pump_flow.proofs.flow.curve_flow.Goals.{After-max}

value : (c : After-max) → c.max.result ≡ curve_flow_of c.args.unit.now c.args.value
unfolding curve_flow_of
value c =
    let num = within_nat (10 ^ 11) c.args.unit.now.num c.requires.unit.num_at_most in
    let den = within_nat (10 ^ 8) c.args.unit.now.den c.requires.unit.den_at_most in
    let p = within_mul c.requires.value num in
    let d = within_mul den (within_number 1_000_000) in
    let q = simp (
      to_z-of_z,
      c.ranges.value,
      fits_wider _ c.ranges.value,
      fits128 num tt,
      fits128 den tt,
      fits128 p tt,
      fits128 d tt,
    ) at c.quo.ensures.value in
    let f : IsWithin 100_000_000_000_000_000_000 c.quo.result =
    rw q (scaled-within c.args.unit.now c.requires.unit c.requires.value) in
    let m = simp (to_z-of_z, fits128 f tt) at c.max.ensures.value in
    cc (q, m)

small : (c : After-max) → IsBetween (pos 0) c.max.result (pos 100_000_000_000_000_000_000)
small c = rw (value c) (curve_flow-between c.args.unit.now c.requires.unit c.requires.value)

pub returns-clause-value : goal.returns-clause-value
returns-clause-value c =
    let before = (goal.at.returns-clause-value c).After-max in
    simp (to_z-of_z, fits128 (within_between (small before)) tt) (value before)

pub returns-clause-range : goal.returns-clause-range
returns-clause-range c =
    let before = (goal.at.returns-clause-range c).After-max in
    simp (to_z-of_z, fits128 (within_between (small before)) tt) (small before)
