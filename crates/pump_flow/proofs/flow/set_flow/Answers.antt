use Rattle.std.proofs.Common.{◌≡◌, ◌^◌, pos}
use Rattle.std.proofs.lemmas.Int.{to_z-of_z}
use Rattle.fixed_num.specs.Ranges.{IsBetween}
use Rattle.fixed_num.proofs.Bounds.{within_between, within_mul, fits128, fits_wider}
use Rattle.pump_flow.specs.PumpFlow.{set_flow_of}
use Rattle.pump_flow.proofs.FlowLemmas.{set_flow-between}
use Rattle.pump_flow.proofs.flow.set_flow.Goals as goal

pub returns-clause-range : goal.returns-clause-range
unfolding set_flow_of
returns-clause-range c =
    let flow = within_between c.requires.flow in
    let p = within_mul flow (within_between c.requires.setting) in
    let q = simp (
      to_z-of_z,
      fits128 flow tt,
      c.ranges.setting,
      fits_wider _ c.ranges.setting,
      fits128 p tt,
    ) at c.quo.ensures.value in
    let small : IsBetween (pos 0) c.quo.result (pos 100_000_000_000_000_000_000) =
    rw q (set_flow-between c.requires.flow c.requires.setting) in
    simp (to_z-of_z, fits128 (within_between small) tt) small
