use Rattle.std.proofs.Common.{◌≡◌, FitsSigned, rules}
use Rattle.std.specs.Int.{w128}
use Rattle.std.proofs.lemmas.Int.{to_z-of_z}
use Rattle.fixed_num.specs.Ranges.{IsTravelTime}
use Rattle.fixed_num.proofs.Bounds.{within_between, within_mul, within_number, fits64, fits128, fits_wider}
use Rattle.conduit_flow.specs.TravelTime.{travel_time_of}
use Rattle.conduit_flow.proofs.TravelLemmas.{travel_time-between}
use Rattle.conduit_flow.proofs.travel.travel_time.Goals as goal
use Rattle.conduit_flow.proofs.travel.travel_time.Goals.{After-min}

value : (c : After-min) → c.min.result ≡ travel_time_of c.args.flow c.args.middle.now c.args.length
unfolding travel_time_of
value c =
    let w = fits64 (within_between c.wave_speed-wave.ensures.range) tt in
    let product = within_mul (within_between c.requires.length) (within_number 1_000) in
    let quotient : FitsSigned w128 c.quo.result = search rules in
    let v = simp (to_z-of_z, c.ranges.flow) at c.wave_speed-wave.ensures.value in
    let q = simp (to_z-of_z, c.ranges.length, fits_wider _ c.ranges.length, fits128 product tt, w, fits_wider _ w) at c.quo.ensures.value in
    let m = simp (to_z-of_z, quotient) at c.min.ensures.value in
    cc (v, q, m)

small : (c : After-min) → IsTravelTime c.min.result
small c = rw (value c) (travel_time-between c.args.flow c.args.middle.now c.requires.length)

pub overflow_cast-result : goal.overflow_cast-result
overflow_cast-result c = let w = within_between (small c) in simp (to_z-of_z, fits128 w tt) (fits64 w tt)

pub returns-clause-value : goal.returns-clause-value
returns-clause-value c = let w = within_between (small c) in simp (to_z-of_z, fits128 w tt, fits64 w tt) (value c)

pub returns-clause-range : goal.returns-clause-range
returns-clause-range c = let w = within_between (small c) in simp (to_z-of_z, fits128 w tt, fits64 w tt) (small c)
