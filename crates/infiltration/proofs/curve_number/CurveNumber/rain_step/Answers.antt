use Rattle.std.proofs.Common.{◌≡◌, ◌^◌, ◌*◌, pos, ◌+ℤ◌, ◌-ℤ◌, ◌≤ℤ◌, FitsSigned, rules, arith}
use Rattle.std.specs.Int.{w64, int_min}
use Rattle.std.proofs.lemmas.Int.{ints, clamps, to_z-of_z}
use Rattle.fixed_num.specs.Ranges.{IsBetween, IsWithin}
use Rattle.fixed_num.proofs.Bounds.{within_add, within_sub, within_between, fits64}
use Rattle.infiltration.specs.CurveNumber.{IsRoom, greatest_room_of, rain_taken_of, rain_after, soaked_of}
use Rattle.infiltration.proofs.CurveLemmas.{greatest_between, soaked_between, soaked_more}
use Rattle.infiltration.proofs.curve_number.CurveNumber.rain_step.Goals as goal
use Rattle.infiltration.proofs.curve_number.CurveNumber.rain_step.Goals.{After-soaked-soaked, After-min-taken}

pub soaked-soaked-requires-clause-room : goal.soaked-soaked-requires-clause-room
soaked-soaked-requires-clause-room c =
    let room : FitsSigned w64 c.args.state.event_room = search rules in
    let greatest = greatest_between c.args.self.now.cn6 c.requires.number in
    let held = c.requires.state.event_room in
    simp (to_z-of_z, room) (record { from = held.from; to = omega (arith, ints, held.to, greatest.to) })

rain-within : (c : After-soaked-soaked) → IsWithin (2 * 10 ^ 16) c.args.rain
rain-within c = record { within = omega (arith, ints, c.requires.rain.from, c.requires.rain.to, c.requires.available) }

soaked : (c : After-soaked-soaked) → c.soaked-soaked.result ≡ soaked_of (c.args.state.rain +ℤ c.args.rain) c.args.state.event_room
soaked c =
    let room : FitsSigned w64 c.args.state.event_room = search rules in
    let rain : FitsSigned w64 c.args.state.rain = search rules in
    let fallen = fits64 (within_add (within_between c.requires.state.rain) (rain-within c)) tt in
    simp (to_z-of_z, room, rain, c.ranges.rain, fallen) at c.soaked-soaked.ensures.value

-- what the soil can take more of the event
rest-between : (c : After-soaked-soaked) → IsBetween (pos 0) (c.soaked-soaked.result -ℤ c.args.state.taken) (pos (3 * 10 ^ 16))
rest-between c =
    let more = soaked_more c.args.state.rain c.args.rain c.args.state.event_room c.requires.state.rain.from c.requires.rain.from c.requires.state.event_room.from in
    let most = soaked_between (c.args.state.rain +ℤ c.args.rain) c.args.state.event_room (omega (arith, ints, c.requires.state.rain.from, c.requires.rain.from)) c.requires.state.event_room.from in
    let e = soaked c in
    let taken = c.requires.state.taken in
    record {
      from = omega (arith, ints, e, more, taken.to);
      to = omega (arith, ints, e, most.to, taken.from, c.requires.state.rain.to, c.requires.rain.to, c.requires.available);
    }

least : (c : After-min-taken) → IsBetween (pos 0) (c.soaked-soaked.result -ℤ c.args.state.taken) (pos (3 * 10 ^ 16)) → c.min-taken.result ≡ int_min c.args.available (c.soaked-soaked.result -ℤ c.args.state.taken)
least c r =
    let wet : FitsSigned w64 c.soaked-soaked.result = search rules in
    let taken : FitsSigned w64 c.args.state.taken = search rules in
    simp (to_z-of_z, c.ranges.available, wet, taken, fits64 (within_between r) tt) at c.min-taken.ensures.value

between : (c : After-min-taken) → c.min-taken.result ≡ int_min c.args.available (c.soaked-soaked.result -ℤ c.args.state.taken) → IsBetween (pos 0) (c.soaked-soaked.result -ℤ c.args.state.taken) (pos (3 * 10 ^ 16)) → IsBetween (pos 0) c.min-taken.result c.args.available
between c e r = record { from = omega (arith, ints, clamps, e, r.from, c.requires.rain.from, c.requires.rain.to); to = omega (arith, ints, clamps, e) }

room-within : (c : After-min-taken) → IsBetween (pos 0) c.min-taken.result c.args.available → IsWithin (10 ^ 17) (c.args.state.room -ℤ c.min-taken.result)
room-within c t =
    let greatest = greatest_between c.args.self.now.cn6 c.requires.number in
    let room = c.requires.state.room in
    record { within = omega (arith, ints, t.from, t.to, c.requires.available, room.from, room.to, greatest.to) }

pub overflow_sub-state : goal.overflow_sub-state
overflow_sub-state c =
    let r = rest-between (goal.at.overflow_sub-state c).After-soaked-soaked in
    let at = (goal.at.overflow_sub-state c).After-min-taken in
    let t = between at (least at r) r in
    let fits : FitsSigned w64 c.min-taken.result = search rules in
    let room : FitsSigned w64 c.args.state.room = search rules in
    simp (to_z-of_z, fits, room) (fits64 (room-within at t) tt)

pub returns-clause-taken : goal.returns-clause-taken
unfolding rain_taken_of
returns-clause-taken c =
    let before = (goal.at.returns-clause-taken c).After-soaked-soaked in
    let e = least (goal.at.returns-clause-taken c).After-min-taken (rest-between before) in
    let s = soaked before in
    let fits : FitsSigned w64 c.min-taken.result = search rules in
    simp (to_z-of_z, fits) (cc (e, s))

pub returns-clause-state : goal.returns-clause-state
unfolding rain_after rain_taken_of
returns-clause-state c =
    let before = (goal.at.returns-clause-state c).After-soaked-soaked in
    let at = (goal.at.returns-clause-state c).After-min-taken in
    let r = rest-between before in
    let e = least at r in
    let s = soaked before in
    let left = room-within at (between at e r) in
    let fits : FitsSigned w64 c.min-taken.result = search rules in
    let wet : FitsSigned w64 c.soaked-soaked.result = search rules in
    let above : FitsSigned w64 c.max.result = search rules in
    let room : FitsSigned w64 c.args.state.room = search rules in
    let event_room : FitsSigned w64 c.args.state.event_room = search rules in
    let rain : FitsSigned w64 c.args.state.rain = search rules in
    let fallen = fits64 (within_add (within_between c.requires.state.rain) (rain-within before)) tt in
    let m = simp (to_z-of_z, fits, room, fits64 left tt) at c.max.ensures.value in
    simp (to_z-of_z, above, event_room, rain, c.ranges.rain, fallen, wet) (cc (e, s, m))

pub returns-clause-range : goal.returns-clause-range
returns-clause-range c =
    let r = rest-between (goal.at.returns-clause-range c).After-soaked-soaked in
    let at = (goal.at.returns-clause-range c).After-min-taken in
    let fits : FitsSigned w64 c.min-taken.result = search rules in
    simp (to_z-of_z, fits) (between at (least at r) r)
