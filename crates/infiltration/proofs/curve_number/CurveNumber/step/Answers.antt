use Rattle.std.proofs.Common.{FitsSigned, rules, arith}
use Rattle.std.specs.Int.{w64}
use Rattle.std.proofs.lemmas.Int.{ints, to_z-of_z}
use Rattle.infiltration.specs.CurveNumber.{dry_after, number_after, number_taken_of}
use Rattle.infiltration.proofs.CurveLemmas.{greatest_between}
use Rattle.infiltration.proofs.curve_number.CurveNumber.step.Goals as goal

pub returns-then-rain-gt0-clause-taken : goal.returns-then-rain-gt0-clause-taken
returns-then-rain-gt0-clause-taken c =
    let test = simp (to_z-of_z, c.ranges.rain) at c.if-rain-gt0.true in
    let e = simp (to_z-of_z, c.ranges.rain, c.ranges.available) at c.rain_step.ensures.taken in
    simp test e

pub returns-then-rain-gt0-clause-state : goal.returns-then-rain-gt0-clause-state
returns-then-rain-gt0-clause-state c =
    let test = simp (to_z-of_z, c.ranges.rain) at c.if-rain-gt0.true in
    let e = simp (to_z-of_z, c.ranges.rain, c.ranges.available) at c.rain_step.ensures.state in
    simp test e

pub dried_room-room-requires-clause-room : goal.dried_room-room-requires-clause-room
dried_room-room-requires-clause-room c =
    let room : FitsSigned w64 c.args.state.room = search rules in
    let greatest = greatest_between c.args.self.now.cn6 c.requires.number in
    let held = c.requires.state.room in
    simp (to_z-of_z, room) (record { from = held.from; to = omega (arith, ints, held.to, greatest.to) })

pub returns-clause-taken : goal.returns-clause-taken
returns-clause-taken c =
    let test = simp (to_z-of_z, c.ranges.rain) at c.if-rain-gt0.false in
    simp test

pub returns-clause-state : goal.returns-clause-state
unfolding dry_after
returns-clause-state c =
    let room : FitsSigned w64 c.args.state.room = search rules in
    let fits : FitsSigned w64 c.dried_room-room.result = search rules in
    let test = simp (to_z-of_z, c.ranges.rain) at c.if-rain-gt0.false in
    let r = simp (to_z-of_z, room, c.ranges.ms) at c.dried_room-room.ensures in
    let p = simp (to_z-of_z, fits, c.ranges.ms) at c.pause.ensures in
    simp test (rw (← r) p)
