use Rattle.std.proofs.Common.{FitsSigned, rules, pos, arith}
use Rattle.std.specs.Int.{w64}
use Rattle.std.proofs.lemmas.Int.{ints, clamps, to_z-of_z}
use Rattle.fixed_num.proofs.Bounds.{within_between, fits64}
use Rattle.infiltration.specs.CurveNumber.{IsRoom, number_opening}
use Rattle.infiltration.proofs.curve_number.CurveNumber.opening.Goals as goal
use Rattle.infiltration.proofs.curve_number.CurveNumber.opening.Goals.{After-min-event_room}

room : (c : After-min-event_room) → IsRoom c.min-event_room.result
room c =
    let event_room : FitsSigned w64 c.args.state.event_room = search rules in
    let greatest = c.greatest_room-greatest.ensures.range in
    let m = simp (to_z-of_z, event_room, fits64 (within_between greatest) tt) at c.min-event_room.ensures.value in
    record { from = omega (arith, ints, clamps, m, greatest.from, c.requires.event_room); to = omega (arith, ints, clamps, m, greatest.to) }

pub soaked-requires-clause-room : goal.soaked-requires-clause-room
soaked-requires-clause-room c =
    let r = room (goal.at.soaked-requires-clause-room c).After-min-event_room in
    simp (to_z-of_z, fits64 (within_between r) tt) r

pub returns : goal.returns
unfolding number_opening
returns c =
    let event_room : FitsSigned w64 c.args.state.event_room = search rules in
    let old_room : FitsSigned w64 c.args.state.room = search rules in
    let rain : FitsSigned w64 c.args.state.rain = search rules in
    let taken : FitsSigned w64 c.args.state.taken = search rules in
    let dry : FitsSigned w64 c.args.state.dry = search rules in
    let least : FitsSigned w64 c.min.result = search rules in
    let less : FitsSigned w64 c.min-2.result = search rules in
    let wet : FitsSigned w64 c.soaked.result = search rules in
    let r = fits64 (within_between (room (goal.at.returns c).After-min-event_room)) tt in
    let greatest = fits64 (within_between c.greatest_room-greatest.ensures.range) tt in
    let g = simp (to_z-of_z, fits64 (within_between c.requires.number) tt) at c.greatest_room-greatest.ensures.value in
    let e = simp (to_z-of_z, event_room, greatest) at c.min-event_room.ensures.value in
    let m = simp (to_z-of_z, old_room, greatest) at c.min.ensures.value in
    let s = simp (to_z-of_z, rain, r) at c.soaked.ensures.value in
    let t = simp (to_z-of_z, taken, wet) at c.min-2.ensures.value in
    simp (to_z-of_z, rain, dry, least, less, r) (cc (g, e, m, s, t))
