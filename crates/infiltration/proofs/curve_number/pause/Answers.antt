use Rattle.std.proofs.Common.{◌^◌, ◌*◌, pos, FitsSigned, rules}
use Rattle.std.specs.Int.{w64}
use Rattle.std.proofs.lemmas.Int.{to_z-of_z}
use Rattle.fixed_num.proofs.Bounds.{within_add, within_between, fits64}
use Rattle.infiltration.proofs.curve_number.pause.Goals as goal

pub returns : goal.returns
returns c =
    let event_room : FitsSigned w64 c.args.state.event_room = search rules in
    let rain : FitsSigned w64 c.args.state.rain = search rules in
    let taken : FitsSigned w64 c.args.state.taken = search rules in
    let dry = within_between c.requires.dry in
    let sum = within_add dry (within_between c.requires.time) in
    let test = simp (to_z-of_z, fits64 dry tt, c.ranges.ms, fits64 sum tt) at c.if-dry-ge-EVENT_GAP.false in
    simp (to_z-of_z, event_room, rain, taken, c.ranges.room, fits64 dry tt, c.ranges.ms, fits64 sum tt, test)
