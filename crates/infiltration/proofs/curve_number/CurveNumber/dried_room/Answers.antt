use Rattle.std.proofs.Common.{◌≡◌, ◌^◌, ◌*◌, pos, ◌+ℤ◌, ◌*ℤ◌, FitsSigned, rules, arith}
use Rattle.std.specs.Int.{w64}
use Rattle.std.proofs.lemmas.Int.{ints, to_z-of_z}
use Rattle.fixed_num.specs.Ranges.{IsBetween}
use Rattle.fixed_num.specs.Rounding.{quo_of}
use Rattle.fixed_num.proofs.Bounds.{between_mul, between_quo_by, between_up, within_add, within_mul, within_between, fits64, fits128, fits_wider}
use Rattle.infiltration.specs.CurveNumber.{dried_room_of, greatest_room_of}
use Rattle.infiltration.proofs.curve_number.CurveNumber.dried_room.Goals as goal
use Rattle.infiltration.proofs.curve_number.CurveNumber.dried_room.Goals.{After-quo-dried}

dried : (c : After-quo-dried) → c.quo-dried.result ≡ quo_of (c.greatest_room-greatest.result *ℤ c.args.ms) c.args.self.now.dry
dried c =
    let dry = within_between c.requires.drying in
    let greatest = within_between c.greatest_room-greatest.ensures.range in
    let product = within_mul greatest (within_between c.requires.time) in
    simp (to_z-of_z, fits64 greatest tt, fits128 greatest tt, c.ranges.ms, fits_wider _ c.ranges.ms, fits64 dry tt, fits128 dry tt, fits128 product tt) at c.quo-dried.ensures.value

small : (c : After-quo-dried) → IsBetween (pos 0) c.quo-dried.result (pos (10 ^ 13))
small c =
    rw (dried c) (between_up (between_quo_by {y = c.args.self.now.dry} 86_400 (between_mul c.greatest_room-greatest.ensures.range c.requires.time) c.requires.drying.from tt) tt tt)

pub overflow_cast-dried : goal.overflow_cast-dried
overflow_cast-dried c = let f = within_between (small c) in simp (to_z-of_z, fits128 f tt) (fits64 f tt)

pub overflow_add-room : goal.overflow_add-room
overflow_add-room c =
    let f = within_between (small c) in
    simp (to_z-of_z, c.ranges.room, fits128 f tt, fits64 f tt) (fits64 (within_add (within_between c.requires.room) f) tt)

pub returns : goal.returns
unfolding dried_room_of
returns c =
    let before = (goal.at.returns c).After-quo-dried in
    let f = within_between (small before) in
    let greatest = within_between c.greatest_room-greatest.ensures.range in
    let sum = within_add (within_between c.requires.room) f in
    let fits : FitsSigned w64 c.min.result = search rules in
    let g = simp (to_z-of_z, fits64 (within_between c.requires.number) tt) at c.greatest_room-greatest.ensures.value in
    let d = dried before in
    let m = simp (to_z-of_z, fits64 greatest tt, c.ranges.room, fits128 f tt, fits64 f tt, fits64 sum tt) at c.min.ensures.value in
    simp (to_z-of_z, fits) (cc (g, d, m))
