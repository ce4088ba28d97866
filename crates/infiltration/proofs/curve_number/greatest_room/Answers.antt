use Rattle.std.proofs.Common.{◌≡◌, ◌^◌, pos, ap, ◌-ℤ◌, ℤ, ◌∙◌}
use Rattle.std.proofs.lemmas.Int.{to_z-of_z}
use Rattle.fixed_num.specs.Ranges.{IsBetween}
use Rattle.fixed_num.specs.Rounding.{quo_of}
use Rattle.fixed_num.proofs.Bounds.{between_number, between_quo_by, between_up, within_between, fits64, fits128}
use Rattle.infiltration.specs.CurveNumber.{IsRoom, greatest_room_of}
use Rattle.infiltration.proofs.CurveLemmas.{greatest_between}
use Rattle.infiltration.proofs.curve_number.greatest_room.Goals as goal
use Rattle.infiltration.proofs.curve_number.greatest_room.Goals.{After-quo}

whole : (c : After-quo) → c.quo.result ≡ quo_of (pos 25_400_000_000_000_000) c.args.cn6
whole c = let f = within_between c.requires in simp (to_z-of_z, fits64 f tt, fits128 f tt) at c.quo.ensures.value

small : (c : After-quo) → IsBetween (pos 0) c.quo.result (pos 25_400_000_000)
small c = rw (whole c) (between_up (between_quo_by {y = c.args.cn6} 1_000_000 (between_number (pos 25_400_000_000_000_000)) c.requires.from tt) tt tt)

value : (c : After-quo) → c.quo.result -ℤ pos 254_000_000 ≡ greatest_room_of c.args.cn6
unfolding greatest_room_of
value c = ap (λ (z : ℤ). z -ℤ pos 254_000_000) (whole c)

room : (c : After-quo) → IsRoom (c.quo.result -ℤ pos 254_000_000)
room c = rw (value c) (greatest_between c.args.cn6 c.requires)

pub overflow_cast-result : goal.overflow_cast-result
overflow_cast-result c = let f = within_between (small c) in simp (to_z-of_z, fits128 f tt) (fits64 f tt)

pub overflow_sub-result : goal.overflow_sub-result
overflow_sub-result c =
    let f = within_between (small c) in
    let room = within_between (room c) in
    simp (to_z-of_z, fits128 f tt, fits64 f tt) (fits64 room tt)

pub returns-clause-value : goal.returns-clause-value
returns-clause-value c =
    let f = within_between (small c) in
    let room = within_between (room c) in
    simp (to_z-of_z, fits128 f tt, fits64 f tt, fits64 room tt) (value c)

pub returns-clause-range : goal.returns-clause-range
returns-clause-range c =
    let f = within_between (small c) in
    simp (to_z-of_z, fits128 f tt, fits64 f tt, fits64 (within_between (room c)) tt) (room c)
