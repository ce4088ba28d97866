use Rattle.std.proofs.Common.{◌≡◌, ◌*◌, ◌^◌, ℤ, pos, ◌*ℤ◌, FitsSigned, ap, ◌∙◌, rules}
use Rattle.std.specs.Int.{int_min, w64}
use Rattle.std.proofs.lemmas.Int.{to_z-of_z}
use Rattle.fixed_num.specs.Ranges.{IsBetween}
use Rattle.fixed_num.specs.Rounding.{quo_of}
use Rattle.fixed_num.proofs.Bounds.{between_mul, between_up, between_quo_by, between_number, le_number, within_between, within_mul, fits64}
use Rattle.conduit_flow.proofs.geometry.narrow_end_area.Goals as goal
use Rattle.conduit_flow.proofs.geometry.narrow_end_area.Goals.{After-quick_quo-one}

pub overflow_mul-widths : goal.overflow_mul-widths
overflow_mul-widths c =
    let product = within_mul (within_between c.requires.widths) (within_between c.requires.length) in
    simp (to_z-of_z, c.ranges.widths, c.ranges.length) (fits64 product tt)

pub quick_quo-one-requires-clause-a : goal.quick_quo-one-requires-clause-a
quick_quo-one-requires-clause-a c =
    let product = between_mul c.requires.widths c.requires.length in
    simp (to_z-of_z, c.ranges.widths, c.ranges.length, fits64 (within_between product) tt) (between_up product tt tt)

one_is : (c : After-quick_quo-one) → c.quick_quo-one.result ≡ quo_of (c.args.widths *ℤ c.args.length) (pos 4_000_000)
one_is c =
    let product = within_mul (within_between c.requires.widths) (within_between c.requires.length) in
    simp (to_z-of_z, c.ranges.widths, c.ranges.length, fits64 product tt) at c.quick_quo-one.ensures.value

one_small : (c : After-quick_quo-one) → IsBetween (pos 0) c.quick_quo-one.result (pos (10 ^ 13))
one_small c = rw (one_is c) (between_up (between_quo_by {y = pos 4_000_000} 4_000_000 (between_mul c.requires.widths c.requires.length) (le_number tt) tt) tt tt)

pub overflow_mul-barrels : goal.overflow_mul-barrels
overflow_mul-barrels c =
    let one = within_between (one_small c) in
    simp (to_z-of_z, c.ranges.barrels, fits64 one tt) (fits64 (within_mul (within_between c.requires.barrels) one) tt)

pub returns : goal.returns
returns c =
    let a = (goal.at.returns c).After-quick_quo-one in
    let one = within_between (one_small a) in
    let all = within_mul (within_between c.requires.barrels) one in
    let least = simp (to_z-of_z, c.ranges.barrels, fits64 one tt, fits64 all tt) at c.min.ensures.value in
    let m : FitsSigned w64 c.min.result = search rules in
    simp (to_z-of_z, m) (least ∙ ap (λ (z : ℤ). int_min (pos 5_000_000_000_000) (c.args.barrels *ℤ z)) (one_is a))
