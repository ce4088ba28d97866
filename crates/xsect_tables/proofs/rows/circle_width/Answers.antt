use Rattle.std.proofs.Common.{◌≡◌, ◌^◌, ℤ, pos, ◌-ℤ◌, ◌*ℤ◌, ap}
use Rattle.std.proofs.lemmas.Int.{to_z-of_z}
use Rattle.fixed_num.specs.Ranges.{IsBetween}
use Rattle.fixed_num.specs.Roots.{root2_of}
use Rattle.fixed_num.proofs.Bounds.{within_mul, within_number, within_between, fits64, fits128, fits_wider}
use Rattle.xsect_tables.proofs.GridLemmas.{within_full}
use Rattle.xsect_tables.proofs.WidthLemmas.{chord-between, circle-between, rest-between}
use Rattle.xsect_tables.proofs.rows.circle_width.Goals as goal
use Rattle.xsect_tables.proofs.rows.circle_width.Goals.{After-quick_root2}

chord : (c : After-quick_root2) → c.quick_root2.result ≡ root2_of (c.args.y *ℤ (c.args.full -ℤ c.args.y))
chord c =
    let y = within_between (within_full c.requires.full c.requires.depth) in
    let rest = within_between (rest-between c.requires.full c.requires.depth) in
    simp (to_z-of_z, c.ranges.y, fits_wider _ c.ranges.y, c.ranges.full, fits64 rest tt, fits128 rest tt, fits128 (within_mul y rest) tt) at c.quick_root2.ensures

small : (c : After-quick_root2) → IsBetween (pos 0) c.quick_root2.result (pos (10 ^ 9))
small c = rw (chord c) (chord-between c.requires.full c.requires.depth)

pub overflow_mul-result : goal.overflow_mul-result
overflow_mul-result c = simp (to_z-of_z, fits128 (within_between (small c)) tt) (fits128 (within_mul (within_number 2) (within_between (small c))) tt)

pub overflow_cast-result : goal.overflow_cast-result
overflow_cast-result c =
    let twice = within_mul (within_number 2) (within_between (small c)) in
    simp (to_z-of_z, fits128 (within_between (small c)) tt, fits128 twice tt) (fits64 twice tt)

pub returns-clause-value : goal.returns-clause-value
returns-clause-value c =
    let twice = within_mul (within_number 2) (within_between (small c)) in
    simp (to_z-of_z, fits128 (within_between (small c)) tt, fits128 twice tt, fits64 twice tt) (ap (λ (z : ℤ). pos 2 *ℤ z) (chord c))

pub returns-clause-range : goal.returns-clause-range
returns-clause-range c =
    let twice = within_mul (within_number 2) (within_between (small c)) in
    simp (to_z-of_z, fits128 (within_between (small c)) tt, fits128 twice tt, fits64 twice tt) (rw (chord c) (circle-between c.requires.full c.requires.depth))
