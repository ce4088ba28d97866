use Rattle.std.proofs.Common.{◌≡◌, ◌^◌, ◌&&◌, not, true, false, ℤ, pos, ◌≤ℤ◌, int_le, refl, arith}
use Rattle.std.specs.Ordering.{int_eq}
use Rattle.std.proofs.lemmas.Int.{ints}
use Rattle.fixed_num.specs.Ranges.{IsBetween}
use Rattle.project_check.specs.Objects.{section_area}
use Rattle.project_check.proofs.links.has_good_area.Goals as goal

good : (area : ℤ) → IsBetween (pos 1) area (pos (10 ^ 11)) → true ≡ (not (int_eq area (pos 0)) && int_le area (pos 100_000_000_000))
good area h =
    let some : int_eq area (pos 0) ≡ false = grind (arith, ints, h.from) in
    let most : int_le area (pos 100_000_000_000) ≡ true = grind (arith, ints, h.to) in
    rw (some, most) refl

pub returns-then-has_plain_area : goal.returns-then-has_plain_area
unfolding section_area
returns-then-has_plain_area c = good _ (c.has_plain_area.ensures c.if-has_plain_area.true)
