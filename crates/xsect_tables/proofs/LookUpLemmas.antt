-- The strip in which a depth lies, and the range of a row at a depth.
use Rattle.std.proofs.Common.{◌≡◌, ℕ, zero, suc, ◌+◌, ◌*◌, ◌/◌, ◌^◌, ◌<◌, ◌≤◌, Bool, true, false, cond, leb, List, ℤ, pos, negsuc, ◌≤ℤ◌, int_le, unsigned_abs, Fits, sym, refl, ap, subst, ◌∙◌, inl, inr, arith, ◌-ℤ◌, ◌<ℤ◌}
use lib.Dec.{T}
use lib.Signed.{non_neg}
use Rattle.std.specs.Int.{w64}
use Rattle.std.proofs.lemmas.Bool.{cases_lt, le-leb, lt-leb, leb-true, leb-false}
use Rattle.std.proofs.lemmas.Nat.{mul-le, div-add-mod'}
use Rattle.std.proofs.lemmas.Int.{ints}
use Rattle.fixed_num.specs.Interpolation.{lerp_of}
use Rattle.fixed_num.specs.Ranges.{IsBetween, cut_of}
use Rattle.fixed_num.specs.Roots.{greatest}
use Rattle.fixed_num.proofs.Bounds.{between_lerp, between_cut, quo_of-exact, cut_of-most}
use Rattle.xsect_tables.specs.SectionTable.{entry, grid_height, IsGrid, RowBetween}
use Rattle.xsect_tables.specs.LookUps.{IsPlace, IsStrip}
use Rattle.xsect_tables.specs.declared.look_up.Place.{Place}
use Rattle.xsect_tables.specs.LookUps.{strip_at, row_at, value_at}
use Rattle.xsect_tables.proofs.GridLemmas.{grid, full_is, grid_between, grid_order, grid_is, grid-first, grid-last, grid-mono, grid-rises, grid-below, grid-above}

-- ---- the greatest number that passes a test
greatest_most : (p : ℕ → Bool) (n : ℕ) → greatest p n ≤ n
greatest_most p zero = omega arith
greatest_most p (suc n) = by (p (suc n)) (greatest_most p n)
  where
    by : (t : Bool) → greatest p n ≤ n → cond t (suc n) (greatest p n) ≤ suc n
    by true h = omega arith
    by false h = omega (arith, h)

greatest_passes : (p : ℕ → Bool) (n : ℕ) → p 0 ≡ true → p (greatest p n) ≡ true
greatest_passes p zero h = h
greatest_passes p (suc n) h = by (p (suc n)) refl (greatest_passes p n h)
  where
    by : (t : Bool) → p (suc n) ≡ t → p (greatest p n) ≡ true → p (cond t (suc n) (greatest p n)) ≡ true
    by true e k = e
    by false e k = k

greatest_above : (p : ℕ → Bool) (n k : ℕ) → greatest p n < k → k ≤ n → p k ≡ false
greatest_above p zero k low high = absurd (omega (arith, low, high))
greatest_above p (suc n) k low high = by (p (suc n)) refl low (greatest_above p n k)
  where
    by : (t : Bool) → p (suc n) ≡ t → cond t (suc n) (greatest p n) < k → (greatest p n < k → k ≤ n → p k ≡ false) → p k ≡ false
    by true e l f = absurd (omega (arith, l, high))
    by false e l f = elim (cases_lt n k) [
      | inl above ↦ let same : suc n ≡ k = omega (arith, above, high) in subst (λ (m : ℕ). p m ≡ false) same e
      | inr below ↦ f l below
    ]

pub greatest_is : (p : ℕ → Bool) (n m : ℕ) → m ≤ n → p m ≡ true → ((k : ℕ) → m < k → k ≤ n → p k ≡ false) → greatest p n ≡ m
greatest_is p zero m h e above = omega (arith, h)
greatest_is p (suc n) m h e above = by (p (suc n)) refl (λ low. greatest_is p n m low e (λ k a b. above k a (omega (arith, b))))
  where
    by : (t : Bool) → p (suc n) ≡ t → (m ≤ n → greatest p n ≡ m) → cond t (suc n) (greatest p n) ≡ m
    by true f g = elim (cases_lt m (suc n)) [
      | inl less ↦ absurd (cc (f, above (suc n) less (omega arith)))
      | inr more ↦ omega (arith, more, h)
    ]
    by false f g = elim (cases_lt n m) [
      | inl less ↦ let same : suc n ≡ m = omega (arith, less, h) in absurd (cc (ap p same, e, f))
      | inr low ↦ g low
    ]

-- ---- the heights as natural numbers
height : {heights : List ℤ} {full : ℕ} → IsGrid heights → entry heights 200 ≡ pos full → (i : ℕ) → i ≤ 200 → entry heights i ≡ pos (grid full i)
height {full = full} g e i h = g.each i h ∙ ap (λ (z : ℤ). grid_height z i) e ∙ grid_is full i

passes : {a : ℤ} {n y : ℕ} → a ≡ pos n → n ≤ y → int_le a (pos y) ≡ true
passes {n = n} {y = y} e h = rw e (le-leb n y h)

fails : {a : ℤ} {n y : ℕ} → a ≡ pos n → y < n → int_le a (pos y) ≡ false
fails {n = n} {y = y} e h = rw e (lt-leb n y h)

-- a strip whose lower grid height is not above the depth, and whose upper one is above it unless it is the last
pub strip_is : {heights : List ℤ} (full y i : ℕ) → IsGrid heights → entry heights 200 ≡ pos full → i ≤ 199 → grid full i ≤ y → (i < 199 → y < grid full (i + 1)) → strip_at heights (pos y) ≡ i
unfolding strip_at
strip_is {heights = heights} full y i g e most low high =
    greatest_is (λ k. int_le (entry heights k) (pos y)) 199 i most
    (passes (height g e i (omega arith)) low)
    (λ k above below. fails (height g e k (omega (arith, below))) (omega (arith, high (omega (arith, above, below)), grid-mono full (i + 1) k (omega (arith, above)))))

-- ---- the strip of a depth
strip_around : {heights : List ℤ} (full y : ℕ) → IsGrid heights → entry heights 200 ≡ pos full → 1_000 ≤ full → y ≤ full → IsStrip heights (pos y) (strip_at heights (pos y))
unfolding strip_at
strip_around {heights = heights} full y g e large h =
    let passing : ℕ → Bool = λ k. int_le (entry heights k) (pos y) in
    let i = greatest passing 199 in
    let most : i ≤ 199 = greatest_most passing 199 in
    let start : grid full 0 ≤ y = omega (arith, grid-first full) in
    let here = height g e i (omega (arith, most)) in
    let next = height g e (i + 1) (omega (arith, most)) in
    let low : leb (grid full i) y ≡ true = rw here at (greatest_passes passing 199 (passes (height g e 0 (omega arith)) start)) in
    let below : grid full i ≤ y = leb-true (grid full i) y low in
    let rises : grid full i < grid full (i + 1) = grid-rises full i large in
    let above : y ≤ grid full (i + 1) = elim (cases_lt i 199) [
      | inl less ↦
          let no : leb (grid full (i + 1)) y ≡ false = rw next at (greatest_above passing 199 (i + 1) (omega arith) (omega (arith, less))) in
          let k = leb-false (grid full (i + 1)) y no in omega (arith, k)
      | inr last ↦ let same : i + 1 ≡ 200 = omega (arith, most, last) in omega (arith, ap (grid full) same, grid-last full)
    ] in
    record {
      within = omega (arith, most);
      from = subst (λ (z : ℤ). z ≤ℤ pos y) (sym here) (omega (arith, ints));
      to = subst (λ (z : ℤ). pos y ≤ℤ z) (sym next) (omega (arith, ints));
      apart = rw (here, next) (omega (arith, ints));
    }

full_number : {heights : List ℤ} → IsGrid heights → (n : ℕ) × (entry heights 200 ≡ pos n) × (1_000 ≤ n) × (n ≤ 10 ^ 9)
full_number g = full_is g.full

pub strip_found : {heights : List ℤ} {y : ℤ} → IsGrid heights → IsBetween (pos 0) y (entry heights 200) → IsStrip heights y (strip_at heights y)
strip_found {heights = heights} {y = pos y} g h =
    let f = full_number g in
    let most : y ≤ f.0 = omega (arith, ints, subst (λ (z : ℤ). pos y ≤ℤ z) f.1 h.to) in
    strip_around f.0 y g f.1 f.2 most
strip_found {heights = heights} {y = negsuc y} g h = absurd h.from.le

pub height_between : {heights : List ℤ} → IsGrid heights → (i : ℕ) → i ≤ 200 → IsBetween (pos 0) (entry heights i) (pos (10 ^ 9))
height_between g i h = subst (λ (z : ℤ). IsBetween (pos 0) z (pos (10 ^ 9))) (sym (g.each i h)) (grid_between g.full i h)

pub height_below : {heights : List ℤ} → IsGrid heights → (i : ℕ) → i ≤ 200 → IsBetween (pos 0) (entry heights i) (entry heights 200)
height_below {heights = heights} g i h =
    let order : entry heights i ≤ℤ entry heights 200 = rw (g.each i h) (subst (λ (z : ℤ). grid_height (entry heights 200) i ≤ℤ z) (sym (g.each 200 (omega arith))) (grid_order g.full i 200 h)) in
    let low = height_between g i h in
    record { from = low.from; to = order }

-- ---- the strip that the part of the full height gives
-- i parts of 200 are not above y, and i + 1 parts are
record IsPart (full y i : ℕ) : Type 0 where
  low : i * full ≤ 200 * y
  high : 200 * y < (i + 1) * full

is_part : (full y : ℕ) → 0 < full → IsPart full y (200 * y / full)
is_part full y h =
    let e = div-add-mod' (200 * y) full in
    record { low = omega (arith, e); high = omega (arith, e, h) }

record IsPartOf (heights : List ℤ) (y i : ℕ) : Type 0 where
  full : ℕ
  is : entry heights 200 ≡ pos full
  large : 1_000 ≤ full
  part : IsPart full y i

is_part_of : {heights : List ℤ} (y i : ℕ) → IsGrid heights → i ≡ 200 * y / unsigned_abs (entry heights 200) → IsPartOf heights y i
is_part_of {heights = heights} y i g e =
    let f = full_number g in
    let part : i ≡ 200 * y / f.0 = e ∙ ap (λ (z : ℤ). 200 * y / unsigned_abs z) f.1 in
    record { full = f.0; is = f.1; large = f.2; part = subst (IsPart f.0 y) (sym part) (is_part f.0 y (omega (arith, f.2))) }

pub last_strip : {heights : List ℤ} {y : ℤ} (i : ℕ) → IsGrid heights → pos 0 ≤ℤ y → i ≡ 200 * unsigned_abs y / unsigned_abs (entry heights 200) → 199 ≤ i → 199 ≡ strip_at heights y
last_strip {heights = heights} {y = pos y} i g h e past =
    let p = is_part_of {heights = heights} y i g e in
    let low : 199 * p.full ≤ 200 * y = omega (arith, p.part.low, mul-le 199 p.full i p.full past (omega arith)) in
    sym (strip_is p.full y 199 g p.is (omega arith) (grid-below p.full 199 y low) (λ k. absurd (omega (arith, k))))
last_strip {heights = heights} {y = negsuc y} i g h e past = absurd h.le

pub next_strip : {heights : List ℤ} {y : ℤ} (i : ℕ) → IsGrid heights → pos 0 ≤ℤ y → i ≡ 200 * unsigned_abs y / unsigned_abs (entry heights 200) → i < 199 → int_le (entry heights (i + 1)) y ≡ true → i + 1 ≡ strip_at heights y
next_strip {heights = heights} {y = pos y} i g h e before test =
    let p = is_part_of {heights = heights} y i g e in
    let next = height g p.is (i + 1) (omega (arith, before)) in
    let low : leb (grid p.full (i + 1)) y ≡ true = rw next at test in
    let high = grid-above p.full (i + 1) y (omega (arith, p.part.high)) in
    sym (strip_is p.full y (i + 1) g p.is (omega (arith, before)) (leb-true (grid p.full (i + 1)) y low) (λ k. omega (arith, high, grid-rises p.full (i + 1) p.large)))
next_strip {heights = heights} {y = negsuc y} i g h e before test = absurd h.le

pub part_strip : {heights : List ℤ} {y : ℤ} (i : ℕ) → IsGrid heights → pos 0 ≤ℤ y → i ≡ 200 * unsigned_abs y / unsigned_abs (entry heights 200) → i < 199 → int_le (entry heights (i + 1)) y ≡ false → i ≡ strip_at heights y
part_strip {heights = heights} {y = pos y} i g h e before test =
    let p = is_part_of {heights = heights} y i g e in
    let next = height g p.is (i + 1) (omega (arith, before)) in
    let high : leb (grid p.full (i + 1)) y ≡ false = rw next at test in
    sym (strip_is p.full y i g p.is (omega (arith, before)) (grid-below p.full i y p.part.low) (λ k. leb-false (grid p.full (i + 1)) y high))
part_strip {heights = heights} {y = negsuc y} i g h e before test = absurd h.le

-- ---- the range of a row at a depth
pub depth_within : {heights : List ℤ} (y : ℤ) → IsGrid heights → IsBetween (pos 0) (cut_of y (pos 0) (entry heights 200)) (entry heights 200)
depth_within {heights = heights} y g = between_cut y (omega (arith, ints, g.full.from))

pub depth_small : {heights : List ℤ} {depth : ℤ} (y : ℤ) → IsGrid heights → depth ≡ cut_of y (pos 0) (entry heights 200) → IsBetween (pos 0) depth (pos (10 ^ 9))
depth_small {heights = heights} y g e =
    let inside = depth_within y g in
    let full = height_between g 200 (omega arith) in
    subst (λ (z : ℤ). IsBetween (pos 0) z (pos (10 ^ 9))) (sym e) (record { from = inside.from; to = omega (arith, ints, inside.to, full.to) })

pub depth_around : {heights : List ℤ} {depth : ℤ} {i : ℕ} (y : ℤ) → IsGrid heights → depth ≡ cut_of y (pos 0) (entry heights 200) → i ≡ strip_at heights depth → IsStrip heights depth i
depth_around {heights = heights} {depth = depth} y g e h =
    let inside : IsBetween (pos 0) depth (entry heights 200) = subst (λ (z : ℤ). IsBetween (pos 0) z (entry heights 200)) (sym e) (depth_within y g) in
    subst (IsStrip heights depth) (sym h) (strip_found g inside)

pub row_at-between : {a b : ℤ} {heights row : List ℤ} (y : ℤ) → IsGrid heights → RowBetween a row b → IsBetween a (row_at heights row y) b
unfolding row_at value_at
row_at-between {heights = heights} {row = row} y g r =
    let depth = cut_of y (pos 0) (entry heights 200) in
    let s : IsStrip heights depth (strip_at heights depth) = strip_found g (depth_within y g) in
    between_lerp (r.each (strip_at heights depth) (omega (arith, s.within))) (r.each (strip_at heights depth + 1) (omega (arith, s.within))) (record { from = s.from; to = s.to })

-- ---- a row at the full height and above it
lerp-end : (x0 y0 x1 y1 : ℤ) → x0 <ℤ x1 → lerp_of x0 y0 x1 y1 x1 ≡ y1
unfolding lerp_of
lerp-end x0 y0 x1 y1 h =
    let e = quo_of-exact (y1 -ℤ y0) (x1 -ℤ x0) (omega (arith, ints, h)) in
    omega (arith, ints, e)

top_strip : {heights : List ℤ} → IsGrid heights → strip_at heights (entry heights 200) ≡ 199
top_strip {heights = heights} g =
    let f = full_number g in
    let low : grid f.0 199 ≤ f.0 = omega (arith, grid-mono f.0 199 200 (omega arith), grid-last f.0) in
    rw f.1 (strip_is f.0 f.0 199 g f.1 (omega arith) low (λ h. absurd (omega (arith, h))))

pub row_at-top : {heights : List ℤ} (row : List ℤ) {y : ℤ} → IsGrid heights → entry heights 200 ≤ℤ y → row_at heights row y ≡ entry row 200
unfolding row_at value_at
row_at-top {heights = heights} row {y = y} g h =
    let least : pos 0 ≤ℤ entry heights 200 = omega (arith, ints, g.full.from) in
    let top = cut_of-most y (pos 0) (entry heights 200) h least in
    let strip = top_strip g in
    let inside : IsBetween (pos 0) (entry heights 200) (entry heights 200) = record { from = least; to = omega (arith, ints) } in
    let around : IsStrip heights (entry heights 200) 199 = subst (IsStrip heights (entry heights 200)) strip (strip_found g inside) in
    rw (top, strip) (lerp-end (entry heights 199) (entry row 199) (entry heights 200) (entry row 200) around.apart)

-- ---- a row at the depth of a place
pub placed : {heights : List ℤ} (row : List ℤ) {y : ℤ} {place : Place} → IsPlace heights y place → value_at heights row place.depth place.strip ≡ row_at heights row y
unfolding row_at
placed row p = cc (p.depth, p.strip)

-- ---- a strip found by its two grid heights
pub strip_by_ends : {heights : List ℤ} {y : ℤ} (i : ℕ) → IsGrid heights → pos 0 ≤ℤ y → i ≤ 199 → entry heights i ≤ℤ y → (i < 199 → y <ℤ entry heights (i + 1)) → i ≡ strip_at heights y
strip_by_ends {heights = heights} {y = pos y} i g h most low high =
    let f = full_number g in
    let here = height g f.1 i (omega (arith, most)) in
    let next = height g f.1 (i + 1) (omega (arith, most)) in
    let from : grid f.0 i ≤ y = omega (arith, ints, low, here) in
    sym (strip_is f.0 y i g f.1 most from (λ k. omega (arith, ints, high k, next)))
strip_by_ends {heights = heights} {y = negsuc y} i g h most low high = absurd h.le

-- ---- how far a depth lies above the lower grid height of its strip, and how high the strip is
pub part_within : {heights : List ℤ} {y : ℤ} {i : ℕ} → IsGrid heights → IsStrip heights y i → IsBetween (pos 0) (y -ℤ entry heights i) (pos (10 ^ 9))
part_within {i = i} g s =
    let low = height_between g i (omega (arith, s.within)) in
    let high = height_between g (i + 1) (omega (arith, s.within)) in
    record { from = omega (arith, ints, s.from); to = omega (arith, ints, s.to, low.from, high.to) }

pub run_within : {heights : List ℤ} {y : ℤ} {i : ℕ} → IsGrid heights → IsStrip heights y i → IsBetween (pos 0) (entry heights (i + 1) -ℤ entry heights i) (pos (10 ^ 9))
run_within {i = i} g s =
    let low = height_between g i (omega (arith, s.within)) in
    let high = height_between g (i + 1) (omega (arith, s.within)) in
    record { from = omega (arith, ints, s.apart); to = omega (arith, ints, low.from, high.to) }

pub size_is : {z : ℤ} → IsBetween (pos 0) z (pos (10 ^ 9)) → pos (unsigned_abs z) ≡ z
size_is {z = pos n} h = refl
size_is {z = negsuc n} h = absurd h.from.le

pub size_fits : {z : ℤ} → IsBetween (pos 0) z (pos (10 ^ 9)) → T (non_neg z) × Fits w64 (unsigned_abs z)
size_fits {z = pos n} h = (tt, omega (arith, ints, h.to))
size_fits {z = negsuc n} h = absurd h.from.le

-- a line does not change where it is moved along its first axis
pub moved : (x0 y0 x1 y1 x : ℤ) → lerp_of (pos 0) y0 (x1 -ℤ x0) y1 (x -ℤ x0) ≡ lerp_of x0 y0 x1 y1 x
unfolding lerp_of
moved x0 y0 x1 y1 x =
    let part : (x -ℤ x0) -ℤ pos 0 ≡ x -ℤ x0 = omega (arith, ints) in
    let run : (x1 -ℤ x0) -ℤ pos 0 ≡ x1 -ℤ x0 = omega (arith, ints) in
    rw (part, run) refl
