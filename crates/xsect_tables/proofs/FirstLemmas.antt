-- The least number that passes a test, and tests joined.
use Rattle.std.proofs.Common.{◌≡◌, ℕ, zero, suc, ◌+◌, ◌<◌, Bool, true, false, ◌&&◌, nat_lt, ◌≢◌, ℤ, int_le, int_lt, refl, sym, subst, inl, inr, add-one, arith}
use Rattle.std.proofs.lemmas.Bool.{cases_lt}
use Rattle.std.proofs.lemmas.Int.{ints}
use Rattle.std.proofs.lemmas.Bool.Decides.{nat_tests}
use Rattle.xsect_tables.specs.FirstPlaces.{first_that}

-- a number below which none passes
pub first_more : (p : ℕ → Bool) (i : ℕ) → first_that p i ≡ i → p i ≡ false → first_that p (i + 1) ≡ i + 1
first_more p i e f = rw add-one (grind (arith, nat_tests, e, f))

-- the first that passes, whatever the bound above it
pub first_is : (p : ℕ → Bool) (i n : ℕ) → first_that p i ≡ i → p i ≡ true → i < n → first_that p n ≡ i
first_is p i zero e f h = absurd (omega (arith, h))
first_is p i (suc n) e f h = elim (cases_lt i n) [
  | inl less ↦ let below : first_that p n ≡ i = first_is p i n e f less in grind (arith, nat_tests, below, less)
  | inr more ↦ let same : i ≡ n = omega (arith, h, more) in subst (λ (k : ℕ). first_that p k ≡ k → p k ≡ true → first_that p (suc n) ≡ k) (sym same) (λ a b. grind (arith, nat_tests, a, b)) e f
]

-- ---- three tests joined
pub not_first : {a : Bool} (b c : Bool) → a ≡ false → false ≡ (a && b && c)
not_first b c e = rw e refl

pub not_second : (a : Bool) {b : Bool} (c : Bool) → b ≡ false → false ≡ (a && b && c)
not_second true c e = rw e refl
not_second false c e = refl

pub third : {a b x c : Bool} → a ≡ true → b ≡ true → x ≡ c → x ≡ (a && b && c)
third e f g = rw (e, f) g

pub not_above : (a b : ℤ) → int_le a b ≡ true → int_lt b a ≡ false
not_above a b h = grind (arith, ints)

pub above : (a b : ℤ) → int_le a b ≡ false → int_lt b a ≡ true
above a b h = grind (arith, ints)

pub from_one : (i : ℕ) → i ≢ 0 → nat_lt 0 i ≡ true
from_one i h = grind (arith, nat_tests, h)
