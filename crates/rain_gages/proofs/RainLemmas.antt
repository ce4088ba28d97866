-- The rain of a series: what is defined is that of the last entry that is not later, and no other value is.
use Rattle.std.proofs.Common.{◌≡◌, ℕ, zero, suc, ◌-◌, ◌<◌, ◌≤◌, true, false, nat_eq, List, ℤ}
use Rattle.std.proofs.Common.{pos, ◌-ℤ◌, ◌≤ℤ◌, ◌<ℤ◌}
use Rattle.std.proofs.Common.{refl, sym, ◌∙◌, subst, arith, inl, inr}
use Rattle.std.specs.Prelude.{int_lt}
use Rattle.std.proofs.Math.Nat.{eq-or-lt_of_le}
use Rattle.std.proofs.lemmas.Bool.Decides.{nat_tests}
use Rattle.std.proofs.lemmas.Int.{ints, by_lt_z}
use Rattle.net_types.specs.Ranges.{IsRising}
use Rattle.net_types.specs.Records.{pair_at}
use Rattle.rising_pairs.specs.FirstAbove.{first_above, IsFirstAbove}
use Rattle.rising_pairs.proofs.SearchLemmas.{first_above-parts}
use Rattle.rain_gages.specs.Rain.{rain_at, young_value, IsRain, IsLastEntry}

-- ---- what is defined, by the place of the first later entry
pub before_all : (entries : List (ℤ × ℤ)) (interval moment : ℤ) → 0 ≡ first_above entries moment
    → pos 0 ≡ rain_at entries interval moment
unfolding rain_at
before_all entries interval moment e = rw (sym e) refl

pub of_last : (entries : List (ℤ × ℤ)) (interval moment : ℤ) (place : ℕ) → place ≡ first_above entries moment
    → 1 ≤ place
    → young_value (pair_at entries (place - 1)) interval moment ≡ rain_at entries interval moment
unfolding rain_at
of_last entries interval moment place e some = let none : nat_eq place 0 ≡ false = grind (arith, nat_tests) in
    rw (sym e) (rw none refl)

of_next : (entries : List (ℤ × ℤ)) (interval moment : ℤ) (p : ℕ) → suc p ≡ first_above entries moment
    → young_value (pair_at entries p) interval moment ≡ rain_at entries interval moment
of_next entries interval moment p e =
    let same : suc p - 1 ≡ p = omega arith in
    subst (λ (n : ℕ). young_value (pair_at entries n) interval moment ≡ rain_at entries interval moment) same
    (of_last entries interval moment (suc p) e (omega arith))

-- ---- an entry while it is young, and later
is_young : (entry : ℤ × ℤ) (interval moment : ℤ) → (moment -ℤ entry.0) <ℤ interval
    → young_value entry interval moment ≡ entry.1
is_young entry interval moment h = let test : int_lt (moment -ℤ entry.0) interval ≡ true = grind (arith, ints) in
    rw test refl

is_old : (entry : ℤ × ℤ) (interval moment : ℤ) → interval ≤ℤ (moment -ℤ entry.0)
    → young_value entry interval moment ≡ pos 0
is_old entry interval moment h = let test : int_lt (moment -ℤ entry.0) interval ≡ false = grind (arith, ints) in
    rw test refl

-- ---- the last entry stands before the first later one
last_is : (entries : List (ℤ × ℤ)) (moment : ℤ) (p k : ℕ) → IsFirstAbove entries moment (suc p)
    → IsLastEntry entries moment k → k ≡ p
last_is entries moment p k parts last =
    let within : k < suc p = grind (arith, ints, parts.after k, last.there, last.not_later) in
    let up : k ≤ p = omega arith in
    elim (eq-or-lt_of_le up) [
      | inl e ↦ e
      | inr less ↦
          let later = last.last p less (omega (arith, parts.within)) in
          let up_to = parts.before p (omega arith) in
          absurd (omega (arith, ints, later, up_to))
    ]

is_last : (entries : List (ℤ × ℤ)) (moment : ℤ) (p : ℕ) → IsFirstAbove entries moment (suc p)
    → IsLastEntry entries moment p
is_last entries moment p parts = record {
  there = omega (arith, parts.within);
  not_later = parts.before p (omega arith);
  last = λ j less inside. parts.after j (omega arith) inside;
}

-- ---- the law
placed_rain : (entries : List (ℤ × ℤ)) (interval moment : ℤ) (place : ℕ) → place ≡ first_above entries moment
    → IsFirstAbove entries moment place → IsRain entries interval moment (rain_at entries interval moment)
placed_rain entries interval moment zero e parts =
    subst (IsRain entries interval moment) (before_all entries interval moment e) (record {
      young = λ k last young. let later = parts.after k (omega arith) last.there in
          absurd (omega (arith, ints, later, last.not_later));
      old = λ k last old. refl;
      before = λ all. refl;
    })
placed_rain entries interval moment (suc p) e parts =
    subst (IsRain entries interval moment) (of_next entries interval moment p e) (record {
      young = λ k last young.
          let same = last_is entries moment p k parts last in
          subst (λ (n : ℕ). young_value (pair_at entries n) interval moment ≡ (pair_at entries k).1) same
          (is_young (pair_at entries k) interval moment young);
      old = λ k last old.
          let same = last_is entries moment p k parts last in
          subst (λ (n : ℕ). young_value (pair_at entries n) interval moment ≡ pos 0) same
          (is_old (pair_at entries k) interval moment old);
      before = λ all.
          let later = all 0 (omega (arith, parts.within)) in
          let up_to = parts.before 0 (omega arith) in
          absurd (omega (arith, ints, later, up_to));
    })

pub rain_is : (entries : List (ℤ × ℤ)) (interval moment : ℤ) → IsRising entries
    → IsRain entries interval moment (rain_at entries interval moment)
rain_is entries interval moment r = placed_rain entries interval moment (first_above entries moment) refl
    (first_above-parts entries moment r)

placed_one : (entries : List (ℤ × ℤ)) (interval moment value : ℤ) (place : ℕ) → place ≡ first_above entries moment
    → IsFirstAbove entries moment place → IsRain entries interval moment value → value ≡ rain_at entries interval moment
placed_one entries interval moment value zero e parts rain =
    rain.before (λ k inside. parts.after k (omega arith) inside) ∙ before_all entries interval moment e
placed_one entries interval moment value (suc p) e parts rain =
    let last = is_last entries moment p parts in
    let made = of_next entries interval moment p e in
    by_lt_z (moment -ℤ (pair_at entries p).0) interval
    (λ young. rain.young p last young ∙ sym (is_young (pair_at entries p) interval moment young) ∙ made)
    (λ old. rain.old p last old ∙ sym (is_old (pair_at entries p) interval moment old) ∙ made)

pub rain_is_one : (entries : List (ℤ × ℤ)) (interval moment value : ℤ) → IsRising entries
    → IsRain entries interval moment value → value ≡ rain_at entries interval moment
rain_is_one entries interval moment value r rain =
    placed_one entries interval moment value (first_above entries moment) refl (first_above-parts entries moment r) rain
