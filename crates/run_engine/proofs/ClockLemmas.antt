-- The moments of a run rise to its end, and so its steps are counted.
use Rattle.std.proofs.Common.{◌≡◌, ◌∙◌, ℕ, zero, suc, ◌+◌, ◌-◌, ◌<◌, ◌≤◌, Bool, true, false, if◌then◌else◌, ℤ, pos, ◌+ℤ◌, ◌≤ℤ◌}
use Rattle.std.proofs.Common.{refl, sym, ap, subst, inl, inr, arith}
use Rattle.std.specs.Prelude.{int_lt}
use Rattle.std.proofs.lemmas.Bool.{cases_lt}
use Rattle.std.proofs.lemmas.Int.{ints}
use Rattle.fixed_num.specs.Sums.{below}
use Rattle.run_engine.specs.Kept.{IsMomentAt}
use Rattle.run_engine.specs.States.{going_below, length_at, moment_at, nets_at, state, steps_of}
use Rattle.run_engine.specs.Times.{AreRunOptions, IsRunTime, duration_of, goes_on}
use Rattle.run_engine.proofs.StateLemmas.{moment_more}
use Rattle.run_engine.proofs.TimeLemmas.{finish_in, length_in}
use Rattle.run_engine.specs.declared.start.Start.{Start}

-- ---- how many of the first numbers have a property that is lost once and for all
abbrev one_of : Bool → ℕ
one_of b = if b then 1 else 0

one_most : (b : Bool) → one_of b ≤ 1
one_most true = omega arith
one_most false = omega arith

module _ (is : ℕ → Bool) where
  abbrev count : ℕ → ℕ
  count n = below (λ k. one_of (is k)) n

  more : (n m : ℕ) → count (n + suc m) ≡ count (n + m) + one_of (is (n + m))
  more n m = let e : n + suc m ≡ suc (n + m) = omega arith in rw e refl

  all_below : (n : ℕ) → ((j : ℕ) → j < n → is j ≡ true) → count n ≡ n
  all_below zero each = refl
  all_below (suc n) each =
      let before : count n ≡ n = all_below n (λ j h. each j (omega (arith, h))) in
      let here : one_of (is n) ≡ 1 = ap (λ (b : Bool). one_of b) (each n (omega arith)) in
      omega (arith, before, here)

  at_most : (n m : ℕ) → count n ≤ count (n + m)
  at_most n zero = let e : n + 0 ≡ n = omega arith in rw e (omega arith)
  at_most n (suc m) = omega (arith, at_most n m, more n m)

  none_above : (n m : ℕ) → ((j : ℕ) → n ≤ j → is j ≡ false) → count (n + m) ≡ count n
  none_above n zero each = let e : n + 0 ≡ n = omega arith in ap count e
  none_above n (suc m) each =
      let before : count (n + m) ≡ count n = none_above n m each in
      let here : one_of (is (n + m)) ≡ 0 = ap (λ (b : Bool). one_of b) (each (n + m) (omega arith)) in
      omega (arith, more n m, before, here)

-- ---- numbers
no_earlier : (a b d : ℤ) → d ≤ℤ a → pos 0 ≤ℤ b → d ≤ℤ (a +ℤ b)
no_earlier a b d h k = omega (arith, ints, h, k)

ended : (moment d : ℤ) → int_lt moment d ≡ false → d ≤ℤ moment
ended moment d past = grind (arith, ints, past)

not_going : (moment d : ℤ) → d ≤ℤ moment → int_lt moment d ≡ false
not_going moment d end = grind (arith, ints, end)

-- ---- the moments of a run
module _ (start : Start) (o : AreRunOptions start.project.options) where
  pub times : (k : ℕ) → IsRunTime start.project.options (moment_at start k)
  unfolding state
  times zero = record { between = record { from = omega (arith, ints); to = o.duration.from }; even = refl }
  times (suc k) = finish_in o (times k) (nets_at start k).least

  -- once at the end, a run stays there
  stays_here : (k : ℕ) → duration_of start.project.options ≤ℤ moment_at start k → duration_of start.project.options ≤ℤ moment_at start (k + 1)
  stays_here k end =
      subst (λ (z : ℤ). duration_of start.project.options ≤ℤ z) (sym (moment_more start k))
      (no_earlier (moment_at start k) (length_at start k) (duration_of start.project.options) end (length_in o (times k) (nets_at start k).least).least)

  stays : (k m : ℕ) → duration_of start.project.options ≤ℤ moment_at start k → duration_of start.project.options ≤ℤ moment_at start (k + m)
  stays k zero end = let e : k ≡ k + 0 = omega arith in subst (λ (j : ℕ). duration_of start.project.options ≤ℤ moment_at start j) e end
  stays k (suc m) end =
      let e : k + m + 1 ≡ k + suc m = omega arith in
      subst (λ (j : ℕ). duration_of start.project.options ≤ℤ moment_at start j) e (stays_here (k + m) (stays k m end))

  stays_ended : (k j : ℕ) → goes_on start.project.options (moment_at start k) ≡ false → k ≤ j → goes_on start.project.options (moment_at start j) ≡ false
  stays_ended k j past after =
      let end = stays k (j - k) (ended (moment_at start k) (duration_of start.project.options) past) in
      let e : k + (j - k) ≡ j = omega (arith, after) in
      not_going (moment_at start j) (duration_of start.project.options) (subst (λ (i : ℕ). duration_of start.project.options ≤ℤ moment_at start i) e end)

-- ---- the number of steps
abbrev going : Start → ℕ → Bool
going start k = goes_on start.project.options (moment_at start k)

counted : (start : Start) (k n : ℕ) → ((j : ℕ) → j < k → going start j ≡ true) → k ≤ n → k ≤ going_below start n
unfolding going_below
counted start k n each within =
    let all : count (going start) k ≡ k = all_below (going start) k each in
    let e : k + (n - k) ≡ n = omega (arith, within) in
    let most : count (going start) k ≤ count (going start) n = subst (λ (i : ℕ). count (going start) k ≤ count (going start) i) e (at_most (going start) k (n - k)) in
    omega (arith, all, most)

counted_all : (start : Start) (k n : ℕ) → ((j : ℕ) → j < k → going start j ≡ true) → ((j : ℕ) → k ≤ j → going start j ≡ false) → k ≤ n → k ≡ going_below start n
unfolding going_below
counted_all start k n each none within =
    let all : count (going start) k ≡ k = all_below (going start) k each in
    let e : k + (n - k) ≡ n = omega (arith, within) in
    let same : count (going start) n ≡ count (going start) k = subst (λ (i : ℕ). count (going start) i ≡ count (going start) k) e (none_above (going start) k (n - k) none) in
    omega (arith, all, same)

counted_full : (start : Start) (n : ℕ) → ((j : ℕ) → j < n → going start j ≡ true) → n ≡ going_below start n
unfolding going_below
counted_full start n each = sym (all_below (going start) n each)

pub steps_within : {start : Start} {k : ℕ} {moment : ℤ} → IsMomentAt start k moment → k ≤ steps_of start
unfolding steps_of
steps_within {start} {k} {moment} at = counted start k 50_000_000 at.going at.few

-- a run that doesn't go on has made its steps
pub steps_ended : {start : Start} {k : ℕ} {moment : ℤ} → AreRunOptions start.project.options → IsMomentAt start k moment → goes_on start.project.options moment ≡ false → k ≡ steps_of start
unfolding steps_of
steps_ended {start} {k} {moment} o at past =
    let here : goes_on start.project.options (moment_at start k) ≡ false = subst (λ (z : ℤ). goes_on start.project.options z ≡ false) at.same past in
    counted_all start k 50_000_000 at.going (λ j h. stays_ended start o k j here h) at.few

pub steps_full : {start : Start} {k : ℕ} {moment : ℤ} → IsMomentAt start k moment → k ≡ 50_000_000 → k ≡ steps_of start
unfolding steps_of
steps_full {start} {k} {moment} at full = full ∙ counted_full start 50_000_000 (λ j h. at.going j (subst (λ (n : ℕ). j < n) (sym full) h))

-- ---- one step more
pub moment_next : {start : Start} {k : ℕ} {moment next : ℤ} → IsMomentAt start k moment → goes_on start.project.options moment ≡ true → k < 50_000_000
    → next ≡ moment_at start (k + 1) → IsRunTime start.project.options next → IsMomentAt start (k + 1) next
moment_next {start} {k} {moment} {next} at goes few is range =
    let here : going start k ≡ true = subst (λ (z : ℤ). goes_on start.project.options z ≡ true) at.same goes in
    record {
      same = is;
      range = range;
      going = λ j h. elim (cases_lt j k) [
        | inl less ↦ at.going j less
        | inr past ↦ let e : k ≡ j = omega (arith, h, past) in subst (λ (i : ℕ). going start i ≡ true) e here
      ];
      few = omega (arith, few);
    }

pub moment_first : (start : Start) → AreRunOptions start.project.options → IsMomentAt start 0 (pos 0)
unfolding state
moment_first start o = record { same = refl; range = times start o 0; going = λ j h. absurd (omega (arith, h)); few = omega arith }
