-- The sums of an account.
use Rattle.std.proofs.Common.{◌≡◌, ℕ, ◌+◌, ◌*◌, ◌^◌, ◌<◌, ◌≤◌, List, [], ◌∷◌, ◌++◌, length, take, get_or}
use Rattle.std.proofs.Common.{ℤ, pos, ◌+ℤ◌, ◌-ℤ◌, refl, sym, ap, ◌∙◌, arith}
use Rattle.std.specs.List.{All}
use Rattle.std.proofs.lemmas.Int.{ints}
use Rattle.std.proofs.lemmas.List.{take_more}
use Rattle.std.proofs.lemmas.List.Elements.{All-get_or}
use Rattle.fixed_num.specs.Ranges.{IsWithin}
use Rattle.fixed_num.specs.Sums.{sum_over}
use Rattle.runoff.specs.RunoffStep.{HasVolumesWithin, StepInRange, sum_of}
use Rattle.runoff.specs.declared.states.SubStep.{SubStep}
use Rattle.runoff_states.specs.RunoffAccount.{error_of, IsClosed}

sum_snoc : {A : Type 0} (f : A → ℤ) (xs : List A) (y : A) → sum_over f (xs ++ y ∷ []) ≡ sum_over f xs +ℤ f y
sum_snoc f [] y = omega (arith, ints)
sum_snoc f (x ∷ xs) y = rw (sum_snoc f xs y) (omega (arith, ints))

pub sum_more : {A : Type 0} (f : A → ℤ) (items : List A) (k : ℕ) (d : A) → k < length items
    → sum_over f (take (k + 1) items) ≡ sum_over f (take k items) +ℤ f (get_or items k d)
sum_more f items k d h = rw (take_more items k d h) (sum_snoc f (take k items) (get_or items k d))

-- the error of the sums of the first k steps
error_within : (sums step : SubStep) (k : ℕ)
    → IsWithin (6 * k) (error_of sums.rain sums.infil sums.runoff sums.stored) → IsClosed step
    → IsWithin (6 * (k + 1)) (error_of (sums.rain +ℤ step.rain) (sums.infil +ℤ step.infil)
    (sums.runoff +ℤ step.runoff) (sums.stored +ℤ step.stored))
error_within sums step k h g = record { within = omega (arith, ints, h.within, g.within) }

-- where the loop over steps stands after k of them
pub record Summed (steps : List SubStep) (sums : SubStep) (k : ℕ) : Type 0 where
  pub rain : sums.rain ≡ sum_over (λ (step : SubStep). step.rain) (take k steps)
  pub infil : sums.infil ≡ sum_over (λ (step : SubStep). step.infil) (take k steps)
  pub runoff : sums.runoff ≡ sum_over (λ (step : SubStep). step.runoff) (take k steps)
  pub stored : sums.stored ≡ sum_over (λ (step : SubStep). step.stored) (take k steps)
  pub range : HasVolumesWithin (10 ^ 28 * k) sums
  pub closed : All IsClosed steps → IsWithin (6 * k) (error_of sums.rain sums.infil sums.runoff sums.stored)

pub summed_none : (steps : List SubStep)
    → Summed steps (record { rain = pos 0; infil = pos 0; runoff = pos 0; stored = pos 0 }) 0
summed_none steps = record {
  rain = refl;
  infil = refl;
  runoff = refl;
  stored = refl;
  range = record {
    rain = record { within = omega arith };
    infil = record { within = omega arith };
    runoff = record { within = omega arith };
    stored = record { within = omega arith };
  };
  closed = λ h. record { within = omega (arith, ints) };
}

within_more : (k : ℕ) {a b : ℤ} → IsWithin (10 ^ 28 * k) a → IsWithin (10 ^ 28) b
    → IsWithin (10 ^ 28 * (k + 1)) (a +ℤ b)
within_more k p q = record { within = omega (arith, ints, p.within, q.within) }

pub summed_more : {steps : List SubStep} {sums : SubStep} {k : ℕ} → Summed steps sums k → (d : SubStep)
    → k < length steps → StepInRange (get_or steps k d) → Summed steps (sum_of sums (get_or steps k d)) (k + 1)
summed_more {steps} {sums} {k} s d h range = record {
  rain = rw (s.rain) (sym (sum_more (λ (step : SubStep). step.rain) steps k d h));
  infil = rw (s.infil) (sym (sum_more (λ (step : SubStep). step.infil) steps k d h));
  runoff = rw (s.runoff) (sym (sum_more (λ (step : SubStep). step.runoff) steps k d h));
  stored = rw (s.stored) (sym (sum_more (λ (step : SubStep). step.stored) steps k d h));
  range = record {
    rain = within_more k s.range.rain range.rain;
    infil = within_more k s.range.infil range.infil;
    runoff = within_more k s.range.runoff range.runoff;
    stored = within_more k s.range.stored range.stored;
  };
  closed = λ all. error_within sums (get_or steps k d) k (s.closed all) (All-get_or IsClosed steps k d h all);
}

-- the sums of the steps of at most 20,000 subcatchments
pub few_fit : {steps : List SubStep} {sums : SubStep} {k : ℕ} → Summed steps sums k → k ≤ 20_000
    → HasVolumesWithin (2 * 10 ^ 32) sums
few_fit s h = record {
  rain = record { within = omega (arith, s.range.rain.within, h) };
  infil = record { within = omega (arith, s.range.infil.within, h) };
  runoff = record { within = omega (arith, s.range.runoff.within, h) };
  stored = record { within = omega (arith, s.range.stored.within, h) };
}

-- what a step past the end of a list is read as
abbrev pub no_step : SubStep
no_step = record { rain = pos 0; infil = pos 0; runoff = pos 0; stored = pos 0 }

-- the rain is what its error leaves
remainder : (x y rest : ℤ) → rest ≡ x -ℤ y → x ≡ y +ℤ rest
remainder x y rest h = omega (arith, ints, h)

closing : (r i f s e : ℤ) → e ≡ error_of r i f s → r ≡ i +ℤ f +ℤ s +ℤ e
closing r i f s e h =
    let first : r ≡ i +ℤ (r -ℤ i) = remainder r i (r -ℤ i) refl in
    let second : r -ℤ i ≡ f +ℤ (r -ℤ i -ℤ f) = remainder (r -ℤ i) f (r -ℤ i -ℤ f) refl in
    let third : r -ℤ i -ℤ f ≡ s +ℤ e = remainder (r -ℤ i -ℤ f) s e h in
    first ∙ ap (λ (x : ℤ). i +ℤ x) (second ∙ ap (λ (x : ℤ). f +ℤ x) third) ∙ grouped i f s e
  where
    grouped : (a b c d : ℤ) → a +ℤ (b +ℤ (c +ℤ d)) ≡ a +ℤ b +ℤ c +ℤ d
    grouped a b c d = omega (arith, ints)

pub balances : (rain infil runoff stored error r i f s : ℤ) → rain ≡ r → infil ≡ i → runoff ≡ f → stored ≡ s
    → error ≡ error_of r i f s → rain ≡ infil +ℤ runoff +ℤ stored +ℤ error
balances rain infil runoff stored error r i f s a b c d e = rw (a, b, c, d) (closing r i f s error e)
