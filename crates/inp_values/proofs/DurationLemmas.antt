-- Hours and seconds, read as a clock or as a number.
use Rattle.std.proofs.Common.{◌≡◌, ℕ, ◌^◌, ◌*◌, inl, inr, List, refl, ap, ℤ, pos, ◌+ℤ◌, sym, subst, arith, negsuc}
use Rattle.std.specs.Option.{IfSome, IfNone, option_or, option_map}
use Rattle.std.specs.declared.option.Option.{Option}
use Rattle.std.specs.declared.option.Option.TheVariants.{None, Some}
use Rattle.fixed_num.specs.Decimal.{IsStored, scaled_of}
use Rattle.fixed_num.specs.Ranges.{IsBetween, IsEven}
use Rattle.inp_values.specs.Clock.{IsClock, clock_of}
use Rattle.inp_values.proofs.ClockLemmas.{clock_even}
use Rattle.inp_values.specs.Duration.{hours_unit, seconds_unit, IsHours, IsSeconds, hours_of, seconds_of}

-- a clock comes first
pub hours_clock : (text : List ℕ) (ms : ℤ) → Some ms ≡ clock_of text → Some ms ≡ hours_of text
unfolding hours_of
hours_clock text ms e = ap (λ o. option_or o (scaled_of hours_unit text)) e

pub hours_number : (text : List ℕ) → None ≡ clock_of text → scaled_of hours_unit text ≡ hours_of text
unfolding hours_of
hours_number text e = ap (λ o. option_or o (scaled_of hours_unit text)) e

pub hours_some : (text : List ℕ) (o : Option ℤ) → IfSome o (IsStored hours_unit text) → IfSome o (IsHours text)
hours_some text None some = tt
hours_some text (Some ms) some = inr some

no_hours : (text : List ℕ) → ((ms : ℤ) → ¬ (IsClock text ms)) → ((ms : ℤ) → ¬ (IsStored hours_unit text ms)) → (ms : ℤ) → ¬ (IsHours text ms)
no_hours text clock number ms (inl is) = clock ms is
no_hours text clock number ms (inr is) = number ms is

pub hours_none : (text : List ℕ) (o : Option ℤ) → ((ms : ℤ) → ¬ (IsClock text ms)) → IfNone o ((ms : ℤ) → ¬ (IsStored hours_unit text ms)) → IfNone o ((ms : ℤ) → ¬ (IsHours text ms))
hours_none text None clock number = no_hours text clock number
hours_none text (Some ms) clock number = tt

pub hours_range : (text : List ℕ) (o : Option ℤ) → IfSome o (IsStored hours_unit text) → IfSome o (λ ms. IsBetween (pos 0) ms (pos (10 ^ 12)))
hours_range text None some = tt
hours_range text (Some ms) some = some.range

pub seconds_clock : (text : List ℕ) (ms : ℤ) → Some ms ≡ clock_of text → Some ms ≡ seconds_of text
unfolding seconds_of
seconds_clock text ms e = ap (λ o. option_or o (option_map (λ half. half +ℤ half) (scaled_of seconds_unit text))) e

pub seconds_number : (text : List ℕ) → None ≡ clock_of text → option_map (λ half. half +ℤ half) (scaled_of seconds_unit text) ≡ seconds_of text
unfolding seconds_of
seconds_number text e = ap (λ o. option_or o (option_map (λ half. half +ℤ half) (scaled_of seconds_unit text))) e

pub seconds_some : (text : List ℕ) (o p : Option ℤ) → p ≡ option_map (λ half. half +ℤ half) o → IfSome o (IsStored seconds_unit text) → IfSome p (IsSeconds text)
seconds_some text None p e some = rw e tt
seconds_some text (Some half) p e some = rw e (inr (half, some, refl))

no_seconds : (text : List ℕ) → ((ms : ℤ) → ¬ (IsClock text ms)) → ((half : ℤ) → ¬ (IsStored seconds_unit text half)) → (ms : ℤ) → ¬ (IsSeconds text ms)
no_seconds text clock number ms (inl is) = clock ms is
no_seconds text clock number ms (inr is) = number is.0 is.1

pub seconds_none : (text : List ℕ) (o p : Option ℤ) → p ≡ option_map (λ half. half +ℤ half) o → ((ms : ℤ) → ¬ (IsClock text ms)) → IfNone o ((half : ℤ) → ¬ (IsStored seconds_unit text half)) → IfNone p ((ms : ℤ) → ¬ (IsSeconds text ms))
seconds_none text None p e clock number = rw e (no_seconds text clock number)
seconds_none text (Some half) p e clock number = rw e tt

pub half_range : (text : List ℕ) (o : Option ℤ) → IfSome o (IsStored seconds_unit text) → IfSome o (λ half. IsBetween (pos 0) half (pos (5 * 10 ^ 11)))
half_range text None some = tt
half_range text (Some half) some = some.range

-- twice a number that isn't below 0
even_twice : (half : ℤ) → IsBetween (pos 0) half (pos (5 * 10 ^ 11)) → IsEven (half +ℤ half)
even_twice (pos n) range = omega arith
even_twice (negsuc n) range = absurd range.from.le

pub even_seconds : (text : List ℕ) (o : Option ℤ) → IfSome o (IsSeconds text) → IfSome o IsEven
even_seconds text None some = tt
even_seconds text (Some ms) (inl is) = clock_even text ms is
even_seconds text (Some ms) (inr is) = subst IsEven (sym is.2) (even_twice is.0 is.1.range)
