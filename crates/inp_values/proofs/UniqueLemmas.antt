-- A text has one value only of each kind.
use Rattle.std.proofs.Common.{◌≡◌, ℕ, ◌≤◌, inl, inr, Bool, true, false, ◌||◌, cond, nat_le, eqb, List, [], ◌∷◌, ◌++◌, length, refl, sym, ap, ◌∙◌, arith, ℤ, ◌+ℤ◌}
use Rattle.std.specs.Char.{is_ascii_digit}
use Rattle.std.specs.List.{take_while}
use Rattle.std.specs.declared.option.Option.{Option}
use Rattle.std.specs.declared.option.Option.TheVariants.{None}
use Rattle.std.proofs.lemmas.Bool.Decides.{nat_tests}
use Rattle.fixed_num.specs.Number.{AreDigits, is_minus, past_sign, past_digits, fraction_of, past_fraction, power_of, joined, number_of}
use Rattle.fixed_num.specs.Decimal.{IsStored}
use Rattle.fixed_num.specs.declared.unit.Unit.{Unit as Scale}
use Rattle.fixed_num.proofs.NumberLemmas.{joined-None, number_of-IsNumber}
use Rattle.fixed_num.proofs.DecimalLemmas.{IsStored-unique}
use Rattle.inp_values.specs.Field.{IsWhole}
use Rattle.inp_values.specs.Clock.{IsClockEnd, minutes_alone, with_seconds, IsClock}
use Rattle.inp_values.specs.CalendarDate.{IsDate}
use Rattle.inp_values.specs.Duration.{IsHours, IsSeconds}
use Rattle.inp_values.proofs.FieldLemmas.{front_past, same_some}
use Rattle.inp_values.proofs.ClockLemmas.{clock_is}
use Rattle.inp_values.proofs.DateLemmas.{date_is}

pub whole_unique : (text : List ℕ) (a b : ℕ) → IsWhole text a → IsWhole text b → a ≡ b
whole_unique text a b one two = one.value ∙ sym two.value

pub clock_unique : (text : List ℕ) (a b : ℤ) → IsClock text a → IsClock text b → a ≡ b
clock_unique text a b one two = same_some b a (sym (clock_is text b two) ∙ clock_is text a one)

pub date_unique : (text : List ℕ) (a b : ℤ) → IsDate text a → IsDate text b → a ≡ b
date_unique text a b one two = same_some b a (sym (date_is text b two) ∙ date_is text a one)

-- ---- a clock is no number
plain : (c : ℕ) → is_ascii_digit c ≡ true → (eqb c 43 || eqb c 45) ≡ false
plain c digit = grind (arith, nat_tests)

no_sign_first : (c : ℕ) (cs : List ℕ) → is_ascii_digit c ≡ true → past_sign (c ∷ cs) ≡ c ∷ cs
no_sign_first c cs digit = ap (λ b. cond b cs (c ∷ cs)) (plain c digit)

still_none : {A : Type 0} (b : Bool) (o : Option A) → o ≡ None → cond b o None ≡ None
still_none true o e = e
still_none false o e = refl

none_at_colon : (text rest : List ℕ) → past_digits (past_sign text) ≡ 58 ∷ rest → number_of text ≡ None
unfolding number_of
none_at_colon text rest e =
    let power : power_of (past_fraction (past_digits (past_sign text))) ≡ None = ap (λ r. power_of (past_fraction r)) e in
    still_none (nat_le (length text) 40) _
    (ap (joined (is_minus text) (take_while is_ascii_digit (past_sign text)) (fraction_of (past_digits (past_sign text)))) power
    ∙ joined-None (is_minus text) (take_while is_ascii_digit (past_sign text)) (fraction_of (past_digits (past_sign text))))

digits_colon : (hours rest : List ℕ) → AreDigits hours → 1 ≤ length hours → number_of (hours ++ (58 ∷ rest)) ≡ None
digits_colon [] rest each some = absurd (omega arith)
digits_colon (c ∷ cs) rest each some =
    none_at_colon ((c ∷ cs) ++ (58 ∷ rest)) rest
    (ap past_digits (no_sign_first c (cs ++ (58 ∷ rest)) each.0) ∙ front_past (c ∷ cs) (58 ∷ rest) each refl)

record HasColon (text : List ℕ) : Type 0 where
  rest : List ℕ
  parts : text ≡ 58 ∷ rest

end_colon : (text : List ℕ) (m s : ℕ) → IsClockEnd text m s → HasColon text
end_colon _ _ _ (minutes_alone {minutes = minutes} f) = record { rest = minutes; parts = refl }
end_colon _ _ _ (with_seconds {minutes = minutes} {seconds = seconds} f g) = record { rest = minutes ++ (58 ∷ seconds); parts = refl }

clock_no_number : (text : List ℕ) (ms : ℤ) → IsClock text ms → number_of text ≡ None
clock_no_number text ms clock =
    let colon = end_colon clock.rest clock.m clock.s clock.is_rest in
    ap number_of (clock.parts ∙ ap (λ ds. clock.hours ++ ds) colon.parts)
    ∙ digits_colon clock.hours colon.rest clock.is_hours.digits clock.is_hours.at_least

not_both : {P : Type 0} (unit : Scale) (text : List ℕ) (a b : ℤ) → IsClock text a → IsStored unit text b → P
not_both unit text a b clock stored =
    let none = clock_no_number text a clock in
    let some = number_of-IsNumber stored.number in
    absurd (cc)

pub hours_unique : (text : List ℕ) (a b : ℤ) → IsHours text a → IsHours text b → a ≡ b
hours_unique text a b (inl one) (inl two) = clock_unique text a b one two
hours_unique text a b (inl one) (inr two) = not_both _ text a b one two
hours_unique text a b (inr one) (inl two) = not_both _ text b a two one
hours_unique text a b (inr one) (inr two) = IsStored-unique _ text a b one two

pub seconds_unique : (text : List ℕ) (a b : ℤ) → IsSeconds text a → IsSeconds text b → a ≡ b
seconds_unique text a b (inl one) (inl two) = clock_unique text a b one two
seconds_unique text a b (inl one) (inr two) = not_both _ text a two.0 one two.1
seconds_unique text a b (inr one) (inl two) = not_both _ text b one.0 two one.1
seconds_unique text a b (inr one) (inr two) =
    one.2 ∙ ap (λ half. half +ℤ half) (IsStored-unique _ text one.0 two.0 one.1 two.1) ∙ sym two.2
