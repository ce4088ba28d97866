-- The value of a text: the function gives it exactly where the relation holds.
use Rattle.std.proofs.Common.{◌≡◌, ℕ, ◌*◌, ◌^◌, ◌<◌, ◌≤◌, Bool, true, false, ◌&&◌, cond, List, ℤ, pos, negsuc, ◌≤ℤ◌, ◌<ℤ◌, int_le, int_lt, FitsSigned, to_z, of_z, unsigned_abs, Option, Some, None, refl, sym, ap, subst, mul-pos, ◌∙◌, arith}
use Rattle.std.specs.Int.{w32}
use Rattle.std.specs.Option.{IfSome, IfNone}
use Rattle.std.proofs.lemmas.Int.{ints}
use Rattle.std.proofs.lemmas.Nat.{mul-le}
use Rattle.std.proofs.Math.Nat.{pow-le-pow_right}
use Rattle.fixed_num.specs.declared.number.Number.{Number}
use Rattle.fixed_num.specs.declared.unit.Unit.{Unit as Scale}
use Rattle.fixed_num.specs.Decimal.{stored_value, IsStored, in_range, value_in, scaled_of}
use Rattle.fixed_num.specs.Number.{signed, number_of}
use Rattle.fixed_num.specs.Ranges.{IsBetween}
use Rattle.fixed_num.specs.Rounding.{rounded, quo_of}
use Rattle.fixed_num.proofs.NumberLemmas.{number_of-IsNumber, IsNumber-number_of}

-- ---- the range
in-range : (least v most : ℤ) → least ≤ℤ v → v ≤ℤ most → (int_le least v && int_le v most) ≡ true
in-range least v most p q = grind (arith, ints)

in-range-Told : (least v most : ℤ) → (int_le least v && int_le v most) ≡ true → (least ≤ℤ v) × (v ≤ℤ most)
in-range-Told least v most h = grind (arith, ints)

in_range-Told : (unit : Scale) (v w : ℤ) → in_range unit v ≡ Some w → IsBetween unit.least v unit.most × (v ≡ w)
in_range-Told unit v w h = told (int_le unit.least v && int_le v unit.most) refl h where
  told : (b : Bool) → (int_le unit.least v && int_le v unit.most) ≡ b → cond b (Some v) None ≡ Some w → IsBetween unit.least v unit.most × (v ≡ w)
  told true e h = let (from, to) = in-range-Told unit.least v unit.most e in let same : v ≡ w = cc in (record { from = from; to = to }, same)
  told false e h = absurd (cc)

-- ---- the function and the relation
pub scaled_of-IsStored : {unit : Scale} {text : List ℕ} {v : ℤ} → IsStored unit text v → scaled_of unit text ≡ Some v
unfolding scaled_of
scaled_of-IsStored {unit} {text} {v} s =
    ap (value_in unit) (number_of-IsNumber s.number)
    ∙ ap (in_range unit) (sym s.value)
    ∙ ap (λ b. cond b (Some v) None) (in-range unit.least v unit.most s.range.from s.range.to)

stored_from : (unit : Scale) (text : List ℕ) (v : ℤ) (o : Option Number) → number_of text ≡ o → value_in unit o ≡ Some v → IsStored unit text v
stored_from unit text v None e h = absurd (cc)
stored_from unit text v (Some n) e h =
    let (range, same) = in_range-Told unit (stored_value unit n.negative n.digits n.power) v h in
    subst (IsStored unit text) same (record { negative = n.negative; m = n.digits; e = n.power; number = IsNumber-number_of text n e; value = refl; range = range })

pub IsStored-scaled_of : {unit : Scale} {text : List ℕ} {v : ℤ} → scaled_of unit text ≡ Some v → IsStored unit text v
unfolding scaled_of
IsStored-scaled_of {unit} {text} {v} h = stored_from unit text v (number_of text) refl h

pub IsStored-unique : (unit : Scale) (text : List ℕ) (v w : ℤ) → IsStored unit text v → IsStored unit text w → v ≡ w
IsStored-unique unit text v w p q = let both : Some v ≡ Some w = sym (scaled_of-IsStored p) ∙ scaled_of-IsStored q in cc both

-- ---- what an answer equal to the function says
pub IsStored-if : (unit : Scale) (text : List ℕ) (o : Option ℤ) → o ≡ scaled_of unit text → IfSome o (λ v. IsStored unit text v)
IsStored-if unit text None e = tt
IsStored-if unit text (Some v) e = IsStored-scaled_of (sym e)

pub IsStored-none : (unit : Scale) (text : List ℕ) (o : Option ℤ) → o ≡ scaled_of unit text → IfNone o ((v : ℤ) → ¬ (IsStored unit text v))
IsStored-none unit text None e = λ v s. let both : None ≡ Some v = e ∙ scaled_of-IsStored s in absurd (cc both)
IsStored-none unit text (Some v) e = tt

-- ---- the value by the sign of the power
pub stored_value-raised : (unit : Scale) (negative : Bool) (m : ℕ) (e : ℤ) → pos 0 ≤ℤ e → stored_value unit negative m e ≡ signed negative (pos (rounded (m * unit.num * 10 ^ unsigned_abs e) unit.den))
unfolding stored_value quo_of
stored_value-raised unit negative m (pos e) h = refl
stored_value-raised unit negative m (negsuc e) h = absurd (omega (arith, ints))

pub stored_value-lowered : (unit : Scale) (negative : Bool) (m : ℕ) (e : ℤ) → e <ℤ pos 0 → stored_value unit negative m e ≡ signed negative (pos (rounded (m * unit.num) (unit.den * 10 ^ unsigned_abs e)))
unfolding stored_value quo_of
stored_value-lowered unit negative m (pos e) h = absurd (omega (arith, ints))
stored_value-lowered unit negative m (negsuc e) h = refl

-- ---- bounds
pub power_at_most : (k most : ℕ) → k ≤ most → 10 ^ k ≤ 10 ^ most
power_at_most k most h = pow-le-pow_right (omega arith) h

pub power-positive : (k : ℕ) → 0 < 10 ^ k
power-positive k = power_at_most 0 k (omega arith)

pub amount-at_most : (m num : ℕ) → m < 10 ^ 18 → num ≤ 10 ^ 11 → m * num ≤ 10 ^ 29
amount-at_most m num p q = mul-le m num (10 ^ 18) (10 ^ 11) (omega arith) q

pub raised-at_most : (amount power : ℕ) → amount ≤ 10 ^ 29 → power ≤ 9 → amount * 10 ^ power ≤ 10 ^ 38
raised-at_most amount power p q = mul-le amount (10 ^ power) (10 ^ 29) (10 ^ 9) p (power_at_most power 9 q)

pub lowered-at_most : (den power : ℕ) → den ≤ 10 ^ 8 → power ≤ 27 → den * 10 ^ power ≤ 10 ^ 35
lowered-at_most den power p q = mul-le den (10 ^ power) (10 ^ 8) (10 ^ 27) p (power_at_most power 27 q)

pub lowered-positive : (den power : ℕ) → 0 < den → 0 < den * 10 ^ power
lowered-positive den power p = mul-pos p (power-positive power)

-- ---- what the test of a power's sign says
pub below_from_test : (e : ℤ) → FitsSigned w32 e → int_lt (to_z w32 (of_z w32 e)) (pos 0) ≡ true → e <ℤ pos 0
below_from_test e fits h = grind (arith, ints)

pub from_zero_from_test : (e : ℤ) → FitsSigned w32 e → int_lt (to_z w32 (of_z w32 e)) (pos 0) ≡ false → pos 0 ≤ℤ e
from_zero_from_test e fits h = grind (arith, ints)
