-- The value that is found for an item is the one that its text means.
use Rattle.std.proofs.Common.{◌≡◌, ◌≤◌, ◌≤ℤ◌, ◌&&◌, ◌*◌, ℕ, zero, suc, ℤ, pos, int_le, nat_le, Bool, true, false}
use Rattle.std.proofs.Common.{cond, List, [], ◌∷◌, Option, Some, None, refl, ap, sym, subst, ◌∙◌, arith}
use Rattle.std.specs.Option.{option_map}
use Rattle.std.specs.Ordering.{int_eq}
use Rattle.std.proofs.lemmas.Bool.Decides.{nat_tests, Decides-int_eq}
use Rattle.std.proofs.lemmas.Int.{ints}
use Rattle.fixed_num.specs.Decimal.{IsStored, scaled_of}
use Rattle.fixed_num.proofs.DecimalLemmas.{IsStored-scaled_of, scaled_of-IsStored}
use Rattle.inp_values.specs.declared.quantities.Quantity.{Quantity}
use Rattle.inp_values.specs.declared.quantities.Quantity.TheVariants.{Raw, Coefficient}
use Rattle.inp_values.specs.Duration.{hours_of}
use Rattle.inp_values.specs.Field.{whole_of}
use Rattle.inp_values.specs.Switch.{switch_of}
use Rattle.inp_values.specs.Units.{unit_for}
use Rattle.inp_values.proofs.FieldLemmas.{field_is, field_told}
use Rattle.inp_forms.specs.declared.item.Objects.{Objects}
use Rattle.inp_forms.specs.declared.item.Objects.TheVariants as objects
use Rattle.inp_forms.specs.declared.item.Value.{Value}
use Rattle.inp_forms.specs.declared.item.Value.TheVariants.{Nothing, Amount, Index, Choice, Switch}
use Rattle.inp_forms.specs.declared.item.What.{What}
use Rattle.inp_forms.specs.declared.item.What.TheVariants as what
use Rattle.inp_forms.specs.declared.words.Keyword.{Keyword}
use Rattle.inp_forms.specs.declared.words.Words.{Words}
use Rattle.inp_forms.specs.Context.{Context, object_number}
use Rattle.inp_forms.specs.Getters.{amount_of}
use Rattle.inp_forms.specs.Keywords.{keyword_of}
use Rattle.inp_forms.specs.Meaning.{IsValue, IsObject, IsMaybe, IsAmount, IsWholeAmount, IsWeirAmount, AreHalves}
use Rattle.inp_forms.specs.Meaning.{IsHourAmount}
use Rattle.inp_forms.specs.Values.{amount_from, amount_only, amount_between, amount_value, whole_in, whole_between}
use Rattle.inp_forms.specs.Values.{halves_in, halves_found, halves_of, metric_coefficient, weir_coefficient_of}
use Rattle.inp_forms.specs.Values.{is_star, object_of, maybe_of, found_of}

same_amount : (a b : ℤ) → Amount a ≡ Amount b → a ≡ b
same_amount a b e = ap amount_of e

-- ---- objects
object_means : (known : Context) (kind : Objects) (text : List ℕ) (value : Value) (o : Option ℕ)
    → object_number known kind text ≡ o → option_map (λ n. Index n) o ≡ Some value → IsObject known kind text value
object_means known kind text value None h e = absurd (cc)
object_means known kind text value (Some n) h e = let v : Index n ≡ value = cc
    in subst (λ x. IsObject known kind text x) v (record { value_is = refl; number_is = h })

object_found : (known : Context) (kind : Objects) (text : List ℕ) (value : Value) → IsObject known kind text value
    → object_of known kind text ≡ Some value
object_found known kind text value is = ap (option_map (λ n. Index n)) is.number_is ∙ ap (λ v. Some v) (sym is.value_is)

maybe_means : (known : Context) (kind : Objects) (text : List ℕ) (value : Value)
    → maybe_of known kind text ≡ Some value → IsMaybe known kind text value
maybe_means known kind [] value e = cc
maybe_means known kind (byte ∷ bytes) value e = object_means known kind (byte ∷ bytes) value (object_number known kind
    (byte ∷ bytes)) refl e

maybe_found : (known : Context) (kind : Objects) (text : List ℕ) (value : Value) → IsMaybe known kind text value
    → maybe_of known kind text ≡ Some value
maybe_found known kind [] value is = ap (λ v. Some v) (sym is)
maybe_found known kind (byte ∷ bytes) value is = object_found known kind (byte ∷ bytes) value is

-- a choice of a test
kept_some : {A : Type 0} (b : Bool) (o : Option A) (a : A) → cond b None o ≡ Some a → (b ≡ false) × (o ≡ Some a)
kept_some true o a e = absurd (cc)
kept_some false o a e = (refl, e)

-- ---- numbers
amount_means : (known : Context) (quantity : Quantity) (text : List ℕ) (value : Value) (o : Option ℤ)
    → scaled_of (unit_for known.units quantity) text ≡ o → amount_value o ≡ Some value
    → IsAmount known quantity text value
amount_means known quantity text value None h e = absurd (cc)
amount_means known quantity text value (Some v) h e = let same : Amount v ≡ value = cc
    in subst (λ x. IsAmount known quantity text x) same (record { value_is = refl; stored = IsStored-scaled_of h })

amount_found : (known : Context) (quantity : Quantity) (text : List ℕ) (value : Value)
    → IsAmount known quantity text value → amount_value (scaled_of (unit_for known.units quantity) text) ≡ Some value
amount_found known quantity text value is = ap amount_value (scaled_of-IsStored is.stored)
    ∙ ap (λ v. Some v) (sym is.value_is)

from_means : (known : Context) (least : ℤ) (quantity : Quantity) (text : List ℕ) (value : Value) (o : Option ℤ)
    → scaled_of (unit_for known.units quantity) text ≡ o → amount_value (amount_from least o) ≡ Some value
    → IsAmount known quantity text value × (least ≤ℤ amount_of value)
from_means known least quantity text value None h e = absurd (cc)
from_means known least quantity text value (Some v) h e = go (int_le least v) refl e where
  go : (b : Bool) → int_le least v ≡ b → amount_value (cond b (Some v) None) ≡ Some value
      → IsAmount known quantity text value × (least ≤ℤ amount_of value)
  go true t e = let same : Amount v ≡ value = cc in let below : least ≤ℤ v = grind (arith, ints) in
      (amount_means known quantity text value (Some v) h e, subst (λ x. least ≤ℤ amount_of x) same below)
  go false t e = absurd (cc)

from_found : (known : Context) (least : ℤ) (quantity : Quantity) (text : List ℕ) (value : Value)
    → IsAmount known quantity text value → least ≤ℤ amount_of value → amount_value (amount_from least (scaled_of
    (unit_for known.units quantity) text)) ≡ Some value
from_found known least quantity text value is h =
    let yes : int_le least (amount_of value) ≡ true = grind (arith, ints) in
    ap (λ o. amount_value (amount_from least o)) (scaled_of-IsStored is.stored)
    ∙ (ap (λ b. amount_value (cond b (Some (amount_of value)) None)) yes ∙ ap (λ v. Some v) (sym is.value_is))

only_means : (known : Context) (only : ℤ) (quantity : Quantity) (text : List ℕ) (value : Value) (o : Option ℤ)
    → scaled_of (unit_for known.units quantity) text ≡ o → amount_value (amount_only only o) ≡ Some value
    → IsAmount known quantity text value × (amount_of value ≡ only)
only_means known only quantity text value None h e = absurd (cc)
only_means known only quantity text value (Some v) h e = go (int_eq v only) refl e where
  go : (b : Bool) → int_eq v only ≡ b → amount_value (cond b (Some v) None) ≡ Some value
      → IsAmount known quantity text value × (amount_of value ≡ only)
  go true t e = let same : Amount v ≡ value = cc in let is : v ≡ only = (Decides-int_eq v only).0 t in
      (amount_means known quantity text value (Some v) h e, subst (λ x. amount_of x ≡ only) same is)
  go false t e = absurd (cc)

only_found : (known : Context) (only : ℤ) (quantity : Quantity) (text : List ℕ) (value : Value)
    → IsAmount known quantity text value → amount_of value ≡ only → amount_value (amount_only only (scaled_of
    (unit_for known.units quantity) text)) ≡ Some value
only_found known only quantity text value is h =
    let yes : int_eq (amount_of value) only ≡ true = (Decides-int_eq (amount_of value) only).1 h in
    ap (λ o. amount_value (amount_only only o)) (scaled_of-IsStored is.stored)
    ∙ (ap (λ b. amount_value (cond b (Some (amount_of value)) None)) yes ∙ ap (λ v. Some v) (sym is.value_is))

hours_mean : (least most : ℤ) (text : List ℕ) (value : Value) (o : Option ℤ) → hours_of text ≡ o
    → amount_value (amount_between least most o) ≡ Some value → IsHourAmount least most text value
hours_mean least most text value None h e = absurd (cc)
hours_mean least most text value (Some v) h e = go (int_le least v && int_le v most) refl e where
  go : (b : Bool) → (int_le least v && int_le v most) ≡ b → amount_value (cond b (Some v) None) ≡ Some value
      → IsHourAmount least most text value
  go true t e = let same : Amount v ≡ value = cc in let from : least ≤ℤ v = grind (arith, ints)
      in let to : v ≤ℤ most = grind (arith, ints) in
      subst (λ x. IsHourAmount least most text x) same (record {
        value_is = refl;
        hours = h;
        range = record {
          from =
              from;
          to = to;
        };
      })
  go false t e = absurd (cc)

hours_found : (least most : ℤ) (text : List ℕ) (value : Value) → IsHourAmount least most text value
    → amount_value (amount_between least most (hours_of text)) ≡ Some value
hours_found least most text value is =
    let from = is.range.from in let to = is.range.to in
    let yes : (int_le least (amount_of value) && int_le (amount_of value) most) ≡ true = grind (arith, ints) in
    ap (λ o. amount_value (amount_between least most o)) is.hours ∙ (ap (λ b. amount_value (cond b (Some
    (amount_of value)) None)) yes ∙ ap (λ v. Some v) (sym is.value_is))

whole_means : (least most : ℕ) (text : List ℕ) (value : Value) (o : Option ℕ) → whole_of text ≡ o
    → amount_value (whole_in least most o) ≡ Some value → IsWholeAmount least most text value
whole_means least most text value None h e = absurd (cc)
whole_means least most text value (Some n) h e = go (nat_le least n && nat_le n most) refl e where
  go : (b : Bool) → (nat_le least n && nat_le n most) ≡ b → amount_value (cond b (Some (pos n)) None) ≡ Some value
      → IsWholeAmount least most text value
  go true t e = let same : Amount (pos n) ≡ value = cc in
      record {
        n = n;
        value_is = sym same;
        whole = field_told 1 9 text n h;
        from = grind
            (arith, nat_tests);
        to = grind (arith, nat_tests);
      }
  go false t e = absurd (cc)

whole_found : (least most : ℕ) (text : List ℕ) (value : Value) → IsWholeAmount least most text value
    → amount_value (whole_between least most text) ≡ Some value
whole_found least most text value is =
    let from = is.from in let to = is.to in let n = is.n in
    let yes : (nat_le least n && nat_le n most) ≡ true = grind (arith, nat_tests) in
    ap (λ o. amount_value (whole_in least most o)) (field_is 1 9 text n is.whole)
    ∙ (ap (λ b. amount_value (cond b (Some (pos n)) None)) yes ∙ ap (λ v. Some v) (sym is.value_is))

weir_means : (known : Context) (text : List ℕ) (value : Value) (o : Option ℤ)
    → scaled_of (unit_for known.units Coefficient) text ≡ o → amount_value (option_map
    (metric_coefficient known.units) o) ≡ Some value → IsWeirAmount known text value
weir_means known text value None h e = absurd (cc)
weir_means known text value (Some c) h e = let same : Amount (metric_coefficient known.units c) ≡ value = cc in
    record { coefficient = c; value_is = sym same; stored = IsStored-scaled_of h }

weir_found : (known : Context) (text : List ℕ) (value : Value) → IsWeirAmount known text value
    → amount_value (weir_coefficient_of known.units text) ≡ Some value
weir_found known text value is = ap (λ o. amount_value (option_map (metric_coefficient known.units) o))
    (scaled_of-IsStored is.stored) ∙ ap (λ v. Some v) (sym is.value_is)

-- ---- halves
halves_are : (power : ℤ) (n : ℕ) → halves_in power ≡ Some n → (n ≤ 6) × (power ≡ pos (500_000 * n))
unfolding halves_in
halves_are power n h = one (int_eq power (pos 0)) refl h where
  told : (k : ℕ) → int_eq power (pos (500_000 * k)) ≡ true → k ≤ 6 → Some k ≡ Some n
      → (n ≤ 6) × (power ≡ pos (500_000 * n))
  told k t few e = let same : k ≡ n = cc in (
    subst (λ x. x ≤ 6) same few,
    (Decides-int_eq power (pos
        (500_000 * k))).0 t ∙ ap (λ x. pos (500_000 * x)) same,
  )

  seven : (b : Bool) → int_eq power (pos 3_000_000) ≡ b → cond b (Some 6) None ≡ Some n
      → (n ≤ 6) × (power ≡ pos (500_000 * n))
  seven true t e = told 6 t (omega arith) e
  seven false t e = absurd (cc)

  six : (b : Bool) → int_eq power (pos 2_500_000) ≡ b → cond b (Some 5) (cond (int_eq power (pos 3_000_000))
      (Some 6) None) ≡ Some n → (n ≤ 6) × (power ≡ pos (500_000 * n))
  six true t e = told 5 t (omega arith) e
  six false t e = seven (int_eq power (pos 3_000_000)) refl e

  five : (b : Bool) → int_eq power (pos 2_000_000) ≡ b → cond b (Some 4) (cond (int_eq power (pos 2_500_000)) (Some 5)
      (cond (int_eq power (pos 3_000_000)) (Some 6) None)) ≡ Some n → (n ≤ 6) × (power ≡ pos (500_000 * n))
  five true t e = told 4 t (omega arith) e
  five false t e = six (int_eq power (pos 2_500_000)) refl e

  four : (b : Bool) → int_eq power (pos 1_500_000) ≡ b → cond b (Some 3) (cond (int_eq power (pos 2_000_000)) (Some 4)
      (cond (int_eq power (pos 2_500_000)) (Some 5) (cond (int_eq power (pos 3_000_000)) (Some 6) None))) ≡ Some n
      → (n ≤ 6) × (power ≡ pos (500_000 * n))
  four true t e = told 3 t (omega arith) e
  four false t e = five (int_eq power (pos 2_000_000)) refl e

  three : (b : Bool) → int_eq power (pos 1_000_000) ≡ b → cond b (Some 2) (cond (int_eq power (pos 1_500_000))
      (Some 3) (cond (int_eq power (pos 2_000_000)) (Some 4) (cond (int_eq power (pos 2_500_000)) (Some 5) (cond
      (int_eq power (pos 3_000_000)) (Some 6) None)))) ≡ Some n → (n ≤ 6) × (power ≡ pos (500_000 * n))
  three true t e = told 2 t (omega arith) e
  three false t e = four (int_eq power (pos 1_500_000)) refl e

  two : (b : Bool) → int_eq power (pos 500_000) ≡ b → cond b (Some 1) (cond (int_eq power (pos 1_000_000)) (Some 2)
      (cond (int_eq power (pos 1_500_000)) (Some 3) (cond (int_eq power (pos 2_000_000)) (Some 4) (cond (int_eq power
      (pos 2_500_000)) (Some 5) (cond (int_eq power (pos 3_000_000)) (Some 6) None))))) ≡ Some n
      → (n ≤ 6) × (power ≡ pos (500_000 * n))
  two true t e = told 1 t (omega arith) e
  two false t e = three (int_eq power (pos 1_000_000)) refl e

  one : (b : Bool) → int_eq power (pos 0) ≡ b → cond b (Some 0) (cond (int_eq power (pos 500_000)) (Some 1) (cond
      (int_eq power (pos 1_000_000)) (Some 2) (cond (int_eq power (pos 1_500_000)) (Some 3) (cond (int_eq power
      (pos 2_000_000)) (Some 4) (cond (int_eq power (pos 2_500_000)) (Some 5) (cond (int_eq power (pos 3_000_000))
      (Some 6) None)))))) ≡ Some n → (n ≤ 6) × (power ≡ pos (500_000 * n))
  one true t e = told 0 t (omega arith) e
  one false t e = two (int_eq power (pos 500_000)) refl e

halves_back : (n : ℕ) → n ≤ 6 → halves_in (pos (500_000 * n)) ≡ Some n
unfolding halves_in
halves_back zero h = refl
halves_back (suc zero) h = refl
halves_back (suc (suc zero)) h = refl
halves_back (suc (suc (suc zero))) h = refl
halves_back (suc (suc (suc (suc zero)))) h = refl
halves_back (suc (suc (suc (suc (suc zero))))) h = refl
halves_back (suc (suc (suc (suc (suc (suc zero)))))) h = refl
halves_back (suc (suc (suc (suc (suc (suc (suc n))))))) h = absurd (omega (arith, h))

halves_mean : (known : Context) (text : List ℕ) (value : Value) (o : Option ℤ)
    → scaled_of (unit_for known.units Raw) text ≡ o → option_map (λ n. Index n) (halves_found o) ≡ Some value
    → AreHalves known text value
halves_mean known text value None h e = absurd (cc)
halves_mean known text value (Some power) h e = go (halves_in power) refl e where
  go : (o : Option ℕ) → halves_in power ≡ o → option_map (λ n. Index n) o ≡ Some value → AreHalves known text value
  go None t e = absurd (cc)
  go (Some n) t e = let same : Index n ≡ value = cc in let are = halves_are power n t in
      record {
        halves = n;
        value_is = sym same;
        few = are.0;
        stored = subst (IsStored
            (unit_for known.units Raw) text) are.1 (IsStored-scaled_of h);
      }

halves_found_back : (known : Context) (text : List ℕ) (value : Value) → AreHalves known text value
    → option_map (λ n. Index n) (halves_of known.units text) ≡ Some value
halves_found_back known text value is =
    ap (λ o. option_map (λ n. Index n) (halves_found o)) (scaled_of-IsStored is.stored)
    ∙ (ap (option_map (λ n. Index n)) (halves_back is.halves is.few) ∙ ap (λ v. Some v) (sym is.value_is))

-- ---- words
word_means : (words : Words) (text : List ℕ) (value : Value) (o : Option Keyword) → keyword_of words text ≡ o
    → option_map (λ k. Choice k) o ≡ Some value → (found : Keyword) × (value ≡ Choice found)
    × (keyword_of words text ≡ Some found)
word_means words text value None h e = absurd (cc)
word_means words text value (Some k) h e = let same : Choice k ≡ value = cc in (k, sym same, h)

switch_means : (text : List ℕ) (value : Value) (o : Option Bool) → switch_of text ≡ o
    → option_map (λ on. Switch on) o ≡ Some value → (on : Bool) × (value ≡ Switch on) × (switch_of text ≡ Some on)
switch_means text value None h e = absurd (cc)
switch_means text value (Some on) h e = let same : Switch on ≡ value = cc in (on, sym same, h)

-- ---- all
pub found_means : (known : Context) (item : What) (text : List ℕ) (value : Value)
    → found_of known item text ≡ Some value → IsValue known item text value
unfolding found_of
found_means known what.Name text value e = let same : Nothing ≡ value = cc in sym same
found_means known (what.Own kind) text value e = object_means known kind text value
    (object_number known kind text) refl e
found_means known (what.Object kind) text value e = object_means known kind text value
    (object_number known kind text) refl e
found_means known (what.Maybe kind) text value e = maybe_means known kind text value e
found_means known what.PumpCurve text value e = let apart = kept_some (is_star text)
    (object_of known objects.PumpCurves text) value e in (
      apart.0,
      object_means known objects.PumpCurves text value (object_number known objects.PumpCurves text) refl
          apart.1,
    )
found_means known what.Outlet text value e = object_means known objects.Nodes text value
    (object_number known objects.Nodes text) refl e
found_means known (what.Number quantity) text value e = amount_means known quantity text value (scaled_of
    (unit_for known.units quantity) text) refl e
found_means known (what.AtLeast least quantity) text value e = from_means known least quantity text value (scaled_of
    (unit_for known.units quantity) text) refl e
found_means known (what.Only only quantity) text value e = only_means known only quantity text value (scaled_of
    (unit_for known.units quantity) text) refl e
found_means known (what.Whole least most) text value e = whole_means least most text value (whole_of text) refl e
found_means known what.WeirCoefficient text value e = weir_means known text value (scaled_of
    (unit_for known.units Coefficient) text) refl e
found_means known what.Halves text value e = halves_mean known text value (scaled_of
    (unit_for known.units Raw) text) refl e
found_means known (what.Hours least most) text value e = hours_mean least most text value (hours_of text) refl e
found_means known (what.Word words) text value e = word_means words text value (keyword_of words text) refl e
found_means known what.YesNo text value e = switch_means text value (switch_of text) refl e
found_means known what.Unused text value e = let same : Nothing ≡ value = cc in sym same
found_means known what.End text value e = absurd (cc)

pub means_found : (known : Context) (item : What) (text : List ℕ) (value : Value) → IsValue known item text value
    → found_of known item text ≡ Some value
unfolding found_of
means_found known what.Name text value is = ap (λ v. Some v) (sym is)
means_found known (what.Own kind) text value is = object_found known kind text value is
means_found known (what.Object kind) text value is = object_found known kind text value is
means_found known (what.Maybe kind) text value is = maybe_found known kind text value is
means_found known what.PumpCurve text value is = ap (λ b. cond b None (object_of known objects.PumpCurves text)) is.0
    ∙ object_found known objects.PumpCurves text value is.1
means_found known what.Outlet text value is = object_found known objects.Nodes text value is
means_found known (what.Number quantity) text value is = amount_found known quantity text value is
means_found known (what.AtLeast least quantity) text value is = from_found known least quantity text value is.0 is.1
means_found known (what.Only only quantity) text value is = only_found known only quantity text value is.0 is.1
means_found known (what.Whole least most) text value is = whole_found least most text value is
means_found known what.WeirCoefficient text value is = weir_found known text value is
means_found known what.Halves text value is = halves_found_back known text value is
means_found known (what.Hours least most) text value is = hours_found least most text value is
means_found known (what.Word words) text value is = ap (option_map (λ k. Choice k)) is.2 ∙ ap (λ v. Some v) (sym is.1)
means_found known what.YesNo text value is = ap (option_map (λ on. Switch on)) is.2 ∙ ap (λ v. Some v) (sym is.1)
means_found known what.Unused text value is = ap (λ v. Some v) (sym is)
means_found known what.End text value is = absurd is
