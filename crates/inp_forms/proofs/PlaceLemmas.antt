-- The values of a line at their places lie in the ranges of their items.
use Rattle.std.proofs.Common.{◌≡◌, ◌∷◌, [], ◌<◌, ◌+◌, ℕ, zero, suc, ℤ, Bool, true, false, nat_lt, List, length}
use Rattle.std.proofs.Common.{get_or, refl, sym, subst, arith, Some}
use Rattle.std.proofs.lemmas.Bool.Decides.{nat_tests}
use Rattle.fixed_num.specs.Ranges.{IsBetween}
use Rattle.inp_values.specs.declared.quantities.Quantity.{Quantity}
use Rattle.inp_values.specs.Units.{unit_for}
use Rattle.inp_lines.specs.Faults.{token_at}
use Rattle.inp_forms.specs.declared.item.Item.{Item}
use Rattle.inp_forms.specs.declared.item.Objects.{Objects}
use Rattle.inp_forms.specs.declared.item.Value.{Value}
use Rattle.inp_forms.specs.declared.item.Value.TheVariants.{Amount}
use Rattle.inp_forms.specs.declared.item.What.{What}
use Rattle.inp_forms.specs.declared.item.What.TheVariants as what
use Rattle.inp_forms.specs.Context.{Context, object_number}
use Rattle.inp_forms.specs.Getters.{amount_of, index_of, value_at}
use Rattle.inp_forms.specs.Meaning.{IsValue, IsItem, IsItemOr, IsObject, IsAmount, AreItems}

-- the item at a place means the value at this place
pub item_at : (known : Context) (items : List Item) (tokens : List (List ℕ)) (place : ℕ) (values : List Value)
    → AreItems known items tokens place values
    → (k : ℕ) (default : Item) → k < length items → IsItem known (get_or items k default) tokens (place + k)
    (value_at values k)
item_at known [] tokens place values are k default h = absurd (omega (arith, h))
item_at known (item ∷ items) tokens place [] are k default h = absurd are
item_at known (item ∷ items) tokens place (value ∷ values) are zero default h = let same : place ≡ place + 0 = omega
    arith in subst (λ p. IsItem known item tokens p value) same are.0
item_at known (item ∷ items) tokens place (value ∷ values) are (suc k) default h = let same :
    (place + 1) + k ≡ place + suc k = omega arith in
    subst (λ p. IsItem known (get_or items k default) tokens p (value_at values k)) same (item_at known items tokens
    (place + 1) values are.1 k default (omega (arith, h)))

-- an item that may be missing means its value or has the one of the form
pub or_means : (known : Context) (missing : Value) (item : What) (tokens : List (List ℕ)) (place : ℕ) (value : Value)
    (P : Value → Type 0)
    → IsItemOr known missing item tokens place value → ((text : List ℕ) → IsValue known item text value → P value)
    → P missing → P value
or_means known missing item tokens place value P is there absent = go (nat_lt place (length tokens)) refl where
  go : (b : Bool) → nat_lt place (length tokens) ≡ b → P value
  go true e = there (token_at tokens place) (is.there (grind (arith, nat_tests)))
  go false e = subst P (sym (is.absent (grind (arith, nat_tests)))) absent

-- the range of a quantity
abbrev pub IsInRange : Context → Quantity → ℤ → Type 0
IsInRange known quantity amount = IsBetween (unit_for known.units quantity).least amount
    (unit_for known.units quantity).most

pub amount_in : (known : Context) (quantity : Quantity) (text : List ℕ) (value : Value)
    → IsAmount known quantity text value → IsInRange known quantity (amount_of value)
amount_in known quantity text value is = is.stored.range

pub amount_or_in : (known : Context) (quantity : Quantity) (missing : ℤ) (tokens : List (List ℕ)) (place : ℕ)
    (value : Value)
    → IsItemOr known (Amount missing) (what.Number quantity) tokens place value → IsInRange known quantity missing
    → IsInRange known quantity (amount_of value)
amount_or_in known quantity missing tokens place value is fits = or_means known (Amount missing)
    (what.Number quantity) tokens place value (λ v. IsInRange known quantity (amount_of v)) is
    (λ text. amount_in known quantity text value) fits

-- an amount that is some number at least
abbrev pub IsFrom : Context → ℤ → Quantity → ℤ → Type 0
IsFrom known least quantity amount = IsBetween least amount (unit_for known.units quantity).most

pub least_in : (known : Context) (least : ℤ) (quantity : Quantity) (text : List ℕ) (value : Value)
    → IsValue known (what.AtLeast least quantity) text value → IsFrom known least quantity (amount_of value)
least_in known least quantity text value is = record { from = is.1; to = is.0.stored.range.to }

pub least_or_in : (known : Context) (least : ℤ) (quantity : Quantity) (missing : ℤ) (tokens : List (List ℕ))
    (place : ℕ) (value : Value)
    → IsItemOr known (Amount missing) (what.AtLeast least quantity) tokens place value
    → IsFrom known least quantity missing → IsFrom known least quantity (amount_of value)
least_or_in known least quantity missing tokens place value is fits = or_means known (Amount missing)
    (what.AtLeast least quantity) tokens place value (λ v. IsFrom known least quantity (amount_of v)) is
    (λ text. least_in known least quantity text value) fits

-- a number of objects
pub index_in : (known : Context) (kind : Objects) (text : List ℕ) (value : Value) (P : ℕ → Type 0)
    → ((name : List ℕ) (n : ℕ) → object_number known kind name ≡ Some n → P n) → IsObject known kind text value
    → P (index_of value)
index_in known kind text value P each is = each text (index_of value) is.number_is
