-- The items of a line: read one by one they are what the definition says, and they mean their values.
use Rattle.std.proofs.Common.{◌≡◌, ◌↔◌, ◌<◌, ◌≤◌, ◌+◌, ◌++◌, ◌∷◌, [], ℕ, zero, suc, Bool, true, false, cond, nat_lt}
use Rattle.std.proofs.Common.{List, length, take, drop, get_or, set, length-set, refl, ap, sym, subst, ◌∙◌, arith}
use Rattle.std.proofs.Common.{append-nil, append_assoc, Option, None, Some, Result, Ok, Err}
use Rattle.std.proofs.lemmas.Bool.Decides.{nat_tests}
use Rattle.std.proofs.lemmas.Grind.{take-set_at}
use Rattle.std.proofs.lemmas.List.{drop_all, take_all}
use Rattle.inp_lines.specs.declared.fault.Fault.{Fault}
use Rattle.inp_lines.specs.declared.names.Naming.{Naming}
use Rattle.inp_lines.specs.declared.names.Naming.TheVariants.{First, Repeated, OverLimit}
use Rattle.inp_lines.specs.Faults.{token_at, too_few_of}
use Rattle.inp_lines.specs.Readings.{and_then, new_name_of}
use Rattle.inp_forms.specs.declared.item.Item.{Item}
use Rattle.inp_forms.specs.declared.item.Item.TheVariants.{Needed, Or}
use Rattle.inp_forms.specs.declared.item.Value.{Value}
use Rattle.inp_forms.specs.declared.item.What.{What}
use Rattle.inp_forms.specs.Context.{Context}
use Rattle.inp_forms.specs.Items.{item_of, items_of, least_of, values_of}
use Rattle.inp_forms.specs.Meaning.{IsValue, IsItem, AreItems, AreValues}
use Rattle.inp_forms.specs.Values.{checked, found_of, is_own, value_from, value_of, wrong_of}
use Rattle.inp_forms.proofs.ValueLemmas.{found_means, means_found}

-- ---- the walk over the places
-- what is read when the items from a place on are read too
unfoldable pub left_to_read : Context → Naming → List Item → List (List ℕ) → ℕ → List Value → Result (List Value) Fault
left_to_read known naming items tokens place values = and_then (items_of known naming (drop place items) tokens place)
    (λ rest. Ok (take place values ++ rest))

pub record ReadSoFar (known : Context) (naming : Naming) (items : List Item) (tokens : List (List ℕ)) (place : ℕ)
    (values : List Value) : Type 0 where
  pub whole : items_of known naming items tokens 0 ≡ left_to_read known naming items tokens place values
  pub count : length values ≡ length items

ok_again : (r : Result (List Value) Fault) → r ≡ and_then r (λ rest. Ok rest)
ok_again (Ok rest) = refl
ok_again (Err fault) = refl

pub read_none : (known : Context) (naming : Naming) (items : List Item) (tokens : List (List ℕ)) (values : List Value)
    → length values ≡ length items → ReadSoFar known naming items tokens 0 values
unfolding left_to_read
read_none known naming items tokens values e = record {
  whole = ok_again
      (items_of known naming items tokens 0);
  count = e;
}

get_here : (items : List Item) (place : ℕ) (a b : Item) → place < length items
    → get_or items place a ≡ get_or items place b
get_here [] place a b h = absurd (omega (arith, h))
get_here (x ∷ items) zero a b h = refl
get_here (x ∷ items) (suc place) a b h = get_here items place a b (omega (arith, h))

drop_here : (items : List Item) (place : ℕ) (item : Item) → place < length items → item ≡ get_or items place item
    → drop place items ≡ item ∷ drop (place + 1) items
drop_here [] place item h e = absurd (omega (arith, h))
drop_here (x ∷ items) zero item h e = ap (λ y. y ∷ items) (sym e)
drop_here (x ∷ items) (suc place) item h e = drop_here items place item (omega (arith, h)) e
    ∙ ap (λ n. item ∷ drop n (x ∷ items)) (next place) where
      next : (n : ℕ) → suc (n + 1) ≡ suc n + 1
      next n = omega arith

one_more : (held : List Value) (value : Value) (r : Result (List Value) Fault)
    → and_then (and_then r (λ values. Ok (value ∷ values))) (λ rest. Ok (held ++ rest)) ≡ and_then r (λ rest. Ok
    ((held ++ value ∷ []) ++ rest))
one_more held value (Ok rest) = ap (λ l. Ok l) (sym (append_assoc held (value ∷ []) rest))
one_more held value (Err fault) = refl

and_ok : {A B : Type 0} (r : Result A Fault) (a : A) (f : A → Result B Fault) → r ≡ Ok a → and_then r f ≡ f a
and_ok r a f e = ap (λ x. and_then x f) e

and_err : {A B : Type 0} (r : Result A Fault) (fault : Fault) (f : A → Result B Fault) → r ≡ Err fault
    → and_then r f ≡ Err fault
and_err r fault f e = ap (λ x. and_then x f) e

module _ (known : Context) (naming : Naming) (items : List Item) (tokens : List (List ℕ)) (place : ℕ)
    (values : List Value) (so_far : ReadSoFar known naming items tokens place values) (default : Item)
    (h : place < length items) where
  abbrev pub item_here : Item
  item_here = get_or items place default

  at : item_here ≡ get_or items place item_here
  at = get_here items place default item_here h

  here : items_of known naming (drop place items) tokens place ≡ and_then
      (item_of known naming item_here tokens place) (λ value. and_then (items_of known naming (drop
      (place + 1) items) tokens (place + 1)) (λ more. Ok (value ∷ more)))
  unfolding items_of
  here = ap (λ l. items_of known naming l tokens place) (drop_here items place item_here h at)

  pub read_one : (value : Value) → item_of known naming item_here tokens place ≡ Ok value
      → ReadSoFar known naming items tokens (place + 1) (set values place value)
  unfolding left_to_read
  read_one value e =
      let below : place < length values = omega (arith, h, so_far.count) in
      let rest = items_of known naming (drop (place + 1) items) tokens (place + 1) in
      record {
        whole = so_far.whole
            ∙ (ap (λ r. and_then r (λ rest. Ok (take place values ++ rest))) (here
            ∙ and_ok (item_of known naming item_here tokens place) value (λ value. and_then rest (λ more. Ok
            (value ∷ more))) e)
            ∙ (one_more (take place values) value rest
            ∙ ap (λ l. and_then rest (λ more. Ok (l ++ more))) (sym (take-set_at values place
            (place + 1) value refl below))));
        count = length-set values place value ∙ so_far.count;
      }

  pub read_fault : (fault : Fault) → item_of known naming item_here tokens place ≡ Err fault
      → items_of known naming items tokens 0 ≡ Err fault
  unfolding left_to_read
  read_fault fault e =
      let rest = items_of known naming (drop (place + 1) items) tokens (place + 1) in
      so_far.whole ∙ ap (λ r. and_then r (λ rest. Ok (take place values ++ rest))) (here
      ∙ and_err (item_of known naming item_here tokens place) fault (λ value. and_then rest (λ more. Ok
      (value ∷ more))) e)

pub read_all : (known : Context) (naming : Naming) (items : List Item) (tokens : List (List ℕ)) (place : ℕ)
    (values : List Value) → ReadSoFar known naming items tokens place values → length items ≤ place
    → items_of known naming items tokens 0 ≡ Ok values
unfolding left_to_read items_of
read_all known naming items tokens place values so_far h =
    so_far.whole
    ∙ (ap (λ l. and_then (items_of known naming l tokens place) (λ rest. Ok (take place values ++ rest)))
    (drop_all place items h)
    ∙ (ap (λ l. Ok l) (append-nil (take place values)) ∙ ap (λ l. Ok l) (take_all place values (omega
    (arith, h, so_far.count)))))

-- a line with enough items is read by its items
pub values_read_by : (known : Context) (naming : Naming) (items : List Item) (tokens : List (List ℕ)) (r : Result
    (List Value) Fault) {least : ℕ} → least ≤ length tokens → least ≡ least_of items
    → items_of known naming items tokens 0 ≡ r → r ≡ values_of known naming items tokens
unfolding values_of
values_read_by known naming items tokens r {least} h e is =
    let no : nat_lt (length tokens) (least_of items) ≡ false = grind (arith, nat_tests) in
    sym is ∙ ap (λ b. cond b (Err (too_few_of tokens)) (items_of known naming items tokens 0)) (sym no)

-- ---- what is read is what is meant
checked_value : (naming : Naming) (item : What) (value made : Value) → checked naming item value ≡ Ok made
    → value ≡ made
checked_value naming item value made e = go (is_own item) naming e where
  go : (b : Bool) (naming : Naming) → cond b (and_then (new_name_of naming) (λ _. Ok value)) (Ok value) ≡ Ok made
      → value ≡ made
  go true First e = cc
  go true Repeated e = absurd (cc)
  go true OverLimit e = absurd (cc)
  go false naming e = cc

checked_first : (item : What) (value : Value) → checked First item value ≡ Ok value
checked_first item value = go (is_own item) where
  go : (b : Bool) → cond b (and_then (new_name_of First) (λ _. Ok value)) (Ok value) ≡ Ok value
  go true = refl
  go false = refl

value_means : (known : Context) (naming : Naming) (item : What) (text : List ℕ) (place : ℕ) (value : Value)
    → value_of known naming item text place ≡ Ok value → IsValue known item text value
unfolding value_of
value_means known naming item text place value e = go (found_of known item text) refl e where
  go : (o : Option Value) → found_of known item text ≡ o → value_from naming item
      (wrong_of known item text) place o ≡ Ok value → IsValue known item text value
  go None t e = absurd (cc)
  go (Some found) t e = found_means known item text value (t ∙ ap (λ v. Some v)
      (checked_value naming item found value e))

means_value : (known : Context) (item : What) (text : List ℕ) (place : ℕ) (value : Value)
    → IsValue known item text value → value_of known First item text place ≡ Ok value
unfolding value_of
means_value known item text place value is = ap (value_from First item (wrong_of known item text) place)
    (means_found known item text value is) ∙ checked_first item value

item_means : (known : Context) (naming : Naming) (item : Item) (tokens : List (List ℕ)) (place : ℕ) (value : Value)
    → item_of known naming item tokens place ≡ Ok value → IsItem known item tokens place value
item_means known naming (Needed item) tokens place value e = value_means known naming item
    (token_at tokens place) place value e
item_means known naming (Or missing item) tokens place value e = go (nat_lt place (length tokens)) refl e where
  go : (b : Bool) → nat_lt place (length tokens) ≡ b → cond b (value_of known naming item
      (token_at tokens place) place) (Ok missing) ≡ Ok value → IsItem known (Or missing item) tokens place value
  go true t e = let h : place < length tokens = grind (arith, nat_tests)
      in record {
        there = λ _. value_means known naming item (token_at tokens place) place value e;
        absent = λ k.
            absurd (omega (arith, h, k));
      }
  go false t e = let h : length tokens ≤ place = grind (arith, nat_tests) in let same : missing ≡ value = cc
      in record { there = λ k. absurd (omega (arith, h, k)); absent = λ _. sym same }

means_item : (known : Context) (item : Item) (tokens : List (List ℕ)) (place : ℕ) (value : Value)
    → IsItem known item tokens place value → item_of known First item tokens place ≡ Ok value
means_item known (Needed item) tokens place value is = means_value known item (token_at tokens place) place value is
means_item known (Or missing item) tokens place value is = go (nat_lt place (length tokens)) refl where
  go : (b : Bool) → nat_lt place (length tokens) ≡ b → cond b (value_of known First item
      (token_at tokens place) place) (Ok missing) ≡ Ok value
  go true t = let h : place < length tokens = grind (arith, nat_tests) in means_value known item
      (token_at tokens place) place value (is.there h)
  go false t = let h : length tokens ≤ place = grind (arith, nat_tests) in ap (λ v. Ok v) (sym (is.absent h))

items_mean : (known : Context) (naming : Naming) (items : List Item) (tokens : List (List ℕ)) (place : ℕ)
    (values : List Value) → items_of known naming items tokens place ≡ Ok values
    → AreItems known items tokens place values
unfolding items_of
items_mean known naming [] tokens place [] e = tt
items_mean known naming [] tokens place (value ∷ values) e = absurd (cc)
items_mean known naming (item ∷ items) tokens place values e = first (item_of known naming item tokens place) refl
    (items_of known naming items tokens (place + 1)) refl values e (items_mean known naming items tokens
    (place + 1)) where
      first : (r : Result Value Fault) → item_of known naming item tokens place ≡ r → (s : Result (List Value) Fault)
          → items_of known naming items tokens (place + 1) ≡ s → (values : List Value)
          → and_then r (λ value. and_then s (λ more. Ok (value ∷ more))) ≡ Ok values
          → ((more : List Value) → items_of known naming items tokens (place + 1) ≡ Ok more
          → AreItems known items tokens (place + 1) more)
          → AreItems known (item ∷ items) tokens place values
      first (Err fault) t s u values e more_mean = absurd (cc)
      first (Ok value) t (Err fault) u values e more_mean = absurd (cc)
      first (Ok value) t (Ok more) u values e more_mean = let same : value ∷ more ≡ values = cc in
          subst (AreItems known (item ∷ items) tokens place) same (
            item_means known naming item tokens place value t,
            more_mean more u,
          )

mean_items : (known : Context) (items : List Item) (tokens : List (List ℕ)) (place : ℕ) (values : List Value)
    → AreItems known items tokens place values → items_of known First items tokens place ≡ Ok values
unfolding items_of
mean_items known [] tokens place [] are = refl
mean_items known [] tokens place (value ∷ values) are = absurd are
mean_items known (item ∷ items) tokens place [] are = absurd are
mean_items known (item ∷ items) tokens place (value ∷ values) are =
    ap (λ r. and_then r (λ value. and_then (items_of known First items tokens (place + 1)) (λ more. Ok
    (value ∷ more)))) (means_item known item tokens place value are.0)
    ∙ ap (λ s. and_then s (λ more. Ok (value ∷ more))) (mean_items known items tokens (place + 1) values are.1)

pub values_mean : (known : Context) (naming : Naming) (items : List Item) (tokens : List (List ℕ))
    (values : List Value) → values_of known naming items tokens ≡ Ok values → AreValues known items tokens values
unfolding values_of
values_mean known naming items tokens values e = go (nat_lt (length tokens) (least_of items)) refl e where
  go : (b : Bool) → nat_lt (length tokens) (least_of items) ≡ b → cond b (Err (too_few_of tokens))
      (items_of known naming items tokens 0) ≡ Ok values → AreValues known items tokens values
  go true t e = absurd (cc)
  go false t e = record { enough = grind (arith, nat_tests); each = items_mean known naming items tokens 0 values e }

pub mean_values : (known : Context) (items : List Item) (tokens : List (List ℕ)) (values : List Value)
    → AreValues known items tokens values → values_of known First items tokens ≡ Ok values
unfolding values_of
mean_values known items tokens values are =
    let enough = are.enough in
    let no : nat_lt (length tokens) (least_of items) ≡ false = grind (arith, nat_tests) in
    ap (λ b. cond b (Err (too_few_of tokens)) (items_of known First items tokens 0)) no
    ∙ mean_items known items tokens 0 values are.each

pub values_read : (known : Context) (items : List Item) (tokens : List (List ℕ)) (values : List Value)
    → values_of known First items tokens ≡ Ok values ↔ AreValues known items tokens values
values_read known items tokens values = (
  values_mean known First items tokens values,
  mean_values known items tokens
      values,
)

ok_same : (a b : List Value) → (let left : Result (List Value) Fault = Ok a
    in let right : Result (List Value) Fault = Ok b in left ≡ right) → a ≡ b
ok_same a b e = cc

-- items mean one list of values
pub values_unique : (known : Context) (items : List Item) (tokens : List (List ℕ)) (a b : List Value)
    → AreValues known items tokens a → AreValues known items tokens b → a ≡ b
values_unique known items tokens a b p q = let x = mean_values known items tokens a p
    in let y = mean_values known items tokens b q in ok_same a b (sym x ∙ y)
