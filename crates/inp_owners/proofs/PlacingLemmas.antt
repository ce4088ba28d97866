-- Objects and what they own.
use Rattle.std.proofs.Common.{◌≡◌, ◌∷◌, ◌++◌, [], ◌<◌, ◌≤◌, ◌==◌, ◌+◌, ℕ, zero, suc, List, Bool, true, false, length}
use Rattle.std.proofs.Common.{cond, set, take, drop, get_or, length-set, refl, ap, ap₂, sym, ◌∙◌, arith}
use Rattle.std.proofs.lemmas.List.{take_at, take_more}
use Rattle.std.proofs.lemmas.Bool.Decides.{nat_tests}
use Rattle.inp_owners.specs.Placing.{changed_at, changed_by, changed_from, with_owned}

module _ {O R : Type 0} (number_of : O → ℕ) (change : O → R → R) where
  -- what is owned last changes the object last
  changed_push : (owned : List O) (own : O) (number : ℕ) (object : R) → changed_by number_of change (owned ++ own ∷ []) number object
      ≡ cond (number_of own == number) (change own (changed_by number_of change owned number object)) (changed_by number_of change owned number object)
  changed_push [] own number object = refl
  changed_push (first ∷ owned) own number object = changed_push owned own number (cond (number_of first == number) (change first object) object)

  changed_own : (owned : List O) (own : O) (number : ℕ) (object : R) → (number_of own == number) ≡ true
      → changed_by number_of change (owned ++ own ∷ []) number object ≡ change own (changed_by number_of change owned number object)
  changed_own owned own number object h = changed_push owned own number object
      ∙ ap (λ b. cond b (change own (changed_by number_of change owned number object)) (changed_by number_of change owned number object)) h

  changed_other : (owned : List O) (own : O) (number : ℕ) (object : R) → (number_of own == number) ≡ false
      → changed_by number_of change (owned ++ own ∷ []) number object ≡ changed_by number_of change owned number object
  changed_other owned own number object h = changed_push owned own number object
      ∙ ap (λ b. cond b (change own (changed_by number_of change owned number object)) (changed_by number_of change owned number object)) h

  -- objects behind a number stay as they are
  changed_past : (from : ℕ) (owned : List O) (own : O) (objects : List R) → number_of own < from
      → changed_from number_of change from (owned ++ own ∷ []) objects ≡ changed_from number_of change from owned objects
  changed_past from owned own [] h = refl
  changed_past from owned own (object ∷ objects) h = ap₂ (λ x xs. x ∷ xs) (changed_other owned own from object (grind (arith, nat_tests)))
      (changed_past (from + 1) owned own objects (omega (arith, h)))

  -- one more is written at its object's place
  changed_one : (from number : ℕ) (owned : List O) (own : O) (objects : List R) → number_of own ≡ from + number
      → changed_from number_of change from (owned ++ own ∷ []) objects ≡ changed_at (change own) number (changed_from number_of change from owned objects)
  changed_one from number owned own [] e = refl
  changed_one from zero owned own (object ∷ objects) e =
      let here : (number_of own == from) ≡ true = grind (arith, nat_tests) in
      ap₂ (λ x xs. x ∷ xs) (changed_own owned own from object here) (changed_past (from + 1) owned own objects (omega (arith, e)))
  changed_one from (suc number) owned own (object ∷ objects) e =
      ap₂ (λ x xs. x ∷ xs) (changed_other owned own from object (grind (arith, nat_tests)))
      (changed_one (from + 1) number owned own objects (omega (arith, e)))

  changed_none : (from : ℕ) (objects : List R) → objects ≡ changed_from number_of change from [] objects
  changed_none from [] = refl
  changed_none from (object ∷ objects) = ap (λ xs. object ∷ xs) (changed_none (from + 1) objects)

  pub owned_nothing : (objects : List R) → objects ≡ with_owned number_of change [] objects
  owned_nothing objects = changed_none 0 objects

  -- one more in a loop over those that lines give
  pub owned_next : (owned : List O) (i : ℕ) (own : O) (first held more : List R) → i < length owned → own ≡ get_or owned i own
      → held ≡ with_owned number_of change (take i owned) first → more ≡ changed_at (change own) (number_of own) held
      → more ≡ with_owned number_of change (take (i + 1) owned) first
  owned_next owned i own first held more h is at step =
      step ∙ (ap (changed_at (change own) (number_of own)) at
      ∙ (sym (changed_one 0 (number_of own) (take i owned) own first (omega arith))
      ∙ ap (λ l. with_owned number_of change l first) (ap (λ x. take i owned ++ x ∷ []) is ∙ sym (take_more owned i own h))))

  -- what holds of objects as their own lines say, and is kept by what they own, holds of them all
  -- (see `proofs/OwnedLemmas` of the readers)
  pub length-owned : (from : ℕ) (owned : List O) (objects : List R) → length (changed_from number_of change from owned objects) ≡ length objects
  length-owned from owned [] = refl
  length-owned from owned (object ∷ objects) = ap suc (length-owned (from + 1) owned objects)

-- a write at a place
module _ {R : Type 0} (change : R → R) where
  changed_place : (objects : List R) (number : ℕ) (default : R) → changed_at change number objects ≡ set objects number (change (get_or objects number default))
  changed_place [] number default = refl
  changed_place (object ∷ objects) zero default = refl
  changed_place (object ∷ objects) (suc number) default = ap (λ xs. object ∷ xs) (changed_place objects number default)

  unchanged_past : (objects : List R) (number : ℕ) → length objects ≤ number → changed_at change number objects ≡ objects
  unchanged_past [] number h = refl
  unchanged_past (object ∷ objects) zero h = absurd (omega (arith, h))
  unchanged_past (object ∷ objects) (suc number) h = ap (λ xs. object ∷ xs) (unchanged_past objects number (omega (arith, h)))

-- the list once the loan of its items is over
written_whole : {R : Type 0} (xs ys : List R) → length ys ≡ length xs → take (length xs) (ys ++ drop (length ys) xs) ≡ ys
written_whole xs ys h = take_at ys (drop (length ys) xs) (length xs) h

pub written_at : {R : Type 0} (change : R → R) (old lent : List R) (number : ℕ) (new default : R) → lent ≡ old → new ≡ change (get_or lent number default)
    → take (length old) (set lent number new ++ drop (length (set lent number new)) old) ≡ changed_at change number old
written_at change old lent number new default e is =
    written_whole old (set lent number new) (length-set lent number new ∙ ap length e)
    ∙ (ap (set lent number) is ∙ (sym (changed_place change lent number default) ∙ ap (λ l. changed_at change number l) e))

pub written_past : {R : Type 0} (change : R → R) (old lent : List R) (number : ℕ) → lent ≡ old → length lent ≤ number
    → take (length old) (lent ++ drop (length lent) old) ≡ changed_at change number old
written_past change old lent number e h =
    written_whole old lent (ap length e) ∙ (sym (unchanged_past change lent number h) ∙ ap (λ l. changed_at change number l) e)
