-- What holds of objects by their own lines, and is kept by what other lines say of them.
use Rattle.std.proofs.Common.{◌≡◌, ◌∷◌, [], ◌==◌, ◌+◌, ℕ, Bool, true, false, cond, List}
use Rattle.std.specs.List.{All}
use Rattle.std.proofs.lemmas.List.Elements.{All-nil, All-cons, All-head, All-tail}
use Rattle.inp_owners.specs.Placing.{changed_by, changed_from, with_owned}

module _ {O R : Type 0} (number_of : O → ℕ) (change : O → R → R) (P : R → Type 0) (Q : O → Type 0) (keeps : (own : O) (object : R) → Q own → P object → P (change own object)) where
  changed_one : (own : O) (object : R) (b : Bool) → Q own → P object → P (cond b (change own object) object)
  changed_one own object true q p = keeps own object q p
  changed_one own object false q p = p

  changed_in : (owned : List O) (number : ℕ) (object : R) → All Q owned → P object → P (changed_by number_of change owned number object)
  changed_in [] number object qs p = p
  changed_in (own ∷ owned) number object qs p = changed_in owned number (cond (number_of own == number) (change own object) object) (All-tail Q own owned qs)
      (changed_one own object (number_of own == number) (All-head Q own owned qs) p)

  all_changed : (from : ℕ) (owned : List O) (objects : List R) → All Q owned → All P objects → All P (changed_from number_of change from owned objects)
  all_changed from owned [] qs ps = All-nil P
  all_changed from owned (object ∷ objects) qs ps = All-cons P (changed_by number_of change owned from object) (changed_from number_of change (from + 1) owned objects)
      (changed_in owned from object qs (All-head P object objects ps)) (all_changed (from + 1) owned objects qs (All-tail P object objects ps))

  pub all_placed : (owned : List O) (objects : List R) → All Q owned → All P objects → All P (with_owned number_of change owned objects)
  all_placed owned objects qs ps = all_changed 0 owned objects qs ps
