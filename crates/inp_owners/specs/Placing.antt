-- Objects that are changed by what lines say of them. An object's number is its place in its list.
use Rattle.std.specs.Prelude.{◌+◌, ◌==◌, ℕ, zero, suc, List, [], ◌∷◌, if◌then◌else◌}

-- The object of a number, changed by each of what it owns, in order. Source: this project's profile.
abbrev pub changed_by : {O R : Type 0} → (O → ℕ) → (O → R → R) → List O → ℕ → R → R
changed_by number_of change [] number object = object
changed_by number_of change (own ∷ owned) number object =
    changed_by number_of change owned number (if number_of own == number then change own object else object)

-- Objects that are numbered from a number on, each changed by what it owns. Source: this project's profile.
abbrev pub changed_from : {O R : Type 0} → (O → ℕ) → (O → R → R) → ℕ → List O → List R → List R
changed_from number_of change from owned [] = []
changed_from number_of change from owned (object ∷ objects) =
    changed_by number_of change owned from object ∷ changed_from number_of change (from + 1) owned objects

-- All objects of a kind, each changed by what it owns. Source: this project's profile.
abbrev pub with_owned : {O R : Type 0} → (O → ℕ) → (O → R → R) → List O → List R → List R
with_owned number_of change owned objects = changed_from number_of change 0 owned objects

-- The object at a place is changed; past the last none is. Source: this project's profile.
abbrev pub changed_at : {R : Type 0} → (R → R) → ℕ → List R → List R
changed_at change number [] = []
changed_at change zero (object ∷ objects) = change object ∷ objects
changed_at change (suc number) (object ∷ objects) = object ∷ changed_at change number objects
