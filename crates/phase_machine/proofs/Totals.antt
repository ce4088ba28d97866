-- Sums over lists, and what one seat's change does to them.
use Rattle.std.proofs.Common.{◌≡◌, ℕ, zero, suc, ◌+◌, ◌<◌, ◌≤◌, List, [], ◌∷◌, ◌++◌, length, slice_set, slice_index_or, refl, arith}
use Rattle.phase_machine.specs.Runs.{total}

-- one item more at the end
pub total_end : {A : Type 0} (f : A → ℕ) (xs : List A) (x : A) → total f (xs ++ x ∷ []) ≡ total f xs + f x
total_end f [] x = omega arith
total_end f (y ∷ ys) x = omega (arith, total_end f ys x)

-- functions that agree, or of which one is never more
pub total_same : {A : Type 0} (f g : A → ℕ) (xs : List A) → ((x : A) → f x ≡ g x) → total f xs ≡ total g xs
total_same f g [] same = refl
total_same f g (x ∷ xs) same = omega (arith, same x, total_same f g xs same)

pub total_grows : {A : Type 0} (f g : A → ℕ) (xs : List A) → ((x : A) → f x ≤ g x) → total f xs ≤ total g xs
total_grows f g [] less = omega arith
total_grows f g (x ∷ xs) less = omega (arith, less x, total_grows f g xs less)

pub total_plus : {A : Type 0} (f g : A → ℕ) (xs : List A) → total (λ x. f x + g x) xs ≡ total f xs + total g xs
total_plus f g [] = refl
total_plus f g (x ∷ xs) = omega (arith, total_plus f g xs)

pub total_most : {A : Type 0} (f : A → ℕ) (xs : List A) → ((x : A) → f x ≤ 1) → total f xs ≤ length xs
total_most f [] most = omega arith
total_most f (x ∷ xs) most = omega (arith, most x, total_most f xs most)

pub total_none : {A : Type 0} (f : A → ℕ) (xs : List A) → ((x : A) → f x ≡ 0) → total f xs ≡ 0
total_none f [] none = refl
total_none f (x ∷ xs) none = omega (arith, none x, total_none f xs none)

-- functions that agree on the items of a list, named by their numbers
pub total_at : {A : Type 0} (f g : A → ℕ) (xs : List A) (default : A) → ((i : ℕ) → f (slice_index_or xs i default) ≡ g (slice_index_or xs i default))
    → total f xs ≡ total g xs
total_at f g [] default same = refl
total_at f g (x ∷ xs) default same =
    let here : f x ≡ g x = same 0 in
    omega (arith, here, total_at f g xs default (λ i. same (suc i)))

-- one item is no more than all
pub total_one : {A : Type 0} (f : A → ℕ) (xs : List A) (i : ℕ) (default : A) → i < length xs → f (slice_index_or xs i default) ≤ total f xs
total_one f [] i default h = absurd (omega arith)
total_one f (x ∷ xs) zero default h = omega arith
total_one f (x ∷ xs) (suc i) default h = omega (arith, total_one f xs i default (omega arith))

-- one item changes
pub total_set : {A : Type 0} (f : A → ℕ) (xs : List A) (i : ℕ) (y default : A) → i < length xs
    → total f (slice_set xs i y) + f (slice_index_or xs i default) ≡ total f xs + f y
total_set f [] i y default h = absurd (omega arith)
total_set f (x ∷ xs) zero y default h = omega arith
total_set f (x ∷ xs) (suc i) y default h = omega (arith, total_set f xs i y default (omega arith))

-- a change that leaves f leaves the sum, and one that adds to f adds to the sum
pub total_kept : {A : Type 0} (f : A → ℕ) (xs : List A) (i : ℕ) (y default : A) → i < length xs → f y ≡ f (slice_index_or xs i default)
    → total f (slice_set xs i y) ≡ total f xs
total_kept f xs i y default h same = omega (arith, total_set f xs i y default h, same)

pub total_more : {A : Type 0} (f : A → ℕ) (xs : List A) (i m : ℕ) (y default : A) → i < length xs → f y ≡ f (slice_index_or xs i default) + m
    → total f (slice_set xs i y) ≡ total f xs + m
total_more f xs i m y default h more = omega (arith, total_set f xs i y default h, more)
