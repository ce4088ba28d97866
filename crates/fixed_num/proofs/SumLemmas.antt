-- Laws of sums over the first so many places.
use Rattle.std.proofs.Common.{◌≡◌, ℕ, zero, suc, ◌+◌, ◌*◌, ◌<◌, ◌≤◌, refl, sym, ap, ◌∙◌, arith, add-one, inl, inr}
use Rattle.std.proofs.Math.Nat.{eq-or-lt_of_le}
use Rattle.std.proofs.lemmas.Bool.Decides.{nat_tests}
use Rattle.fixed_num.specs.Sums.{below, at}

-- one more term
pub below_next : (f : ℕ → ℕ) (n : ℕ) → below f (n + 1) ≡ below f n + f n
below_next f n = rw add-one refl

-- two functions that agree below n have equal sums
pub below_same : (f g : ℕ → ℕ) (n : ℕ) → ((k : ℕ) → k < n → f k ≡ g k) → below f n ≡ below g n
below_same f g zero same = refl
below_same f g (suc n) same =
    let before : below f n ≡ below g n = below_same f g n (λ k h. same k (omega arith)) in
    let here : f n ≡ g n = same n (omega arith) in
    cc

-- the sum of sums
pub below_plus : (f g : ℕ → ℕ) (n : ℕ) → below (λ k. f k + g k) n ≡ below f n + below g n
below_plus f g zero = refl
below_plus f g (suc n) = omega (arith, below_plus f g n)

-- a sum of nothing
pub below_zero : (n : ℕ) → below (λ _. 0) n ≡ 0
below_zero zero = refl
below_zero (suc n) = omega (arith, below_zero n)

-- terms of at most m give a sum of at most m times their number
pub below_most : (f : ℕ → ℕ) (m n : ℕ) → ((k : ℕ) → k < n → f k ≤ m) → below f n ≤ m * n
below_most f m zero most = omega arith
below_most f m (suc n) most =
    omega (arith, below_most f m n (λ k h. most k (omega arith)), most n (omega arith))

-- a sum grows with its length
pub below_grows : (f : ℕ → ℕ) (m n : ℕ) → m ≤ n → below f m ≤ below f n
below_grows f m zero h = let e : m ≡ 0 = omega arith in rw e (omega arith)
below_grows f m (suc n) h =
    elim (eq-or-lt_of_le h) [
      | inl e ↦ rw e (omega arith)
      | inr less ↦ omega (arith, below_grows f m n (omega arith))
    ]

-- two sums may be taken in either order
pub below_swap : (f : ℕ → ℕ → ℕ) (m n : ℕ) → below (λ k. below (f k) n) m ≡ below (λ j. below (λ k. f k j) m) n
below_swap f zero n = sym (below_zero n)
below_swap f (suc m) n =
    ap (λ (x : ℕ). x + below (f m) n) (below_swap f m n)
    ∙ sym (below_plus (λ j. below (λ k. f k j) m) (f m) n)

-- an amount stands at its place
pub at_place : (place amount : ℕ) → at place amount place ≡ amount
at_place place amount = grind (arith, nat_tests)

-- and nowhere else
pub at_other : (place amount n : ℕ) → ¬ (place ≡ n) → at place amount n ≡ 0
at_other place amount n differ = grind (arith, nat_tests)

-- an amount isn't counted by a sum that ends before its place
pub at_never : (place amount n : ℕ) → n ≤ place → below (at place amount) n ≡ 0
at_never place amount zero h = refl
at_never place amount (suc n) h =
    let before : below (at place amount) n ≡ 0 = at_never place amount n (omega arith) in
    let here : at place amount n ≡ 0 = at_other place amount n (λ e. omega arith) in
    omega arith

-- and is counted once by one that goes past it
pub at_once : (place amount n : ℕ) → place < n → below (at place amount) n ≡ amount
at_once place amount zero h = absurd (omega arith)
at_once place amount (suc n) h =
    let within : place ≤ n = omega arith in
    elim (eq-or-lt_of_le within) [
      | inl e ↦
          let here : at place amount n ≡ amount = ap (at place amount) (sym e) ∙ at_place place amount in
          omega (arith, at_never place amount n (omega arith))
      | inr less ↦
          let here : at place amount n ≡ 0 = at_other place amount n (λ e. omega arith) in
          omega (arith, at_once place amount n less)
    ]
