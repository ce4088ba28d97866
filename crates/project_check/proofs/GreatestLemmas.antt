-- The greatest of numbers is the greatest of them.
use Rattle.std.proofs.Common.{◌≡◌, ◌∙◌, suc, Bool, true, false, List, [], ◌∷◌, ℤ}
use Rattle.std.proofs.Common.{pos, ◌≤ℤ◌, ◌⊎◌, inl, inr, refl, sym, subst, arith}
use Rattle.std.specs.Prelude.{int_le}
use Rattle.std.specs.Int.{int_max}
use Rattle.std.specs.List.{Contains}
use Rattle.std.proofs.lemmas.Int.{ints, clamps}
use Rattle.std.proofs.lemmas.List.Elements.{All-nil, All-cons, All-weaker}
use Rattle.project_check.specs.FullHeight.{IsGreatest, greatest_of}

from_left : (x y : ℤ) → x ≤ℤ int_max x y
from_left x y = omega (arith, ints, clamps)

from_right : (x y z : ℤ) → z ≤ℤ y → z ≤ℤ int_max x y
from_right x y z h = omega (arith, ints, clamps)

-- a choice is one of the two
either_is : (b : Bool) (x y : ℤ) → int_le x y ≡ b → (int_max x y ≡ x) ⊎ (int_max x y ≡ y)
either_is true x y e = let h : x ≤ℤ y = grind (arith, ints) in inr (omega (arith, ints, clamps))
either_is false x y e = let h : y ≤ℤ x = grind (arith, ints) in inl (omega (arith, ints, clamps))

first_of : (x y : ℤ) (ys : List ℤ) → y ≡ x → Contains (x ∷ ys) y
first_of x y ys e = (0, omega arith, sym e)

later_of : (x y : ℤ) (ys : List ℤ) → Contains ys y → Contains (x ∷ ys) y
later_of x y ys (k, inside, is) = (suc k, omega arith, is)

found : (x m y : ℤ) (ys : List ℤ) → (m ≡ pos 0) ⊎ Contains ys m → (y ≡ x) ⊎ (y ≡ m) → (y ≡ pos 0) ⊎ Contains (x ∷ ys) y
found x m y ys one (inl e) = inr (first_of x y ys e)
found x m y ys (inl z) (inr e) = inl (e ∙ z)
found x m y ys (inr c) (inr e) = inr (later_of x y ys (subst (Contains ys) (sym e) c))

pub greatest_found : (numbers : List ℤ) → IsGreatest numbers (greatest_of numbers)
greatest_found [] = record { least = omega (arith, ints); most = All-nil _; one = inl refl }
greatest_found (x ∷ xs) =
    let m = greatest_of xs in
    let r = greatest_found xs in
    record {
      least = from_right x m (pos 0) r.least;
      most = All-cons (λ y. y ≤ℤ int_max x m) x xs (from_left x m) (All-weaker (λ y. y ≤ℤ m) (λ y. y ≤ℤ int_max x m) (λ y h. from_right x m y h) xs r.most);
      one = found x m (int_max x m) xs r.one (either_is (int_le x m) x m refl);
    }
