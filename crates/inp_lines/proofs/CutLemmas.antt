use Rattle.std.proofs.Common.{◌≡◌, ◌∷◌, ◌++◌, [], ◌≤◌, ◌<◌, length, ℕ, zero, suc, List, take}
use Rattle.std.proofs.Common.{refl, ap, sym, ◌∙◌, arith, append-nil, length-append, length-take}
use Rattle.std.proofs.lemmas.List.{take_all, take-append-le}

-- one more where there is room
pub cut_room : {A : Type 0} (n : ℕ) (xs : List A) (x : A) → length xs < n → take n (xs ++ x ∷ []) ≡ xs ++ x ∷ []
cut_room n xs x h = take_all n (xs ++ x ∷ []) (omega (arith, length-append xs (x ∷ [])))

-- nothing more where there is none
pub cut_full : {A : Type 0} (n : ℕ) (xs ys : List A) → length xs ≤ n → n ≤ length xs → take n (xs ++ ys) ≡ xs
cut_full n xs ys h k = take-append-le n xs ys k ∙ take_all n xs h

-- cutting before more is added changes nothing of what is kept
pub cut_cut : {A : Type 0} (n : ℕ) (xs ys : List A) → take n (take n xs ++ ys) ≡ take n (xs ++ ys)
cut_cut zero xs ys = refl
cut_cut (suc n) [] ys = refl
cut_cut (suc n) (x ∷ xs) ys = ap (λ l. x ∷ l) (cut_cut n xs ys)

-- a list is empty exactly where its cut is
pub cut_empty : {A : Type 0} (n : ℕ) (xs : List A) → take (suc n) xs ≡ [] → xs ≡ []
cut_empty n [] h = refl
cut_empty n (x ∷ xs) h = cc

pub cut_short : {A : Type 0} (n : ℕ) (xs ys : List A) → ys ≡ take n xs → length ys ≤ n
cut_short n xs ys h = rw h (omega (arith, length-take n xs))

-- cutting a short list changes nothing
pub cut_nothing : {A : Type 0} (n : ℕ) (xs : List A) → length xs ≤ n → xs ≡ take n (xs ++ [])
cut_nothing n xs h = sym (ap (take n) (append-nil xs) ∙ take_all n xs h)
