-- The first hundred of a list that grows.
use Rattle.std.proofs.Common.{◌≡◌, ◌∙◌, ℕ, ◌+◌, ◌≤◌, ◌<◌, List, [], ◌∷◌, ◌++◌, length, take, get_or}
use Rattle.std.proofs.Common.{flat_map, length-append, append-nil, refl, ap, sym, rules, inl, inr, arith}
use Rattle.std.specs.List.{range_with_len}
use Rattle.std.proofs.lemmas.Bool.{cases_lt}
use Rattle.std.proofs.lemmas.List.{flat_map_more, length-take, length-take-le}
use Rattle.std.proofs.lemmas.List.{take_all, take_at, take_more, take-append-le}
use Rattle.std.proofs.lemmas.List.FromFn.{get_or-range_with_len, length-range_with_len}

-- what is cut once may be cut again after more is appended
pub cut_again : {A : Type 0} (xs ys : List A) → take 100 (take 100 xs ++ ys) ≡ take 100 (xs ++ ys)
cut_again xs ys = elim (cases_lt (length xs) 100) [
  | inl less ↦ ap (λ l. take 100 (l ++ ys)) (take_all 100 xs (omega (arith, less)))
  | inr more ↦ take_at (take 100 xs) ys 100 (length-take-le 100 xs more) ∙ sym (take-append-le 100 xs ys more)
]

pub cut_room : {A : Type 0} (xs zs : List A) → xs ≡ take 100 zs → length xs ≤ 100
cut_room xs zs e = omega (arith, ap length e, length-take 100 zs)

-- one more of a full list, and of one with room
pub full_is : {A : Type 0} (xs : List A) (y : A) → 100 ≤ length xs → length xs ≤ 100 → xs ≡ take 100 (xs ++ y ∷ [])
full_is xs y h k = sym (take_at xs (y ∷ []) 100 (omega (arith, h, k)))

pub room_is : {A : Type 0} (xs : List A) (y : A) → length xs < 100 → xs ++ y ∷ [] ≡ take 100 (xs ++ y ∷ [])
room_is xs y h = sym (take_all 100 (xs ++ y ∷ []) (omega (arith, h, length-append xs (y ∷ []))))

-- the faults of the first items of a list
pub faults_none : {A B : Type 0} (f : A → List B) (first : List B) (xs : List A) → length first ≤ 100 → first ≡ take 100 (first ++ flat_map f (take 0 xs))
faults_none f first xs h = sym (ap (take 100) (append-nil first) ∙ take_all 100 first h)

pub faults_more : {A B : Type 0} (f : A → List B) (first : List B) (xs : List A) (i : ℕ) (x : A) (faults more : List B) → i < length xs → x ≡ get_or xs i x
    → faults ≡ take 100 (first ++ flat_map f (take i xs)) → more ≡ take 100 (faults ++ f x) → more ≡ take 100 (first ++ flat_map f (take (i + 1) xs))
faults_more f first xs i x faults more h e was step =
    step ∙ (ap (λ l. take 100 (l ++ f x)) was
    ∙ (cut_again (first ++ flat_map f (take i xs)) (f x)
    ∙ ap (take 100) (flat_map_more f first (take i xs) x
    ∙ ap (λ l. first ++ flat_map f l) (ap (λ y. take i xs ++ y ∷ []) e ∙ sym (take_more xs i x h)))))

pub faults_all : {A B : Type 0} (f : A → List B) (first : List B) (xs : List A) (i : ℕ) (faults : List B) → length xs ≤ i
    → faults ≡ take 100 (first ++ flat_map f (take i xs)) → faults ≡ take 100 (first ++ flat_map f xs)
faults_all f first xs i faults h was = was ∙ ap (λ l. take 100 (first ++ flat_map f l)) (take_all i xs h)

-- the same of the first numbers
pub number_is : (count i : ℕ) → i < count → i ≡ get_or (range_with_len 0 count) i i
number_is count i h = sym (get_or-range_with_len 0 count i i h ∙ zero_plus i) where
  zero_plus : (i : ℕ) → 0 + i ≡ i
  zero_plus i = omega arith

pub numbers_are : (count : ℕ) → length (range_with_len 0 count) ≡ count
numbers_are count = length-range_with_len 0 count

-- all parts together
pub parts_joined : {B : Type 0} (general nodes links subs f1 f2 f3 : List B) → f1 ≡ take 100 (general ++ nodes) → f2 ≡ take 100 (f1 ++ links) → f3 ≡ take 100 (f2 ++ subs)
    → f3 ≡ take 100 (general ++ nodes ++ links ++ subs)
parts_joined general nodes links subs f1 f2 f3 e1 e2 e3 =
    e3 ∙ (ap (λ l. take 100 (l ++ subs)) (e2 ∙ (ap (λ l. take 100 (l ++ links)) e1 ∙ cut_again (general ++ nodes) links))
    ∙ cut_again (general ++ nodes ++ links) subs)

pub none_more : {A : Type 0} (xs : List A) → length xs ≤ 100 → xs ≡ take 100 (xs ++ [])
none_more xs h = sym (ap (take 100) (append-nil xs) ∙ take_all 100 xs h)
