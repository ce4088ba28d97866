-- Lists that are made item after item.
use Rattle.std.proofs.Common.{◌≡◌, ◌∙◌, ℕ, ◌+◌, ◌<◌, List, [], ◌∷◌, ◌++◌, length, take, map, get_or, ap, sym, subst, arith, rules}
use Rattle.std.specs.List.{All, range_with_len}
use Rattle.std.proofs.lemmas.List.{take_more, map-append, get_or_default}
use Rattle.std.proofs.lemmas.List.Elements.{All-append, All-get_or}
use Rattle.std.proofs.lemmas.List.FromFn.{get_or-map-range_with_len, length-map-range_with_len, take-map-range_with_len}

-- an item that was read from a list of which all have a property
pub item_in : {X : Type 0} (P : X → Type 0) (xs : List X) (i : ℕ) (x : X) → i < length xs → x ≡ get_or xs i x → All P xs → P x
item_in P xs i x h e all = subst P (sym e) (All-get_or P xs i x h all)

-- an item that was read from a list, at any default
pub read_at : {X : Type 0} (xs ys : List X) (i : ℕ) (x d : X) → ys ≡ xs → i < length xs → x ≡ get_or ys i x → x ≡ get_or xs i d
read_at xs ys i x d e h is = is ∙ (ap (λ l. get_or l i x) e ∙ get_or_default xs i x d h)

pub read_default : {X : Type 0} (xs ys : List X) (i : ℕ) (d e : X) → ys ≡ xs → i < length xs → get_or ys i d ≡ get_or xs i e
read_default xs ys i d e same h = ap (λ l. get_or l i d) same ∙ get_or_default xs i d e h

-- one item more of the list f 0, f 1, ..
range_more : {X : Type 0} (f : ℕ → X) (n : ℕ) → map f (range_with_len 0 (n + 1)) ≡ map f (range_with_len 0 n) ++ f n ∷ []
range_more f n =
    let all = map f (range_with_len 0 (n + 1)) in
    let long : n < length all = omega (arith, length-map-range_with_len f 0 (n + 1)) in
    sym (take-map-range_with_len f 0 (n + 1) (n + 1) (omega arith))
    ∙ (take_more all n (f n) long
    ∙ (ap (λ l. l ++ get_or all n (f n) ∷ []) (take-map-range_with_len f 0 (n + 1) n (omega arith))
    ∙ ap (λ x. map f (range_with_len 0 n) ++ x ∷ []) (get_or-map-range_with_len f 0 (n + 1) n n (f n) (omega arith) (omega arith))))

pub range_step : {X : Type 0} (f : ℕ → X) (n : ℕ) (before after : List X) (x : X) → before ≡ map f (range_with_len 0 n) → x ≡ f n → after ≡ before ++ x ∷ [] → after ≡ map f (range_with_len 0 (n + 1))
range_step f n before after x was is step =
    step ∙ (ap (λ l. l ++ x ∷ []) was ∙ (ap (λ y. map f (range_with_len 0 n) ++ y ∷ []) is ∙ sym (range_more f n)))

-- one item more of the images of a list
pub map_step : {X Y : Type 0} (f : X → Y) (xs : List X) (i : ℕ) (x : X) (before after : List Y) (y : Y) → i < length xs → x ≡ get_or xs i x
    → before ≡ map f (take i xs) → y ≡ f x → after ≡ before ++ y ∷ [] → after ≡ map f (take (i + 1) xs)
map_step f xs i x before after y h e was is step =
    let more : take (i + 1) xs ≡ take i xs ++ x ∷ [] = take_more xs i x h ∙ ap (λ z. take i xs ++ z ∷ []) (sym e) in
    step ∙ (ap (λ l. l ++ y ∷ []) was ∙ (ap (λ z. map f (take i xs) ++ z ∷ []) is ∙ sym (ap (map f) more ∙ map-append f (take i xs) (x ∷ []))))

-- one item more of a copy
pub copy_step : {X : Type 0} (xs : List X) (i : ℕ) (x : X) (before after : List X) (y : X) → i < length xs → x ≡ get_or xs i x
    → before ≡ take i xs → y ≡ x → after ≡ before ++ y ∷ [] → after ≡ take (i + 1) xs
copy_step xs i x before after y h e was is step =
    let more : take (i + 1) xs ≡ take i xs ++ x ∷ [] = take_more xs i x h ∙ ap (λ z. take i xs ++ z ∷ []) (sym e) in
    step ∙ (ap (λ l. l ++ y ∷ []) was ∙ (ap (λ z. take i xs ++ z ∷ []) is ∙ sym more))

-- one item more with a property that all have
pub all_step : {X : Type 0} (P : X → Type 0) (before after : List X) (x : X) → All P before → P x → after ≡ before ++ x ∷ [] → All P after
all_step P before after x all h step = subst (All P) (sym step) (All-append P before (x ∷ []) all (one P x h))
  where
    one : {X : Type 0} (P : X → Type 0) (x : X) → P x → All P (x ∷ [])
    one P x h = search rules
