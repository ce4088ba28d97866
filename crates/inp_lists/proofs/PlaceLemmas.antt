-- Names that stand once each, and what is kept by their numbers.
use Rattle.std.proofs.Common.{◌≡◌, ◌∷◌, ◌++◌, [], ◌≤◌, ◌<◌, length, ℕ, zero, suc, ◌+◌, ◌-◌, List, Bool, true, false}
use Rattle.std.proofs.Common.{cond, Option, Some, None, refl, ap, ap₂, sym, ◌∙◌, arith, subst, ◌||◌, map, set, get_or}
use Rattle.std.proofs.Common.{nat_le, nat_lt, bytes_eq, append_assoc, length-append, is_some}
use Rattle.std.specs.List.{position_from}
use Rattle.std.proofs.lemmas.Slice.Eq.{bytes_eq-Decides}
use Rattle.std.proofs.lemmas.Bool.Decides.{nat_tests}
use Rattle.fixed_num.specs.declared.constants.TheConstants.{RECORD_LIMIT}
use Rattle.inp_lines.specs.Names.{is_repeat, with_first, number_in, naming_among, naming_by}
use Rattle.inp_lines.proofs.NameLemmas.{first_known, first_full, first_new}
use Rattle.inp_lines.specs.declared.names.Naming.TheVariants as naming
use Rattle.inp_lists.specs.Chains.{is_over}
use Rattle.inp_lists.specs.Holding.{AreApart, AreDistinct, IsApart}

apart_back : (a b : List ℕ) → bytes_eq a b ≡ false → bytes_eq b a ≡ false
apart_back a b h = go (bytes_eq b a) refl where
  go : (c : Bool) → bytes_eq b a ≡ c → c ≡ false
  go false e = refl
  go true e = let same : b ≡ a = (bytes_eq-Decides b a).0 e in let back : bytes_eq a b ≡ true = (bytes_eq-Decides a b).1 (sym same) in cc

-- a name that differs from all of a list isn't among them
or_false : (a b : Bool) → (a || b) ≡ false → (a ≡ false) × (b ≡ false)
or_false true b h = absurd (cc)
or_false false b h = (refl, h)

apart_all : (x : List ℕ) (names : List (List ℕ)) (name : List ℕ) → IsApart x names → bytes_eq name x ≡ false → IsApart x (names ++ name ∷ [])
apart_all x [] name all h = (apart_back name x h, tt)
apart_all x (y ∷ names) name all h = (all.0, apart_all x names name all.1 h)

distinct_push : (names : List (List ℕ)) (name : List ℕ) → AreApart names → is_repeat names name ≡ false → AreApart (names ++ name ∷ [])
distinct_push [] name d h = (tt, tt)
distinct_push (x ∷ names) name d h =
    let two = or_false (bytes_eq name x) (is_repeat names name) h in
    (apart_all x names name d.0 two.0, distinct_push names name d.1 two.1)

-- names stay distinct where one is defined
pub distinct_first : (names : List (List ℕ)) (name : List ℕ) → AreDistinct names → AreDistinct (with_first names name)
distinct_first names name d = go (is_repeat names name) refl where
  full : (b : Bool) → nat_le RECORD_LIMIT (length names) ≡ b → is_repeat names name ≡ false → AreDistinct (with_first names name)
  full true k e = let limit : RECORD_LIMIT ≤ length names = grind (arith, nat_tests) in subst AreDistinct (sym (first_full names name limit)) d
  full false k e = let room : length names < RECORD_LIMIT = grind (arith, nat_tests) in
      subst AreDistinct (sym (first_new names name e room)) (record { distinct = distinct_push names name d.distinct e })

  go : (b : Bool) → is_repeat names name ≡ b → AreDistinct (with_first names name)
  go true e = subst AreDistinct (sym (first_known names name e)) d
  go false e = full (nat_le RECORD_LIMIT (length names)) refl e

-- where a name isn't one too many, it is known or there is room
over_by : (known : Bool) (count : ℕ) → known ≡ false → is_over (naming_by known count) ≡ false → count < RECORD_LIMIT
over_by true count k h = absurd (cc)
over_by false count k h = go (nat_le RECORD_LIMIT count) refl h where
  go : (b : Bool) → nat_le RECORD_LIMIT count ≡ b → is_over (naming_by false count) ≡ false → count < RECORD_LIMIT
  go true e over = let P : Bool → Type 0 = λ b. is_over (cond b naming.OverLimit naming.First) ≡ false in absurd (let bad : true ≡ false = subst P e over in cc)
  go false e over = grind (arith, nat_tests)

pub room_first : (names : List (List ℕ)) (name : List ℕ) → is_repeat names name ≡ false → is_over (naming_among names name) ≡ false → length names < RECORD_LIMIT
room_first names name e h = over_by (is_repeat names name) (length names) e h

-- ---- the number of a name
module _ {A : Type 0} where
  at_from : (f : List ℕ → A) (name : List ℕ) (from k : ℕ) (names : List (List ℕ)) (d : A) → position_from (bytes_eq name) from names ≡ Some k → (from ≤ k) × (get_or (map f names) (k - from) d ≡ f name) × (k < from + length names)
  at_from f name from k [] d h = absurd (cc)
  at_from f name from k (x ∷ names) d h = go (bytes_eq name x) refl h (at_from f name (from + 1) k names d) where
    next : (n : ℕ) → n ≡ k - from → from + 1 ≤ k → get_or (f x ∷ map f names) n d ≡ get_or (map f names) (k - (from + 1)) d
    next zero e le = absurd (omega (arith, e, le))
    next (suc n) e le = ap (λ m. get_or (map f names) m d) (omega (arith, e, le))

    go : (b : Bool) → bytes_eq name x ≡ b → cond b (Some from) (position_from (bytes_eq name) (from + 1) names) ≡ Some k → (position_from (bytes_eq name) (from + 1) names ≡ Some k → (from + 1 ≤ k) × (get_or (map f names) (k - (from + 1)) d ≡ f name) × (k < (from + 1) + length names)) → (from ≤ k) × (get_or (f x ∷ map f names) (k - from) d ≡ f name) × (k < from + length (x ∷ names))
    go true e found more = let same : name ≡ x = (bytes_eq-Decides name x).0 e in let is : from ≡ k = cc in
        let none : k - from ≡ 0 = omega (arith, is) in
        (omega (arith, is), ap (λ n. get_or (f x ∷ map f names) n d) none ∙ ap f (sym same), omega (arith, is))
    go false e found more = let rest = more found in (omega (arith, rest.0), next (k - from) refl rest.0 ∙ rest.1, omega (arith, rest.2))

  -- what is kept at the number of a name is what the name has
  pub at_number : (f : List ℕ → A) (names : List (List ℕ)) (name : List ℕ) (k : ℕ) (d : A) → number_in names name ≡ Some k → (get_or (map f names) k d ≡ f name) × (k < length names)
  at_number f names name k d h = let found = at_from f name 0 k names d h in
      (ap (λ n. get_or (map f names) n d) (omega arith) ∙ found.1, omega (arith, found.2))

  -- values of names that all differ from one
  pub map_other : (f g : List ℕ → A) (name : List ℕ) (names : List (List ℕ)) → IsApart name names → ((q : List ℕ) → bytes_eq q name ≡ false → f q ≡ g q) → map f names ≡ map g names
  map_other f g name [] all same = refl
  map_other f g name (y ∷ names) all same = ap₂ (λ a l. a ∷ l) (same y (apart_back name y all.0)) (map_other f g name names all.1 same)

  set_from : (f g : List ℕ → A) (name : List ℕ) (from k : ℕ) (names : List (List ℕ)) → AreApart names → position_from (bytes_eq name) from names ≡ Some k → ((q : List ℕ) → bytes_eq q name ≡ false → f q ≡ g q) → (from ≤ k) × (set (map f names) (k - from) (g name) ≡ map g names)
  set_from f g name from k [] d h same = absurd (cc)
  set_from f g name from k (x ∷ names) d h same = go (bytes_eq name x) refl h (set_from f g name (from + 1) k names d.1) where
    next : (n : ℕ) → n ≡ k - from → from + 1 ≤ k → set (f x ∷ map f names) n (g name) ≡ f x ∷ set (map f names) (k - (from + 1)) (g name)
    next zero e le = absurd (omega (arith, e, le))
    next (suc n) e le = ap (λ m. f x ∷ set (map f names) m (g name)) (omega (arith, e, le))

    go : (b : Bool) → bytes_eq name x ≡ b → cond b (Some from) (position_from (bytes_eq name) (from + 1) names) ≡ Some k → (position_from (bytes_eq name) (from + 1) names ≡ Some k → ((q : List ℕ) → bytes_eq q name ≡ false → f q ≡ g q) → (from + 1 ≤ k) × (set (map f names) (k - (from + 1)) (g name) ≡ map g names)) → (from ≤ k) × (set (f x ∷ map f names) (k - from) (g name) ≡ g x ∷ map g names)
    go true e found more = let same_name : x ≡ name = sym ((bytes_eq-Decides name x).0 e) in let is : from ≡ k = cc in
        let none : k - from ≡ 0 = omega (arith, is) in
        let others : IsApart name names = subst (λ (n : List ℕ). IsApart n names) same_name d.0 in
        (omega (arith, is), ap (λ n. set (f x ∷ map f names) n (g name)) none ∙ ap₂ (λ a l. a ∷ l) (ap g (sym same_name)) (map_other f g name names others same))
    go false e found more = let rest = more found same in
        (omega (arith, rest.0), next (k - from) refl rest.0 ∙ ap₂ (λ a l. a ∷ l) (same x (apart_back name x e)) rest.1)

  -- the values of names where that of one name alone is another
  pub set_number : (f g : List ℕ → A) (names : List (List ℕ)) (name : List ℕ) (k : ℕ) → AreDistinct names → number_in names name ≡ Some k → ((q : List ℕ) → bytes_eq q name ≡ false → f q ≡ g q) → set (map f names) k (g name) ≡ map g names
  set_number f g names name k d h same = ap (λ n. set (map f names) n (g name)) (omega arith) ∙ (set_from f g name 0 k names d.distinct h same).1
