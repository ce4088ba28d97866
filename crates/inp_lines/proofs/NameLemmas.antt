use Rattle.std.proofs.Common.{◌≡◌, ◌∷◌, ◌++◌, [], ◌≤◌, ◌<◌, length, ℕ, ◌+◌, List, Bool, true, false}
use Rattle.std.proofs.Common.{cond, Option, Some, None, refl, ap, sym, ◌∙◌, arith, subst, ◌||◌}
use Rattle.std.proofs.Common.{nat_le, nat_lt, bytes_eq, append_assoc, length-append, append-nil}
use Rattle.std.proofs.Common.{is_some, option_to_list, take, drop, get_or, take-append-drop}
use Rattle.std.proofs.lemmas.List.{take_more}
use Rattle.std.specs.List.{list_any, position_from}
use Rattle.std.specs.Map.{update}
use Rattle.std.proofs.lemmas.Slice.Eq.{bytes_eq-Decides}
use Rattle.std.proofs.lemmas.Bool.Decides.{nat_tests}
use Rattle.inp_lines.specs.declared.line.Line.{Line}
use Rattle.inp_lines.specs.declared.names.Naming.{Naming}
use Rattle.inp_lines.specs.declared.names.Naming.TheVariants.{First, OverLimit}
use Rattle.inp_lines.specs.Names.{is_repeat, with_first, firsts_after, firsts, names_of, defined, with_name}
use Rattle.inp_lines.specs.Names.{naming_of, count_with, count_after, number_in, is_below, naming_by, naming_among}
use Rattle.fixed_num.specs.declared.constants.TheConstants.{RECORD_LIMIT}

-- what passes nowhere in a list is in no front of it
pub placed_some : {K : Type 0} (p : K → Bool) (from k : ℕ) (xs ys : List K) → position_from p from xs ≡ Some k → position_from p from (xs ++ ys) ≡ Some k
placed_some p from k [] ys h = cc
placed_some p from k (x ∷ xs) ys h = step (p x) h (placed_some p (from + 1) k xs ys) where
  step : (b : Bool) → cond b (Some from) (position_from p (from + 1) xs) ≡ Some k → (position_from p (from + 1) xs ≡ Some k → position_from p (from + 1) (xs ++ ys) ≡ Some k) → cond b (Some from) (position_from p (from + 1) (xs ++ ys)) ≡ Some k
  step true e more = e
  step false e more = more e

pub placed_none : {K : Type 0} (p : K → Bool) (from n : ℕ) (xs : List K) (x : K) → n ≡ from + length xs → position_from p from xs ≡ None → position_from p from (xs ++ x ∷ []) ≡ cond (p x) (Some n) None
placed_none p from n [] x e h = ap (λ k. cond (p x) (Some k) None) (omega arith)
placed_none p from n (y ∷ xs) x e h = step (p y) h (placed_none p (from + 1) n xs x (omega arith)) where
  step : (b : Bool) → cond b (Some from) (position_from p (from + 1) xs) ≡ None → (position_from p (from + 1) xs ≡ None → position_from p (from + 1) (xs ++ x ∷ []) ≡ cond (p x) (Some n) None) → cond b (Some from) (position_from p (from + 1) (xs ++ x ∷ [])) ≡ cond (p x) (Some n) None
  step true d more = cc
  step false d more = more d

-- a place is found exactly where some item passes
pub placed_any : {K : Type 0} (p : K → Bool) (from : ℕ) (xs : List K) → is_some (position_from p from xs) ≡ list_any p xs
placed_any p from [] = refl
placed_any p from (x ∷ xs) = step (p x) (placed_any p (from + 1) xs) where
  step : (b : Bool) → is_some (position_from p (from + 1) xs) ≡ list_any p xs → is_some (cond b (Some from) (position_from p (from + 1) xs)) ≡ (b || list_any p xs)
  step true e = refl
  step false e = e

-- a number below a bound that no place goes under
pub below_none : {K : Type 0} (p : K → Bool) (from n : ℕ) (xs : List K) → n ≤ from → is_below (position_from p from xs) n ≡ false
below_none p from n [] h = refl
below_none p from n (x ∷ xs) h = step (p x) (below_none p (from + 1) n xs (omega arith)) where
  step : (b : Bool) → is_below (position_from p (from + 1) xs) n ≡ false → is_below (cond b (Some from) (position_from p (from + 1) xs)) n ≡ false
  step true e = grind (arith, nat_tests)
  step false e = e

pub below_placed : {K : Type 0} (p : K → Bool) (from n : ℕ) (xs ys : List K) → n ≡ from + length xs → is_below (position_from p from (xs ++ ys)) n ≡ list_any p xs
below_placed p from n [] ys h = below_none p from n ys (omega arith)
below_placed p from n (x ∷ xs) ys h = step (p x) (below_placed p (from + 1) n xs ys (omega arith)) where
  step : (b : Bool) → is_below (position_from p (from + 1) (xs ++ ys)) n ≡ list_any p xs → is_below (cond b (Some from) (position_from p (from + 1) (xs ++ ys))) n ≡ (b || list_any p xs)
  step true e = grind (arith, nat_tests)
  step false e = e

-- the names that a map holds: those before a count, and the others
pub known_is : (numbers : List ℕ → Option ℕ) (held more : List (List ℕ)) (count : ℕ) (name : List ℕ) → numbers ≡ number_in (held ++ more) → length held ≡ count → is_below (numbers name) count ≡ is_repeat held name
known_is numbers held more count name e h = ap (λ f. is_below (f name) count) e ∙ below_placed (bytes_eq name) 0 count held more (omega arith)

pub naming_is : (numbers : List ℕ → Option ℕ) (held more : List (List ℕ)) (count : ℕ) (name : List ℕ) → numbers ≡ number_in (held ++ more) → length held ≡ count → naming_by (is_below (numbers name) count) count ≡ naming_among held name
naming_is numbers held more count name e h = ap (λ b. naming_by b count) (known_is numbers held more count name e h) ∙ ap (λ n. naming_by (is_repeat held name) n) (sym h)

none_from : {X : Type 0} (o : Option X) → is_some o ≡ false → o ≡ None
none_from None h = refl
none_from (Some x) h = cc

apart_back : (a b : List ℕ) → bytes_eq a b ≡ false → bytes_eq b a ≡ false
apart_back a b h = go (bytes_eq b a) refl where
  go : (c : Bool) → bytes_eq b a ≡ c → c ≡ false
  go false e = refl
  go true e = let same : b ≡ a = (bytes_eq-Decides b a).0 e in let back : bytes_eq a b ≡ true = (bytes_eq-Decides a b).1 (sym same) in cc

-- a new name behind the others
pub number_added : (held : List (List ℕ)) (name : List ℕ) (old new : List ℕ → Option ℕ) (count : ℕ) → old ≡ number_in held → length held ≡ count → is_some (old name) ≡ false → ((q : List ℕ) → new q ≡ update bytes_eq old name (Some count) q) → new ≡ number_in (held ++ name ∷ [])
number_added held name old new count same h fresh more = λ i q. at q i where
  absent : position_from (bytes_eq name) 0 held ≡ None
  absent = none_from _ (ap (λ f. is_some (f name)) (sym same) ∙ fresh)

  found : (q : List ℕ) → (o : Option ℕ) → position_from (bytes_eq q) 0 held ≡ o → bytes_eq q name ≡ false → o ≡ position_from (bytes_eq q) 0 (held ++ name ∷ [])
  found q None e apart = sym (placed_none (bytes_eq q) 0 count held name (omega arith) e ∙ ap (λ b. cond b (Some count) None) apart)
  found q (Some k) e apart = sym (placed_some (bytes_eq q) 0 k held (name ∷ []) e)

  pick : (q : List ℕ) (b : Bool) → bytes_eq name q ≡ b → cond b (Some count) (old q) ≡ position_from (bytes_eq q) 0 (held ++ name ∷ [])
  pick q true e = let eq : name ≡ q = (bytes_eq-Decides name q).0 e in
      let P : List ℕ → Type 0 = λ w. Some count ≡ position_from (bytes_eq w) 0 (held ++ name ∷ []) in
      subst P eq (sym (placed_none (bytes_eq name) 0 count held name (omega arith) absent ∙ ap (λ b. cond b (Some count) None) ((bytes_eq-Decides name name).1 refl)))
  pick q false e = ap (λ f. f q) same ∙ found q (position_from (bytes_eq q) 0 held) refl (apart_back name q e)

  at : (q : List ℕ) → new q ≡ position_from (bytes_eq q) 0 (held ++ name ∷ [])
  at q = more q ∙ pick q (bytes_eq name q) refl

unknown : (held : List (List ℕ)) (name : List ℕ) (old : List ℕ → Option ℕ) (b : Bool) → old ≡ number_in held → is_some (old name) ≡ b → is_repeat held name ≡ b
unknown held name old b same e = sym (placed_any (bytes_eq name) 0 held) ∙ ap (λ f. is_some (f name)) (sym same) ∙ e

-- a name that the list holds, or for which there is no room, adds nothing; another one goes to the end
pub first_known : (held : List (List ℕ)) (name : List ℕ) → is_repeat held name ≡ true → with_first held name ≡ held
unfolding with_first
first_known held name h = ap (λ b. cond (b || nat_le RECORD_LIMIT (length held)) held (held ++ name ∷ [])) h

pub first_full : (held : List (List ℕ)) (name : List ℕ) → RECORD_LIMIT ≤ length held → with_first held name ≡ held
unfolding with_first
first_full held name h = grind (arith, nat_tests)

pub first_new : (held : List (List ℕ)) (name : List ℕ) → is_repeat held name ≡ false → length held < RECORD_LIMIT → with_first held name ≡ held ++ name ∷ []
unfolding with_first
first_new held name e h = grind (arith, nat_tests)

pub numbers_known : (held : List (List ℕ)) (name : List ℕ) (old : List ℕ → Option ℕ) (count : ℕ) → is_some (old name) ≡ true → old ≡ number_in held → length held ≡ count → (old ≡ number_in (with_first held name)) × (length (with_first held name) ≡ count)
numbers_known held name old count e same h = let k = first_known held name (unknown held name old true same e) in
    (same ∙ ap number_in (sym k), ap length k ∙ h)

pub numbers_full : (held : List (List ℕ)) (name : List ℕ) (old : List ℕ → Option ℕ) (count : ℕ) → 20000 ≤ count → old ≡ number_in held → length held ≡ count → (old ≡ number_in (with_first held name)) × (length (with_first held name) ≡ count)
numbers_full held name old count full same h = let k = first_full held name (omega arith) in
    (same ∙ ap number_in (sym k), ap length k ∙ h)

pub numbers_more : (held : List (List ℕ)) (name : List ℕ) (old new : List ℕ → Option ℕ) (count : ℕ) → is_some (old name) ≡ false → count < 20000 → ((q : List ℕ) → new q ≡ update bytes_eq old name (Some count) q) → old ≡ number_in held → length held ≡ count → (new ≡ number_in (with_first held name)) × (length (with_first held name) ≡ count + 1)
numbers_more held name old new count fresh room more same h = let k = first_new held name (unknown held name old false same fresh) (omega arith) in
    (number_added held name old new count same h fresh more ∙ ap number_in (sym k), ap length k ∙ omega (arith, length-append held (name ∷ [])))

-- the names that more lines define
pub firsts_append : (held xs ys : List (List ℕ)) → firsts_after held (xs ++ ys) ≡ firsts_after (firsts_after held xs) ys
unfolding firsts_after
firsts_append held [] ys = refl
firsts_append held (x ∷ xs) ys = firsts_append (with_first held x) xs ys

names_append : (name_of : Line → Option (List ℕ)) (xs ys : List Line) → names_of name_of (xs ++ ys) ≡ names_of name_of xs ++ names_of name_of ys
names_append name_of [] ys = refl
names_append name_of (x ∷ xs) ys = ap (λ l. option_to_list (name_of x) ++ l) (names_append name_of xs ys) ∙ sym (append_assoc (option_to_list (name_of x)) (names_of name_of xs) (names_of name_of ys))

pub defined_append : (name_of : Line → Option (List ℕ)) (xs ys : List Line) → defined name_of (xs ++ ys) ≡ firsts_after (defined name_of xs) (names_of name_of ys)
defined_append name_of xs ys = ap firsts (names_append name_of xs ys) ∙ firsts_append [] (names_of name_of xs) (names_of name_of ys)

one_name : (held : List (List ℕ)) (name : Option (List ℕ)) → firsts_after held (option_to_list name ++ []) ≡ with_name held name
unfolding firsts_after
one_name held None = refl
one_name held (Some name) = refl

pub defined_more : (name_of : Line → Option (List ℕ)) (lines : List Line) (line : Line) → defined name_of (lines ++ line ∷ []) ≡ with_name (defined name_of lines) (name_of line)
defined_more name_of lines line = defined_append name_of lines (line ∷ []) ∙ one_name (defined name_of lines) (name_of line)

pub defined_none : (name_of : Line → Option (List ℕ)) → defined name_of [] ≡ []
unfolding firsts_after
defined_none name_of = refl

first_grows : (held : List (List ℕ)) (name : List ℕ) (b : Bool) → (more : List (List ℕ)) × (cond b held (held ++ name ∷ []) ≡ held ++ more)
first_grows held name true = ([], sym (append-nil held))
first_grows held name false = (name ∷ [], refl)

pub firsts_grow : (held xs : List (List ℕ)) → (more : List (List ℕ)) × (firsts_after held xs ≡ held ++ more)
unfolding firsts_after with_first
firsts_grow held [] = ([], sym (append-nil held))
firsts_grow held (x ∷ xs) = let a = first_grows held x (is_repeat held x || nat_le RECORD_LIMIT (length held)) in
    let b = firsts_grow (with_first held x) xs in
    (a.0 ++ b.0, b.1 ∙ (ap (λ l. l ++ b.0) a.1 ∙ append_assoc held a.0 b.0))

-- the names of the first lines come first
pub defined_split : (name_of : Line → Option (List ℕ)) (before rest : List Line) → (more : List (List ℕ)) × (defined name_of (before ++ rest) ≡ defined name_of before ++ more)
defined_split name_of before rest = let a = firsts_grow (defined name_of before) (names_of name_of rest) in
    (a.0, defined_append name_of before rest ∙ a.1)

-- the count of names after a line
pub count_is : (held : List (List ℕ)) (name : Option (List ℕ)) (count : ℕ) → length held ≡ count → length (with_name held name) ≡ count_after name (naming_of held name) count
count_is held None count h = h
count_is held (Some name) count h = known (is_repeat held name) refl where
  full : (b : Bool) → nat_le RECORD_LIMIT (length held) ≡ b → is_repeat held name ≡ false → length (with_first held name) ≡ count_with (cond b OverLimit First) count
  full true k e = let limit : RECORD_LIMIT ≤ length held = grind (arith, nat_tests) in ap length (first_full held name limit) ∙ h
  full false k e = let room : length held < RECORD_LIMIT = grind (arith, nat_tests) in
      ap length (first_new held name e room) ∙ (length-append held (name ∷ []) ∙ grind (arith, nat_tests))

  known : (b : Bool) → is_repeat held name ≡ b → length (with_first held name) ≡ count_with (naming_by b (length held)) count
  known true e = ap length (first_known held name e) ∙ h
  known false e = full (nat_le RECORD_LIMIT (length held)) refl e

-- one line more in a loop over lines
pub defined_next : (name_of : Line → Option (List ℕ)) (lines : List Line) (i : ℕ) (line : Line) → i < length lines → line ≡ get_or lines i line → defined name_of (take (i + 1) lines) ≡ with_name (defined name_of (take i lines)) (name_of line)
defined_next name_of lines i line h e = ap (λ l. defined name_of l) (take_more lines i line h ∙ ap (λ x. take i lines ++ x ∷ []) (sym e)) ∙ defined_more name_of (take i lines) line

-- the names of all lines begin with those of the lines so far
pub defined_front : (name_of : Line → Option (List ℕ)) (lines : List Line) (i : ℕ) → (more : List (List ℕ)) × (defined name_of lines ≡ defined name_of (take i lines) ++ more)
defined_front name_of lines i = let a = defined_split name_of (take i lines) (drop i lines) in
    (a.0, ap (λ l. defined name_of l) (sym (take-append-drop i lines)) ∙ a.1)

-- for a walk: the names of all lines begin with those of the lines before
pub numbers_split : (name_of : Line → Option (List ℕ)) (numbers : List ℕ → Option ℕ) (before rest : List Line) → numbers ≡ number_in (defined name_of (before ++ rest)) → (more : List (List ℕ)) × (numbers ≡ number_in (defined name_of before ++ more))
numbers_split name_of numbers before rest same = let a = defined_split name_of before rest in (a.0, same ∙ ap number_in a.1)

-- for a walk: the count of names after a line
pub count_push : (name_of : Line → Option (List ℕ)) (before : List Line) (line : Line) (standing : Naming) (count : ℕ) → length (defined name_of before) ≡ count → standing ≡ naming_of (defined name_of before) (name_of line) → length (defined name_of (before ++ line ∷ [])) ≡ count_after (name_of line) standing count
count_push name_of before line standing count h e = ap length (defined_more name_of before line) ∙ (count_is (defined name_of before) (name_of line) count h ∙ ap (λ n. count_after (name_of line) n count) (sym e))

-- the number of a name stays where names are added behind
pub number_kept : (held more : List (List ℕ)) (name : List ℕ) (k : ℕ) → number_in held name ≡ Some k → number_in (held ++ more) name ≡ Some k
number_kept held more name k h = placed_some (bytes_eq name) 0 k held more h

-- the number of a name is a place among the names
pub number_within : (held : List (List ℕ)) (name : List ℕ) (k : ℕ) → number_in held name ≡ Some k → k < length held
number_within held name k h =
    let found : is_repeat held name ≡ true = sym (placed_any (bytes_eq name) 0 held) ∙ ap is_some h in
    let below : is_below (number_in (held ++ []) name) (length held) ≡ true = below_placed (bytes_eq name) 0 (length held) held [] (omega arith) ∙ found in
    let test : nat_lt k (length held) ≡ true = ap (λ o. is_below o (length held)) (sym (number_kept held [] name k h)) ∙ below in
    grind (arith, nat_tests)
