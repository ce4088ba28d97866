-- Steps of the loops over the items of a line.
use Rattle.std.proofs.Common.{◌≡◌, ◌∷◌, ◌++◌, [], ◌≤◌, length, ℕ, ◌+◌, ◌-◌, List, Bool, true, false, drop}
use Rattle.std.proofs.Common.{Option, Some, None, refl, ap, sym, ◌∙◌, arith, ℤ, option_to_list, append_assoc, append-nil, length-drop, filter_map, nat_le}
use Rattle.std.specs.List.{last_or, cons_option}
use Rattle.std.specs.Option.{option_map, option_or}
use Rattle.std.proofs.lemmas.List.{drop_all}
use Rattle.std.proofs.lemmas.Bool.Decides.{nat_tests}
use Rattle.inp_lines.specs.declared.fault.Fault.{Fault}
use Rattle.inp_series.specs.declared.pairs.Axis.{Axis}
use Rattle.inp_series.specs.Pairs.{amount_of, pair_fault, pair_of, pairs_fault, values_of, x_of, xs_of}
use Rattle.inp_series.specs.PatternLines.{factor_fault, factor_of, factors_fault}

-- the place of the first item behind the first ones of a line
place_of : {A : Type 0} (f : ℕ → List (List ℕ) → Option A) (tokens : List (List ℕ)) (first : ℕ) → ((a b : ℕ) → f a [] ≡ f b []) → f (length tokens - length (drop first tokens)) (drop first tokens) ≡ f first (drop first tokens)
place_of f tokens first none = go (nat_le first (length tokens)) refl where
  go : (b : Bool) → nat_le first (length tokens) ≡ b → f (length tokens - length (drop first tokens)) (drop first tokens) ≡ f first (drop first tokens)
  go true e = let within : first ≤ length tokens = grind (arith, nat_tests) in ap (λ n. f n (drop first tokens)) (omega (arith, length-drop first tokens, within))
  go false e = let past : length tokens ≤ first = grind (arith, nat_tests) in let all = drop_all first tokens past in
      ap (f (length tokens - length (drop first tokens))) all ∙ (none (length tokens - length (drop first tokens)) first ∙ sym (ap (f first) all))

-- ---- pairs
pub pairs_start : (axis : Axis) (last : Option ℤ) (tokens : List (List ℕ)) (first : ℕ) → pairs_fault axis last (length tokens - length (drop first tokens)) (drop first tokens) ≡ pairs_fault axis last first (drop first tokens)
pairs_start axis last tokens first = place_of (pairs_fault axis last) tokens first (λ a b. refl)

pub pairs_step : (axis : Axis) (last : Option ℤ) (count : ℕ) (rest : List (List ℕ)) (x y : List ℕ) (more : List (List ℕ)) → rest ≡ x ∷ y ∷ more → length rest ≤ count → pair_fault axis last (count - length rest) (x_of axis x) (amount_of y) ≡ None → pairs_fault axis (option_or (x_of axis x) last) (count - length more) more ≡ pairs_fault axis last (count - length rest) rest
pairs_step axis last count rest x y more e within none =
    let long : length rest ≡ length more + 2 = ap length e ∙ omega arith in
    sym (ap (pairs_fault axis last (count - length rest)) e
    ∙ (ap (λ o. option_or o (pairs_fault axis (option_or (x_of axis x) last) ((count - length rest) + 2) more)) none
    ∙ ap (λ n. pairs_fault axis (option_or (x_of axis x) last) n more) (omega (arith, long, within))))

pub pairs_found : (axis : Axis) (last : Option ℤ) (place : ℕ) (rest : List (List ℕ)) (x y : List ℕ) (more : List (List ℕ)) (fault : Fault) → rest ≡ x ∷ y ∷ more → pair_fault axis last place (x_of axis x) (amount_of y) ≡ Some fault → Some fault ≡ pairs_fault axis last place rest
pairs_found axis last place rest x y more fault e some =
    sym (ap (pairs_fault axis last place) e ∙ ap (λ o. option_or o (pairs_fault axis (option_or (x_of axis x) last) (place + 2) more)) some)

pub pairs_end : (axis : Axis) (last : Option ℤ) (place : ℕ) (rest : List (List ℕ)) → length rest ≤ 1 → None ≡ pairs_fault axis last place rest
pairs_end axis last place [] h = refl
pairs_end axis last place (x ∷ []) h = refl
pairs_end axis last place (x ∷ y ∷ rest) h = absurd (omega (arith, h))

last_later : (x last : Option ℤ) (xs : List ℤ) → last_or (option_or x last) xs ≡ last_or last (option_to_list x ++ xs)
last_later None last xs = refl
last_later (Some x) last xs = refl

pub last_step : (axis : Axis) (last : Option ℤ) (rest : List (List ℕ)) (x y : List ℕ) (more : List (List ℕ)) → rest ≡ x ∷ y ∷ more → last_or (option_or (x_of axis x) last) (xs_of axis more) ≡ last_or last (xs_of axis rest)
last_step axis last rest x y more e = last_later (x_of axis x) last (xs_of axis more) ∙ sym (ap (λ l. last_or last (xs_of axis l)) e)

pub last_end : (axis : Axis) (last : Option ℤ) (rest : List (List ℕ)) → length rest ≤ 1 → last ≡ last_or last (xs_of axis rest)
last_end axis last [] h = refl
last_end axis last (x ∷ []) h = refl
last_end axis last (x ∷ y ∷ rest) h = absurd (omega (arith, h))

pub values_step : (axis : Axis) (pairs : List (ℤ × ℤ)) (rest : List (List ℕ)) (x y : List ℕ) (more : List (List ℕ)) → rest ≡ x ∷ y ∷ more → (pairs ++ pair_of (x_of axis x) (amount_of y)) ++ values_of axis more ≡ pairs ++ values_of axis rest
values_step axis pairs rest x y more e = append_assoc pairs (pair_of (x_of axis x) (amount_of y)) (values_of axis more) ∙ sym (ap (λ l. pairs ++ values_of axis l) e)

pub values_end : (axis : Axis) (pairs : List (ℤ × ℤ)) (rest : List (List ℕ)) → length rest ≤ 1 → pairs ≡ pairs ++ values_of axis rest
values_end axis pairs [] h = sym (append-nil pairs)
values_end axis pairs (x ∷ []) h = sym (append-nil pairs)
values_end axis pairs (x ∷ y ∷ rest) h = absurd (omega (arith, h))

-- ---- factors
pub factors_start : (left : Option ℕ) (tokens : List (List ℕ)) (first : ℕ) → factors_fault left (length tokens - length (drop first tokens)) (drop first tokens) ≡ factors_fault left first (drop first tokens)
factors_start left tokens first = place_of (factors_fault left) tokens first (λ a b. refl)

pub factors_step : (left : Option ℕ) (count : ℕ) (rest : List (List ℕ)) (text : List ℕ) (more : List (List ℕ)) → rest ≡ text ∷ more → length rest ≤ count → factor_fault left (count - length rest) text ≡ None → factors_fault (option_map (λ left. left - 1) left) (count - length more) more ≡ factors_fault left (count - length rest) rest
factors_step left count rest text more e within none =
    let long : length rest ≡ length more + 1 = ap length e ∙ omega arith in
    sym (ap (factors_fault left (count - length rest)) e
    ∙ (ap (λ o. option_or o (factors_fault (option_map (λ left. left - 1) left) ((count - length rest) + 1) more)) none
    ∙ ap (λ n. factors_fault (option_map (λ left. left - 1) left) n more) (omega (arith, long, within))))

pub factors_found : (left : Option ℕ) (place : ℕ) (rest : List (List ℕ)) (text : List ℕ) (more : List (List ℕ)) (fault : Fault) → rest ≡ text ∷ more → factor_fault left place text ≡ Some fault → Some fault ≡ factors_fault left place rest
factors_found left place rest text more fault e some =
    sym (ap (factors_fault left place) e ∙ ap (λ o. option_or o (factors_fault (option_map (λ left. left - 1) left) (place + 1) more)) some)

pub factors_end : (left : Option ℕ) (place : ℕ) (rest : List (List ℕ)) → rest ≡ [] → None ≡ factors_fault left place rest
factors_end left place rest e = sym (ap (factors_fault left place) e)

pub values_of_step : (factors : List ℤ) (rest : List (List ℕ)) (text : List ℕ) (more : List (List ℕ)) → rest ≡ text ∷ more → (factors ++ option_to_list (factor_of text)) ++ filter_map factor_of more ≡ factors ++ filter_map factor_of rest
values_of_step factors rest text more e = append_assoc factors (option_to_list (factor_of text)) (filter_map factor_of more)
    ∙ (ap (λ l. factors ++ l) (split (factor_of text) (filter_map factor_of more)) ∙ sym (ap (λ l. factors ++ filter_map factor_of l) e)) where
      split : (o : Option ℤ) (xs : List ℤ) → option_to_list o ++ xs ≡ cons_option o xs
      split None xs = refl
      split (Some x) xs = refl
