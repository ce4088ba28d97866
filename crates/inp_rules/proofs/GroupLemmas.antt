-- The groups of tests of a rule along a walk over its lines.
use Rattle.std.proofs.Common.{◌≡◌, ◌∷◌, ◌++◌, [], ◌≤◌, ◌<◌, ◌+◌, ◌-◌, length, ℕ, zero, suc, List, Bool, true, false, not, cond, take, get_or, set, map}
use Rattle.std.proofs.Common.{Option, Some, None, refl, ap, sym, ◌∙◌, arith, append-nil, filter_map, option_to_list}
use Rattle.std.proofs.lemmas.List.{map-append, take_all}
use Rattle.std.specs.List.{before_first, cons_option, prefix_len}
use Rattle.net_types.specs.declared.rules.Test.{Test}
use Rattle.inp_lines.specs.declared.line.Line.{Line}
use Rattle.inp_lines.specs.Gather.{gather}
use Rattle.inp_lines.proofs.GatherLemmas.{gather_push, line_push}
use Rattle.inp_forms.specs.Context.{Context}
use Rattle.inp_rules.specs.RuleLines.{clause_at, own_part, placed}
use Rattle.inp_rules.specs.Rules.{are_tests, begins_group, groups_of, runs, test_in, test_line_at, tests_in}
use Rattle.inp_rules.specs.Grouping.{groups_with, with_last, with_test}

module _ {A : Type 0} where
  pub last_nothing : (lists : List (List A)) → with_last lists [] ≡ lists
  last_nothing [] = refl
  last_nothing (xs ∷ []) = ap (λ l. l ∷ []) (append-nil xs)
  last_nothing (xs ∷ ys ∷ lists) = ap (λ l. xs ∷ l) (last_nothing (ys ∷ lists))

  pub set_last : (lists : List (List A)) (k : ℕ) (more : List A) → length lists ≡ k + 1 → set lists k (get_or lists k [] ++ more) ≡ with_last lists more
  set_last [] k more e = absurd (omega (arith, e))
  set_last (xs ∷ []) zero more e = refl
  set_last (xs ∷ []) (suc k) more e = absurd (omega (arith, e))
  set_last (xs ∷ ys ∷ lists) zero more e = absurd (omega (arith, e))
  set_last (xs ∷ ys ∷ lists) (suc k) more e = ap (λ l. xs ∷ l) (set_last (ys ∷ lists) k more (omega (arith, e)))

  module _ (opens : A → Bool) where
    pub first_cons : (y : A) (ys : List A) → before_first opens (y ∷ ys) ≡ cond (opens y) [] (y ∷ before_first opens ys)
    first_cons y ys = go (opens y) where
      go : (b : Bool) → take (cond (not b) (1 + prefix_len (λ x. not (opens x)) ys) 0) (y ∷ ys) ≡ cond b [] (y ∷ take (prefix_len (λ x. not (opens x)) ys) ys)
      go true = refl
      go false = let more : 1 + prefix_len (λ x. not (opens x)) ys ≡ suc (prefix_len (λ x. not (opens x)) ys) = omega arith in ap (λ n. take n (y ∷ ys)) more

    -- an item more that opens a run ends the last one
    first_open : (x : A) → opens x ≡ true → (ys : List A) → before_first opens (ys ++ x ∷ []) ≡ before_first opens ys
    first_open x e [] = first_cons x [] ∙ ap (λ b. cond b [] (x ∷ [])) e
    first_open x e (y ∷ ys) = first_cons y (ys ++ x ∷ []) ∙ (ap (λ l. cond (opens y) [] (y ∷ l)) (first_open x e ys) ∙ sym (first_cons y ys))

    -- another one goes to the end where none opens a run before, and else changes nothing
    first_more : (x : A) → opens x ≡ false → (ys : List A) → runs opens ys ≡ [] → before_first opens (ys ++ x ∷ []) ≡ before_first opens ys ++ x ∷ []
    first_more x e [] none = first_cons x [] ∙ ap (λ b. cond b [] (x ∷ [])) e
    first_more x e (y ∷ ys) none = first_cons y (ys ++ x ∷ []) ∙ (go (opens y) none (first_more x e ys) ∙ ap (λ l. l ++ x ∷ []) (sym (first_cons y ys))) where
      go : (b : Bool) → cond b ((y ∷ before_first opens ys) ∷ runs opens ys) (runs opens ys) ≡ [] → (runs opens ys ≡ [] → before_first opens (ys ++ x ∷ []) ≡ before_first opens ys ++ x ∷ []) → cond b [] (y ∷ before_first opens (ys ++ x ∷ [])) ≡ cond b [] (y ∷ before_first opens ys) ++ x ∷ []
      go true h more = absurd (cc)
      go false h more = ap (λ l. y ∷ l) (more h)

    first_stays : (x : A) → opens x ≡ false → (ys : List A) (r : List A) (rs : List (List A)) → runs opens ys ≡ r ∷ rs → before_first opens (ys ++ x ∷ []) ≡ before_first opens ys
    first_stays x e [] r rs some = absurd (cc)
    first_stays x e (y ∷ ys) r rs some = first_cons y (ys ++ x ∷ []) ∙ (go (opens y) some (first_stays x e ys r rs) ∙ sym (first_cons y ys)) where
      go : (b : Bool) → cond b ((y ∷ before_first opens ys) ∷ runs opens ys) (runs opens ys) ≡ r ∷ rs → (runs opens ys ≡ r ∷ rs → before_first opens (ys ++ x ∷ []) ≡ before_first opens ys) → cond b [] (y ∷ before_first opens (ys ++ x ∷ [])) ≡ cond b [] (y ∷ before_first opens ys)
      go true h more = refl
      go false h more = ap (λ l. y ∷ l) (more h)

    pub runs_open : (x : A) → opens x ≡ true → (xs : List A) → runs opens (xs ++ x ∷ []) ≡ runs opens xs ++ (x ∷ []) ∷ []
    runs_open x e [] = ap (λ b. cond b ((x ∷ []) ∷ []) []) e
    runs_open x e (y ∷ ys) = go (opens y) (runs_open x e ys) where
      go : (b : Bool) → runs opens (ys ++ x ∷ []) ≡ runs opens ys ++ (x ∷ []) ∷ [] → cond b ((y ∷ before_first opens (ys ++ x ∷ [])) ∷ runs opens (ys ++ x ∷ [])) (runs opens (ys ++ x ∷ [])) ≡ cond b ((y ∷ before_first opens ys) ∷ runs opens ys) (runs opens ys) ++ (x ∷ []) ∷ []
      go true more = ap (λ l. (y ∷ l) ∷ runs opens (ys ++ x ∷ [])) (first_open x e ys) ∙ ap (λ l. (y ∷ before_first opens ys) ∷ l) more
      go false more = more

    pub runs_more : (x : A) → opens x ≡ false → (xs : List A) → runs opens (xs ++ x ∷ []) ≡ with_last (runs opens xs) (x ∷ [])
    runs_more x e [] = ap (λ b. cond b ((x ∷ []) ∷ []) []) e
    runs_more x e (y ∷ ys) = go (opens y) (runs_more x e ys) where
      one : (all : List (List A)) → runs opens ys ≡ all → (y ∷ before_first opens (ys ++ x ∷ [])) ∷ with_last all (x ∷ []) ≡ with_last ((y ∷ before_first opens ys) ∷ all) (x ∷ [])
      one [] h = ap (λ l. (y ∷ l) ∷ []) (first_more x e ys h)
      one (r ∷ rs) h = ap (λ l. (y ∷ l) ∷ with_last (r ∷ rs) (x ∷ [])) (first_stays x e ys r rs h)

      go : (b : Bool) → runs opens (ys ++ x ∷ []) ≡ with_last (runs opens ys) (x ∷ []) → cond b ((y ∷ before_first opens (ys ++ x ∷ [])) ∷ runs opens (ys ++ x ∷ [])) (runs opens (ys ++ x ∷ [])) ≡ with_last (cond b ((y ∷ before_first opens ys) ∷ runs opens ys) (runs opens ys)) (x ∷ [])
      go true more = ap (λ l. (y ∷ before_first opens (ys ++ x ∷ [])) ∷ l) more ∙ one (runs opens ys) refl
      go false more = more

-- ---- tests
one_option : {A : Type 0} (o : Option A) → cons_option o [] ≡ option_to_list o
one_option None = refl
one_option (Some x) = refl

more_options : {A : Type 0} (o : Option A) (xs ys : List A) → cons_option o (xs ++ ys) ≡ cons_option o xs ++ ys
more_options None xs ys = refl
more_options (Some x) xs ys = refl

module _ (known : Context) where
  tests_push : (lines : List Line) (line : Line) → tests_in known (lines ++ line ∷ []) ≡ tests_in known lines ++ option_to_list (test_in known line)
  tests_push [] line = one_option (test_in known line)
  tests_push (x ∷ lines) line = ap (cons_option (test_in known x)) (tests_push lines line) ∙ more_options (test_in known x) (tests_in known lines) (option_to_list (test_in known line))

  tests_last : (lists : List (List Line)) (line : Line) → map (tests_in known) (with_last lists (line ∷ [])) ≡ with_last (map (tests_in known) lists) (option_to_list (test_in known line))
  tests_last [] line = refl
  tests_last (xs ∷ []) line = ap (λ l. l ∷ []) (tests_push xs line)
  tests_last (xs ∷ ys ∷ lists) line = ap (λ l. tests_in known xs ∷ l) (tests_last (ys ∷ lists) line)

  test_more : (lines : List Line) (line : Line) (opens : Bool) → begins_group line ≡ opens → map (tests_in known) (runs begins_group (lines ++ line ∷ [])) ≡ cond opens (map (tests_in known) (runs begins_group lines) ++ option_to_list (test_in known line) ∷ []) (with_last (map (tests_in known) (runs begins_group lines)) (option_to_list (test_in known line)))
  test_more lines line true e = ap (map (tests_in known)) (runs_open begins_group line e lines)
      ∙ (map-append (tests_in known) (runs begins_group lines) ((line ∷ []) ∷ [])
      ∙ ap (λ g. map (tests_in known) (runs begins_group lines) ++ g ∷ []) (one_option (test_in known line)))
  test_more lines line false e = ap (map (tests_in known)) (runs_more begins_group line e lines) ∙ tests_last (runs begins_group lines) line

  pub groups_push : (own : List Line) (line : Line) → groups_of known (own ++ line ∷ []) ≡ groups_with known (own_part own) line (groups_of known own)
  unfolding groups_of
  groups_push own line = ap (λ l. map (tests_in known) (runs begins_group l)) (gather_push test_line_at own line) ∙ go (are_tests (placed (own_part own) (clause_at line))) where
    go : (b : Bool) → map (tests_in known) (runs begins_group (gather test_line_at [] own ++ cond b (line ∷ []) [])) ≡ cond b (with_test known line (map (tests_in known) (runs begins_group (gather test_line_at [] own)))) (map (tests_in known) (runs begins_group (gather test_line_at [] own)))
    go true = test_more (gather test_line_at [] own) line (begins_group line) refl
    go false = ap (λ l. map (tests_in known) (runs begins_group l)) (append-nil (gather test_line_at [] own))

  pub groups_none : groups_of known [] ≡ []
  unfolding groups_of
  groups_none = refl

  pub groups_next : (lines : List Line) (i : ℕ) (line : Line) → i < length lines → line ≡ get_or lines i line → groups_of known (take (i + 1) lines) ≡ groups_with known (own_part (take i lines)) line (groups_of known (take i lines))
  groups_next lines i line h e = ap (groups_of known) (line_push lines i line h e) ∙ groups_push (take i lines) line

  pub groups_all : (lines : List Line) (i : ℕ) → length lines ≤ i → groups_of known (take i lines) ≡ groups_of known lines
  groups_all lines i h = ap (groups_of known) (take_all i lines h)
