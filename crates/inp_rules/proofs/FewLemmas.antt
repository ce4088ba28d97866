-- Lines without fault give as few rules, and as few tests and actions, as there may be.
use Rattle.std.proofs.Common.{◌≡◌, ◌≤◌, ◌<◌, ◌+◌, ◌∷◌, ◌++◌, [], ℕ, Bool, true, false, not, ◌&&◌, ◌||◌, cond, List, length, length-append, sum_by, map}
use Rattle.std.proofs.Common.{Option, Some, None, is_some, is_none, option_to_list, Result, Ok, Err, refl, ap, sym, subst, ◌∙◌, arith, nat_lt, nat_le, append_assoc, append-nil}
use Rattle.std.specs.List.{before_first}
use Rattle.std.proofs.lemmas.Bool.Decides.{nat_tests}
use Rattle.std.proofs.lemmas.List.Sums.{sum_by-cons}
use Rattle.fixed_num.specs.declared.constants.TheConstants.{RECORD_LIMIT}
use Rattle.net_types.specs.declared.rules.Rule.{Rule}
use Rattle.net_types.specs.declared.rules.Test.{Test}
use Rattle.inp_lines.specs.declared.fault.Fault.{Fault}
use Rattle.inp_lines.specs.declared.line.Line.{Line}
use Rattle.inp_lines.specs.declared.names.Naming.{Naming}
use Rattle.inp_lines.specs.declared.names.Naming.TheVariants as naming
use Rattle.inp_lines.specs.Faults.{token_at}
use Rattle.inp_lines.specs.Gather.{gather}
use Rattle.inp_lines.specs.Names.{defined, is_repeat, naming_among, naming_by, naming_of, with_first, with_name}
use Rattle.inp_lines.specs.Readings.{is_long}
use Rattle.inp_lines.proofs.GatherLemmas.{gather_append, gather_push}
use Rattle.inp_lines.proofs.NameLemmas.{defined_more, defined_none, first_new}
use Rattle.inp_forms.specs.Context.{Context}
use Rattle.inp_rules.specs.declared.clauses.Clause.{Clause}
use Rattle.inp_rules.specs.declared.clauses.Clause.TheVariants as clause
use Rattle.inp_rules.specs.declared.order.RulePart.{RulePart}
use Rattle.inp_rules.specs.declared.order.RulePart.TheVariants as rule
use Rattle.inp_rules.specs.declared.roles.Role.TheVariants as role
use Rattle.inp_rules.specs.Actions.{action_of}
use Rattle.inp_rules.specs.Grouping.{groups_with, with_last, with_test}
use Rattle.inp_rules.specs.Laws.{AreFaultless, HasFewRules, size_of}
use Rattle.inp_rules.specs.Order.{next_of}
use Rattle.inp_rules.specs.RuleFaults.{gives_piece, is_full, is_limited, is_over, is_piece, is_repeated, is_short, line_fault_of, most_pieces, name_in, piece_at, pieces_of}
use Rattle.inp_rules.specs.RuleFaults.{role_of, rule_name}
use Rattle.inp_rules.specs.RuleLines.{begins_rule, clause_at, is_rule, lines_after, own_lines, own_part, part_of, placed}
use Rattle.inp_rules.specs.Rules.{action_at, actions_of, are_actions, are_tests, begins_group, good_of, groups_of, rule_at, rule_of, rules_of, test_in}
use Rattle.inp_rules.proofs.GroupLemmas.{groups_none, groups_push}
use Rattle.inp_rules.proofs.OrderLemmas.{actions_are, tests_are}
use Rattle.inp_rules.proofs.SoundLemmas.{after_split, good_at, good_line, good_rule, own_all, own_other, own_rule, part_in_rule}
use Rattle.inp_rules.proofs.WalkLemmas.{IsGoodAt, good_clause}

-- ---- the number of rules
new_by : (known : Bool) (count : ℕ) → is_over (naming_by known count) ≡ false → is_repeated (naming_by known count) ≡ false → (known ≡ false) × (count < RECORD_LIMIT)
new_by true count over repeated = absurd (cc)
new_by false count over repeated = go (nat_le RECORD_LIMIT count) refl over where
  go : (b : Bool) → nat_le RECORD_LIMIT count ≡ b → is_over (cond b naming.OverLimit naming.First) ≡ false → (false ≡ false) × (count < RECORD_LIMIT)
  go true t e = absurd (cc)
  go false t e = (refl, grind (arith, nat_tests))

-- a RULE line whose name is there defines it
rule_named : (line : Line) → begins_rule line ≡ true → is_long line ≡ false → nat_lt (length line.tokens) 2 ≡ false → rule_name line ≡ Some (token_at line.tokens 1)
unfolding rule_name
rule_named line b l n = ap (λ x. cond (x && not (is_long line)) (name_in line.tokens) None) b ∙ (ap (λ x. cond (not x) (name_in line.tokens) None) l
    ∙ ap (λ x. cond x None (Some (token_at line.tokens 1))) n)

unnamed : (line : Line) → begins_rule line ≡ false → rule_name line ≡ None
unfolding rule_name
unnamed line b = ap (λ x. cond (x && not (is_long line)) (name_in line.tokens) None) b

-- ---- the tests and actions of a rule
abbrev total : List (List Test) → ℕ
total groups = sum_by (λ (group : List Test). length group) groups

total_cons : (x : List Test) (xs : List (List Test)) → total (x ∷ xs) ≡ length x + total xs
total_cons x xs = sum_by-cons (λ (group : List Test). length group) x xs

total_append : (xs ys : List (List Test)) → total (xs ++ ys) ≡ total xs + total ys
total_append [] ys = omega arith
total_append (x ∷ xs) ys = omega (arith, total_append xs ys, total_cons x xs, total_cons x (xs ++ ys))

total_last : (groups : List (List Test)) (more : List Test) → total (with_last groups more) ≤ total groups + length more
total_last [] more = omega arith
total_last (group ∷ []) more = omega (arith, length-append group more, total_cons group [], total_cons (group ++ more) [])
total_last (group ∷ next ∷ groups) more = omega (arith, total_last (next ∷ groups) more, total_cons group (next ∷ groups), total_cons group (with_last (next ∷ groups) more))

total_group : (groups : List (List Test)) (more : List Test) (begins : Bool) → total (cond begins (groups ++ more ∷ []) (with_last groups more)) ≤ total groups + length more
total_group groups more true = omega (arith, total_append groups (more ∷ []), one more) where
  one : (more : List Test) → total (more ∷ []) ≡ length more
  one more = omega (arith, total_cons more [])
total_group groups more false = total_last groups more

one_at_most : {A : Type 0} (o : Option A) → length (option_to_list o) ≤ 1
one_at_most None = omega arith
one_at_most (Some x) = omega arith

rule_summed : (here : Rule) (rest : List Rule) → sum_by size_of (cond true (here ∷ []) [] ++ rest) ≡ size_of here + sum_by size_of rest
rule_summed here rest = sum_by-cons size_of here rest

none_summed : (here : Rule) (rest : List Rule) → sum_by size_of (cond false (here ∷ []) [] ++ rest) ≡ sum_by size_of rest
none_summed here rest = refl

-- how many of the three a clause is
abbrev one_if : Bool → ℕ
one_if b = cond b 1 0

weigh : (q : Option RulePart) (b : Bool) → (are_tests q ≡ true → b ≡ true) → ((otherwise : Bool) → are_actions otherwise q ≡ true → b ≡ true) → one_if (are_tests q) + one_if (are_actions false q) + one_if (are_actions true q) ≤ one_if b
weigh None b t a = omega arith
weigh (Some rule.Outside) b t a = omega arith
weigh (Some rule.Named) b t a = omega arith
weigh (Some rule.Tests) b t a = subst (λ b. 1 ≤ one_if b) (sym (t refl)) (omega arith)
weigh (Some rule.ThenActions) b t a = subst (λ b. 1 ≤ one_if b) (sym (a false refl)) (omega arith)
weigh (Some rule.ElseActions) b t a = subst (λ b. 1 ≤ one_if b) (sym (a true refl)) (omega arith)
weigh (Some rule.Ended) b t a = omega arith

some_from : {A : Type 0} (o : Option A) → is_none o ≡ false → is_some o ≡ true
some_from None e = absurd (cc)
some_from (Some x) e = refl

length_if : (b : Bool) (line : Line) → length (cond b (line ∷ []) []) ≡ one_if b
length_if true line = refl
length_if false line = refl

actions_at_most : {A : Type 0} (b : Bool) (o : Option A) → length (cond b (option_to_list o) []) ≤ one_if b
actions_at_most true o = one_at_most o
actions_at_most false o = omega arith

module _ (known : Context) where
  abbrev size_so_far : List Line → ℕ
  size_so_far own = total (groups_of known own) + length (actions_of known false own) + length (actions_of known true own)

  -- a test or an action that is kept is counted
  gives : (part : RulePart) (line : Line) (next : Clause) → IsGoodAt known part line → clause_at line ≡ Some next → is_limited (role_of part next) ≡ true → gives_piece part line ≡ true
  unfolding gives_piece
  gives part line next is e limited =
      let good = good_clause known part line next is e in
      ap (λ b. not b && is_piece part line.tokens (clause_at line)) is.short
      ∙ (ap (is_piece part line.tokens) e
      ∙ (ap (λ b. b && not (is_short (role_of part next) line.tokens) && is_some (next_of part next)) limited
      ∙ (ap (λ b. not b && is_some (next_of part next)) good.enough ∙ some_from (next_of part next) good.follows)))

  test_gives : (part : RulePart) (line : Line) → IsGoodAt known part line → are_tests (placed part (clause_at line)) ≡ true → gives_piece part line ≡ true
  test_gives part line is h = go (clause_at line) refl h where
    go : (o : Option Clause) → clause_at line ≡ o → are_tests (placed part o) ≡ true → gives_piece part line ≡ true
    go None e t = absurd (cc)
    go (Some next) e t = gives part line next is e (ap is_limited (tests_are part next t))

  action_gives : (part : RulePart) (line : Line) → IsGoodAt known part line → (otherwise : Bool) → are_actions otherwise (placed part (clause_at line)) ≡ true → gives_piece part line ≡ true
  action_gives part line is otherwise h = go (clause_at line) refl h where
    go : (o : Option Clause) → clause_at line ≡ o → are_actions otherwise (placed part o) ≡ true → gives_piece part line ≡ true
    go None e t = absurd (cc)
    go (Some next) e t = gives part line next is e (ap is_limited (actions_are otherwise part next t))

  total_with : (part : RulePart) (line : Line) (groups : List (List Test)) → total (groups_with known part line groups) ≤ total groups + one_if (are_tests (placed part (clause_at line)))
  total_with part line groups = go (are_tests (placed part (clause_at line))) where
    go : (b : Bool) → total (cond b (with_test known line groups) groups) ≤ total groups + one_if b
    go true = omega (arith, total_group groups (option_to_list (test_in known line)) (begins_group line), one_at_most (test_in known line))
    go false = omega arith

  actions_more : (otherwise : Bool) (own : List Line) (line : Line) → length (actions_of known otherwise (own ++ line ∷ [])) ≤ length (actions_of known otherwise own) + one_if (are_actions otherwise (placed (own_part own) (clause_at line)))
  unfolding actions_of
  actions_more otherwise own line =
      let more = actions_at_most (are_actions otherwise (placed (own_part own) (clause_at line))) (good_of (action_of known line.tokens)) in
      omega (arith, ap length (gather_push (action_at known otherwise) own line), length-append (gather (action_at known otherwise) [] own) (action_at known otherwise own line), more)

  size_more : (own : List Line) (line : Line) → IsGoodAt known (own_part own) line → size_so_far (own ++ line ∷ []) ≤ size_so_far own + one_if (gives_piece (own_part own) line)
  size_more own line is =
      let part = own_part own in
      let weight = weigh (placed part (clause_at line)) (gives_piece part line) (test_gives part line is) (action_gives part line is) in
      omega (arith, ap total (groups_push known own line), total_with part line (groups_of known own), actions_more false own line, actions_more true own line, weight)

  size_none : size_so_far [] ≡ 0
  unfolding actions_of
  size_none = omega (arith, ap total (groups_none known))

  module _ (all : List Line) (faultless : AreFaultless known all) where
    -- the tests and actions of a rule are among those of its lines
    one_counted : (start xs : List Line) (y : Line) → part_of (start ++ xs) ≡ own_part xs → length (gather piece_at start (xs ++ y ∷ [])) ≡ length (gather piece_at start xs) + one_if (gives_piece (own_part xs) y)
    one_counted start xs y part_is = ap length (gather_append piece_at start xs (y ∷ []) ∙ ap (λ l. gather piece_at start xs ++ l) (append-nil (piece_at (start ++ xs) y)))
        ∙ (length-append (gather piece_at start xs) (piece_at (start ++ xs) y)
        ∙ ap (λ n. length (gather piece_at start xs) + n) (length_if (gives_piece (part_of (start ++ xs)) y) y ∙ ap (λ part. one_if (gives_piece part y)) part_is))

    own_few : (before : List Line) (line : Line) (rest : List Line) → all ≡ before ++ line ∷ rest → begins_rule line ≡ true → size_so_far (own_lines rest) ≤ length (gather piece_at (before ++ line ∷ []) (own_lines rest))
    own_few before line rest e h = own_all known all faultless (λ xs. size_so_far xs ≤ length (gather piece_at (before ++ line ∷ []) xs))
        (λ xs y is few. omega (arith, few, size_more xs y is, one_counted (before ++ line ∷ []) xs y (ap part_of (append_assoc before (line ∷ []) xs) ∙ part_in_rule before line xs h)))
        before line [] rest (e ∙ sym (append_assoc before (line ∷ []) rest)) h (omega (arith, size_none))

    rule_few : (before : List Line) (line : Line) (rest : List Line) → all ≡ before ++ line ∷ rest → begins_rule line ≡ true → size_of (rule_of known line (own_lines rest)) ≤ length (gather piece_at (before ++ line ∷ []) (own_lines rest))
    unfolding rule_of
    rule_few before line rest e h = own_few before line rest e h

    sum_few : (before lines : List Line) → all ≡ before ++ lines → sum_by size_of (gather (rule_at known all) before lines) + length (gather piece_at before (own_lines lines)) ≤ length (gather piece_at before lines)
    sum_few before [] e = omega arith
    sum_few before (line ∷ lines) e = go (begins_rule line) refl (sum_few (before ++ line ∷ []) lines (e ∙ sym (append_assoc before (line ∷ []) lines))) where
      after : lines_after all before ≡ lines
      after = ap (λ l. lines_after l before) e ∙ after_split before line lines

      go : (b : Bool) → begins_rule line ≡ b → sum_by size_of (gather (rule_at known all) (before ++ line ∷ []) lines) + length (gather piece_at (before ++ line ∷ []) (own_lines lines)) ≤ length (gather piece_at (before ++ line ∷ []) lines)
          → sum_by size_of (cond b (rule_of known line (own_lines (lines_after all before)) ∷ []) [] ++ gather (rule_at known all) (before ++ line ∷ []) lines) + length (gather piece_at before (own_lines (line ∷ lines)))
          ≤ length (piece_at before line ++ gather piece_at (before ++ line ∷ []) lines)
      go true t more =
          let here : size_of (rule_of known line (own_lines (lines_after all before))) ≤ length (gather piece_at (before ++ line ∷ []) (own_lines lines)) =
          subst (λ l. size_of (rule_of known line (own_lines l)) ≤ length (gather piece_at (before ++ line ∷ []) (own_lines lines))) (sym after) (rule_few before line lines e t) in
          omega (
            arith,
            here,
            more,
            rule_summed (rule_of known line (own_lines (lines_after all before))) (gather (rule_at known all) (before ++ line ∷ []) lines),
            ap (λ l. length (gather piece_at before l)) (own_rule line lines t),
            length-append (piece_at before line) (gather piece_at (before ++ line ∷ []) lines),
          )
      go false t more = omega (
        arith,
        more,
        none_summed (rule_of known line (own_lines (lines_after all before))) (gather (rule_at known all) (before ++ line ∷ []) lines),
        ap (λ l. length (gather piece_at before l)) (own_other line lines t),
        length-append (piece_at before line) (gather piece_at (before ++ line ∷ []) (own_lines lines)),
        length-append (piece_at before line) (gather piece_at (before ++ line ∷ []) lines),
      )

    -- a test or an action has room
    limited_apart : (part : RulePart) (o : Option Clause) (next : Clause) → o ≡ Some next → is_limited (role_of part next) ≡ true → is_rule o ≡ false
    limited_apart part o clause.Rule e l = absurd (cc)
    limited_apart part o clause.If e l = ap is_rule e
    limited_apart part o clause.And e l = ap is_rule e
    limited_apart part o clause.Or e l = ap is_rule e
    limited_apart part o clause.Then e l = ap is_rule e
    limited_apart part o clause.Else e l = ap is_rule e
    limited_apart part o clause.Priority e l = ap is_rule e

    and_first : (a b : Bool) → (a && b) ≡ true → a ≡ true
    and_first true b e = refl
    and_first false b e = absurd (cc)

    and_second : (a b : Bool) → (a && b) ≡ true → b ≡ true
    and_second true b e = e
    and_second false b e = absurd (cc)

    and_not : (a b : Bool) → (a && b) ≡ false → b ≡ true → a ≡ false
    and_not true b e h = absurd (cc)
    and_not false b e h = refl

    room_at : (before : List Line) (line : Line) (rest : List Line) (next : Clause) → all ≡ before ++ line ∷ rest → clause_at line ≡ Some next → is_limited (role_of (part_of before) next) ≡ true → is_full before ≡ false
    unfolding line_fault_of
    room_at before line rest next e c limited =
        let good = good_line known all faultless before line rest e in
        let is : IsGoodAt known (part_of before) line = record {
          short = good.0;
          no_rule = limited_apart (part_of before) (clause_at line) next c limited;
          full = is_full before;
          standing = naming_of (defined rule_name before) (rule_name line);
          after = lines_after all before;
          good = good.1;
        } in
        and_not (is_full before) (is_limited (role_of (part_of before) next)) (good_clause known (part_of before) line next is c).room limited

    not_full : (before : List Line) (line : Line) (rest : List Line) → all ≡ before ++ line ∷ rest → gives_piece (part_of before) line ≡ true → is_full before ≡ false
    unfolding gives_piece
    not_full before line rest e is = go (clause_at line) refl (and_second (not (is_long line)) (is_piece (part_of before) line.tokens (clause_at line)) is) where
      go : (o : Option Clause) → clause_at line ≡ o → is_piece (part_of before) line.tokens o ≡ true → is_full before ≡ false
      go None c piece = absurd (cc)
      go (Some next) c piece =
          let both = and_first (is_limited (role_of (part_of before) next) && not (is_short (role_of (part_of before) next) line.tokens)) (is_some (next_of (part_of before) next)) piece in
          let limited = and_first (is_limited (role_of (part_of before) next)) (not (is_short (role_of (part_of before) next) line.tokens)) both in
          room_at before line rest next e c limited

    pieces_room : (before lines : List Line) → all ≡ before ++ lines → length (pieces_of before) ≤ most_pieces → length (gather piece_at before lines) + length (pieces_of before) ≤ most_pieces
    pieces_room before [] e room = omega (arith, room)
    pieces_room before (line ∷ lines) e room =
        let now = ap length (gather_push piece_at before line) ∙ length-append (pieces_of before) (piece_at before line) in
        let more = pieces_room (before ++ line ∷ []) lines (e ∙ sym (append_assoc before (line ∷ []) lines)) (omega (arith, now, one (gives_piece (part_of before) line) refl)) in
        omega (arith, more, now, length-append (piece_at before line) (gather piece_at (before ++ line ∷ []) lines)) where
          one : (b : Bool) → gives_piece (part_of before) line ≡ b → length (pieces_of before) + length (cond b (line ∷ []) []) ≤ most_pieces
          one true t = let full = not_full before line lines e t in let below : length (pieces_of before) < most_pieces = grind (arith, nat_tests) in omega (arith, below)
          one false t = omega (arith, room)

    -- ---- rules
    rules_room : (before lines : List Line) → all ≡ before ++ lines → length (defined rule_name before) ≤ RECORD_LIMIT → length (gather (rule_at known all) before lines) + length (defined rule_name before) ≤ RECORD_LIMIT
    rules_room before [] e room = omega (arith, room)
    rules_room before (line ∷ lines) e room = go (begins_rule line) refl (rules_room (before ++ line ∷ []) lines (e ∙ sym (append_assoc before (line ∷ []) lines))) where
      go : (b : Bool) → begins_rule line ≡ b → (length (defined rule_name (before ++ line ∷ [])) ≤ RECORD_LIMIT → length (gather (rule_at known all) (before ++ line ∷ []) lines) + length (defined rule_name (before ++ line ∷ [])) ≤ RECORD_LIMIT)
          → length (cond b (rule_of known line (own_lines (lines_after all before)) ∷ []) [] ++ gather (rule_at known all) (before ++ line ∷ []) lines) + length (defined rule_name before) ≤ RECORD_LIMIT
      go true t later =
          let good = good_rule known all faultless before line lines e t in
          let named = rule_named line t (good_line known all faultless before line lines e).0 good.enough in
          let held = defined rule_name before in
          let name = token_at line.tokens 1 in
          let new = new_by (is_repeat held name) (length held) (ap (λ o. is_over (naming_of held o)) (sym named) ∙ good.room) (ap (λ o. is_repeated (naming_of held o)) (sym named) ∙ good.fresh) in
          let now : length (defined rule_name (before ++ line ∷ [])) ≡ length held + 1 = ap length (defined_more rule_name before line ∙ (ap (with_name held) named ∙ first_new held name new.0 new.1)) ∙ length-append held (name ∷ []) in
          let more = later (omega (arith, now, new.1)) in
          omega (arith, now, more)
      go false t later =
          let same : length (defined rule_name (before ++ line ∷ [])) ≡ length (defined rule_name before) = ap length (defined_more rule_name before line ∙ ap (with_name (defined rule_name before)) (unnamed line t)) in
          let more = later (omega (arith, same, room)) in
          omega (arith, same, more)

pub rules_few : (known : Context) (lines : List Line) → AreFaultless known lines → HasFewRules (rules_of known lines)
unfolding rules_of
rules_few known lines faultless =
    let names = rules_room known lines faultless [] lines refl (omega (arith, ap length (defined_none rule_name))) in
    let room = pieces_room known lines faultless [] lines refl (omega arith) in
    record {
      rules_few = omega (arith, names);
      pieces_few = omega (arith, sum_few known lines faultless [] lines refl, room);
    }
