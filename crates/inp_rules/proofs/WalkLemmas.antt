-- What the lines of a rule give one after the other, where none is at fault.
use Rattle.std.proofs.Common.{◌≡◌, ◌≤◌, ◌<◌, ◌+◌, ◌∷◌, ◌++◌, [], ℕ, ℤ, Bool, true, false, not, ◌&&◌, cond, List, length, length-append, ◌⊎◌, inl, inr}
use Rattle.std.proofs.Common.{Option, Some, None, is_some, is_none, option_to_list, Result, Ok, Err, refl, ap, sym, subst, ◌∙◌, arith, nat_lt}
use Rattle.std.specs.List.{All, last_or}
use Rattle.std.specs.Option.{IfSome}
use Rattle.std.proofs.lemmas.List.Elements.{All-append, All-cons, All-head, All-nil, All-push, All-tail}
use Rattle.fixed_num.specs.Ranges.{IsRaw}
use Rattle.net_types.specs.declared.project.Project.{Project}
use Rattle.net_types.specs.declared.rules.Action.{Action}
use Rattle.net_types.specs.declared.rules.Test.{Test}
use Rattle.inp_lines.specs.declared.fault.Fault.{Fault}
use Rattle.inp_lines.specs.declared.line.Line.{Line}
use Rattle.inp_lines.specs.declared.names.Naming.{Naming}
use Rattle.inp_lines.specs.Faults.{token_at}
use Rattle.inp_lines.specs.Gather.{gather}
use Rattle.inp_lines.specs.Readings.{is_long}
use Rattle.inp_lines.proofs.GatherLemmas.{gather_push}
use Rattle.inp_forms.specs.Context.{Context}
use Rattle.inp_rules.specs.declared.clauses.Clause.{Clause}
use Rattle.inp_rules.specs.declared.clauses.Clause.TheVariants as clause
use Rattle.inp_rules.specs.declared.order.RulePart.{RulePart}
use Rattle.inp_rules.specs.declared.order.RulePart.TheVariants as rule
use Rattle.inp_rules.specs.declared.roles.Role.{Role}
use Rattle.inp_rules.specs.declared.roles.Role.TheVariants as role
use Rattle.inp_rules.specs.Actions.{action_of, priority_of}
use Rattle.inp_rules.specs.Grouping.{groups_with, with_last, with_test}
use Rattle.inp_rules.specs.Laws.{NamesObjects}
use Rattle.inp_rules.specs.Order.{next_of, part_after}
use Rattle.inp_rules.specs.RuleFaults.{clause_fault, error_of, fault_by_clause, fault_with, first_fault, is_limited, is_short, item_fault, role_of}
use Rattle.inp_rules.specs.RuleLines.{begins_rule, clause_at, is_controls, is_past_tests, is_rule, own_part, part_from, placed}
use Rattle.inp_rules.specs.RuleWords.{clause_of}
use Rattle.inp_rules.specs.Rules.{action_at, actions_of, are_actions, are_tests, begins_group, good_of, groups_of, is_end, is_or}
use Rattle.inp_rules.specs.Rules.{priority_at, rule_priority, test_in}
use Rattle.inp_rules.specs.Tests.{test_of}
use Rattle.inp_rules.proofs.GroupLemmas.{groups_none, groups_push}
use Rattle.inp_rules.proofs.LineLemmas.{last_append, part_push}
use Rattle.inp_rules.proofs.OrderLemmas.{actions_are, ends_are, is_named, named_until, past_named, tests_are, tests_until}
use Rattle.inp_rules.proofs.PartLemmas.{IsSoundAction, IsSoundTest, action_sound, priority_range, test_sound}

-- a line that isn't at fault where a rule has come this far, and begins no rule
pub record IsGoodAt (known : Context) (part : RulePart) (line : Line) : Type 0 where
  pub short : is_long line ≡ false
  pub no_rule : begins_rule line ≡ false
  pub full : Bool
  pub standing : Naming
  pub after : List Line
  pub good : fault_with known part full standing after line ≡ None

first_none : (a b : Option Fault) → first_fault a b ≡ None → (a ≡ None) × (b ≡ None)
first_none None b e = (refl, e)
first_none (Some fault) b e = absurd (cc)

after_some : (b : Bool) (fault : Fault) (rest : Option Fault) → cond b (Some fault) rest ≡ None → (b ≡ false) × (rest ≡ None)
after_some true fault rest e = absurd (cc)
after_some false fault rest e = (refl, e)

no_error : {A : Type 0} (r : Result A Fault) → error_of r ≡ None → (x : A) × (r ≡ Ok x)
no_error (Ok x) e = (x, refl)
no_error (Err fault) e = absurd (cc)

-- what a clause without fault is
pub record IsGoodClause (known : Context) (part : RulePart) (full : Bool) (next : Clause) (tokens : List (List ℕ)) : Type 0 where
  pub enough : is_short (role_of part next) tokens ≡ false
  pub follows : is_none (next_of part next) ≡ false
  pub room : (full && is_limited (role_of part next)) ≡ false
  pub items : item_fault known (role_of part next) tokens ≡ None

part_now : (own : List Line) (line : Line) → own_part (own ++ line ∷ []) ≡ part_after (own_part own) (clause_at line)
unfolding own_part
part_now own line = part_push rule.Named own line

module _ (known : Context) where
  clause_good : (part : RulePart) (next : Clause) (full : Bool) (tokens : List (List ℕ)) → first_fault (clause_fault part next full tokens (role_of part next)) (item_fault known (role_of part next) tokens) ≡ None → IsGoodClause known part full next tokens
  clause_good part next full tokens e =
      let both = first_none (clause_fault part next full tokens (role_of part next)) (item_fault known (role_of part next) tokens) e in
      let room = after_some (is_short (role_of part next) tokens) _ _ both.0 in
      let more = after_some (is_none (next_of part next)) _ _ room.1 in
      let last = after_some (full && is_limited (role_of part next)) _ _ more.1 in
      record { enough = room.0; follows = more.0; room = last.0; items = both.1 }

  by_clause : (part : RulePart) (full : Bool) (standing : Naming) (after : List Line) (tokens : List (List ℕ)) (next : Clause) → is_rule (Some next) ≡ false → fault_by_clause known part full standing after tokens (Some next) ≡ None → IsGoodClause known part full next tokens
  by_clause part full standing after tokens clause.Rule h e = absurd (cc)
  by_clause part full standing after tokens clause.If h e = clause_good part clause.If full tokens e
  by_clause part full standing after tokens clause.And h e = clause_good part clause.And full tokens e
  by_clause part full standing after tokens clause.Or h e = clause_good part clause.Or full tokens e
  by_clause part full standing after tokens clause.Then h e = clause_good part clause.Then full tokens e
  by_clause part full standing after tokens clause.Else h e = clause_good part clause.Else full tokens e
  by_clause part full standing after tokens clause.Priority h e = clause_good part clause.Priority full tokens e

  -- a line that is a clause is one of the section
  in_section : (line : Line) (next : Clause) → clause_at line ≡ Some next → is_controls line.section ≡ true
  unfolding clause_at
  in_section line next = go (is_controls line.section) where
    go : (b : Bool) → cond b (clause_of (token_at line.tokens 0)) None ≡ Some next → b ≡ true
    go true e = refl
    go false e = absurd (cc)

  pub good_clause : (part : RulePart) (line : Line) (next : Clause) (is : IsGoodAt known part line) → clause_at line ≡ Some next → IsGoodClause known part is.full next line.tokens
  unfolding fault_with
  good_clause part line next is e = by_clause part is.full is.standing is.after line.tokens next (sym (ap is_rule e) ∙ is.no_rule)
      (ap (fault_by_clause known part is.full is.standing is.after line.tokens) (sym e) ∙ (sym (ap (λ b. cond b (fault_by_clause known part is.full is.standing is.after line.tokens (clause_at line)) None) here) ∙ is.good)) where
        here : (is_controls line.section && not (is_long line)) ≡ true
        here = ap (λ b. b && not (is_long line)) (in_section line next e) ∙ ap not is.short

  module _ (part : RulePart) (line : Line) (is : IsGoodAt known part line) where
    pub test_there : are_tests (placed part (clause_at line)) ≡ true → (test : Test) × (test_of known line.tokens ≡ Ok test)
    test_there h = go (clause_at line) refl h where
      go : (o : Option Clause) → clause_at line ≡ o → are_tests (placed part o) ≡ true → (test : Test) × (test_of known line.tokens ≡ Ok test)
      go None e t = absurd (cc)
      go (Some next) e t = no_error (test_of known line.tokens) (sym (ap (λ used. item_fault known used line.tokens) (tests_are part next t)) ∙ (good_clause part line next is e).items)

    pub action_there : (otherwise : Bool) → are_actions otherwise (placed part (clause_at line)) ≡ true → (action : Action) × (action_of known line.tokens ≡ Ok action)
    action_there otherwise h = go (clause_at line) refl h where
      go : (o : Option Clause) → clause_at line ≡ o → are_actions otherwise (placed part o) ≡ true → (action : Action) × (action_of known line.tokens ≡ Ok action)
      go None e t = absurd (cc)
      go (Some next) e t = no_error (action_of known line.tokens) (sym (ap (λ used. item_fault known used line.tokens) (actions_are otherwise part next t)) ∙ (good_clause part line next is e).items)

    pub priority_there : is_end (placed part (clause_at line)) ≡ true → (z : ℤ) × (priority_of known line.tokens ≡ Ok z)
    priority_there h = go (clause_at line) refl h where
      go : (o : Option Clause) → clause_at line ≡ o → is_end (placed part o) ≡ true → (z : ℤ) × (priority_of known line.tokens ≡ Ok z)
      go None e t = absurd (cc)
      go (Some next) e t = no_error (priority_of known line.tokens) (sym (ap (λ used. item_fault known used line.tokens) (ends_are part next t)) ∙ (good_clause part line next is e).items)

  -- ---- what a rule has so far
  pub record IsSoundGroup (project : Project) (group : List Test) : Type 0 where
    pub some : 1 ≤ length group
    pub tests : All (IsSoundTest project) group

  pub record IsSoundSoFar (project : Project) (own : List Line) : Type 0 where
    pub groups : All (IsSoundGroup project) (groups_of known own)
    pub then_acts : All (IsSoundAction project) (actions_of known false own)
    pub else_acts : All (IsSoundAction project) (actions_of known true own)
    pub priority : IfSome (rule_priority known own) IsRaw
    pub some_groups : is_named (own_part own) ≡ false → 1 ≤ length (groups_of known own)
    pub some_acts : is_past_tests (own_part own) ≡ true → 1 ≤ length (actions_of known false own)

  module _ (project : Project) (objects_are : NamesObjects known project) where
    last_sound : (groups : List (List Test)) (test : Test) → IsSoundTest project test → All (IsSoundGroup project) groups → All (IsSoundGroup project) (with_last groups (test ∷ []))
    last_sound [] test sound all = All-nil (IsSoundGroup project)
    last_sound (group ∷ []) test sound all =
        let own = All-head (IsSoundGroup project) group [] all in
        All-cons (IsSoundGroup project) (group ++ test ∷ []) []
        (record { some = omega (arith, length-append group (test ∷ [])); tests = All-push (IsSoundTest project) group test own.tests sound })
        (All-nil (IsSoundGroup project))
    last_sound (group ∷ next ∷ groups) test sound all =
        All-cons (IsSoundGroup project) group (with_last (next ∷ groups) (test ∷ [])) (All-head (IsSoundGroup project) group (next ∷ groups) all)
        (last_sound (next ∷ groups) test sound (All-tail (IsSoundGroup project) group (next ∷ groups) all))

    last_long : (groups : List (List Test)) (more : List Test) → length (with_last groups more) ≡ length groups
    last_long [] more = refl
    last_long (group ∷ []) more = refl
    last_long (group ∷ next ∷ groups) more = omega (arith, last_long (next ∷ groups) more)

    one_group : (test : Test) → IsSoundTest project test → IsSoundGroup project (test ∷ [])
    one_group test sound = record { some = omega arith; tests = All-cons (IsSoundTest project) test [] sound (All-nil (IsSoundTest project)) }

    module _ (part : RulePart) (line : Line) (is : IsGoodAt known part line) where
      -- groups stay sound, and their number doesn't fall
      with_sound : (groups : List (List Test)) (test : Test) (begins : Bool) → IsSoundTest project test → All (IsSoundGroup project) groups
          → All (IsSoundGroup project) (cond begins (groups ++ (test ∷ []) ∷ []) (with_last groups (test ∷ [])))
      with_sound groups test true sound all = All-push (IsSoundGroup project) groups (test ∷ []) all (one_group test sound)
      with_sound groups test false sound all = last_sound groups test sound all

      test_is : (test : Test) → test_of known line.tokens ≡ Ok test → option_to_list (test_in known line) ≡ test ∷ []
      test_is test e = ap (λ r. option_to_list (good_of r)) e

      groups_sound : (groups : List (List Test)) → All (IsSoundGroup project) groups → All (IsSoundGroup project) (groups_with known part line groups)
      groups_sound groups all = go (are_tests (placed part (clause_at line))) refl where
        go : (b : Bool) → are_tests (placed part (clause_at line)) ≡ b → All (IsSoundGroup project) (cond b (with_test known line groups) groups)
        go true t = let found = test_there part line is t in
            subst (λ tests. All (IsSoundGroup project) (cond (begins_group line) (groups ++ tests ∷ []) (with_last groups tests))) (sym (test_is found.0 found.1))
            (with_sound groups found.0 (begins_group line) (test_sound known project objects_are line.tokens found.0 found.1) all)
        go false t = all

      with_long : (groups : List (List Test)) (more : List Test) (begins : Bool) → length groups ≤ length (cond begins (groups ++ more ∷ []) (with_last groups more))
      with_long groups more true = omega (arith, length-append groups (more ∷ []))
      with_long groups more false = omega (arith, last_long groups more)

      groups_long : (groups : List (List Test)) → length groups ≤ length (groups_with known part line groups)
      groups_long groups = go (are_tests (placed part (clause_at line))) where
        go : (b : Bool) → length groups ≤ length (cond b (with_test known line groups) groups)
        go true = with_long groups (option_to_list (test_in known line)) (begins_group line)
        go false = omega arith

      groups_begin : (groups : List (List Test)) → are_tests (placed part (clause_at line)) ≡ true → is_or (clause_at line) ≡ false → 1 ≤ length (groups_with known part line groups)
      groups_begin groups t o = subst (λ (gs : List (List Test)). 1 ≤ length gs) (sym now) (omega (arith, length-append groups (option_to_list (test_in known line) ∷ []))) where
        now : groups_with known part line groups ≡ groups ++ option_to_list (test_in known line) ∷ []
        now = ap (λ b. cond b (with_test known line groups) groups) t ∙ ap (λ b. cond (not b) (groups ++ option_to_list (test_in known line) ∷ []) (with_last groups (option_to_list (test_in known line)))) o

      actions_sound : (otherwise : Bool) (actions : List Action) → All (IsSoundAction project) actions
          → All (IsSoundAction project) (actions ++ cond (are_actions otherwise (placed part (clause_at line))) (option_to_list (good_of (action_of known line.tokens))) [])
      actions_sound otherwise actions all = go (are_actions otherwise (placed part (clause_at line))) refl where
        go : (b : Bool) → are_actions otherwise (placed part (clause_at line)) ≡ b → All (IsSoundAction project) (actions ++ cond b (option_to_list (good_of (action_of known line.tokens))) [])
        go true t = let found = action_there part line is otherwise t in
            subst (λ r. All (IsSoundAction project) (actions ++ option_to_list (good_of r))) (sym found.1)
            (All-push (IsSoundAction project) actions found.0 all (action_sound known project objects_are line.tokens found.0 found.1))
        go false t = All-append (IsSoundAction project) actions [] all (All-nil (IsSoundAction project))

      actions_begin : (actions : List Action) → are_actions false (placed part (clause_at line)) ≡ true
          → 1 ≤ length (actions ++ cond (are_actions false (placed part (clause_at line))) (option_to_list (good_of (action_of known line.tokens))) [])
      actions_begin actions t = let found = action_there part line is false t in
          let now : actions ++ cond (are_actions false (placed part (clause_at line))) (option_to_list (good_of (action_of known line.tokens))) [] ≡ actions ++ found.0 ∷ [] =
          ap (λ b. actions ++ cond b (option_to_list (good_of (action_of known line.tokens))) []) t ∙ ap (λ r. actions ++ option_to_list (good_of r)) found.1 in
          subst (λ (l : List Action). 1 ≤ length l) (sym now) (omega (arith, length-append actions (found.0 ∷ [])))

      priority_sound : (o : Option ℤ) → IfSome o IsRaw → IfSome (last_or o (cond (is_end (placed part (clause_at line))) (option_to_list (good_of (priority_of known line.tokens))) [])) IsRaw
      priority_sound o h = go (is_end (placed part (clause_at line))) where
        read : (r : Result ℤ Fault) → priority_of known line.tokens ≡ r → IfSome (last_or o (option_to_list (good_of r))) IsRaw
        read (Ok z) e = priority_range known line.tokens z e
        read (Err fault) e = h

        go : (b : Bool) → IfSome (last_or o (cond b (option_to_list (good_of (priority_of known line.tokens))) [])) IsRaw
        go true = read (priority_of known line.tokens) refl
        go false = h

    -- one line more
    pub sound_more : (own : List Line) (line : Line) → IsGoodAt known (own_part own) line → IsSoundSoFar project own → IsSoundSoFar project (own ++ line ∷ [])
    unfolding actions_of rule_priority
    sound_more own line is so_far =
        let part = own_part own in
        let groups_now = groups_push known own line in
        let acts_now : (otherwise : Bool) → gather (action_at known otherwise) [] (own ++ line ∷ []) ≡ gather (action_at known otherwise) [] own ++ action_at known otherwise own line = λ otherwise. gather_push (action_at known otherwise) own line in
        record {
          groups = subst (All (IsSoundGroup project)) (sym groups_now) (groups_sound part line is (groups_of known own) so_far.groups);
          then_acts = subst (All (IsSoundAction project)) (sym (acts_now false)) (actions_sound part line is false (actions_of known false own) so_far.then_acts);
          else_acts = subst (All (IsSoundAction project)) (sym (acts_now true)) (actions_sound part line is true (actions_of known true own) so_far.else_acts);
          priority = subst (λ o. IfSome o IsRaw) (sym (ap (last_or None) (gather_push (priority_at known) own line) ∙ last_append None (gather (priority_at known) [] own) (priority_at known own line)))
              (priority_sound part line is (rule_priority known own) so_far.priority);
          some_groups = λ h. subst (λ (gs : List (List Test)). 1 ≤ length gs) (sym groups_now) (named (named_until part (clause_at line) (sym (ap is_named (part_now own line)) ∙ h)));
          some_acts = λ h. subst (λ (l : List Action). 1 ≤ length l) (sym (acts_now false)) (past (tests_until part (clause_at line) (sym (ap is_past_tests (part_now own line)) ∙ h)));
        } where
          named : (is_named (own_part own) ≡ false) ⊎ ((are_tests (placed (own_part own) (clause_at line)) ≡ true) × (is_or (clause_at line) ≡ false)) → 1 ≤ length (groups_with known (own_part own) line (groups_of known own))
          named (inl h) = omega (arith, so_far.some_groups h, groups_long (own_part own) line is (groups_of known own))
          named (inr h) = groups_begin (own_part own) line is (groups_of known own) h.0 h.1

          past : (is_past_tests (own_part own) ≡ true) ⊎ (are_actions false (placed (own_part own) (clause_at line)) ≡ true) → 1 ≤ length (gather (action_at known false) [] own ++ action_at known false own line)
          past (inl h) = omega (arith, so_far.some_acts h, length-append (gather (action_at known false) [] own) (action_at known false own line))
          past (inr h) = actions_begin (own_part own) line is (actions_of known false own) h

    pub sound_none : IsSoundSoFar project []
    unfolding actions_of rule_priority own_part
    sound_none = record {
      groups = subst (All (IsSoundGroup project)) (sym (groups_none known)) (All-nil (IsSoundGroup project));
      then_acts = All-nil (IsSoundAction project);
      else_acts = All-nil (IsSoundAction project);
      priority = tt;
      some_groups = λ h. absurd (cc);
      some_acts = λ h. absurd (cc);
    }
