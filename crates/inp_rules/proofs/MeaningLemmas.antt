-- Rules of lines that are without fault are what the lines mean, and lines mean one list of rules.
use Rattle.std.proofs.Common.{◌≡◌, ◌∷◌, ◌++◌, [], ℕ, ℤ, Bool, true, false, cond, List, map, filter_map, Option, Some, None, option_to_list, Result, Ok, Err}
use Rattle.std.proofs.Common.{refl, ap, sym, subst, ◌∙◌, append_assoc, append-nil}
use Rattle.std.specs.List.{All, AllZip, before_first, cons_option, last_or}
use Rattle.std.proofs.lemmas.List.Elements.{All-append, All-cons, All-head, All-nil, All-tail, All-take}
use Rattle.net_types.specs.declared.rules.Action.{Action}
use Rattle.net_types.specs.declared.rules.Rule.{Rule}
use Rattle.net_types.specs.declared.rules.Test.{Test}
use Rattle.inp_lines.specs.declared.fault.Fault.{Fault}
use Rattle.inp_lines.specs.declared.line.Line.{Line}
use Rattle.inp_lines.specs.Faults.{token_at}
use Rattle.inp_lines.specs.Gather.{gather}
use Rattle.inp_lines.proofs.GatherLemmas.{gather_push}
use Rattle.inp_lines.proofs.ZipLemmas.{zip_unique}
use Rattle.inp_forms.specs.Context.{Context}
use Rattle.inp_rules.specs.declared.order.RulePart.{RulePart}
use Rattle.inp_rules.specs.Actions.{action_of, priority_of}
use Rattle.inp_rules.specs.Laws.{AreFaultless}
use Rattle.inp_rules.specs.Meaning.{IsAction, IsPriority, IsRule, IsRuleOf, IsTest, MeanRules, line_with, lines_with}
use Rattle.inp_rules.specs.RuleLines.{begins_rule, clause_at, lines_after, own_lines, own_part, placed}
use Rattle.inp_rules.specs.Rules.{actions_of, are_actions, are_tests, begins_group, good_of, groups_of, is_end, rule_at, rule_of, rule_priority, rules_of, runs, tests_in}
use Rattle.inp_rules.specs.Tests.{test_of}
use Rattle.inp_rules.proofs.SoundLemmas.{after_split, own_all}
use Rattle.inp_rules.proofs.WalkLemmas.{IsGoodAt, action_there, priority_there, test_there}

-- ---- lists
all_runs : {A : Type 0} (P : A → Type 0) (opens : A → Bool) (xs : List A) → All P xs → All (All P) (runs opens xs)
all_runs P opens [] all = All-nil (All P)
all_runs P opens (x ∷ xs) all = go (opens x) (all_runs P opens xs (All-tail P x xs all)) where
  go : (b : Bool) → All (All P) (runs opens xs) → All (All P) (cond b ((x ∷ before_first opens xs) ∷ runs opens xs) (runs opens xs))
  go true more = All-cons (All P) (x ∷ before_first opens xs) (runs opens xs)
      (All-cons P x (before_first opens xs) (All-head P x xs all) (All-take P _ xs (All-tail P x xs all))) more
  go false more = more

-- items that are all there are zipped with what they are
zip_good : {A : Type 0} (read : Line → Result A Fault) (lines : List Line) → All (λ line. (x : A) × (read line ≡ Ok x)) lines → AllZip (λ line x. read line ≡ Ok x) lines (filter_map (λ line. good_of (read line)) lines)
zip_good read [] all = tt
zip_good {A} read (line ∷ lines) all = go (read line) refl (zip_good read lines (All-tail (λ line. (x : A) × (read line ≡ Ok x)) line lines all)) where
  head : (x : A) × (read line ≡ Ok x)
  head = All-head (λ line. (x : A) × (read line ≡ Ok x)) line lines all

  go : (r : Result A Fault) → read line ≡ r → AllZip (λ line x. read line ≡ Ok x) lines (filter_map (λ line. good_of (read line)) lines)
      → AllZip (λ line x. read line ≡ Ok x) (line ∷ lines) (cons_option (good_of r) (filter_map (λ line. good_of (read line)) lines))
  go (Ok x) e more = (e, more)
  go (Err fault) e more = absurd (let bad : Err fault ≡ Ok head.0 = sym e ∙ head.1 in cc)

zip_map : {A : Type 0} (read : Line → Result A Fault) (lists : List (List Line)) → All (All (λ line. (x : A) × (read line ≡ Ok x))) lists → AllZip (AllZip (λ line x. read line ≡ Ok x)) lists (map (filter_map (λ line. good_of (read line))) lists)
zip_map read [] all = tt
zip_map {A} read (lines ∷ lists) all = (
  zip_good read lines (All-head (All (λ line. (x : A) × (read line ≡ Ok x))) lines lists all),
  zip_map read lists (All-tail (All (λ line. (x : A) × (read line ≡ Ok x))) lines lists all),
)

-- what a walk gives of the lines of a part
good_gathered : {A : Type 0} (is_part : Option RulePart → Bool) (read : Line → Result A Fault) (before own : List Line)
    → gather (λ before line. cond (is_part (placed (own_part before) (clause_at line))) (option_to_list (good_of (read line))) []) before own ≡ filter_map (λ line. good_of (read line)) (gather (line_with is_part) before own)
good_gathered is_part read before [] = refl
good_gathered {A} is_part read before (line ∷ own) = go (is_part (placed (own_part before) (clause_at line))) (good_gathered is_part read (before ++ line ∷ []) own) where
  one : (o : Option A) (xs : List A) → option_to_list o ++ xs ≡ cons_option o xs
  one None xs = refl
  one (Some x) xs = refl

  go : (b : Bool) → gather (λ before line. cond (is_part (placed (own_part before) (clause_at line))) (option_to_list (good_of (read line))) []) (before ++ line ∷ []) own ≡ filter_map (λ line. good_of (read line)) (gather (line_with is_part) (before ++ line ∷ []) own)
      → cond b (option_to_list (good_of (read line))) [] ++ gather (λ before line. cond (is_part (placed (own_part before) (clause_at line))) (option_to_list (good_of (read line))) []) (before ++ line ∷ []) own
      ≡ filter_map (λ line. good_of (read line)) (cond b (line ∷ []) [] ++ gather (line_with is_part) (before ++ line ∷ []) own)
  go true more = ap (λ l. option_to_list (good_of (read line)) ++ l) more ∙ one (good_of (read line)) (filter_map (λ line. good_of (read line)) (gather (line_with is_part) (before ++ line ∷ []) own))
  go false more = more

-- a reading that is one value is no other
ok_one : {A : Type 0} (r : Result A Fault) (a b : A) → r ≡ Ok a → r ≡ Ok b → a ≡ b
ok_one r a b p q = cc

module _ (known : Context) where
  abbrev HasTest : Line → Type 0
  HasTest line = (test : Test) × (test_of known line.tokens ≡ Ok test)

  abbrev HasAction : Line → Type 0
  HasAction line = (action : Action) × (action_of known line.tokens ≡ Ok action)

  abbrev HasPriority : Line → Type 0
  HasPriority line = (z : ℤ) × (priority_of known line.tokens ≡ Ok z)

  -- each line of a part is read
  record AreRead (own : List Line) : Type 0 where
    tests : All HasTest (lines_with are_tests own)
    then_acts : All HasAction (lines_with (are_actions false) own)
    else_acts : All HasAction (lines_with (are_actions true) own)
    priorities : All HasPriority (lines_with is_end own)

  part_more : (is_part : Option RulePart → Bool) (P : Line → Type 0) (own : List Line) (line : Line) → (is_part (placed (own_part own) (clause_at line)) ≡ true → P line) → All P (lines_with is_part own) → All P (lines_with is_part (own ++ line ∷ []))
  part_more is_part P own line there all = subst (All P) (sym (gather_push (line_with is_part) own line))
      (All-append P (lines_with is_part own) (line_with is_part own line) all (go (is_part (placed (own_part own) (clause_at line))) refl)) where
        go : (b : Bool) → is_part (placed (own_part own) (clause_at line)) ≡ b → All P (cond b (line ∷ []) [])
        go true t = All-cons P line [] (there t) (All-nil P)
        go false t = All-nil P

  read_more : (own : List Line) (line : Line) → IsGoodAt known (own_part own) line → AreRead own → AreRead (own ++ line ∷ [])
  read_more own line is read = record {
    tests = part_more are_tests HasTest own line (test_there known (own_part own) line is) read.tests;
    then_acts = part_more (are_actions false) HasAction own line (action_there known (own_part own) line is false) read.then_acts;
    else_acts = part_more (are_actions true) HasAction own line (action_there known (own_part own) line is true) read.else_acts;
    priorities = part_more is_end HasPriority own line (priority_there known (own_part own) line is) read.priorities;
  }

  read_none : AreRead []
  read_none = record { tests = All-nil HasTest; then_acts = All-nil HasAction; else_acts = All-nil HasAction; priorities = All-nil HasPriority }

  rule_meant : (line : Line) (own : List Line) → AreRead own → IsRuleOf known line own (rule_of known line own)
  unfolding rule_of groups_of actions_of rule_priority
  rule_meant line own read = record {
    name_is = refl;
    groups_are = zip_map (λ line. test_of known line.tokens) (runs begins_group (lines_with are_tests own)) (all_runs HasTest begins_group (lines_with are_tests own) read.tests);
    then_are = subst (λ l. AllZip (IsAction known) (lines_with (are_actions false) own) l) (sym (good_gathered (are_actions false) (λ line. action_of known line.tokens) [] own))
        (zip_good (λ line. action_of known line.tokens) (lines_with (are_actions false) own) read.then_acts);
    else_are = subst (λ l. AllZip (IsAction known) (lines_with (are_actions true) own) l) (sym (good_gathered (are_actions true) (λ line. action_of known line.tokens) [] own))
        (zip_good (λ line. action_of known line.tokens) (lines_with (are_actions true) own) read.else_acts);
    priorities = filter_map (λ line. good_of (priority_of known line.tokens)) (lines_with is_end own);
    priorities_are = zip_good (λ line. priority_of known line.tokens) (lines_with is_end own) read.priorities;
    priority_is = ap (last_or None) (good_gathered is_end (λ line. priority_of known line.tokens) [] own);
  }

  module _ (all : List Line) (faultless : AreFaultless known all) where
    rules_meant_from : (before lines : List Line) → all ≡ before ++ lines → AllZip (IsRule known) (runs begins_rule lines) (gather (rule_at known all) before lines)
    rules_meant_from before [] e = tt
    rules_meant_from before (line ∷ lines) e = go (begins_rule line) refl (rules_meant_from (before ++ line ∷ []) lines (e ∙ sym (append_assoc before (line ∷ []) lines))) where
      after : lines_after all before ≡ lines
      after = ap (λ l. lines_after l before) e ∙ after_split before line lines

      go : (b : Bool) → begins_rule line ≡ b → AllZip (IsRule known) (runs begins_rule lines) (gather (rule_at known all) (before ++ line ∷ []) lines)
          → AllZip (IsRule known) (cond b ((line ∷ before_first begins_rule lines) ∷ runs begins_rule lines) (runs begins_rule lines))
          (cond b (rule_of known line (own_lines (lines_after all before)) ∷ []) [] ++ gather (rule_at known all) (before ++ line ∷ []) lines)
      go true t more = (
        subst (λ l. IsRuleOf known line (own_lines lines) (rule_of known line (own_lines l))) (sym after) (rule_meant line (own_lines lines)
            (own_all known all faultless AreRead read_more before line [] lines (e ∙ sym (append_assoc before (line ∷ []) lines)) t read_none)),
        more,
      )
      go false t more = more

    pub rules_meant : MeanRules known all (rules_of known all)
    unfolding rules_of
    rules_meant = rules_meant_from [] all refl

  -- ---- one meaning
  tests_one : (lines : List Line) (a b : List Test) → AllZip (IsTest known) lines a → AllZip (IsTest known) lines b → a ≡ b
  tests_one lines a b p q = zip_unique (IsTest known) (λ line. ok_one (test_of known line.tokens)) lines a b p q

  actions_one : (lines : List Line) (a b : List Action) → AllZip (IsAction known) lines a → AllZip (IsAction known) lines b → a ≡ b
  actions_one lines a b p q = zip_unique (IsAction known) (λ line. ok_one (action_of known line.tokens)) lines a b p q

  rule_one : (lines : List Line) (a b : Rule) → IsRule known lines a → IsRule known lines b → a ≡ b
  rule_one [] a b p q = absurd p
  rule_one (line ∷ own) a b p q =
      let named = p.name_is ∙ sym q.name_is in
      let groups_same = zip_unique (AllZip (IsTest known)) tests_one (runs begins_group (lines_with are_tests own)) a.groups b.groups p.groups_are q.groups_are in
      let then_same = actions_one (lines_with (are_actions false) own) a.then_acts b.then_acts p.then_are q.then_are in
      let else_same = actions_one (lines_with (are_actions true) own) a.else_acts b.else_acts p.else_are q.else_are in
      let priorities = zip_unique (IsPriority known) (λ line. ok_one (priority_of known line.tokens)) (lines_with is_end own) p.priorities q.priorities p.priorities_are q.priorities_are in
      let priority_same = p.priority_is ∙ (ap (last_or None) priorities ∙ sym q.priority_is) in
      λ i. record { name = named i; groups = groups_same i; then_acts = then_same i; else_acts = else_same i; priority6 = priority_same i }

  pub rules_one : (lines : List Line) (a b : List Rule) → MeanRules known lines a → MeanRules known lines b → a ≡ b
  rules_one lines a b p q = zip_unique (IsRule known) rule_one (runs begins_rule lines) a b p q
