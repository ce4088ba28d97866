-- Rules of lines that are without fault are sound, and there are as few of them as may be.
use Rattle.std.proofs.Common.{◌≡◌, ◌≤◌, ◌<◌, ◌+◌, ◌∷◌, ◌++◌, [], ℕ, suc, Bool, true, false, not, ◌&&◌, ◌||◌, cond, List, length, length-append, drop, sum_by}
use Rattle.std.proofs.Common.{Option, Some, None, is_some, is_none, option_to_list, refl, ap, sym, subst, ◌∙◌, arith, nat_lt, nat_le, append_assoc, append-nil}
use Rattle.std.specs.List.{All, before_first}
use Rattle.std.proofs.lemmas.Bool.Decides.{nat_tests}
use Rattle.std.proofs.lemmas.List.Elements.{All-append, All-cons, All-head, All-nil, All-tail, All-weaker}
use Rattle.fixed_num.specs.declared.constants.TheConstants.{RECORD_LIMIT}
use Rattle.net_types.specs.declared.project.Project.{Project}
use Rattle.net_types.specs.declared.rules.Action.{Action}
use Rattle.net_types.specs.declared.rules.Rule.{Rule}
use Rattle.net_types.specs.declared.rules.Test.{Test}
use Rattle.net_types.specs.Ranges.{ActionInRange, GroupInRange, TestInRange}
use Rattle.net_types.specs.Sound.{ActionNames, TestNames}
use Rattle.inp_lines.specs.declared.fault.Fault.{Fault}
use Rattle.inp_lines.specs.declared.line.Line.{Line}
use Rattle.inp_lines.specs.declared.line.SectionName.{SectionName}
use Rattle.inp_lines.specs.declared.line.SectionName.TheVariants as section
use Rattle.inp_lines.specs.declared.names.Naming.{Naming}
use Rattle.inp_lines.specs.declared.names.Naming.TheVariants as naming
use Rattle.inp_lines.specs.Faults.{token_at}
use Rattle.inp_lines.specs.Gather.{fault_found, gather}
use Rattle.inp_lines.specs.Names.{defined, naming_by, naming_of, with_first, with_name}
use Rattle.inp_lines.specs.Readings.{is_long}
use Rattle.inp_lines.specs.Sources.{FaultsIn, OneOn}
use Rattle.inp_lines.proofs.GatherLemmas.{gather_append, gather_push}
use Rattle.inp_lines.proofs.NameLemmas.{defined_more, defined_none, first_new}
use Rattle.inp_forms.specs.Context.{Context}
use Rattle.inp_rules.specs.declared.clauses.Clause.{Clause}
use Rattle.inp_rules.specs.declared.clauses.Clause.TheVariants as clause
use Rattle.inp_rules.specs.declared.order.RulePart.{RulePart}
use Rattle.inp_rules.specs.declared.order.RulePart.TheVariants as rule
use Rattle.inp_rules.specs.Laws.{AreFaultless, HasFewRules, IsSoundRule, NamesObjects, size_of}
use Rattle.inp_rules.specs.Order.{part_after}
use Rattle.inp_rules.specs.RuleFaults.{fault_by_clause, fault_with, is_full, is_over, is_repeated, line_fault_of, name_fault, name_in, rule_fault, rule_name}
use Rattle.inp_rules.specs.RuleLines.{begins_rule, clause_at, comes_to_then, is_controls, is_past_tests, is_rule, lines_after, own_lines, own_part, part_from, part_of}
use Rattle.inp_rules.specs.RuleWords.{clause_of}
use Rattle.inp_rules.specs.Rules.{rule_at, rule_of, rules_of}
use Rattle.inp_rules.proofs.GroupLemmas.{first_cons}
use Rattle.inp_rules.proofs.OrderLemmas.{past_named}
use Rattle.inp_rules.proofs.PartLemmas.{IsSoundAction, IsSoundTest}
use Rattle.inp_rules.proofs.WalkLemmas.{IsGoodAt, IsSoundGroup, IsSoundSoFar, sound_more, sound_none}

-- ---- one fault for each line
one_of : (line : Line) (o : Option Fault) → OneOn line.number (fault_found line o)
one_of line None = tt
one_of line (Some fault) = refl

no_controls : (known : Context) (part : RulePart) (full : Bool) (standing : Naming) (after : List Line) (line : Line) → is_controls line.section ≡ false → fault_found line (fault_with known part full standing after line) ≡ []
unfolding fault_with
no_controls known part full standing after line e = ap (λ b. fault_found line (cond (b && not (is_long line)) (fault_by_clause known part full standing after line.tokens (clause_at line)) None)) e

pub faults_of_rules : (known : Context) (all : List Line) → FaultsIn is_controls (rule_fault known all)
unfolding line_fault_of
faults_of_rules known all = record {
  one = λ before line. one_of line (line_fault_of known all before line);
  elsewhere = λ before line e. no_controls known (part_of before) (is_full before) (naming_of (defined rule_name before) (rule_name line)) (lines_after all before) line e;
}

-- ---- lists
nothing_left : {A : Type 0} (xs ys : List A) → xs ++ ys ≡ [] → xs ≡ []
nothing_left [] ys e = refl
nothing_left (x ∷ xs) ys e = absurd (cc)

nothing_right : {A : Type 0} (xs ys : List A) → xs ++ ys ≡ [] → ys ≡ []
nothing_right [] ys e = e
nothing_right (x ∷ xs) ys e = absurd (cc)

all_middle : {A : Type 0} (P : A → Type 0) (xs : List A) (x : A) (ys : List A) → All P (xs ++ x ∷ ys) → P x
all_middle P [] x ys all = All-head P x ys all
all_middle P (y ∷ xs) x ys all = all_middle P xs x ys (All-tail P y (xs ++ x ∷ ys) all)

not_found : (line : Line) (o : Option Fault) → fault_found line o ≡ [] → o ≡ None
not_found line None e = refl
not_found line (Some fault) e = absurd (cc)

pub after_split : (before : List Line) (line : Line) (rest : List Line) → lines_after (before ++ line ∷ rest) before ≡ rest
after_split [] line rest = refl
after_split (x ∷ before) line rest = let more : length (x ∷ before) + 1 ≡ suc (length before + 1) = omega arith in
    ap (λ n. drop n (x ∷ (before ++ line ∷ rest))) more ∙ after_split before line rest

pub line_longer : (before : List Line) (line : Line) (xs : List Line) (y : Line) (rest : List Line) → (before ++ line ∷ xs) ++ y ∷ rest ≡ (before ++ line ∷ (xs ++ y ∷ [])) ++ rest
line_longer before line xs y rest = append_assoc before (line ∷ xs) (y ∷ rest) ∙ (ap (λ l. before ++ line ∷ l) (sym (append_assoc xs (y ∷ []) rest)) ∙ sym (append_assoc before (line ∷ (xs ++ y ∷ [])) rest))

-- a RULE line brings the rule to its name
rule_clause : (o : Option Clause) → is_rule o ≡ true → o ≡ Some clause.Rule
rule_clause None e = absurd (cc)
rule_clause (Some clause.Rule) e = refl
rule_clause (Some clause.If) e = absurd (cc)
rule_clause (Some clause.And) e = absurd (cc)
rule_clause (Some clause.Or) e = absurd (cc)
rule_clause (Some clause.Then) e = absurd (cc)
rule_clause (Some clause.Else) e = absurd (cc)
rule_clause (Some clause.Priority) e = absurd (cc)

part_append : (part : RulePart) (xs ys : List Line) → part_from part (xs ++ ys) ≡ part_from (part_from part xs) ys
part_append part [] ys = refl
part_append part (x ∷ xs) ys = part_append (part_after part (clause_at x)) xs ys

pub part_in_rule : (before : List Line) (line : Line) (xs : List Line) → begins_rule line ≡ true → part_of (before ++ line ∷ xs) ≡ own_part xs
unfolding part_of own_part
part_in_rule before line xs e = part_append rule.Outside before (line ∷ xs)
    ∙ ap (λ o. part_from (part_after (part_from rule.Outside before) o) xs) (rule_clause (clause_at line) e)

-- the own lines of a rule end before the next RULE line
pub own_rule : (y : Line) (rest : List Line) → begins_rule y ≡ true → own_lines (y ∷ rest) ≡ []
own_rule y rest e = first_cons begins_rule y rest ∙ ap (λ b. cond b [] (y ∷ own_lines rest)) e

pub own_other : (y : Line) (rest : List Line) → begins_rule y ≡ false → own_lines (y ∷ rest) ≡ y ∷ own_lines rest
own_other y rest e = first_cons begins_rule y rest ∙ ap (λ b. cond b [] (y ∷ own_lines rest)) e

-- what a RULE line without fault has
pub record IsGoodRule (tokens : List (List ℕ)) (standing : Naming) (own : List Line) : Type 0 where
  pub enough : nat_lt (length tokens) 2 ≡ false
  pub room : is_over standing ≡ false
  pub comes : comes_to_then own ≡ true
  pub fresh : is_repeated standing ≡ false

after_some : (b : Bool) (fault : Fault) (rest : Option Fault) → cond b (Some fault) rest ≡ None → (b ≡ false) × (rest ≡ None)
after_some true fault rest e = absurd (cc)
after_some false fault rest e = (refl, e)

not_false : (b : Bool) → not b ≡ false → b ≡ true
not_false true e = refl
not_false false e = absurd (cc)

rule_good : (tokens : List (List ℕ)) (standing : Naming) (own : List Line) → name_fault tokens standing own ≡ None → IsGoodRule tokens standing own
rule_good tokens standing own e =
    let a = after_some (nat_lt (length tokens) 2) _ _ e in
    let b = after_some (is_over standing) _ _ a.1 in
    let c = after_some (not (comes_to_then own)) _ _ b.1 in
    let d = after_some (is_repeated standing) _ _ c.1 in
    record { enough = a.0; room = b.0; comes = not_false (comes_to_then own) c.0; fresh = d.0 }

rule_section : (line : Line) → begins_rule line ≡ true → is_controls line.section ≡ true
unfolding clause_at
rule_section line = go (is_controls line.section) where
  go : (b : Bool) → is_rule (cond b (clause_of (token_at line.tokens 0)) None) ≡ true → b ≡ true
  go true e = refl
  go false e = absurd (cc)

module _ (known : Context) (all : List Line) (faultless : AreFaultless known all) where
  pub good_line : (before : List Line) (line : Line) (rest : List Line) → all ≡ before ++ line ∷ rest → (is_long line ≡ false) × (line_fault_of known all before line ≡ None)
  good_line before line rest e = (
    all_middle (λ line. is_long line ≡ false) before line rest (subst (All (λ line. is_long line ≡ false)) e faultless.short),
    not_found line (line_fault_of known all before line) (nothing_left (rule_fault known all before line) (gather (rule_fault known all) (before ++ line ∷ []) rest)
        (nothing_right (gather (rule_fault known all) [] before) (gather (rule_fault known all) before (line ∷ rest))
        (sym (gather_append (rule_fault known all) [] before (line ∷ rest)) ∙ (ap (gather (rule_fault known all) []) (sym e) ∙ faultless.good)))),
  )

  pub good_at : (before : List Line) (line : Line) (rest : List Line) → all ≡ before ++ line ∷ rest → begins_rule line ≡ false → IsGoodAt known (part_of before) line
  unfolding line_fault_of
  good_at before line rest e h = let good = good_line before line rest e in
      record { short = good.0; no_rule = h; full = is_full before; standing = naming_of (defined rule_name before) (rule_name line); after = lines_after all before; good = good.1 }

  pub good_rule : (before : List Line) (line : Line) (rest : List Line) → all ≡ before ++ line ∷ rest → begins_rule line ≡ true → IsGoodRule line.tokens (naming_of (defined rule_name before) (rule_name line)) (own_lines rest)
  unfolding line_fault_of fault_with
  good_rule before line rest e h =
      let good = good_line before line rest e in
      let standing = naming_of (defined rule_name before) (rule_name line) in
      let here : (is_controls line.section && not (is_long line)) ≡ true = ap (λ b. b && not (is_long line)) (rule_section line h) ∙ ap not good.0 in
      let after : lines_after all before ≡ rest = ap (λ l. lines_after l before) e ∙ after_split before line rest in
      rule_good line.tokens standing (own_lines rest)
      (ap (λ l. name_fault line.tokens standing (own_lines l)) (sym after)
      ∙ (ap (fault_by_clause known (part_of before) (is_full before) standing (lines_after all before) line.tokens) (sym (rule_clause (clause_at line) h))
      ∙ (ap (λ b. cond b (fault_by_clause known (part_of before) (is_full before) standing (lines_after all before) line.tokens (clause_at line)) None) (sym here)
      ∙ good.1)))

  -- what holds of no lines, and of one line more that isn't at fault, holds of the own lines of a rule
  pub own_all : (P : List Line → Type 0) → ((own : List Line) (line : Line) → IsGoodAt known (own_part own) line → P own → P (own ++ line ∷ []))
      → (before : List Line) (line : Line) (xs rest : List Line) → all ≡ (before ++ line ∷ xs) ++ rest → begins_rule line ≡ true → P xs → P (xs ++ own_lines rest)
  own_all P step before line xs [] e h p = subst P (sym (append-nil xs)) p
  own_all P step before line xs (y ∷ rest) e h p = go (begins_rule y) refl (own_all P step before line (xs ++ y ∷ []) rest (e ∙ line_longer before line xs y rest) h) where
    go : (b : Bool) → begins_rule y ≡ b → (P (xs ++ y ∷ []) → P ((xs ++ y ∷ []) ++ own_lines rest)) → P (xs ++ own_lines (y ∷ rest))
    go true t later = subst P (sym (ap (λ l. xs ++ l) (own_rule y rest t) ∙ append-nil xs)) p
    go false t later =
        let is : IsGoodAt known (own_part xs) y = subst (λ part. IsGoodAt known part y) (part_in_rule before line xs h) (good_at (before ++ line ∷ xs) y rest e t) in
        subst P (append_assoc xs (y ∷ []) (own_lines rest) ∙ ap (λ l. xs ++ l) (sym (own_other y rest t))) (later (step xs y is p))

  module _ (project : Project) (objects_are : NamesObjects known project) where
    own_sound : (before : List Line) (line : Line) (rest : List Line) → all ≡ before ++ line ∷ rest → begins_rule line ≡ true → IsSoundSoFar known project (own_lines rest)
    own_sound before line rest e h = own_all (IsSoundSoFar known project) (sound_more known project objects_are) before line [] rest (e ∙ sym (append_assoc before (line ∷ []) rest)) h (sound_none known project objects_are)

    group_in : (group : List Test) → IsSoundGroup known project group → GroupInRange group
    group_in group is = record { some = is.some; tests_in = All-weaker (IsSoundTest project) TestInRange (λ test is. is.range) group is.tests }

    group_names : (group : List Test) → IsSoundGroup known project group → All (TestNames project) group
    group_names group is = All-weaker (IsSoundTest project) (TestNames project) (λ test is. is.names) group is.tests

    rule_sound : (before : List Line) (line : Line) (rest : List Line) → all ≡ before ++ line ∷ rest → begins_rule line ≡ true → IsSoundRule project (rule_of known line (own_lines rest))
    unfolding rule_of
    rule_sound before line rest e h =
        let is = own_sound before line rest e h in
        let good = good_rule before line rest e h in
        record {
          range = record {
            some_groups = is.some_groups (past_named (own_part (own_lines rest)) good.comes);
            groups_in = All-weaker (IsSoundGroup known project) GroupInRange group_in _ is.groups;
            some_acts = is.some_acts good.comes;
            then_in = All-weaker (IsSoundAction project) ActionInRange (λ action is. is.range) _ is.then_acts;
            else_in = All-weaker (IsSoundAction project) ActionInRange (λ action is. is.range) _ is.else_acts;
            priority_in = is.priority;
          };
          names = record {
            groups = All-weaker (IsSoundGroup known project) (All (TestNames project)) group_names _ is.groups;
            then_acts = All-weaker (IsSoundAction project) (ActionNames project) (λ action is. is.names) _ is.then_acts;
            else_acts = All-weaker (IsSoundAction project) (ActionNames project) (λ action is. is.names) _ is.else_acts;
          };
        }

    rules_from : (before lines : List Line) → all ≡ before ++ lines → All (IsSoundRule project) (gather (rule_at known all) before lines)
    rules_from before [] e = All-nil (IsSoundRule project)
    rules_from before (line ∷ lines) e =
        All-append (IsSoundRule project) (rule_at known all before line) (gather (rule_at known all) (before ++ line ∷ []) lines) (go (begins_rule line) refl)
        (rules_from (before ++ line ∷ []) lines (e ∙ sym (append_assoc before (line ∷ []) lines))) where
          after : lines_after all before ≡ lines
          after = ap (λ l. lines_after l before) e ∙ after_split before line lines

          go : (b : Bool) → begins_rule line ≡ b → All (IsSoundRule project) (cond b (rule_of known line (own_lines (lines_after all before)) ∷ []) [])
          go true t = All-cons (IsSoundRule project) (rule_of known line (own_lines (lines_after all before))) []
              (subst (λ l. IsSoundRule project (rule_of known line (own_lines l))) (sym after) (rule_sound before line lines e t)) (All-nil (IsSoundRule project))
          go false t = All-nil (IsSoundRule project)

    pub rules_sound : All (IsSoundRule project) (rules_of known all)
    unfolding rules_of
    rules_sound = rules_from [] all refl
