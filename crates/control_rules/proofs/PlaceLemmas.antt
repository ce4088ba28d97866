-- One step of each walk over actions.
use Rattle.std.proofs.Common.{◌≡◌, ◌≢◌, ◌∙◌, ℕ, suc, ◌+◌, ◌*◌, ◌/◌, ◌%◌, ◌<◌, Bool, true, false, ◌&&◌, ◌||◌, cond}
use Rattle.std.proofs.Common.{List, [], ◌∷◌, length, take, get_or, set, Option, Some, None, ℤ, pos, negsuc, ◌≤ℤ◌}
use Rattle.std.proofs.Common.{◌==◌, refl, sym, ap, subst, arith, get_or-set_same, get_or-set_other, find, All}
use Rattle.std.specs.List.{list_any}
use Rattle.std.specs.Option.{option_map_or, option_or}
use Rattle.std.specs.Ordering.{int_eq}
use Rattle.std.proofs.lemmas.Int.{ints}
use Rattle.std.proofs.lemmas.Bool.Decides.{Decides-int_eq}
use Rattle.std.proofs.lemmas.Bool.Decides.{nat_tests}
use Rattle.std.proofs.lemmas.List.{take_more, get_or_default}
use Rattle.std.proofs.lemmas.List.Elements.{All-take}
use Rattle.std.proofs.lemmas.List.Folds.{list_any_more, find-append}
use Rattle.fixed_num.specs.Lists.{number}
use Rattle.net_types.specs.declared.rules.Action.{Action}
use Rattle.net_types.specs.declared.rules.Rule.{Rule}
use Rattle.net_types.specs.declared.project.Project.{Project}
use Rattle.net_types.specs.Sound.{IsSound}
use Rattle.control_rules.specs.Places.{is_on, claimed, settled, gives_way, rule_at, list_at}
use Rattle.control_rules.specs.Places.{no_rule, unclaimed, holder, IsPlace, IsAction, IsRule}
use Rattle.control_rules.specs.Settings.{outranks}

-- a walk that has seen no action yet
pub claimed_none : (rules : List Rule) (list : ℕ) (link : ℕ) (place : ℤ) → place ≡ claimed rules list [] link place
unfolding claimed
claimed_none rules list link place = refl

pub settled_none : (list : ℕ) (link : ℕ) (place : ℤ) → place ≡ settled list [] link place
unfolding settled
settled_none list link place = same (int_eq place (negsuc list))
  where
    same : (b : Bool) → place ≡ cond b place place
    same true = refl
    same false = refl

same_either : (b : Bool) (x : ℤ) → cond b x x ≡ x
same_either true x = refl
same_either false x = refl

never : (b : Bool) → (b && false) ≡ false
never true = refl
never false = refl

-- claiming by some actions and then by one more
claim_twice : (g : ℤ → Bool) (a b : Bool) (list place : ℤ) →
    cond (b && g (cond (a && g place) list place)) list (cond (a && g place) list place) ≡ cond ((a || b) && g place) list place
claim_twice g true b list place = by_way (g place) refl
  where
    by_way : (way : Bool) → g place ≡ way → cond (b && g (cond way list place)) list (cond way list place) ≡ cond way list place
    by_way true e = same_either (b && g list) list
    by_way false e = ap (λ (w : Bool). cond (b && w) list place) e ∙ ap (λ (w : Bool). cond w list place) (never b)
claim_twice g false b list place = refl

pub claimed_more : (rules : List Rule) (list : ℕ) (acts : List Action) (i : ℕ) (d : Action) (link : ℕ) (before now after : ℤ)
    → i < length acts → now ≡ claimed rules list (take i acts) link before
    → after ≡ cond (((get_or acts i d).link == link) && gives_way rules list now) (negsuc list) now
    → after ≡ claimed rules list (take (i + 1) acts) link before
unfolding claimed
claimed_more rules list acts i d link before now after h was is =
    is ∙ ap (λ (z : ℤ). cond (((get_or acts i d).link == link) && gives_way rules list z) (negsuc list) z) was
    ∙ claim_twice (gives_way rules list) (list_any (is_on link) (take i acts)) ((get_or acts i d).link == link) (negsuc list) before
    ∙ ap (λ (b : Bool). cond (b && gives_way rules list before) (negsuc list) before) (sym (list_any_more (is_on link) acts i d h))

-- what holds of each action holds of one that is found
pub find_holds : {A : Type 0} (P : A → Type 0) (test : A → Bool) (xs : List A) (x : A) → All P xs → find test xs ≡ Some x → P x
find_holds P test [] x all e = absurd (cc)
find_holds {A} P test (y ∷ ys) x all e =
    found_or_later (test y) y x (find test ys) e (all 0 y (omega arith)) (find_holds P test ys x (λ k d h. all (suc k) d (omega (arith, h))))
  where
    found_or_later : (b : Bool) (y x : A) (rest : Option A) → cond b (Some y) rest ≡ Some x → P y → (rest ≡ Some x → P x) → P x
    found_or_later true y x rest e here later = let same : y ≡ x = cc in subst P same here
    found_or_later false y x rest e here later = later e

-- settling by some actions and then by one more
settle_twice : (list : ℤ) (found : Option Action) (action : Action) (b same : Bool) (place : ℤ) → int_eq place list ≡ same
    → ((one : Action) → found ≡ Some one → int_eq one.setting6 list ≡ false) →
    cond (b && int_eq (cond same (option_map_or (λ (x : Action). x.setting6) found place) place) list) action.setting6 (cond same (option_map_or (λ (x : Action). x.setting6) found place) place)
    ≡ cond same (option_map_or (λ (x : Action). x.setting6) (option_or found (cond b (Some action) None)) place) place
settle_twice list None action true true place e f = ap (λ (w : Bool). cond w action.setting6 place) e
settle_twice list None action false true place e f = refl
settle_twice list (Some one) action b true place e f =
    ap (λ (w : Bool). cond (b && w) action.setting6 one.setting6) (f one refl) ∙ ap (λ (w : Bool). cond w action.setting6 one.setting6) (never b)
settle_twice list found action b false place e f =
    ap (λ (w : Bool). cond (b && w) action.setting6 place) e ∙ ap (λ (w : Bool). cond w action.setting6 place) (never b)

-- a setting is no claim
pub no_claim : (setting : ℤ) (list : ℕ) → pos 0 ≤ℤ setting → int_eq setting (negsuc list) ≡ false
no_claim setting list h = apart (int_eq setting (negsuc list)) refl
  where
    apart : (b : Bool) → int_eq setting (negsuc list) ≡ b → b ≡ false
    apart true e = absurd (differ ((Decides-int_eq setting (negsuc list)).0 e))
      where
        differ : setting ≡ negsuc list → ⊥
        differ d = omega (arith, ints)
    apart false e = refl

pub settled_more : (links list : ℕ) (acts : List Action) (i : ℕ) (d : Action) (link : ℕ) (before now after : ℤ)
    → All (IsAction links) acts → i < length acts → now ≡ settled list (take i acts) link before
    → after ≡ cond (((get_or acts i d).link == link) && int_eq now (negsuc list)) (get_or acts i d).setting6 now
    → after ≡ settled list (take (i + 1) acts) link before
unfolding settled
settled_more links list acts i d link before now after all h was is =
    is ∙ ap (λ (z : ℤ). cond ((action.link == link) && int_eq z (negsuc list)) action.setting6 z) was
    ∙ settle_twice (negsuc list) (find (is_on link) (take i acts)) action (action.link == link) (int_eq before (negsuc list)) before refl
    (λ one f. no_claim one.setting6 list (find_holds (IsAction links) (is_on link) (take i acts) one (All-take (IsAction links) i acts all) f).setting.from)
    ∙ ap (λ (o : Option Action). cond (int_eq before (negsuc list)) (option_map_or (λ (x : Action). x.setting6) o before) before) (sym found)
  where
    action : Action
    action = get_or acts i d

    found : find (is_on link) (take (i + 1) acts) ≡ option_or (find (is_on link) (take i acts)) (cond ((get_or acts i d).link == link) (Some (get_or acts i d)) None)
    found = ap (find (is_on link)) (take_more acts i d h) ∙ find-append (is_on link) (take i acts) (get_or acts i d ∷ [])

-- a place after a write to one place
pub written : (places : List ℤ) (at link : ℕ) (value : ℤ) → at < length places
    → number (set places at value) link ≡ cond (at == link) value (number places link)
written places at link value h = by_place (at == link) refl
  where
    by_place : (b : Bool) → (at == link) ≡ b → number (set places at value) link ≡ cond b value (number places link)
    by_place true e = let same : at ≡ link = grind (arith, nat_tests) in ap (λ (k : ℕ). number (set places at value) k) (sym same) ∙ get_or-set_same places at value (pos 0) h
    by_place false e = let apart : link ≢ at = grind (arith, nat_tests) in get_or-set_other places at link value (pos 0) apart

-- a place after a write to one place that is made where a test of it passes
pub conditional : (test : ℤ → Bool) (places after : List ℤ) (at link : ℕ) (value : ℤ) → at < length places
    → after ≡ cond (test (number places at)) (set places at value) places
    → number after link ≡ cond ((at == link) && test (number places link)) value (number places link)
conditional test places after at link value h e = ap (λ (xs : List ℤ). number xs link) e ∙ by_test (test (number places at)) refl
  where
    by_test : (b : Bool) → test (number places at) ≡ b
        → number (cond b (set places at value) places) link ≡ cond ((at == link) && test (number places link)) value (number places link)
    by_test b t = by_place (at == link) refl b t
      where
        by_place : (p : Bool) → (at == link) ≡ p → (b : Bool) → test (number places at) ≡ b
            → number (cond b (set places at value) places) link ≡ cond (p && test (number places link)) value (number places link)
        by_place true e b t =
            let same : at ≡ link = grind (arith, nat_tests) in
            let passes : test (number places link) ≡ b = ap (λ (k : ℕ). test (number places k)) (sym same) ∙ t in
            by_value b ∙ ap (λ (w : Bool). cond w value (number places link)) (sym passes)
          where
            by_value : (b : Bool) → number (cond b (set places at value) places) link ≡ cond b value (number places link)
            by_value true = written places at link value h ∙ ap (λ (w : Bool). cond w value (number places link)) e
            by_value false = refl
        by_place false e true t = written places at link value h ∙ ap (λ (w : Bool). cond w value (number places link)) e
        by_place false e false t = refl

-- a place that a list may have claimed
pub still_place : (rules list : ℕ) (b : Bool) (place : ℤ) → list < 2 * rules → IsPlace rules place → IsPlace rules (cond b (negsuc list) place)
still_place rules list true place h valid = record { claim = λ _. (list, h, refl) }
still_place rules list false place h valid = valid

-- the rules of a sound project
pub sound_rules : (project : Project) → IsSound project → All (IsRule (length project.links)) project.rules
sound_rules project sound k d h =
    let ranges = sound.ranges.rules k d h in
    let names = sound.names.rules k d h in
    record {
      then_acts = λ i a g. record { named = (names.then_acts i a g).link; setting = (ranges.then_in i a g).setting_in };
      else_acts = λ i a g. record { named = (names.else_acts i a g).link; setting = (ranges.else_in i a g).setting_in };
    }

-- the lists of rules that name links of the project name them too
pub acts_named : (links : ℕ) (rules : List Rule) (list : ℕ) → All (IsRule links) rules → list < 2 * length rules → All (IsAction links) (list_at rules list)
acts_named links rules list all h = by_parity ((list % 2) == 0)
  where
    rule : IsRule links (rule_at rules (list / 2))
    rule = all (list / 2) no_rule (omega arith)

    by_parity : (b : Bool) → All (IsAction links) (cond b (rule_at rules (list / 2)).then_acts (rule_at rules (list / 2)).else_acts)
    by_parity true = rule.then_acts
    by_parity false = rule.else_acts

-- when a place gives way
pub gives_way_free : (rules : List Rule) (list : ℕ) (place : ℤ) → place ≡ unclaimed → gives_way rules list place ≡ true
unfolding gives_way
gives_way_free rules list place e =
    ap (λ (b : Bool). cond b true (outranks (rule_at rules (list / 2)).priority6 (rule_at rules (holder place / 2)).priority6)) ((Decides-int_eq place unclaimed).1 e)

pub gives_way_held : (rules : List Rule) (list : ℕ) (place : ℤ) → place ≢ unclaimed
    → gives_way rules list place ≡ outranks (rule_at rules (list / 2)).priority6 (rule_at rules (holder place / 2)).priority6
unfolding gives_way
gives_way_held rules list place h =
    ap (λ (b : Bool). cond b true (outranks (rule_at rules (list / 2)).priority6 (rule_at rules (holder place / 2)).priority6)) (apart (int_eq place unclaimed) refl)
  where
    apart : (b : Bool) → int_eq place unclaimed ≡ b → b ≡ false
    apart true e = absurd (h ((Decides-int_eq place unclaimed).0 e))
    apart false e = refl

-- a claimed place has a holder
pub held_by : (rules : ℕ) (place : ℤ) → IsPlace rules place → place ≢ unclaimed → holder place < 2 * rules
held_by rules place valid h = let claim = valid.claim h in omega (arith, ints, claim.1, claim.2)

-- a rule that was read from the list
pub rule_is : (rules : List Rule) (k : ℕ) (rule : Rule) → k < length rules → rule ≡ get_or rules k rule → rule ≡ rule_at rules k
rule_is rules k rule h e = e ∙ get_or_default rules k rule no_rule h

-- the same of the rules as the code lends them
pub acts_in : (links : ℕ) (rules lent : List Rule) (list places : ℕ) → lent ≡ rules → places ≡ links → All (IsRule links) rules → list < 2 * length lent
    → All (IsAction places) (list_at lent list)
acts_in links rules lent list places e f all h =
    let named : All (IsAction links) (list_at lent list) = acts_named links lent list (subst (All (IsRule links)) (sym e) all) h in
    subst (λ (n : ℕ). All (IsAction n) (list_at lent list)) (sym f) named

-- one more action of the list that the code has lent
pub claim_step : (rules : List Rule) (list : ℕ) (lent : List Action) (i : ℕ) (d : Action) (start now after : List ℤ) (link : ℕ) → lent ≡ list_at rules list
    → All (IsAction (length start)) (list_at rules list) → length now ≡ length start → i < length lent
    → after ≡ cond (gives_way rules list (number now (get_or lent i d).link)) (set now (get_or lent i d).link (negsuc list)) now
    → number after link ≡ cond (((get_or lent i d).link == link) && gives_way rules list (number now link)) (negsuc list) (number now link)
claim_step rules list lent i d start now after link lends named long h e =
    let action = subst (All (IsAction (length start))) (sym lends) named i d h in
    conditional (gives_way rules list) now after (get_or lent i d).link link (negsuc list) (omega (arith, action.named, long)) e

pub claim_loop : (rules : List Rule) (list : ℕ) (lent : List Action) (i : ℕ) (d : Action) (start now after : List ℤ) (link : ℕ) → lent ≡ list_at rules list
    → All (IsAction (length start)) (list_at rules list) → length now ≡ length start → i < length lent
    → after ≡ cond (gives_way rules list (number now (get_or lent i d).link)) (set now (get_or lent i d).link (negsuc list)) now
    → number now link ≡ claimed rules list (take i lent) link (number start link)
    → number after link ≡ claimed rules list (take (i + 1) lent) link (number start link)
claim_loop rules list lent i d start now after link lends named long h e was =
    claimed_more rules list lent i d link (number start link) (number now link) (number after link) h was (claim_step rules list lent i d start now after link lends named long h e)

pub claim_valid : (rules : List Rule) (list : ℕ) (lent : List Action) (i : ℕ) (d : Action) (start now after : List ℤ) (link : ℕ) → lent ≡ list_at rules list
    → All (IsAction (length start)) (list_at rules list) → length now ≡ length start → i < length lent → list < 2 * length rules
    → after ≡ cond (gives_way rules list (number now (get_or lent i d).link)) (set now (get_or lent i d).link (negsuc list)) now
    → IsPlace (length rules) (number now link) → IsPlace (length rules) (number after link)
claim_valid rules list lent i d start now after link lends named long h within e valid =
    subst (IsPlace (length rules)) (sym (claim_step rules list lent i d start now after link lends named long h e))
    (still_place (length rules) list (((get_or lent i d).link == link) && gives_way rules list (number now link)) (number now link) within valid)

pub settle_loop : (rules : List Rule) (list : ℕ) (lent : List Action) (i : ℕ) (d : Action) (start now after : List ℤ) (link : ℕ) → lent ≡ list_at rules list
    → All (IsAction (length start)) (list_at rules list) → length now ≡ length start → i < length lent
    → after ≡ cond (int_eq (number now (get_or lent i d).link) (negsuc list)) (set now (get_or lent i d).link (get_or lent i d).setting6) now
    → number now link ≡ settled list (take i lent) link (number start link)
    → number after link ≡ settled list (take (i + 1) lent) link (number start link)
settle_loop rules list lent i d start now after link lends named long h e was =
    let all = subst (All (IsAction (length start))) (sym lends) named in
    let action = all i d h in
    settled_more (length start) list lent i d link (number start link) (number now link) (number after link) all h was
    (conditional (λ (z : ℤ). int_eq z (negsuc list)) now after (get_or lent i d).link link (get_or lent i d).setting6 (omega (arith, action.named, long)) e)
