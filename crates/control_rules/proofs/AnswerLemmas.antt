-- What the places hold in the end is what the definition says.
use Rattle.std.proofs.Common.{◌≡◌, ◌∙◌, ℕ, zero, suc, ◌+◌, ◌*◌, ◌/◌, ◌%◌, ◌^◌, ◌<◌, ◌≤◌, Bool, true, false}
use Rattle.std.proofs.Common.{◌&&◌, ◌||◌, cond, List, [], ◌∷◌, ◌++◌, length, map, take, Option, Some, None, ℤ}
use Rattle.std.proofs.Common.{pos, negsuc, ◌≤ℤ◌, ◌==◌, refl, sym, ap, arith, find, option_map, is_some, All}
use Rattle.std.specs.List.{list_any}
use Rattle.std.specs.Option.{option_map_or}
use Rattle.std.specs.Ordering.{int_eq}
use Rattle.std.proofs.lemmas.Bool.Decides.{Decides-int_eq, nat_tests}
use Rattle.std.proofs.lemmas.Grind.{flat_map-append}
use Rattle.std.proofs.lemmas.Int.{ints}
use Rattle.std.proofs.lemmas.List.{take_more, take_all}
use Rattle.std.proofs.lemmas.List.FromFn.{fill_by_all}
use Rattle.fixed_num.specs.Lists.{number}
use Rattle.net_types.specs.declared.network.Node.{Node}
use Rattle.net_types.specs.declared.project.Project.{Project}
use Rattle.net_types.specs.declared.rules.Action.{Action}
use Rattle.net_types.specs.declared.rules.Rule.{Rule}
use Rattle.net_types.specs.Sound.{IsSound}
use Rattle.control_rules.specs.Conditions.{Conditions}
use Rattle.control_rules.specs.Places.{is_on, unclaimed, holder, gives_way, claimed, claimed_after, settled}
use Rattle.control_rules.specs.Places.{settled_after, list_at, list_taken, rule_at, no_rule, IsAction}
use Rattle.control_rules.specs.Settings.{Taken, taken_by, outranks, decisive, all_taken}
use Rattle.control_rules.specs.Settings.{actions_of, setting_after, settings_of}
use Rattle.control_rules.specs.Tests.{is_met}
use Rattle.control_rules.proofs.DecisiveLemmas.{joined, joined-none, decisive-append, decisive-equal}
use Rattle.control_rules.proofs.PlaceLemmas.{acts_named, find_holds, gives_way_free}
use Rattle.control_rules.proofs.PlaceLemmas.{gives_way_held, no_claim, sound_rules}

-- two different numbers
apart : (a b : ℤ) → (a ≡ b → ⊥) → int_eq a b ≡ false
apart a b h = by_test (int_eq a b) refl
  where
    by_test : (t : Bool) → int_eq a b ≡ t → t ≡ false
    by_test true e = absurd (h ((Decides-int_eq a b).0 e))
    by_test false e = refl

-- a list has an action that passes exactly where one is found
any_found : (test : Action → Bool) (acts : List Action) → list_any test acts ≡ is_some (find test acts)
any_found test [] = refl
any_found test (a ∷ acts) = by_test (test a) (any_found test acts)
  where
    by_test : (b : Bool) → list_any test acts ≡ is_some (find test acts) → (b || list_any test acts) ≡ is_some (cond b (Some a) (find test acts))
    by_test true e = refl
    by_test false e = e

-- what a place says of the action that decides on its link
pub data IsClaim (rules : List Rule) (link bound : ℕ) (place : ℤ) (deciding : Option Taken) : Type 0 where
  free : place ≡ unclaimed → deciding ≡ None → IsClaim rules link bound place deciding
  held : (list : ℕ) (action : Action) → list < 2 * bound → place ≡ negsuc list → find (is_on link) (list_at rules list) ≡ Some action
      → deciding ≡ Some (taken_by (rule_at rules (list / 2)).priority6 action) → IsClaim rules link bound place deciding

-- the list that a rule takes is one of its own
list_half : (nodes : List Node) (seen : Conditions) (rules : List Rule) (k : ℕ) → list_taken nodes seen rules k / 2 ≡ k
list_half nodes seen rules k = by_met (is_met nodes seen (rule_at rules k))
  where
    by_met : (b : Bool) → cond b (2 * k) (2 * k + 1) / 2 ≡ k
    by_met true = omega arith
    by_met false = omega arith

list_within : (nodes : List Node) (seen : Conditions) (rules : List Rule) (k : ℕ) → list_taken nodes seen rules k < 2 * (k + 1)
list_within nodes seen rules k = by_met (is_met nodes seen (rule_at rules k))
  where
    by_met : (b : Bool) → cond b (2 * k) (2 * k + 1) < 2 * (k + 1)
    by_met true = omega arith
    by_met false = omega arith

list_is : (nodes : List Node) (seen : Conditions) (rules : List Rule) (k : ℕ) → list_at rules (list_taken nodes seen rules k) ≡ actions_of nodes seen (rule_at rules k)
list_is nodes seen rules k = by_met (is_met nodes seen (rule_at rules k))
  where
    choose : ℕ → Bool → List Action
    choose half even = cond even (rule_at rules half).then_acts (rule_at rules half).else_acts

    even_is : (2 * k) % 2 ≡ 0
    even_is = omega arith

    odd_is : (2 * k + 1) % 2 ≡ 1
    odd_is = omega arith

    even_half : (2 * k) / 2 ≡ k
    even_half = omega arith

    odd_half : (2 * k + 1) / 2 ≡ k
    odd_half = omega arith

    by_met : (b : Bool) → list_at rules (cond b (2 * k) (2 * k + 1)) ≡ cond b (rule_at rules k).then_acts (rule_at rules k).else_acts
    by_met true = ap (λ (r : ℕ). cond (r == 0) (rule_at rules ((2 * k) / 2)).then_acts (rule_at rules ((2 * k) / 2)).else_acts) even_is ∙ ap (λ (h : ℕ). (rule_at rules h).then_acts) even_half
    by_met false = ap (λ (r : ℕ). cond (r == 0) (rule_at rules ((2 * k + 1) / 2)).then_acts (rule_at rules ((2 * k + 1) / 2)).else_acts) odd_is ∙ ap (λ (h : ℕ). (rule_at rules h).else_acts) odd_half

append_none : {A : Type 0} (xs : List A) → xs ++ [] ≡ xs
append_none [] = refl
append_none (x ∷ xs) = ap (λ l. x ∷ l) (append_none xs)

-- one more rule
taken_more : (nodes : List Node) (seen : Conditions) (rules : List Rule) (k : ℕ) → k < length rules
    → all_taken nodes seen (take (k + 1) rules) ≡ all_taken nodes seen (take k rules) ++ map (taken_by (rule_at rules k).priority6) (actions_of nodes seen (rule_at rules k))
taken_more nodes seen rules k h =
    ap (all_taken nodes seen) (take_more rules k no_rule h)
    ∙ flat_map-append (λ (rule : Rule). map (taken_by rule.priority6) (actions_of nodes seen rule)) (take k rules) (rule_at rules k ∷ [])
    ∙ ap (λ (l : List Taken). all_taken nodes seen (take k rules) ++ l) (append_none (map (taken_by (rule_at rules k).priority6) (actions_of nodes seen (rule_at rules k))))

deciding_more : (nodes : List Node) (seen : Conditions) (rules : List Rule) (link k : ℕ) → k < length rules
    → decisive (all_taken nodes seen (take (k + 1) rules)) link
    ≡ joined (decisive (all_taken nodes seen (take k rules)) link) (option_map (taken_by (rule_at rules k).priority6) (find (is_on link) (actions_of nodes seen (rule_at rules k))))
deciding_more nodes seen rules link k h =
    ap (λ (l : List Taken). decisive l link) (taken_more nodes seen rules k h)
    ∙ decisive-append (all_taken nodes seen (take k rules)) (map (taken_by (rule_at rules k).priority6) (actions_of nodes seen (rule_at rules k))) link
    ∙ ap (joined (decisive (all_taken nodes seen (take k rules)) link)) (decisive-equal (rule_at rules k).priority6 (actions_of nodes seen (rule_at rules k)) link)

-- a claim stands while more rules are gone through
longer : (rules : List Rule) (link bound more : ℕ) (place after : ℤ) (deciding later : Option Taken) → bound ≤ more → after ≡ place → later ≡ deciding
    → IsClaim rules link bound place deciding → IsClaim rules link more after later
longer rules link bound more place after deciding later le p d (free e f) = free (p ∙ e) (d ∙ f)
longer rules link bound more place after deciding later le p d (held list action h e f g) = held list action (omega (arith, h, le)) (p ∙ e) f (d ∙ g)

-- one more list, of which an action on the link is found or not
claim_more : (rules : List Rule) (link bound list : ℕ) (place : ℤ) (deciding : Option Taken) (found : Option Action)
    → 2 * (bound + 1) < 2 ^ 63 → list < 2 * (bound + 1) → find (is_on link) (list_at rules list) ≡ found → IsClaim rules link bound place deciding
    → IsClaim rules link (bound + 1) (cond (is_some found && gives_way rules list place) (negsuc list) place) (joined deciding (option_map (taken_by (rule_at rules (list / 2)).priority6) found))
claim_more rules link bound list place deciding None few h e claim =
    longer rules link bound (bound + 1) place place deciding (joined deciding None) (omega arith) refl (joined-none deciding) claim
claim_more rules link bound list place deciding (Some action) few h e (free p d) =
    held list action h
    (ap (λ (b : Bool). cond b (negsuc list) place) (gives_way_free rules list place p)) e
    (ap (λ (o : Option Taken). joined o (Some (taken_by (rule_at rules (list / 2)).priority6 action))) d)
claim_more rules link bound list place deciding (Some action) few h e (held before first within p f d) =
    by_rank (outranks mine theirs) refl
  where
    mine : Option ℤ
    mine = (rule_at rules (list / 2)).priority6

    theirs : Option ℤ
    theirs = (rule_at rules (before / 2)).priority6

    back : holder (negsuc before) ≡ before
    back = omega (arith, ints)

    way : gives_way rules list place ≡ outranks mine theirs
    way = gives_way_held rules list place (λ (q : place ≡ unclaimed). omega (arith, ints, q, p, within, few))
        ∙ ap (λ (z : ℤ). outranks mine (rule_at rules (holder z / 2)).priority6) p
        ∙ ap (λ (n : ℕ). outranks mine (rule_at rules (n / 2)).priority6) back

    by_rank : (b : Bool) → outranks mine theirs ≡ b
        → IsClaim rules link (bound + 1) (cond (gives_way rules list place) (negsuc list) place) (joined deciding (Some (taken_by mine action)))
    by_rank true r =
        held list action h (ap (λ (w : Bool). cond w (negsuc list) place) (way ∙ r)) e
        (ap (λ (o : Option Taken). joined o (Some (taken_by mine action))) d ∙ ap (λ (w : Bool). Some (cond w (taken_by mine action) (taken_by theirs first))) r)
    by_rank false r =
        held before first (omega (arith, within)) (ap (λ (w : Bool). cond w (negsuc list) place) (way ∙ r) ∙ p) f
        (ap (λ (o : Option Taken). joined o (Some (taken_by mine action))) d ∙ ap (λ (w : Bool). Some (cond w (taken_by mine action) (taken_by theirs first))) r)

-- what the places say after the rules so far
claims_after : (nodes : List Node) (seen : Conditions) (rules : List Rule) (link k : ℕ) → 2 * (length rules + 1) < 2 ^ 63 → k ≤ length rules
    → IsClaim rules link k (claimed_after nodes seen rules link k) (decisive (all_taken nodes seen (take k rules)) link)
unfolding claimed
claims_after nodes seen rules link zero few le = free refl refl
claims_after nodes seen rules link (suc k) few le =
    longer rules link (k + 1) (suc k) _ _ _ _ (omega arith) (place_is k) (deciding_is k (omega (arith, le)))
    (claim_more rules link k (list_taken nodes seen rules k) (claimed_after nodes seen rules link k) (decisive (all_taken nodes seen (take k rules)) link)
    (find (is_on link) (list_at rules (list_taken nodes seen rules k))) (omega (arith, few, le)) (list_within nodes seen rules k) refl (claims_after nodes seen rules link k few (omega (arith, le))))
  where
    place_is : (k : ℕ) → claimed_after nodes seen rules link (suc k)
        ≡ cond (is_some (find (is_on link) (list_at rules (list_taken nodes seen rules k))) && gives_way rules (list_taken nodes seen rules k) (claimed_after nodes seen rules link k))
        (negsuc (list_taken nodes seen rules k)) (claimed_after nodes seen rules link k)
    place_is k = ap (λ (b : Bool). cond (b && gives_way rules (list_taken nodes seen rules k) (claimed_after nodes seen rules link k)) (negsuc (list_taken nodes seen rules k)) (claimed_after nodes seen rules link k))
        (any_found (is_on link) (list_at rules (list_taken nodes seen rules k)))

    deciding_is : (k : ℕ) → k < length rules → decisive (all_taken nodes seen (take (suc k) rules)) link
        ≡ joined (decisive (all_taken nodes seen (take k rules)) link)
        (option_map (taken_by (rule_at rules (list_taken nodes seen rules k / 2)).priority6) (find (is_on link) (list_at rules (list_taken nodes seen rules k))))
    deciding_is k h =
        let next : suc k ≡ k + 1 = omega arith in
        ap (λ (n : ℕ). decisive (all_taken nodes seen (take n rules)) link) next
        ∙ deciding_more nodes seen rules link k h
        ∙ ap (λ (acts : List Action). joined (decisive (all_taken nodes seen (take k rules)) link) (option_map (taken_by (rule_at rules k).priority6) (find (is_on link) acts))) (sym (list_is nodes seen rules k))
        ∙ ap (λ (n : ℕ). joined (decisive (all_taken nodes seen (take k rules)) link) (option_map (taken_by (rule_at rules n).priority6) (find (is_on link) (list_at rules (list_taken nodes seen rules k)))))
        (sym (list_half nodes seen rules k))

-- a list settles only what it has claimed
settled_other : (list : ℕ) (acts : List Action) (link : ℕ) (place : ℤ) → int_eq place (negsuc list) ≡ false → settled list acts link place ≡ place
unfolding settled
settled_other list acts link place e = ap (λ (b : Bool). cond b (option_map_or (λ (action : Action). action.setting6) (find (is_on link) acts) place) place) e

settled_own : (list : ℕ) (acts : List Action) (link : ℕ) (action : Action) → find (is_on link) acts ≡ Some action → settled list acts link (negsuc list) ≡ action.setting6
unfolding settled
settled_own list acts link action f =
    ap (λ (b : Bool). cond b (option_map_or (λ (action : Action). action.setting6) (find (is_on link) acts) (negsuc list)) (negsuc list)) ((Decides-int_eq (negsuc list) (negsuc list)).1 refl)
    ∙ ap (λ (o : Option Action). option_map_or (λ (action : Action). action.setting6) o (negsuc list)) f

settled_free : (rules : List Rule) (link count : ℕ) → count < 2 ^ 63 → settled_after rules link unclaimed count ≡ unclaimed
settled_free rules link zero few = refl
settled_free rules link (suc list) few =
    ap (settled list (list_at rules list) link) (settled_free rules link list (omega (arith, few)))
    ∙ settled_other list (list_at rules list) link unclaimed (apart unclaimed (negsuc list) (λ (e : unclaimed ≡ negsuc list). omega (arith, ints, e, few)))

settled_before : (rules : List Rule) (link list count : ℕ) → count ≤ list → settled_after rules link (negsuc list) count ≡ negsuc list
settled_before rules link list zero le = refl
settled_before rules link list (suc k) le =
    ap (settled k (list_at rules k) link) (settled_before rules link list k (omega (arith, le)))
    ∙ settled_other k (list_at rules k) link (negsuc list) (apart (negsuc list) (negsuc k) (λ (e : negsuc list ≡ negsuc k). omega (arith, ints, e, le)))

settled_past : (rules : List Rule) (link list : ℕ) (action : Action) (count : ℕ) → list < count → find (is_on link) (list_at rules list) ≡ Some action → pos 0 ≤ℤ action.setting6
    → settled_after rules link (negsuc list) count ≡ action.setting6
settled_past rules link list action zero lt f z = absurd (omega (arith, lt))
settled_past rules link list action (suc k) lt f z = by_place (list == k) refl (λ (h : list < k). settled_past rules link list action k h f z)
  where
    by_place : (b : Bool) → (list == k) ≡ b → (list < k → settled_after rules link (negsuc list) k ≡ action.setting6)
        → settled k (list_at rules k) link (settled_after rules link (negsuc list) k) ≡ action.setting6
    by_place true e earlier =
        let same : k ≡ list = grind (arith, nat_tests) in
        ap (λ (n : ℕ). settled n (list_at rules n) link (settled_after rules link (negsuc list) n)) same
        ∙ ap (settled list (list_at rules list) link) (settled_before rules link list list (omega arith))
        ∙ settled_own list (list_at rules list) link action f
    by_place false e earlier =
        let before : list < k = grind (arith, nat_tests, lt) in
        ap (settled k (list_at rules k) link) (earlier before)
        ∙ settled_other k (list_at rules k) link action.setting6 (no_claim action.setting6 k z)

-- what the place of a link holds in the end
pub answer : (project : Project) (seen : Conditions) (link : ℕ) (first second third : ℤ) → IsSound project
    → first ≡ claimed_after project.nodes seen project.rules link (length project.rules)
    → second ≡ settled_after project.rules link first (2 * length project.rules)
    → third ≡ cond (int_eq second unclaimed) (number seen.settings link) second
    → third ≡ setting_after project.nodes project.rules seen link
unfolding setting_after
answer project seen link first second third sound e f g =
    by_claim (claims_after nodes seen rules link (length rules) (omega (arith, sound.few.rules)) (omega arith))
  where
    nodes : List Node
    nodes = project.nodes

    rules : List Rule
    rules = project.rules

    count : ℕ
    count = 2 * length rules

    whole : decisive (all_taken nodes seen rules) link ≡ decisive (all_taken nodes seen (take (length rules) rules)) link
    whole = ap (λ (l : List Rule). decisive (all_taken nodes seen l) link) (sym (take_all (length rules) rules (omega arith)))

    by_claim : IsClaim rules link (length rules) (claimed_after nodes seen rules link (length rules)) (decisive (all_taken nodes seen (take (length rules) rules)) link)
        → third ≡ option_map_or (λ (one : Taken). one.action.setting6) (decisive (all_taken nodes seen rules) link) (number seen.settings link)
    by_claim (free p d) =
        let second_is : second ≡ unclaimed = f ∙ ap (λ (z : ℤ). settled_after rules link z count) (e ∙ p) ∙ settled_free rules link count (omega (arith, sound.few.rules)) in
        g ∙ ap (λ (z : ℤ). cond (int_eq z unclaimed) (number seen.settings link) z) second_is
        ∙ ap (λ (b : Bool). cond b (number seen.settings link) unclaimed) ((Decides-int_eq unclaimed unclaimed).1 refl)
        ∙ ap (λ (o : Option Taken). option_map_or (λ (one : Taken). one.action.setting6) o (number seen.settings link)) (sym (whole ∙ d))
    by_claim (held list action within p found d) =
        let named : All (IsAction (length project.links)) (list_at rules list) = acts_named (length project.links) rules list (sound_rules project sound) (omega (arith, within)) in
        let setting = (find_holds (IsAction (length project.links)) (is_on link) (list_at rules list) action named found).setting.from in
        let second_is : second ≡ action.setting6 = f ∙ ap (λ (z : ℤ). settled_after rules link z count) (e ∙ p) ∙ settled_past rules link list action count (omega (arith, within)) found setting in
        g ∙ ap (λ (z : ℤ). cond (int_eq z unclaimed) (number seen.settings link) z) second_is
        ∙ ap (λ (b : Bool). cond b (number seen.settings link) action.setting6) (apart action.setting6 unclaimed (λ (q : action.setting6 ≡ unclaimed). omega (arith, ints, q, setting)))
        ∙ ap (λ (o : Option Taken). option_map_or (λ (one : Taken). one.action.setting6) o (number seen.settings link)) (sym (whole ∙ d))

-- the whole list of settings
pub all_answers : (project : Project) (seen : Conditions) (settings : List ℤ) → length settings ≡ length seen.settings
    → ((link : ℕ) → link < length seen.settings → number settings link ≡ setting_after project.nodes project.rules seen link) → settings ≡ settings_of project seen
unfolding settings_of
all_answers project seen settings long each = fill_by_all (setting_after project.nodes project.rules seen) settings (length seen.settings) (pos 0) long each
