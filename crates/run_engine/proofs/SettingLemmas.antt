-- The settings over a step are parts, and as many as the links.
use Rattle.std.proofs.Common.{◌≡◌, ◌∙◌, ℕ, ◌==◌, ◌<◌, Bool, true, false, ◌&&◌, if◌then◌else◌, List, [], ◌∷◌, length, map}
use Rattle.std.proofs.Common.{Option, Some, None, IfSome, ℤ, pos, int_le, int_lt, sym, ap, subst, arith}
use Rattle.std.specs.List.{All, flat_map}
use Rattle.std.specs.Option.{option_map_or}
use Rattle.std.proofs.lemmas.Int.{ints}
use Rattle.std.proofs.lemmas.List.Concat.{flat_map-cons}
use Rattle.std.proofs.lemmas.List.Elements.{All-append, All-head, All-map, All-nil, All-tail}
use Rattle.std.proofs.lemmas.List.FromFn.{length-map-range_with_len}
use Rattle.control_rules.specs.Conditions.{Conditions}
use Rattle.control_rules.specs.Settings.{Taken, actions_of, all_taken, decisive, outranks, setting_after, settings_of, stronger, taken_by}
use Rattle.control_rules.specs.Tests.{is_met}
use Rattle.fixed_num.specs.Lists.{number}
use Rattle.fixed_num.specs.Ranges.{IsPart}
use Rattle.net_types.specs.Ranges.{RuleInRange}
use Rattle.net_types.specs.Records.{link_at}
use Rattle.net_types.specs.declared.network.LinkKind.{LinkKind}
use Rattle.net_types.specs.declared.network.LinkKind.TheVariants.{Conduit, Pump, Orifice, Weir}
use Rattle.net_types.specs.declared.network.Node.{Node}
use Rattle.net_types.specs.declared.project.Project.{Project}
use Rattle.net_types.specs.declared.rules.Action.{Action}
use Rattle.net_types.specs.declared.rules.Rule.{Rule}
use Rattle.phase_law.specs.declared.values.LinkFixed.{LinkFixed}
use Rattle.pump_flow.specs.PumpSetting.{pump_setting_of}
use Rattle.trial_model.specs.Fits.{link_fixed_at}
use Rattle.trial_model.specs.declared.nets.Nets.{Nets}
use Rattle.trial_model.proofs.RangeLemmas.{listed}
use Rattle.project_check.specs.Faultless.{IsFaultless}
use Rattle.run_engine.specs.Settings.{conditions_in, first_depth, pumped_setting, pumped_settings, seen_inflow, seen_inflows, setting_by_depth, settings_in}
use Rattle.calendar_steps.specs.declared.point.CalendarPoint.{CalendarPoint}
use Rattle.phase_law.specs.declared.values.NodeFixed.{NodeFixed}
use Rattle.time_series.specs.LateralFlow.{run_point}

-- ---- pumps
set_in : (shut start : Bool) {setting : ℤ} → IsPart setting → IsPart (if shut then pos 0 else if start then pos 1_000_000 else setting)
set_in true start h = record { from = omega (arith, ints); to = omega (arith, ints) }
set_in false true h = record { from = omega (arith, ints); to = omega (arith, ints) }
set_in false false h = h

pub kind_set_in : (kind : LinkKind) (depth : ℤ) {setting : ℤ} → IsPart setting → IsPart (setting_by_depth kind depth setting)
unfolding pump_setting_of
kind_set_in (Conduit long n6 z1 z2 q0 q_max entry6 exit6 avg6 flap) depth h = h
kind_set_in (Pump curve on startup shutoff) depth h =
    set_in (int_lt (pos 0) shutoff && int_le depth shutoff) (int_lt (pos 0) startup && int_le startup depth) h
kind_set_in (Orifice bottom offset cd6 flap) depth h = h
kind_set_in (Weir notch crest cd6 flap contractions) depth h = h

-- ---- rules
abbrev HasPart : Taken → Type 0
HasPart one = IsPart one.action.setting6

acts_parts : (b : Bool) (rule : Rule) → RuleInRange rule → All (λ (a : Action). IsPart a.setting6) (if b then rule.then_acts else rule.else_acts)
acts_parts true rule r = λ k d h. (r.then_in k d h).setting_in
acts_parts false rule r = λ k d h. (r.else_in k d h).setting_in

taken_parts : (nodes : List Node) (seen : Conditions) (rules : List Rule) → All RuleInRange rules → All HasPart (all_taken nodes seen rules)
taken_parts nodes seen [] all = All-nil HasPart
taken_parts nodes seen (rule ∷ rules) all =
    let of_rule : Rule → List Taken = λ (r : Rule). map (taken_by r.priority6) (actions_of nodes seen r) in
    subst (All HasPart) (sym (flat_map-cons of_rule rule rules))
    (All-append HasPart (of_rule rule) (flat_map of_rule rules)
    (All-map HasPart (taken_by rule.priority6) (actions_of nodes seen rule)
    (acts_parts (is_met nodes seen rule) rule (All-head RuleInRange rule rules all)))
    (taken_parts nodes seen rules (All-tail RuleInRange rule rules all)))

stronger_part : (one : Taken) (rest : Option Taken) → HasPart one → IfSome rest HasPart → HasPart (stronger one rest)
stronger_part one None h r = h
stronger_part one (Some later) h r = by_rank (outranks later.priority one.priority)
  where
    by_rank : (b : Bool) → HasPart (if b then later else one)
    by_rank true = r
    by_rank false = h

decisive_part : (taken : List Taken) (link : ℕ) → All HasPart taken → IfSome (decisive taken link) HasPart
decisive_part [] link all = tt
decisive_part (one ∷ later) link all =
    pick (one.action.link == link) (decisive later link) (decisive_part later link (All-tail HasPart one later all))
  where
    pick : (b : Bool) (rest : Option Taken) → IfSome rest HasPart
        → IfSome (if b then Some (stronger one rest) else rest) HasPart
    pick true rest r = stronger_part one rest (All-head HasPart one later all) r
    pick false rest r = r

or_part : (o : Option Taken) {setting : ℤ} → IfSome o HasPart → IsPart setting
    → IsPart (option_map_or (λ (one : Taken). one.action.setting6) o setting)
or_part (Some one) h s = h
or_part None h s = s

pub after_part : (project : Project) (seen : Conditions) (link : ℕ) → IsFaultless project → IsPart (number seen.settings link)
    → IsPart (setting_after project.nodes project.rules seen link)
unfolding setting_after
after_part project seen link r h =
    or_part (decisive (all_taken project.nodes seen project.rules) link)
    (decisive_part (all_taken project.nodes seen project.rules) link (taken_parts project.nodes seen project.rules r.sound.ranges.rules)) h

-- ---- the settings over a step
pub pumped_count : (project : Project) (heads : List ℤ) (links : List LinkFixed) → length (pumped_settings project heads links) ≡ length project.links
pumped_count project heads links = length-map-range_with_len (pumped_setting project heads links) 0 (length project.links)

pub settings_count : (project : Project) (moment : ℤ) (s : Nets) → length (settings_in project moment s) ≡ length project.links
unfolding settings_in settings_of
settings_count project moment s =
    let seen = conditions_in project moment s in
    length-map-range_with_len (setting_after project.nodes project.rules seen) 0 (length seen.settings)
    ∙ pumped_count project s.heads s.links

pub settings_part : (project : Project) (moment : ℤ) (s : Nets) (l : ℕ) → IsFaultless project → IsPart (link_fixed_at s.links l).setting
    → l < length project.links → IsPart (number (settings_in project moment s) l)
unfolding settings_in settings_of
settings_part project moment s l r setting inside =
    let seen = conditions_in project moment s in
    let count = pumped_count project s.heads s.links in
    let pumped : IsPart (number seen.settings l) =
    subst IsPart (sym (listed (pumped_setting project s.heads s.links) (length project.links) l (pos 0) inside))
    (kind_set_in (link_at project.links l).kind (first_depth project s.heads l) setting) in
    subst IsPart (sym (listed (setting_after project.nodes project.rules seen) (length seen.settings) l (pos 0) (omega (arith, inside, count))))
    (after_part project seen l r pumped)

pub seen_count : (project : Project) (inflows : List ℤ) (nodes : List NodeFixed) → length (seen_inflows project inflows nodes) ≡ length project.nodes
seen_count project inflows nodes = length-map-range_with_len (seen_inflow inflows nodes) 0 (length project.nodes)

-- what the rules leave, where they see a state
pub rules_leave : (project : Project) (moment : ℤ) (s : Nets) {settings heads inflows flows pumped : List ℤ} {elapsed : ℤ} {calendar : CalendarPoint}
    → settings ≡ settings_of project (record { heads = heads; inflows = inflows; flows = flows; settings = pumped; elapsed = elapsed; calendar = calendar })
    → heads ≡ s.heads → inflows ≡ seen_inflows project s.inflows s.nodes → flows ≡ s.flows
    → pumped ≡ pumped_settings project s.heads s.links → elapsed ≡ moment → calendar ≡ run_point project moment
    → settings ≡ settings_in project moment s
unfolding settings_in
rules_leave project moment s is e1 e2 e3 e4 e5 e6 = is ∙ ap (settings_of project) (seen_are e1 e2 e3 e4 e5 e6)
  where
    seen_are : {h h2 i i2 f f2 p p2 : List ℤ} {t t2 : ℤ} {c c2 : CalendarPoint} → h ≡ h2 → i ≡ i2 → f ≡ f2 → p ≡ p2 → t ≡ t2 → c ≡ c2
        → ◌≡◌ {A = Conditions} (record { heads = h; inflows = i; flows = f; settings = p; elapsed = t; calendar = c })
        (record { heads = h2; inflows = i2; flows = f2; settings = p2; elapsed = t2; calendar = c2 })
    seen_are a b d e g k = cc
