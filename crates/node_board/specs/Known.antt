-- What the lead knows while no phase is open, and how its calls change it (this project's profile).
use Rattle.std.specs.Prelude.{◌≡◌, ℕ, zero, suc, ◌+◌, ◌-◌, ◌^◌, ◌<◌, ◌≤◌, Bool}
use Rattle.std.specs.Prelude.{true, if◌then◌else◌, ℤ, pos, ◌+ℤ◌, ◌≤ℤ◌}
use Rattle.std.specs.Prelude.{List, false, slice_set}
use Rattle.fixed_num.specs.Lists.{number}
use Rattle.phase_law.specs.Law.{Law}
use Rattle.phase_law.specs.declared.values.LinkFixed.{LinkFixed}
use Rattle.phase_law.specs.declared.values.NodeFixed.{NodeFixed}
use Rattle.trial_model.specs.declared.nets.Nets.{Nets}
use Rattle.phase_machine.specs.Places.{unsettled_place, first_place, link_place, node_place, least_place}
use Rattle.phase_machine.specs.Places.{is_odd, count, written, nets_in, IsRead, IsInRange}
use Rattle.phase_machine.specs.Steps.{reset_count, reset_place, reset_value}
use Rattle.node_board.specs.declared.views.Plan.{Plan}
use Rattle.node_board.specs.declared.views.View.{View}
use Rattle.node_board.specs.Coding.{is_plain, coded, decoded}
use Rattle.node_board.specs.Plays.{at_plan, counted, Shuts}
use Rattle.node_board.specs.Seen.{plan_of}
use Rattle.node_board.specs.Steps.{Rests, IsReset}

-- ---- the state
-- the state that stands in the words that the lead knows, with the heads and flows that the next trial reads
abbrev pub state_in : Law → Plan → Nets
state_in law plan = nets_in law plan.known (written plan.phase)

-- the count of unsettled nodes
abbrev pub unsettled_known : Plan → ℤ
unsettled_known plan = number plan.known unsettled_place

-- a state has the flows, the sums and the least time of another
pub record HasFlows (s t : Nets) : Type 0 where
  pub flows : s.flows ≡ t.flows
  pub inflows : s.inflows ≡ t.inflows
  pub outflows : s.outflows ≡ t.outflows
  pub areas : s.areas ≡ t.areas
  pub least : s.least ≡ t.least

-- the same view where the lead knows other words
abbrev pub at_known : {P : Type 0} → View P → List ℤ → View P
at_known v words = at_plan v (record (plan_of v) { known = words })

-- ---- words that are set
-- what stays the same for a link, and its flow in a buffer
abbrev pub with_link : (buffer l : ℕ) → LinkFixed → (flow : ℤ) → List ℤ → List ℤ
with_link buffer l fixed flow words =
    let a = slice_set words (link_place l 0) fixed.q_old in
    let b = slice_set a (link_place l 1) fixed.a_old in
    let c = slice_set b (link_place l 2) fixed.setting in
    let d = slice_set c (link_place l 3) fixed.dt in
    slice_set d (link_place l (4 + buffer)) flow

-- what stays the same for a node, and its head in a buffer
abbrev pub with_node : Law → (buffer n : ℕ) → NodeFixed → (head : ℤ) → List ℤ → List ℤ
with_node law buffer n fixed head words =
    let a = slice_set words (node_place law n 0) fixed.h_old in
    let b = slice_set a (node_place law n 1) fixed.net_old in
    let c = slice_set b (node_place law n 2) fixed.lateral in
    let d = slice_set c (node_place law n 3) fixed.stage in
    let e = slice_set d (node_place law n 4) fixed.dt in
    slice_set e (node_place law n (5 + buffer)) head

-- whether the next trial is the first of its step
abbrev pub with_first : Bool → List ℤ → List ℤ
with_first first words = slice_set words first_place (if first then pos 1 else pos 0)

-- ---- openings
-- the words after so many resets
abbrev pub reset_words : Law → (resets : ℕ) → List ℤ → List ℤ
reset_words law zero words = words
reset_words law (suc r) words = slice_set (reset_words law r words) (reset_place law r) (reset_value law r)

-- all words are reset that the next phase counts in
abbrev pub all_reset : Law → Plan → Plan
all_reset law plan = record plan {
  resets = reset_count law plan.phase;
  known = reset_words law (reset_count law plan.phase) plan.known;
}

-- the next phase is open, one of links or one of nodes
abbrev pub begun_links : Plan → Plan
begun_links plan = record plan { phase = plan.phase + 1; is_open = true; opened = plan.known }

abbrev pub begun_nodes : Plan → Plan
begun_nodes plan = record plan { phase = plan.phase + 1; is_open = true }

-- a phase of links is opened: it is told whether the trial is the first of its step, words are reset, and what all
-- words are then is what the trial opened
abbrev pub links_opened : Law → (first : Bool) → Plan → Plan
links_opened law first plan =
    begun_links (all_reset law (record plan { known = with_first first plan.known }))

-- a phase of nodes is opened: the count of done items is reset
abbrev pub nodes_opened : Law → Plan → Plan
nodes_opened law plan = begun_nodes (all_reset law plan)

-- ---- what the lead's steps ask
-- its next reset stores this number in this word
pub record CanReset (law : Law) (word code : ℕ) (plan : Plan) : Type 0 where
  pub rests : Rests plan
  pub left : plan.resets < reset_count law plan.phase
  pub word_is : word ≡ reset_place law plan.resets + 1
  pub code_is : code ≡ coded law (reset_place law plan.resets) (reset_value law plan.resets)

-- it may set a value, which may be below 0, in this word for the next trial
pub record CanSetWord (law : Law) (word : ℕ) (value : ℤ) (plan : Plan) : Type 0 where
  pub rests : Rests plan
  pub even : is_odd plan.phase ≡ false
  pub behind : 1 ≤ word
  pub reads : IsRead law (written plan.phase) (word - 1)
  pub range : IsInRange law (word - 1) value
  pub signed : is_plain law (word - 1) ≡ false
  pub low : pos 0 ≤ℤ (value +ℤ pos (2 ^ 63))

-- it may open the next phase, after one of links or after one of nodes
pub record CanBegin (law : Law) (after_links : Bool) (plan : Plan) : Type 0 where
  pub rests : Rests plan
  pub kind : is_odd plan.phase ≡ after_links
  pub reset : IsReset law plan

-- the places that it reads: flows and heads of both buffers, sums, the least time and the count of unsettled nodes
pub data IsTold (law : Law) : ℕ → Type 0 where
  flow : (l b : ℕ) → l < law.links → b < 2 → IsTold law (link_place l (4 + b))
  head : (n b : ℕ) → n < law.nodes → b < 2 → IsTold law (node_place law n (5 + b))
  sum : (n s : ℕ) → n < law.nodes → s < 3 → IsTold law (node_place law n (7 + s))
  least : IsTold law (least_place law)
  unsettled : IsTold law unsettled_place

-- what is found there is what the lead knows; an amount is small
pub record Tells (law : Law) (plan : Plan) (place found : ℕ) : Type 0 where
  pub value : decoded law place found ≡ number plan.known place
  pub room : is_plain law place ≡ true → found ≤ 10 ^ 18

-- ---- the close of a phase
-- a look at the count of done items: where all are done, the phase is closed, else nothing changes
pub record LooksDone {P : Type 0} (law : Law) (old new : View P) (found : ℕ) : Type 0 where
  pub view : new ≡ counted found old (plan_of new)
  pub most : found ≤ count law (plan_of old).phase
  pub shuts : found ≡ count law (plan_of old).phase → Shuts law (plan_of old) (plan_of new)
  pub pending : ¬ (found ≡ count law (plan_of old).phase) → plan_of new ≡ plan_of old
