-- Words of proofs alone: what holds of every core that a list of events reaches.
use Rattle.std.specs.Prelude.{◌≡◌, ℕ, ◌+◌, ◌-◌, ◌<◌, ◌≤◌, Bool, true, false, eqb, nat_lt}
use Rattle.std.specs.Prelude.{if◌then◌else◌, min, ◌⊎◌, ℤ, pos, ◌-ℤ◌, ◌≤ℤ◌, List, length}
use Rattle.std.specs.Int.RustNames.{unsigned_abs}
use Rattle.fixed_num.specs.Lists.{number}
use Rattle.fixed_num.specs.Sums.{below, at}
use Rattle.phase_law.specs.Law.{Law}
use Rattle.phase_law.specs.declared.values.NodeNext.{NodeNext}
use Rattle.phase_law.specs.declared.values.Share.{Share}
use Rattle.trial_model.specs.declared.nets.Nets.{Nets}
use Rattle.trial_model.specs.Flow.{forward}
use Rattle.trial_model.specs.Trial.{share_in, next_in, unsettled_part, with_flows, trial, unsettled_in}
use Rattle.phase_machine.specs.declared.work.Work.{Work}
use Rattle.phase_machine.specs.Places.{done_place, unsettled_place, first_place, link_place}
use Rattle.phase_machine.specs.Places.{node_place, least_place, word_count, is_odd, count}
use Rattle.phase_machine.specs.Places.{written, other, is_first, nets_in, IsRead, IsInRange}
use Rattle.phase_machine.specs.Core.{Core, seat_of, finished_in}
use Rattle.phase_machine.specs.Items.{link_input, node_input, Deposit, leaving, reaching, covering}
use Rattle.phase_machine.specs.Steps.{reset_count, reset_place, reset_value}
use Rattle.phase_machine.specs.Runs.{total, opened_nets, opened_first}

-- ---- what seats have made of their items
-- the act at stage k of item x makes am k x: the sum over all acts that a seat made in a phase
abbrev pub so_far : (phase : ℕ) → (am : ℕ → ℕ → ℕ) → Work → ℕ
so_far phase am w =
    if eqb w.tag phase then below (λ k. am k w.item) w.stage + total (λ x. below (λ k. am k x) 15) w.finished else 0

-- the sum over all items that a seat finished in a phase
abbrev pub finished_sum : (phase : ℕ) → (f : ℕ → ℕ) → Work → ℕ
finished_sum phase f w = total f (finished_in phase w)

-- one for a seat with a look
abbrev pub looks : Work → ℕ
looks w = if eqb w.look 0 then 0 else 1

-- f x for the claim of item x
abbrev pub claims : (ℕ → ℕ) → ℕ → ℕ → ℕ
claims f k x = at 0 (f x) k

-- the deposit that the act at a stage makes for a link
abbrev pub no_deposit : Deposit
no_deposit = record { node = 0; sum = 3; amount = 0 }

abbrev pub deposit_at : Law → (ℕ → Share) → (k l : ℕ) → Deposit
deposit_at law share k l =
    if eqb k 9 then leaving (law.ends l).0 (share l).q
    else if eqb k 10 then reaching (law.ends l).1 (share l).q
    else if eqb k 11 then covering (law.ends l).0 (share l).area1
    else if eqb k 12 then covering (law.ends l).1 (share l).area2 else no_deposit

-- what it adds to a sum of a node
abbrev pub part_of : Deposit → (n s : ℕ) → ℕ
part_of d n s = if eqb d.sum s then at d.node d.amount n else 0

unfoldable pub sum_parts : Law → (ℕ → Share) → (n s : ℕ) → ℕ → ℕ → ℕ
sum_parts law share n s k l = part_of (deposit_at law share k l) n s

-- how much less a time is than the least word, for each time offered
unfoldable pub late : (ℕ → Share) → ℤ → ℕ → ℕ → ℕ
late share least k l = at 13 (forward (least -ℤ (share l).time)) k

-- how far a flow word, or a head word, is from what was put there
unfoldable pub flow_off : Law → (ℕ → Share) → List ℤ → (buffer : ℕ) → ℕ → ℕ → ℕ
flow_off law share words buffer k l =
    at 14 (if nat_lt l law.links then unsigned_abs (number words (link_place l (4 + buffer)) -ℤ (share l).q) else 0) k

unfoldable pub head_off : Law → (ℕ → NodeNext) → List ℤ → (buffer : ℕ) → ℕ → ℕ → ℕ
head_off law next words buffer k n =
    at 11 (unsigned_abs (number words (node_place law n (5 + buffer)) -ℤ (next n).head)) k

-- one for each mark
unfoldable pub marks : (ℕ → NodeNext) → ℕ → ℕ → ℕ
marks next k n = at 12 (unsettled_part (next n).settled) k

-- ---- the trial of what was opened
abbrev pub shares : Law → (opened : List ℤ) → (phase : ℕ) → ℕ → Share
shares law opened phase =
    share_in law (nets_in law opened (other (written phase))) (is_first (number opened first_place))

abbrev pub with_links : Law → (opened : List ℤ) → (phase : ℕ) → Nets
with_links law opened phase =
    with_flows law (nets_in law opened (other (written phase))) (is_first (number opened first_place))

abbrev pub nexts : Law → (opened : List ℤ) → (phase : ℕ) → ℕ → NodeNext
nexts law opened phase = next_in law (with_links law opened phase) (is_first (number opened first_place))

-- sum s of node n: 0 inflow, 1 outflow, 2 area
abbrev pub sum_of : Nets → (n s : ℕ) → ℤ
sum_of t n s = if eqb s 0 then number t.inflows n else if eqb s 1 then number t.outflows n else number t.areas n

-- ---- what holds of a seat
-- how many numbers a seat has loaded at a stage
abbrev pub loads_at : (phase stage : ℕ) → ℕ
loads_at phase stage = min (stage - 1) (if is_odd phase then 8 else 10)

-- the number that its load k found
abbrev pub input_of : Law → (opened : List ℤ) → (phase item k : ℕ) → ℤ
input_of law opened phase item k =
    if is_odd phase then number opened (link_input law (other (written phase)) item k)
    else if nat_lt k 7 then number opened (node_input law (other (written phase)) item k)
    else sum_of (with_links law opened phase) item (k - 7)

pub record HasItem (law : Law) (opened : List ℤ) (phase : ℕ) (running : Bool) (w : Work) : Type 0 where
  pub tag : w.tag ≡ phase
  pub is_open : running ≡ true
  pub item : w.item < count law phase
  pub most : w.stage ≤ (if is_odd phase then 15 else 13)
  pub loads : length w.loaded ≡ loads_at phase w.stage
  pub loaded : (k : ℕ) → k < loads_at phase w.stage → number w.loaded k ≡ input_of law opened phase w.item k

pub record SeatKept (law : Law) (opened : List ℤ) (phase : ℕ) (running : Bool) (w : Work) : Type 0 where
  pub tag : w.tag ≤ phase
  pub look : w.look ≤ phase
  pub item : 1 ≤ w.stage → HasItem law opened phase running w

-- ---- what holds of the words
-- while a link phase is open, and until its node phase is opened
pub record LinkKept (law : Law) (opened words : List ℤ) (phase : ℕ) (seats : List Work) : Type 0 where
  pub frozen : (j : ℕ) → IsRead law (other (written phase)) j → number words j ≡ number opened j
  pub unsettled : number words unsettled_place ≡ pos 0
  pub sums : (n s : ℕ) → n < law.nodes → s < 3
      → number words (node_place law n (7 + s))
      ≡ pos (total (so_far phase (sum_parts law (shares law opened phase) n s)) seats)
  pub least_most : number words (least_place law) ≤ℤ pos 3_600_000
  pub least_one : (number words (least_place law) ≡ pos 3_600_000)
      ⊎ ((l : ℕ) × (l < law.links) × (number words (least_place law) ≡ (shares law opened phase l).time))
  pub least_each : total (so_far phase (late (shares law opened phase) (number words (least_place law)))) seats ≡ 0
  pub flows : total (so_far phase (flow_off law (shares law opened phase) words (written phase))) seats ≡ 0

-- while a node phase is open
pub record NodeKept (law : Law) (opened words : List ℤ) (phase : ℕ) (seats : List Work) : Type 0 where
  pub frozen : (j : ℕ) → IsRead law (other (written phase)) j → number words j ≡ number opened j
  pub sums : (n s : ℕ) → n < law.nodes → s < 3
      → number words (node_place law n (7 + s)) ≡ sum_of (with_links law opened phase) n s
  pub least : number words (least_place law) ≡ (with_links law opened phase).least
  pub flows : (l : ℕ) → l < law.links → number words (link_place l (4 + written phase)) ≡ (shares law opened phase l).q
  pub unsettled : number words unsettled_place ≡ pos (total (so_far phase (marks (nexts law opened phase))) seats)
  pub heads : total (so_far phase (head_off law (nexts law opened phase) words (written phase))) seats ≡ 0

-- after a node phase was closed
pub record TrialKept (law : Law) (c : Core) : Type 0 where
  pub trial : c.closed ≡ trial law (opened_nets law c) (opened_first c)
  pub unsettled : c.resets ≤ 1
      → number c.words unsettled_place ≡ pos (unsettled_in law (opened_nets law c) (opened_first c))

-- ---- what holds of a core
pub record Kept (law : Law) (c : Core) : Type 0 where
  pub words : length c.words ≡ word_count law
  pub ranges : (j : ℕ) → IsInRange law j (number c.words j)
  -- what was opened
  pub opened_ranges : (j : ℕ) → IsInRange law j (number c.opened j)
  pub opened_sums : (n s : ℕ) → n < law.nodes → s < 3 → number c.opened (node_place law n (7 + s)) ≡ pos 0
  pub opened_least : number c.opened (least_place law) ≡ pos 3_600_000
  -- seats
  pub seats : (i : ℕ) → SeatKept law c.opened c.phase c.is_open (seat_of c i)
  pub once : (f : ℕ → ℕ) → total (so_far c.phase (claims f)) c.seats ≡ below f (min c.index (count law c.phase))
  pub few : c.index + total looks c.seats ≤ count law c.phase + length c.seats
  -- counts
  pub done : c.is_open ≡ true → number c.words done_place ≡ pos (total (finished_sum c.phase (λ _. 1)) c.seats)
  pub all : c.is_open ≡ false → total (finished_sum c.phase (λ _. 1)) c.seats ≡ count law c.phase
  -- phases
  pub links : is_odd c.phase ≡ true → LinkKept law c.opened c.words c.phase c.seats
  pub nodes : is_odd c.phase ≡ false → c.is_open ≡ true → NodeKept law c.opened c.words c.phase c.seats
  pub trials : is_odd c.phase ≡ false → c.is_open ≡ false → 1 ≤ c.phase → TrialKept law c
  -- between phases
  pub few_resets : c.is_open ≡ false → c.resets ≤ reset_count law c.phase
  pub resets : c.is_open ≡ false → (r : ℕ) → r < c.resets → number c.words (reset_place law r) ≡ reset_value law r
