-- The steps of the phase machine: when an act has one, and what it does (this project's profile).
use Rattle.std.specs.Prelude.{◌≡◌, ℕ, ◌+◌, ◌-◌, ◌*◌, ◌/◌, ◌%◌, ◌<◌, ◌≤◌, Bool, true, false, eqb, nat_lt}
use Rattle.std.specs.Prelude.{if◌then◌else◌, ℤ, pos, ◌+ℤ◌, List, [], ◌∷◌, ◌++◌, length, slice_set}
use Rattle.std.specs.Int.{int_min}
use Rattle.fixed_num.specs.Lists.{number}
use Rattle.phase_law.specs.Law.{Law}
use Rattle.phase_machine.specs.declared.acts.Act.{Act}
use Rattle.phase_machine.specs.declared.acts.Act.TheVariants.{Look, Claim, LoadInput, AddFirst, AddSecond}
use Rattle.phase_machine.specs.declared.acts.Act.TheVariants.{AddAreaFirst, AddAreaSecond, OfferTime, PutFlow}
use Rattle.phase_machine.specs.declared.acts.Act.TheVariants.{Done, LoadSums, PutHead, MarkUnsettled, LoadDone}
use Rattle.phase_machine.specs.declared.acts.Act.TheVariants.{Reset, SetFixed, OpenLinks, OpenNodes, Stop}
use Rattle.phase_machine.specs.declared.acts.Event.{Event}
use Rattle.phase_machine.specs.declared.work.Work.{Work}
use Rattle.phase_machine.specs.Places.{done_place, unsettled_place, link_place, node_place, least_place}
use Rattle.phase_machine.specs.Places.{is_odd, count, written, IsRead, IsInRange, nets_in}
use Rattle.phase_machine.specs.Core.{Core, seat_of, finished_in}
use Rattle.phase_machine.specs.Items.{input_place, input_count, share_at, next_at, Deposit, leaving, reaching}
use Rattle.phase_machine.specs.Items.{covering, offer_stage, flow_stage, sums_stage, head_stage, mark_stage}
use Rattle.phase_machine.specs.Items.{last_stage}

-- ---- resets
-- how many words are reset between phases: done, and after a node phase also unsettled, the three sums of each node and
-- the least word
abbrev pub reset_count : Law → ℕ → ℕ
reset_count law phase = if is_odd phase then 1 else 3 + 3 * law.nodes

-- the place of reset number r, and what is stored there
abbrev pub reset_place : Law → ℕ → ℕ
reset_place law r =
    if nat_lt r 2 then r
    else if nat_lt r (2 + 3 * law.nodes) then node_place law ((r - 2) / 3) (7 + (r - 2) % 3) else least_place law

abbrev pub reset_value : Law → ℕ → ℤ
reset_value law r = if nat_lt r (2 + 3 * law.nodes) then pos 0 else pos 3_600_000

-- ---- when an act has a step
-- an item of a link, or of a node, at a stage
abbrev pub HasLink : Work → ℕ → Type 0
HasLink w stage = (is_odd w.tag ≡ true) × (w.stage ≡ stage)

abbrev pub HasNode : Work → ℕ → Type 0
HasNode w stage = (is_odd w.tag ≡ false) × (w.stage ≡ stage)

-- what the act of a worker asks of what its seat does
abbrev pub CanWork : Law → Work → Act → Type 0
CanWork law w Look = w.stage ≡ 0
CanWork law w Claim = (w.stage ≡ 0) × (1 ≤ w.look)
CanWork law w LoadInput = (1 ≤ w.stage) × (w.stage ≤ input_count w.tag)
CanWork law w AddFirst = HasLink w 9
CanWork law w AddSecond = HasLink w 10
CanWork law w AddAreaFirst = HasLink w 11
CanWork law w AddAreaSecond = HasLink w 12
CanWork law w OfferTime = HasLink w offer_stage
CanWork law w PutFlow = HasLink w flow_stage
CanWork law w LoadSums = (is_odd w.tag ≡ false) × (sums_stage ≤ w.stage) × (w.stage < head_stage)
CanWork law w PutHead = HasNode w head_stage
CanWork law w MarkUnsettled = HasNode w mark_stage × ((next_at law w).settled ≡ false)
CanWork law w Done = (1 ≤ w.stage) × (w.stage ≡ last_stage law w)
CanWork law w _ = ⊥

-- no phase is open, and the machine wasn't stopped
abbrev pub IsResting : Core → Type 0
IsResting c = (c.is_open ≡ false) × (c.stopped ≡ false)

-- a value for a word that the next trial reads
abbrev pub CanSet : Law → ℕ → (word : ℕ) → ℤ → Type 0
CanSet law phase word value =
    (place : ℕ) × (word ≡ place + 1) × IsRead law (written phase) place × IsInRange law place value

-- what an act of the lead asks
abbrev pub CanLead : Law → Core → Act → Type 0
CanLead law c LoadDone = c.is_open ≡ true
CanLead law c Reset = IsResting c × (c.resets < reset_count law c.phase)
CanLead law c (SetFixed word value) = IsResting c × (is_odd c.phase ≡ false) × CanSet law c.phase word value
CanLead law c OpenLinks = IsResting c × (is_odd c.phase ≡ false) × (c.resets ≡ reset_count law c.phase)
CanLead law c OpenNodes = IsResting c × (is_odd c.phase ≡ true) × (c.resets ≡ reset_count law c.phase)
CanLead law c Stop = IsResting c
CanLead law c _ = ⊥

-- an event has a step in a core
pub record Can (law : Law) (c : Core) (e : Event) : Type 0 where
  pub seat : e.seat < length c.seats
  pub lead : e.seat ≡ 0 → CanLead law c e.act
  pub worker : 0 < e.seat → CanWork law (seat_of c e.seat) e.act

-- ---- what an act does to what its seat does
-- one act more on the item
abbrev pub further : Work → Work
further w = record w { stage = w.stage + 1 }

-- one number more, loaded
abbrev pub loaded_more : Work → ℤ → Work
loaded_more w value = record w { stage = w.stage + 1; loaded = w.loaded ++ value ∷ [] }

-- a claim that finds an index takes the item of that number, if there is one
abbrev pub claimed : Law → (phase index : ℕ) → Work → Work
claimed law phase index w =
    if nat_lt index (count law phase)
    then record { look = 0; tag = phase; stage = 1; item = index; loaded = []; finished = finished_in phase w }
    else record w { look = 0 }

unfoldable pub work_after : Law → Core → Work → Act → Work
work_after law c w Look = record w { look = if nat_lt c.index (count law c.phase) then c.phase else 0 }
work_after law c w Claim = claimed law c.phase c.index w
work_after law c w LoadInput = loaded_more w (number c.words (input_place law w (w.stage - 1)))
work_after law c w LoadSums = loaded_more w (number c.words (input_place law w (w.stage - 1)))
work_after law c w Done = record w { stage = 0; finished = w.finished ++ w.item ∷ [] }
work_after law c w _ = further w

-- ---- what an act does to the words
-- an amount is added at a place
abbrev pub added : List ℤ → (place amount : ℕ) → List ℤ
added words place amount = slice_set words place (number words place +ℤ pos amount)

abbrev pub deposited : Law → List ℤ → Deposit → List ℤ
deposited law words d = added words (node_place law d.node (7 + d.sum)) d.amount

unfoldable pub words_after : Law → Core → Work → Act → List ℤ
words_after law c w AddFirst = deposited law c.words (leaving (law.ends w.item).0 (share_at law w).q)
words_after law c w AddSecond = deposited law c.words (reaching (law.ends w.item).1 (share_at law w).q)
words_after law c w AddAreaFirst = deposited law c.words (covering (law.ends w.item).0 (share_at law w).area1)
words_after law c w AddAreaSecond = deposited law c.words (covering (law.ends w.item).1 (share_at law w).area2)
words_after law c w OfferTime =
    slice_set c.words (least_place law) (int_min (number c.words (least_place law)) (share_at law w).time)
words_after law c w PutFlow = slice_set c.words (link_place w.item (4 + written w.tag)) (share_at law w).q
words_after law c w PutHead = slice_set c.words (node_place law w.item (5 + written w.tag)) (next_at law w).head
words_after law c w MarkUnsettled = added c.words unsettled_place 1
words_after law c w Done = added c.words done_place 1
words_after law c w _ = c.words

-- ---- what an act does to the core
abbrev pub index_after : ℕ → Act → ℕ
index_after index Claim = index + 1
index_after index _ = index

abbrev pub by_worker : Law → Core → (seat : ℕ) → Act → Core
by_worker law c seat act = record c {
  index = index_after c.index act;
  words = words_after law c (seat_of c seat) act;
  seats = slice_set c.seats seat (work_after law c (seat_of c seat) act);
}

-- a phase whose items are all done is closed; with a node phase the trial is over
abbrev pub closed_by : Law → Core → Core
closed_by law c = record c {
  is_open = false;
  resets = 0;
  closed = if is_odd c.phase then c.closed else nets_in law c.words (written c.phase);
}

abbrev pub looked_done : Law → Core → Bool → Core
looked_done law c all = if all then closed_by law c else c

-- whether the count of done items is that of all items
abbrev pub is_all : ℤ → ℕ → Bool
is_all (pos n) all = eqb n all
is_all _ all = false

abbrev pub by_lead : Law → Core → Act → Core
by_lead law c LoadDone = looked_done law c (is_all (number c.words done_place) (count law c.phase))
by_lead law c Reset =
    record c { words = slice_set c.words (reset_place law c.resets) (reset_value law c.resets); resets = c.resets + 1 }
by_lead law c (SetFixed word value) = record c { words = slice_set c.words (word - 1) value }
by_lead law c OpenLinks = record c { phase = c.phase + 1; is_open = true; index = 0; opened = c.words }
by_lead law c OpenNodes = record c { phase = c.phase + 1; is_open = true; index = 0 }
by_lead law c Stop = record c { stopped = true }
by_lead law c _ = c

-- the core after an event that has a step
unfoldable pub after : Law → Core → Event → Core
after law c e = if eqb e.seat 0 then by_lead law c e.act else by_worker law c e.seat e.act
