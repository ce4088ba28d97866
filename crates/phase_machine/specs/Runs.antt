-- Lists of events, and the trials that they make (this project's profile).
use Rattle.std.specs.Prelude.{◌≡◌, ℕ, ◌<◌, Bool, true, false, eqb, if◌then◌else◌, pos, List, [], ◌∷◌, ◌+◌}
use Rattle.fixed_num.specs.Lists.{number}
use Rattle.fixed_num.specs.Sums.{at}
use Rattle.phase_law.specs.Law.{Law}
use Rattle.trial_model.specs.declared.nets.Nets.{Nets}
use Rattle.trial_model.specs.Trial.{with_flows, trial, unsettled_in}
use Rattle.phase_machine.specs.declared.acts.Event.{Event}
use Rattle.phase_machine.specs.Places.{unsettled_place, first_place, least_place}
use Rattle.phase_machine.specs.Places.{is_odd, written, other, is_first, nets_in}
use Rattle.phase_machine.specs.Core.{Core, finished_in}
use Rattle.phase_machine.specs.Steps.{Can, after}

-- a list of events, the latest first, leads from one core to another: an event that has a step makes it, any other
-- leaves the core as it is
pub data Leads (law : Law) (first : Core) : List Event → Core → Type 0 where
  none : Leads law first [] first
  makes : (es : List Event) (c : Core) (e : Event)
      → Leads law first es c → Can law c e → Leads law first (e ∷ es) (after law c e)
  refuses : (es : List Event) (c : Core) (e : Event)
      → Leads law first es c → ¬ (Can law c e) → Leads law first (e ∷ es) c

-- the sum of f over a list
abbrev pub total : {A : Type 0} → (A → ℕ) → List A → ℕ
total f [] = 0
total f (x ∷ xs) = f x + total f xs

-- how often the seats finished an item in the phase of the core
abbrev pub times_finished : Core → ℕ → ℕ
times_finished c item = total (λ w. total (λ x. at x 1 item) (finished_in c.phase w)) c.seats

-- what a trial opened, and whether it was the first of its step
abbrev pub opened_nets : Law → Core → Nets
opened_nets law c = nets_in law c.opened (other (written c.phase))

abbrev pub opened_first : Core → Bool
opened_first c = is_first (number c.opened first_place)

-- the trial of what was opened, with the flows and sums of its links
abbrev pub opened_flows : Law → Core → Nets
opened_flows law c = with_flows law (opened_nets law c) (opened_first c)

-- the state that stands in the words, with the buffer that the trial writes
abbrev pub made_nets : Law → Core → Nets
made_nets law c = nets_in law c.words (written c.phase)

-- what holds once a link phase is closed: the seats finished each link once, and the sums, the least word and the flows
-- written are those of the trial
pub record LinksDone (law : Law) (c : Core) : Type 0 where
  pub once : (l : ℕ) → l < law.links → times_finished c l ≡ 1
  pub inflows : (made_nets law c).inflows ≡ (opened_flows law c).inflows
  pub outflows : (made_nets law c).outflows ≡ (opened_flows law c).outflows
  pub areas : (made_nets law c).areas ≡ (opened_flows law c).areas
  pub flows : (made_nets law c).flows ≡ (opened_flows law c).flows
  pub least : number c.words (least_place law) ≡ (opened_flows law c).least

-- what holds once a node phase is closed: the seats finished each node once, the state that is kept is the trial of
-- what was opened, and until it is reset the count of unsettled nodes is the trial's
pub record NodesDone (law : Law) (c : Core) : Type 0 where
  pub once : (n : ℕ) → n < law.nodes → times_finished c n ≡ 1
  pub trial : c.closed ≡ trial law (opened_nets law c) (opened_first c)
  pub unsettled : c.resets ≡ 0
      → number c.words unsettled_place ≡ pos (unsettled_in law (opened_nets law c) (opened_first c))

-- the state after the trial that was closed last; none while a trial runs or before the first was made
abbrev pub has_trial : Core → Bool
has_trial c = if c.is_open then false else if is_odd c.phase then false else if eqb c.phase 0 then false else true
