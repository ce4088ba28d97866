-- What an atomic step leaves of the view of its seat (this project's profile).
use Rattle.std.specs.Prelude.{◌≡◌, ℕ, ◌+◌, ◌≤◌, nat_lt, if◌then◌else◌}
use Rattle.std.specs.Prelude.{true, false, ℤ, pos, List, [], length, slice_set}
use Rattle.fixed_num.specs.Lists.{number}
use Rattle.phase_law.specs.Law.{Law}
use Rattle.trial_model.specs.declared.nets.Nets.{Nets}
use Rattle.trial_model.specs.Trial.{trial, unsettled_in}
use Rattle.phase_machine.specs.declared.work.Work.{Work}
use Rattle.phase_machine.specs.Kept.{with_links}
use Rattle.phase_machine.specs.Core.{idle}
use Rattle.phase_machine.specs.Places.{unsettled_place, first_place, least_place, word_count, is_odd, count, written}
use Rattle.phase_machine.specs.Places.{other, is_first, IsRead, IsInRange, nets_in}
use Rattle.phase_machine.specs.Steps.{claimed, reset_place, reset_value}
use Rattle.node_board.specs.declared.views.Plan.{Plan}
use Rattle.node_board.specs.declared.views.Role.{Role}
use Rattle.node_board.specs.declared.views.Role.TheVariants.{Leads, Works}
use Rattle.node_board.specs.declared.views.View.{View}
use Rattle.node_board.specs.Coding.{phase_in, index_in}
use Rattle.node_board.specs.Shows.{work_of}

-- a look that finds a claim word: the seat keeps the phase if items are left
abbrev pub looked_work : Law → (found : ℕ) → Work → Work
looked_work law found w =
    record w { look = if nat_lt (index_in found) (count law (phase_in found)) then phase_in found else 0 }

module _ {P : Type 0} where
  -- the same view at other work
  abbrev pub at_work : View P → Work → View P
  at_work v w = record v { role = Works w }

  abbrev pub looked : Law → (found : ℕ) → View P → View P
  looked law found v =
      record v { looks = v.looks + 1; last = found; role = Works (looked_work law found (work_of v)) }

  -- a claim that finds a claim word: the seat takes the item that it names, if there is one
  abbrev pub took : Law → (found : ℕ) → View P → View P
  took law found v =
      record v { last = found; role = Works (claimed law (phase_in found) (index_in found) (work_of v)) }

-- ---- the lead
-- the trial of what was opened, and its count of unsettled nodes
abbrev pub trial_of : Law → (opened : List ℤ) → (phase : ℕ) → Nets
trial_of law opened phase =
    trial law (nets_in law opened (other (written phase))) (is_first (number opened first_place))

abbrev pub unsettled_of : Law → (opened : List ℤ) → (phase : ℕ) → ℕ
unsettled_of law opened phase =
    unsettled_in law (nets_in law opened (other (written phase))) (is_first (number opened first_place))

-- what holds of the words once the phase is closed, by what was opened: after a phase of links what the trial read
-- stands, and sums, flows and least time are those of the trial; after a phase of nodes the state is the trial
pub record IsClosed (law : Law) (phase : ℕ) (opened known : List ℤ) : Type 0 where
  pub size : length known ≡ word_count law
  pub ranges : (j : ℕ) → IsInRange law j (number known j)
  pub frozen : is_odd phase ≡ true → (j : ℕ) → IsRead law (other (written phase)) j → number known j ≡ number opened j
  pub inflows : is_odd phase ≡ true
      → (nets_in law known (written phase)).inflows ≡ (with_links law opened phase).inflows
  pub outflows : is_odd phase ≡ true
      → (nets_in law known (written phase)).outflows ≡ (with_links law opened phase).outflows
  pub areas : is_odd phase ≡ true → (nets_in law known (written phase)).areas ≡ (with_links law opened phase).areas
  pub flows : is_odd phase ≡ true → (nets_in law known (written phase)).flows ≡ (with_links law opened phase).flows
  pub least : is_odd phase ≡ true → number known (least_place law) ≡ (with_links law opened phase).least
  pub trial : is_odd phase ≡ false → nets_in law known (written phase) ≡ trial_of law opened phase
  pub unsettled : is_odd phase ≡ false → number known unsettled_place ≡ pos (unsettled_of law opened phase)

-- one word more is reset
abbrev pub reset_once : Law → Plan → Plan
reset_once law plan = record plan {
  resets = plan.resets + 1;
  known = slice_set plan.known (reset_place law plan.resets) (reset_value law plan.resets);
}

-- the phase is closed: the lead takes in all words
pub record Shuts (law : Law) (old new : Plan) : Type 0 where
  pub plan : new ≡ record old { is_open = false; resets = 0; known = new.known }
  pub closed : IsClosed law old.phase old.opened new.known

-- a seat is split from the lead
abbrev pub split_role : Role → Role
split_role (Leads plan) = Leads (record plan { splits = plan.splits + 1 })
split_role (Works work) = Works work

abbrev pub seats_in : Role → ℕ
seats_in (Leads plan) = plan.splits + 1
seats_in (Works work) = 0

module _ {P : Type 0} where
  abbrev pub at_plan : View P → Plan → View P
  at_plan v plan = record v { role = Leads plan }

  abbrev pub counted : (found : ℕ) → View P → Plan → View P
  counted found v plan = record v { looks = v.looks + 1; last = found; role = Leads plan }

  -- a look at the count of done items: it is at most that of all items, and where it is, the phase is closed
  pub record DonePlay (law : Law) (plan : Plan) (v : View P) (found : ℕ) (me : View P × List (ℕ × Unit {0}))
      : Type 0 where
    pub most : found ≤ count law plan.phase
    pub next : Plan
    pub view : me ≡ (counted found v next, [])
    pub shuts : found ≡ count law plan.phase → Shuts law plan next
    pub pending : ¬ (found ≡ count law plan.phase) → next ≡ plan

  abbrev pub after_split : View P → View P
  after_split v = record v { role = split_role v.role }

  abbrev pub new_seat : View P → View P
  new_seat v = record { law = v.law; number = seats_in v.role; looks = 0; last = 0; role = Works idle }
