-- The rule of the board: what holds between any two atomic steps (this project's profile).
use Rattle.std.specs.Prelude.{◌≡◌, ℕ, ◌+◌, ◌*◌, ◌%◌, ◌^◌, ◌≤◌}
use Rattle.std.specs.Prelude.{true, false, length, slice_index}
use mathlib.Core.Option.{some}
use lib.ListN.{get_elem?}
use Rattle.atomic_table.specs.Table.{State}
use Rattle.phase_law.specs.Law.{Law}
use Rattle.phase_machine.specs.Core.{Core}
use Rattle.phase_machine.specs.Kept.{looks}
use Rattle.phase_machine.specs.Runs.{total}
use Rattle.node_board.specs.declared.views.Plan.{Plan}
use Rattle.node_board.specs.declared.views.Role.{Role}
use Rattle.node_board.specs.declared.views.Role.TheVariants.{Leads, Works}
use Rattle.node_board.specs.declared.views.View.{View}
use Rattle.node_board.specs.Reached.{IsReached}
use Rattle.node_board.specs.Shows.{Shows}

-- the lead knows the phase, whether it is open, the resets, whether the board was stopped and what was opened; while no
-- phase is open, it knows all words
pub record LeadKnows (plan : Plan) (c : Core) (seats : ℕ) : Type 0 where
  pub splits : plan.splits + 1 ≡ seats
  pub phase : plan.phase ≡ c.phase
  pub is_open : plan.is_open ≡ c.is_open
  pub resets : plan.resets ≡ c.resets
  pub stopped : plan.stopped ≡ c.stopped
  pub opened : plan.opened ≡ c.opened
  pub known : c.is_open ≡ false → plan.known ≡ c.words

-- seat 0 is the lead's, all others are those of workers
abbrev pub RoleFits : ℕ → Role → Core → (seats : ℕ) → Type 0
RoleFits seat (Leads plan) c seats = (seat ≡ 0) × LeadKnows plan c seats
RoleFits seat (Works work) c seats = 1 ≤ seat

-- a view holds the law of the board and the number of its seat
pub record ViewFits {P : Type 0} (key : P) (c : Core) (seats seat : ℕ) (v : View P) : Type 0 where
  pub law : v.law ≡ key
  pub number : v.number ≡ seat
  pub role : RoleFits seat v.role c seats

-- words and views show a core that is reached with as many seats as there are; phases and seats are few; views fit;
-- once the board was stopped, the claim word counts on from its greatest number, at most once for each seat that looked
pub record IsRuled {P : Type 0} (law : Law) (key : P) (s : State Unit (View P)) : Type 0 where
  pub core : Core
  pub reached : IsReached law (length s.views) core
  pub shows : Shows law s.words s.views core
  pub few_seats : length s.views ≤ 1_000_001
  pub few_phases : core.phase ≤ 2 * 10 ^ 9 + 4
  pub views : (i : ℕ) (v : View P) → get_elem? s.views i ≡ some v → ViewFits key core (length s.views) i v
  pub behind : core.stopped ≡ true
      → (slice_index s.words 0 + 1) % 2 ^ 64 + total looks core.seats ≤ length core.seats
