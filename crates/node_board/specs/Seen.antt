-- What contracts see of the board and of its seats.
use Rattle.std.specs.Prelude.{◌≡◌, ℕ, false, []}
use Rattle.atomic_table.specs.Seated.{TableId}
use Rattle.node_board.specs.declared.views.Plan.{Plan}
use Rattle.node_board.specs.declared.views.Role.{Role}
use Rattle.node_board.specs.declared.views.Role.TheVariants.{Leads, Works}
use Rattle.node_board.specs.declared.views.View.{View}

-- a board: which table its words are, and its law
pub record BoardSeen (P : Type 0) : Type 0 where
  pub table : TableId
  pub law : P

-- a seat, also the lead's: the table that it was made from, and what it knows
pub record SeatSeen (P : Type 0) : Type 0 where
  pub table : TableId
  pub view : View P

-- the seat was made from this board
abbrev pub IsOf : {P : Type 0} → BoardSeen P → SeatSeen P → Type 0
IsOf b s = (s.table ≡ b.table) × (s.view.law ≡ b.law)

-- the seat is a worker's
abbrev pub IsWorker : Role → Type 0
IsWorker (Works work) = Unit {0}
IsWorker (Leads plan) = ⊥

-- the seat is the lead's
abbrev pub IsLead : Role → Type 0
IsLead (Leads plan) = Unit {0}
IsLead (Works work) = ⊥

-- what the lead knows; nothing of a worker
abbrev pub seats_split : Role → ℕ
seats_split (Leads plan) = plan.splits
seats_split (Works work) = 0

-- nothing is known
abbrev pub no_plan : Plan
no_plan = record {
  splits = 0;
  phase = 0;
  is_open = false;
  resets = 0;
  stopped = false;
  opened = [];
  known = [];
}

abbrev pub plan_in : Role → Plan
plan_in (Leads plan) = plan
plan_in (Works work) = no_plan

abbrev pub plan_of : {P : Type 0} → View P → Plan
plan_of v = plan_in v.role
