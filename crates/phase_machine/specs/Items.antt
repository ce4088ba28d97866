-- What a seat does with an item: the words that it loads, and what it makes of them (this project's profile).
-- The stage of a seat is 0 while it has no item, else one more than the acts that it made on its item.
use Rattle.std.specs.Prelude.{ℕ, suc, ◌+◌, eqb, nat_lt, if◌then◌else◌, ℤ, pos, negsuc}
use Rattle.std.specs.Int.RustNames.{unsigned_abs}
use Rattle.fixed_num.specs.Lists.{number}
use Rattle.phase_law.specs.Law.{Law}
use Rattle.phase_law.specs.declared.values.LinkFixed.{LinkFixed}
use Rattle.phase_law.specs.declared.values.NodeFixed.{NodeFixed}
use Rattle.phase_law.specs.declared.values.NodeNext.{NodeNext}
use Rattle.phase_law.specs.declared.values.Share.{Share}
use Rattle.phase_machine.specs.declared.work.Work.{Work}
use Rattle.phase_machine.specs.Places.{first_place, link_place, node_place, is_odd, written, other, is_first}

-- ---- loads
-- the places that a link's item loads in turn: old flow, old area, setting, length of the step, first trial, head at
-- its first end, head at its second end, last flow
abbrev pub link_input : Law → (buffer l k : ℕ) → ℕ
link_input law buffer l k =
    if nat_lt k 4 then link_place l k else if eqb k 4 then first_place
    else if eqb k 5 then node_place law (law.ends l).0 (5 + buffer)
    else if eqb k 6 then node_place law (law.ends l).1 (5 + buffer)
    else link_place l (4 + buffer)

-- the places that a node's item loads in turn: old head, old net inflow, lateral inflow, stage, length of the step,
-- first trial, last head, and then inflow, outflow and area
abbrev pub node_input : Law → (buffer n k : ℕ) → ℕ
node_input law buffer n k =
    if nat_lt k 5 then node_place law n k else if eqb k 5 then first_place
    else if eqb k 6 then node_place law n (5 + buffer) else node_place law n k

-- the place of the next load of a seat with an item
abbrev pub input_place : Law → Work → ℕ → ℕ
input_place law w k =
    if is_odd w.tag then link_input law (other (written w.tag)) w.item k
    else node_input law (other (written w.tag)) w.item k

-- how many inputs an item has; the sums of a node are loaded after them
abbrev pub input_count : ℕ → ℕ
input_count tag = if is_odd tag then 8 else 7

-- ---- what the law says of what was loaded
abbrev pub link_loads : Work → LinkFixed
link_loads w = record {
  q_old = number w.loaded 0;
  a_old = number w.loaded 1;
  setting = number w.loaded 2;
  dt = number w.loaded 3;
}

abbrev pub node_loads : Work → NodeFixed
node_loads w = record {
  h_old = number w.loaded 0;
  net_old = number w.loaded 1;
  lateral = number w.loaded 2;
  stage = number w.loaded 3;
  dt = number w.loaded 4;
}

unfoldable pub share_at : Law → Work → Share
share_at law w =
    law.share w.item
    (link_loads w)
    (is_first (number w.loaded 4))
    (number w.loaded 5)
    (number w.loaded 6)
    (number w.loaded 7)

unfoldable pub next_at : Law → Work → NodeNext
next_at law w =
    law.next w.item
    (node_loads w)
    (is_first (number w.loaded 5))
    (number w.loaded 7)
    (number w.loaded 8)
    (number w.loaded 9)
    (number w.loaded 6)

-- ---- deposits
-- an amount that is added to a sum of a node: 0 inflow, 1 outflow, 2 area
pub record Deposit : Type 0 where
  pub node : ℕ
  pub sum : ℕ
  pub amount : ℕ

-- a flow that leaves a node, and one that reaches it; one below 0 goes the other way
abbrev pub leaving : ℕ → ℤ → Deposit
leaving node (pos q) = record { node = node; sum = 1; amount = q }
leaving node (negsuc q) = record { node = node; sum = 0; amount = suc q }

abbrev pub reaching : ℕ → ℤ → Deposit
reaching node (pos q) = record { node = node; sum = 0; amount = q }
reaching node (negsuc q) = record { node = node; sum = 1; amount = suc q }

abbrev pub covering : ℕ → ℤ → Deposit
covering node area = record { node = node; sum = 2; amount = unsigned_abs area }

-- ---- stages
-- the stages at which a link's item makes its offer and puts its flow; at 9, 10, 11 and 12 it makes its four deposits
abbrev pub offer_stage : ℕ
offer_stage = 13

abbrev pub flow_stage : ℕ
flow_stage = 14

-- the stages at which a node's item has its inputs, puts its head, and marks
abbrev pub sums_stage : ℕ
sums_stage = 8

abbrev pub head_stage : ℕ
head_stage = 11

abbrev pub mark_stage : ℕ
mark_stage = 12

-- the stage at which all acts of an item were made; a node that the law calls settled has no mark to make
abbrev pub last_stage : Law → Work → ℕ
last_stage law w = if is_odd w.tag then 15 else if (next_at law w).settled then 12 else 13
