-- The words of the board: where each stands, and which of them a trial reads.
-- Word 0 stands apart: it is the phase number and the index. The other words are a list of numbers, so that word w is
-- at place w - 1. Link l has the words from 4 + 6·l on: its old flow, old area, setting, length of the step, and its
-- flow in buffer 0 and in buffer 1. Node n has the words from 4 + 6·links + 10·n on: its old head, old net inflow,
-- lateral inflow, stage, length of the step, its head in buffer 0 and in buffer 1, and its inflow, outflow and area.
-- The last word is the least travel time. (This project's profile.)
use Rattle.std.specs.Prelude.{◌≡◌, ℕ, zero, suc, ◌+◌, ◌*◌, ◌-◌, ◌/◌, ◌%◌, ◌<◌}
use Rattle.std.specs.Prelude.{Bool, eqb, if◌then◌else◌, ℤ, pos, List, ◌^◌}
use Rattle.fixed_num.specs.Lists.{number, list_of}
use Rattle.fixed_num.specs.Ranges.{IsBetween, IsWithin, IsFlow, IsPart, IsStepLength}
use Rattle.phase_law.specs.Law.{Law}
use Rattle.phase_law.specs.Ranges.{HeadInRange}
use Rattle.phase_law.specs.declared.values.LinkFixed.{LinkFixed}
use Rattle.phase_law.specs.declared.values.NodeFixed.{NodeFixed}
use Rattle.trial_model.specs.declared.nets.Nets.{Nets}

-- ---- places
abbrev pub done_place : ℕ
done_place = 0

abbrev pub unsettled_place : ℕ
unsettled_place = 1

-- 1 in the first trial of a step, 0 in a later one
abbrev pub first_place : ℕ
first_place = 2

-- word k of link l: 0 old flow, 1 old area, 2 setting, 3 length of the step, 4 + b its flow in buffer b
abbrev pub link_place : (l k : ℕ) → ℕ
link_place l k = 3 + k + 6 * l

-- word k of node n: 0 old head, 1 old net inflow, 2 lateral inflow, 3 stage, 4 length of the step, 5 + b its head in
-- buffer b, 7 + s its sum s: 0 inflow, 1 outflow, 2 area
abbrev pub node_place : Law → (n k : ℕ) → ℕ
node_place law n k = 3 + 6 * law.links + k + 10 * n

abbrev pub least_place : Law → ℕ
least_place law = 3 + 6 * law.links + 10 * law.nodes

-- how many words stand in the list
abbrev pub word_count : Law → ℕ
word_count law = 4 + 6 * law.links + 10 * law.nodes

-- ---- phases
-- odd phases are those of links, even ones those of nodes; before phase 1 nothing was opened
abbrev pub is_odd : ℕ → Bool
is_odd phase = eqb (phase % 2) 1

-- how many items a phase has
abbrev pub count : Law → ℕ → ℕ
count law phase = if is_odd phase then law.links else if eqb phase 0 then 0 else law.nodes

-- trial j has the phases 2·j - 1 and 2·j; it writes buffer j mod 2 and reads the other one
abbrev pub written : ℕ → ℕ
written phase = (phase + 1) / 2 % 2

abbrev pub other : ℕ → ℕ
other buffer = 1 - buffer

-- ---- what the words mean
-- word 3 is 1 exactly in the first trial of a step
abbrev pub is_first : ℤ → Bool
is_first (pos n) = eqb n 1
is_first _ = eqb 0 1

abbrev pub link_fixed_in : List ℤ → ℕ → LinkFixed
link_fixed_in words l = record {
  q_old = number words (link_place l 0);
  a_old = number words (link_place l 1);
  setting = number words (link_place l 2);
  dt = number words (link_place l 3);
}

abbrev pub node_fixed_in : Law → List ℤ → ℕ → NodeFixed
node_fixed_in law words n = record {
  h_old = number words (node_place law n 0);
  net_old = number words (node_place law n 1);
  lateral = number words (node_place law n 2);
  stage = number words (node_place law n 3);
  dt = number words (node_place law n 4);
}

-- the state of the network that stands in the words, with heads and flows of a buffer; its heads that were read are
-- those of the other buffer
unfoldable pub nets_in : Law → List ℤ → ℕ → Nets
nets_in law words buffer = record {
  heads = list_of (λ n. number words (node_place law n (5 + buffer))) law.nodes;
  flows = list_of (λ l. number words (link_place l (4 + buffer))) law.links;
  inflows = list_of (λ n. number words (node_place law n 7)) law.nodes;
  outflows = list_of (λ n. number words (node_place law n 8)) law.nodes;
  areas = list_of (λ n. number words (node_place law n 9)) law.nodes;
  read_heads = list_of (λ n. number words (node_place law n (5 + other buffer))) law.nodes;
  links = list_of (link_fixed_in words) law.links;
  nodes = list_of (node_fixed_in law words) law.nodes;
  least = number words (least_place law);
}

-- ---- what a trial reads, and its ranges
-- a trial that reads a buffer reads these words: whether it is the first of its step, the fixed words, and the flows
-- and heads of the buffer
pub data IsRead (law : Law) (buffer : ℕ) : ℕ → Type 0 where
  first : IsRead law buffer first_place
  link_fixed : (l k : ℕ) → l < law.links → k < 4 → IsRead law buffer (link_place l k)
  flow : (l : ℕ) → l < law.links → IsRead law buffer (link_place l (4 + buffer))
  node_fixed : (n k : ℕ) → n < law.nodes → k < 5 → IsRead law buffer (node_place law n k)
  head : (n : ℕ) → n < law.nodes → IsRead law buffer (node_place law n (5 + buffer))

-- the ranges of the words of a link and of a node, by the numbers of the words
abbrev pub LinkWord : ℕ → ℤ → Type 0
LinkWord zero value = IsFlow value
LinkWord (suc zero) value = IsBetween (pos 0) value (pos (10 ^ 12))
LinkWord (suc (suc zero)) value = IsPart value
LinkWord (suc (suc (suc zero))) value = IsStepLength value
LinkWord _ value = IsFlow value

abbrev pub NodeWord : Law → ℕ → ℤ → Type 0
NodeWord law zero value = HeadInRange law value
NodeWord law (suc zero) value = IsWithin (3 * 10 ^ 16) value
NodeWord law (suc (suc zero)) value = IsFlow value
NodeWord law (suc (suc (suc zero))) value = HeadInRange law value
NodeWord law (suc (suc (suc (suc zero)))) value = IsStepLength value
NodeWord law _ value = HeadInRange law value

-- the range of the word at a place; sums, counts and the least word have none here
pub record IsInRange (law : Law) (place : ℕ) (value : ℤ) : Type 0 where
  pub first : place ≡ first_place → IsBetween (pos 0) value (pos 1)
  pub link : (l k : ℕ) → l < law.links → k < 6 → place ≡ link_place l k → LinkWord k value
  pub node : (n k : ℕ) → n < law.nodes → k < 7 → place ≡ node_place law n k → NodeWord law k value
