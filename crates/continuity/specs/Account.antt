-- The account of a routing step (this project's profile).
use Rattle.std.specs.Prelude.{◌≡◌, ℕ, Bool, if◌then◌else◌, List, ℤ, pos, ◌+ℤ◌, ◌-ℤ◌, ◌*ℤ◌, int_div}
use Rattle.link_eval.specs.Hydraulics.{law_of, node_law_at, volume_at}
use Rattle.link_eval.specs.declared.hydraulics.Hydraulics.{Hydraulics}
use Rattle.net_types.specs.declared.account.StepAccount.{StepAccount}
use Rattle.node_update.specs.NodeUpdate.{gain_of, flood_of, volume_of}
use Rattle.node_update.specs.NodeLaws.{is_outfall_rule}
use Rattle.trial_model.specs.declared.nets.Nets.{Nets}
use Rattle.trial_model.specs.Fits.{node_fixed_at}
use Rattle.fixed_num.specs.Lists.{number, list_of}
use Rattle.fixed_num.specs.Sums.{sum_below}

-- ---- a node, in the step from one state to another
-- its old and its new lateral inflow together, in cm³/s
abbrev pub laterals_at : (before after : Nets) → ℕ → ℤ
laterals_at before after n = (node_fixed_at before.nodes n).lateral +ℤ (node_fixed_at after.nodes n).lateral

-- what comes in, by lateral inflow and by links, in mm³
abbrev pub gain_at : (after : Nets) → ℕ → ℤ
gain_at after n = gain_of (node_fixed_at after.nodes n) (number after.inflows n) (number after.outflows n)

-- what floods it
abbrev pub flood_at : Hydraulics → (after : Nets) → ℕ → ℤ
flood_at h after n =
    flood_of (node_law_at h n) (node_fixed_at after.nodes n)
    (number after.inflows n) (number after.outflows n) (number after.areas n) (number after.read_heads n)

-- how much more it holds than before
abbrev pub change_at : Hydraulics → (before after : Nets) → ℕ → ℤ
change_at h before after n =
    volume_of (node_law_at h n) (number after.heads n) -ℤ volume_of (node_law_at h n) (number before.heads n)

-- what leaves the network there: an outfall's gain
abbrev pub left_by : (is_outfall : Bool) → (gain : ℤ) → ℤ
left_by is_outfall gain = if is_outfall then gain else pos 0

-- what is missing or too much: at a node that is no outfall, the gain less what flooded and what it holds more
abbrev pub error_by : (is_outfall : Bool) → (gain flood change : ℤ) → ℤ
error_by is_outfall gain flood change = if is_outfall then pos 0 else gain -ℤ flood -ℤ change

abbrev pub outfall_at : Hydraulics → (after : Nets) → ℕ → ℤ
outfall_at h after n = left_by (is_outfall_rule (node_law_at h n).rule) (gain_at after n)

abbrev pub error_at : Hydraulics → (before after : Nets) → ℕ → ℤ
error_at h before after n =
    error_by (is_outfall_rule (node_law_at h n).rule) (gain_at after n) (flood_at h after n)
    (change_at h before after n)

-- ---- a link
-- the volume of water in it in a state, and how much more it holds than before
abbrev pub volume_in : Hydraulics → Nets → ℕ → ℤ
volume_in h nets l = let ends = (law_of h).ends l in volume_at h l (number nets.heads ends.0) (number nets.heads ends.1)

abbrev pub link_change : Hydraulics → (before after : Nets) → ℕ → ℤ
link_change h before after l = volume_in h after l -ℤ volume_in h before l

-- ---- the whole
-- the floods of all nodes in the step to a state
unfoldable pub floods_of : Hydraulics → (after : Nets) → List ℤ
floods_of h after = list_of (flood_at h after) (law_of h).nodes

-- the account of a step of so many ms: half the step times the old and the new lateral inflows of all nodes;
-- what left at outfalls; what flooded; what all nodes and links hold more than before; and the errors of all
-- nodes less what the links hold more
pub record IsAccount (h : Hydraulics) (before after : Nets) (ms : ℤ) (a : StepAccount) : Type 0 where
  pub inflow : a.inflow ≡ int_div ms (pos 2) *ℤ sum_below (laterals_at before after) (law_of h).nodes
  pub outfall : a.outfall ≡ sum_below (outfall_at h after) (law_of h).nodes
  pub flooding : a.flooding ≡ sum_below (flood_at h after) (law_of h).nodes
  pub storage : a.storage ≡ sum_below (change_at h before after) (law_of h).nodes
      +ℤ sum_below (link_change h before after) (law_of h).links
  pub error : a.error ≡ sum_below (error_at h before after) (law_of h).nodes
      -ℤ sum_below (link_change h before after) (law_of h).links

-- the one account that is such
unfoldable pub account_of : Hydraulics → (before after : Nets) (ms : ℤ) → StepAccount
account_of h before after ms = record {
  inflow = int_div ms (pos 2) *ℤ sum_below (laterals_at before after) (law_of h).nodes;
  outfall = sum_below (outfall_at h after) (law_of h).nodes;
  flooding = sum_below (flood_at h after) (law_of h).nodes;
  storage = sum_below (change_at h before after) (law_of h).nodes
      +ℤ sum_below (link_change h before after) (law_of h).links;
  error =
      sum_below (error_at h before after) (law_of h).nodes -ℤ sum_below (link_change h before after) (law_of h).links;
}

-- what came in, less what left at outfalls and what flooded, is what is stored and the error
abbrev pub Balances : StepAccount → Type 0
Balances a = a.inflow -ℤ a.outfall -ℤ a.flooding ≡ a.storage +ℤ a.error
