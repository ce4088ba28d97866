-- How the states before and after a routing step belong together (this project's profile).
use Rattle.std.specs.Prelude.{◌≡◌, ℕ, ◌<◌, false, ℤ, ◌≤ℤ◌}
use Rattle.link_eval.specs.Hydraulics.{law_of, node_law_at}
use Rattle.link_eval.specs.declared.hydraulics.Hydraulics.{Hydraulics}
use Rattle.node_update.specs.NodeUpdate.{net_of}
use Rattle.node_update.specs.NodeLaws.{is_outfall_rule}
use Rattle.phase_law.specs.declared.values.NodeFixed.{NodeFixed}
use Rattle.trial_model.specs.declared.nets.Nets.{Nets}
use Rattle.trial_model.specs.Fits.{node_fixed_at}
use Rattle.fixed_num.specs.Lists.{number}

-- what stays the same for a node over the step is its head and its net inflow in the state before, and the
-- step's length
pub record IsFixedOf (before : Nets) (ms : ℤ) (n : ℕ) (fixed : NodeFixed) : Type 0 where
  pub head : fixed.h_old ≡ number before.heads n
  pub net : fixed.net_old ≡ net_of (node_fixed_at before.nodes n) (number before.inflows n) (number before.outflows n)
  pub length : fixed.dt ≡ ms

-- a step of so many ms leads from one state to the other
pub record IsStepOf (h : Hydraulics) (before after : Nets) (ms : ℤ) : Type 0 where
  pub each : (n : ℕ) → n < (law_of h).nodes → IsFixedOf before ms n (node_fixed_at after.nodes n)

-- the head of a node that is no outfall is not above its top
pub record IsBelowTops (h : Hydraulics) (nets : Nets) : Type 0 where
  pub each : (n : ℕ) → n < (law_of h).nodes → is_outfall_rule (node_law_at h n).rule ≡ false
      → number nets.heads n ≤ℤ (node_law_at h n).top
