-- What one node and one link add to the account of a step.
use Rattle.std.specs.Prelude.{ℕ, Bool, ◌*◌, ◌^◌, ℤ, pos, neg_ℤ, ◌*ℤ◌, int_div}
use Rattle.fixed_num.specs.Ranges.{IsWithin}
use Rattle.link_eval.specs.Hydraulics.{node_law_at}
use Rattle.link_eval.specs.declared.hydraulics.Hydraulics.{Hydraulics}
use Rattle.net_types.specs.declared.account.StepAccount.{StepAccount}
use Rattle.node_update.specs.NodeLaws.{is_outfall_rule}
use Rattle.trial_model.specs.declared.nets.Nets.{Nets}
use Rattle.continuity.specs.Account.{laterals_at, gain_at, flood_at, change_at, link_change, left_by, error_by}
use Rattle.continuity.specs.declared.node_part.NodeStep.{NodeStep}

-- what a step of so many ms did at a node
abbrev pub node_step : Hydraulics → (before after : Nets) (ms : ℤ) → ℕ → NodeStep
node_step h before after ms n = record {
  inflow = int_div ms (pos 2) *ℤ laterals_at before after n;
  gain = gain_at after n;
  flood = flood_at h after n;
  change = change_at h before after n;
}

-- the account of a node, which may be an outfall
abbrev pub step_part : (is_outfall : Bool) → NodeStep → StepAccount
step_part is_outfall step = record {
  inflow = step.inflow;
  outfall = left_by is_outfall step.gain;
  flooding = step.flood;
  storage = step.change;
  error = error_by is_outfall step.gain step.flood step.change;
}

-- its ranges
pub record IsStepWithin (step : NodeStep) : Type 0 where
  pub inflow : IsWithin (10 ^ 19) step.inflow
  pub gain : IsWithin (95 * 10 ^ 21) step.gain
  pub flood : IsWithin (95 * 10 ^ 21) step.flood
  pub change : IsWithin (2 * 10 ^ 21) step.change

unfoldable pub node_part : Hydraulics → (before after : Nets) (ms : ℤ) → ℕ → StepAccount
node_part h before after ms n = step_part (is_outfall_rule (node_law_at h n).rule) (node_step h before after ms n)

-- the account of a link that holds so much more than before
abbrev pub changed : (change : ℤ) → StepAccount
changed change = record { inflow = pos 0; outfall = pos 0; flooding = pos 0; storage = change; error = neg_ℤ change }

unfoldable pub link_part : Hydraulics → (before after : Nets) → ℕ → StepAccount
link_part h before after l = changed (link_change h before after l)
