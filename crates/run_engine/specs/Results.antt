-- What a run comes to: its accounts, counts and summaries, over the list of all its states (this project's profile).
use Rattle.std.specs.Prelude.{ℕ, zero, suc, ◌+◌, if◌then◌else◌, List, length, map, replicate, ℤ, pos}
use Rattle.net_types.specs.declared.account.StepAccount.{StepAccount}
use Rattle.fixed_num.specs.Sums.{below, sum_over}
use Rattle.trial_model.specs.declared.step.StepEnd.{StepEnd}
use Rattle.fixed_num.specs.Lists.{list_of}
use Rattle.continuity.specs.Account.{account_of, floods_of}
use Rattle.continuity.specs.Sums.{total_of}
use Rattle.link_eval.specs.Hydraulics.{hydraulics_of}
use Rattle.net_types.specs.Records.{node_at}
use Rattle.report_writer.specs.declared.counts.RunCounts.{RunCounts}
use Rattle.runoff.specs.declared.states.SubState.{SubState}
use Rattle.runoff.specs.declared.states.SubStep.{SubStep}
use Rattle.runoff_states.specs.RunoffStates.{runoff_state, runoff_step}
use Rattle.runoff_states.specs.RunoffTimes.{steps_done}
use Rattle.summaries.specs.Figures.{node_summary, link_summary}
use Rattle.summaries.specs.Loads.{load_of, outfalls_from}
use Rattle.summaries.specs.Runoffs.{runoff_of}
use Rattle.summaries.specs.declared.link_summary.LinkSummary.{LinkSummary}
use Rattle.summaries.specs.declared.node_summary.NodeSummary.{NodeSummary}
use Rattle.summaries.specs.declared.outfall_summary.OutfallSummary.{OutfallSummary}
use Rattle.summaries.specs.declared.sub_summary.SubSummary.{SubSummary}
use Rattle.run_engine.specs.Laterals.{runoff_start}
use Rattle.run_engine.specs.declared.start.Start.{Start}
use Rattle.run_engine.specs.States.{length_at, moment_at, nets_at, step_end}

-- the account of the step from state k to the next
unfoldable pub account_at : Start → ℕ → StepAccount
account_at start k =
    account_of (hydraulics_of start.project) (nets_at start k) (nets_at start (k + 1)) (length_at start k)

-- the account of the first k steps: each field is the sum of theirs
abbrev pub total_after : Start → ℕ → StepAccount
total_after start k = total_of (account_at start) k

-- what flooded each node in the step that led to state k; nothing before state 0
unfoldable pub floods_at : Start → ℕ → List ℤ
floods_at start zero = replicate (length start.project.nodes) (pos 0)
floods_at start (suc k) = floods_of (hydraulics_of start.project) (nets_at start (suc k))

-- how the step from state k ended
unfoldable pub end_at : Start → ℕ → StepEnd
end_at start k =
    step_end start (moment_at start (k + 1)) (length_at start k) (nets_at start k)

-- how many of the first k steps there are, the trials that they took, and how many of them did not settle
unfoldable pub counts_after : Start → ℕ → RunCounts
counts_after start k = record {
  steps = k;
  trials = below (λ j. (end_at start j).trials) k;
  unsettled = below (λ j. if (end_at start j).settled then 0 else 1) k;
}

-- the length of the step that led to state k (ms); 0 for the opening state
unfoldable pub length_before : Start → ℕ → ℤ
length_before start zero = pos 0
length_before start (suc k) = length_at start k

-- ---- runoff
-- what the rain of the step of runoff after so many became on each subcatchment, and their states after it
abbrev pub runoff_steps : Start → (steps : ℕ) → List SubStep
runoff_steps start steps = list_of (runoff_step start.project (runoff_start start) steps) (length start.project.subs)

abbrev pub runoff_after : Start → (steps : ℕ) → List SubState
runoff_after start steps =
    list_of (runoff_state start.project (runoff_start start) (suc steps)) (length start.project.subs)

-- how many steps of runoff are done at state k
abbrev pub runoffs_done : Start → (k : ℕ) → ℕ
runoffs_done start k = steps_done start.project.options.wet_ms (moment_at start k)

-- the summaries of the subcatchments over these steps, and what the rain became on all of them
unfoldable pub sub_summaries : Start → ℕ → List SubSummary
sub_summaries start k =
    list_of (runoff_of (runoff_steps start) (runoff_after start) (runoffs_done start k)) (length start.project.subs)

abbrev pub total_runoff : List SubSummary → SubStep
total_runoff subs = record {
  rain = sum_over (λ (s : SubSummary). s.rain) subs;
  infil = sum_over (λ (s : SubSummary). s.infil) subs;
  runoff = sum_over (λ (s : SubSummary). s.runoff) subs;
  stored = sum_over (λ (s : SubSummary). s.stored) subs;
}

-- ---- the summaries of the states 0 to k
unfoldable pub node_summaries : Start → ℕ → List NodeSummary
node_summaries start k =
    list_of (λ n. node_summary (nets_at start) (floods_at start) (moment_at start) k
    (node_at start.project.nodes n).invert n) (length start.project.nodes)

unfoldable pub link_summaries : Start → ℕ → List LinkSummary
link_summaries start k = list_of (link_summary (nets_at start) (moment_at start) k) (length start.project.links)

unfoldable pub outfall_summaries : Start → ℕ → List OutfallSummary
outfall_summaries start k =
    map (load_of (nets_at start) (length_before start) k) (outfalls_from 0 start.project.nodes)
