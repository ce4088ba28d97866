-- How far a run is (this project's profile).
use Rattle.std.specs.Prelude.{◌≡◌, ℕ, ◌<◌, ◌≤◌, true, List}
use Rattle.net_types.specs.declared.account.StepAccount.{StepAccount}
use Rattle.hotstart.specs.declared.state.HotState.{HotState}
use Rattle.report_writer.specs.declared.counts.RunCounts.{RunCounts}
use Rattle.summaries.specs.declared.link_summary.LinkSummary.{LinkSummary}
use Rattle.summaries.specs.declared.node_summary.NodeSummary.{NodeSummary}
use Rattle.summaries.specs.declared.outfall_summary.OutfallSummary.{OutfallSummary}
use Rattle.summaries.specs.declared.sub_summary.SubSummary.{SubSummary}
use Rattle.trial_model.specs.declared.nets.Nets.{Nets}
use Rattle.run_engine.specs.Results.{total_after, counts_after, node_summaries, link_summaries, outfall_summaries}
use Rattle.run_engine.specs.Results.{sub_summaries}
use Rattle.project_check.specs.Faultless.{IsFaultless}
use Rattle.run_engine.specs.States.{moment_at, nets_at, steps_of}
use Rattle.run_engine.specs.Times.{goes_on}
use Rattle.run_engine.specs.declared.start.Start.{Start}

-- a run as its callers see it: what it began with, its state, what its steps and states came to so far, and the state
-- that it keeps for a hotstart
pub record Progress : Type 0 where
  pub start : Start
  pub nets : Nets
  pub total : StepAccount
  pub nodes : List NodeSummary
  pub links : List LinkSummary
  pub outfalls : List OutfallSummary
  pub subs : List SubSummary
  pub counts : RunCounts
  pub last : HotState

-- the run of a project that can be run has made its first k steps
pub record IsAt (run : Progress) (k : ℕ) : Type 0 where
  pub ready : IsFaultless run.start.project
  pub within : k ≤ steps_of run.start
  pub nets : run.nets ≡ nets_at run.start k
  pub total : run.total ≡ total_after run.start k
  pub nodes : run.nodes ≡ node_summaries run.start k
  pub links : run.links ≡ link_summaries run.start k
  pub outfalls : run.outfalls ≡ outfall_summaries run.start k
  pub subs : run.subs ≡ sub_summaries run.start k
  pub counts : run.counts ≡ counts_after run.start k

-- it goes on at state k: a step is left
pub record IsGoingAt (start : Start) (k : ℕ) : Type 0 where
  pub going : goes_on start.project.options (moment_at start k) ≡ true
  pub few : k < 50_000_000
