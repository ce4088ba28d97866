-- What a run keeps between two steps, at the state of this number.
use Rattle.std.specs.Prelude.{IfSome, ◌≡◌, ℕ, ◌+◌, ◌*◌, ◌^◌, ◌<◌, ◌≤◌, true, List, length, ℤ, pos}
use Rattle.fixed_num.specs.Ranges.{IsBetween}
use Rattle.continuity.specs.Run.{Running, IsTotal}
use Rattle.continuity.specs.StepOf.{IsBelowTops}
use Rattle.link_eval.specs.Hydraulics.{hydraulics_of}
use Rattle.link_eval.specs.declared.hydraulics.Hydraulics.{Hydraulics}
use Rattle.report_writer.specs.declared.counts.RunCounts.{RunCounts}
use Rattle.summaries.specs.Figures.{Figures, AreFigures, AreSummaries, inverts_of}
use Rattle.summaries.specs.Loads.{AreLoads, AreLoadsOf, Loads, outfall_nodes, outfalls_from}
use Rattle.summaries.specs.Runoffs.{AreRunoffs, AreSmall, Runoffs}
use Rattle.trial_model.specs.Fits.{Fits}
use Rattle.fixed_num.specs.Lists.{number}
use Rattle.trial_model.specs.Trial.{SumsOf}
use Rattle.trial_model.specs.declared.nets.Nets.{Nets}
use Rattle.run_engine.specs.declared.kept.Kept.{Kept}
use Rattle.run_engine.specs.Results.{account_at, counts_after, floods_at, length_before, runoff_after, runoff_steps}
use Rattle.runoff_states.specs.RunoffTimes.{steps_done}
use Rattle.run_engine.specs.Laterals.{IsRunoffAt}
use Rattle.run_engine.specs.SettingRoom.{HasPlaces}
use Rattle.project_check.specs.Faultless.{IsFaultless}
use Rattle.run_engine.specs.States.{moment_at, nets_at, project_law}
use Rattle.run_engine.specs.Times.{goes_on, IsRunTime}
use Rattle.run_engine.specs.Hot.{IsHotFor}
use Rattle.run_engine.specs.declared.start.Start.{Start}

-- two states have lists of the same lengths
pub record HaveSameCounts (a b : Nets) : Type 0 where
  pub heads : length b.heads ≡ length a.heads
  pub flows : length b.flows ≡ length a.flows
  pub inflows : length b.inflows ≡ length a.inflows
  pub outflows : length b.outflows ≡ length a.outflows
  pub areas : length b.areas ≡ length a.areas
  pub read_heads : length b.read_heads ≡ length a.read_heads
  pub links : length b.links ≡ length a.links
  pub nodes : length b.nodes ≡ length a.nodes

-- it is state k, in range, its sums are those of its own flows, and no junction is above its top
pub record IsStateAt (start : Start) (k : ℕ) (nets : Nets) : Type 0 where
  pub same : nets ≡ nets_at start k
  pub fits : Fits (project_law start.project) nets
  pub sums : SumsOf (project_law start.project) nets
  pub tops : IsBelowTops (hydraulics_of start.project) nets

-- it is the moment of state k, all states before it are before the end, and they are at most 50,000,000
pub record IsMomentAt (start : Start) (k : ℕ) (moment : ℤ) : Type 0 where
  pub same : moment ≡ moment_at start k
  pub range : IsRunTime start.project.options moment
  pub going : (j : ℕ) → j < k → goes_on start.project.options (moment_at start j) ≡ true
  pub few : k ≤ 50_000_000

-- it is what flooded the nodes in the step that led to state k, in range
pub record AreFloodsAt (start : Start) (k : ℕ) (floods : List ℤ) : Type 0 where
  pub same : floods ≡ floods_at start k
  pub range : (n : ℕ) → IsBetween (pos 0) (number floods n) (pos (10 ^ 28))

-- the figures are the summaries of the first so many states
pub record AreSumsOf (start : Start) (count : ℕ) (figures : Figures) : Type 0 where
  pub good : AreFigures figures
  pub states : figures.states ≡ count
  pub inverts : figures.inverts ≡ inverts_of start.project.nodes
  pub links : length figures.links ≡ length start.project.links
  pub summaries : AreSummaries (nets_at start) (floods_at start) (moment_at start) figures

-- the loads are those of the first so many states, at the project's outfalls
pub record AreLoadsAt (start : Start) (count : ℕ) (loads : Loads) : Type 0 where
  pub good : AreLoadsOf (length start.project.nodes) loads
  pub states : loads.states ≡ count
  pub outfalls : outfall_nodes loads.outfalls ≡ outfalls_from 0 start.project.nodes
  pub summaries : AreLoads (nets_at start) (length_before start) loads

-- the runoffs are those of the first so many steps of runoff, on the project's subcatchments
pub record AreRunoffsOf (start : Start) (steps : ℕ) (runoffs : Runoffs) : Type 0 where
  pub small : AreSmall runoffs
  pub steps_are : runoffs.steps ≡ steps
  pub places : length runoffs.subs ≡ length start.project.subs
  pub summaries : AreRunoffs (runoff_steps start) (runoff_after start) runoffs

-- the total is that of the first k steps
pub record IsTotalAt (start : Start) (k : ℕ) (running : Running) : Type 0 where
  pub steps : running.steps ≡ k
  pub total : IsTotal (account_at start) running

-- it is the account of the steps from one state to another
pub record IsTotalFrom (start : Start) (from k : ℕ) (running : Running) : Type 0 where
  pub steps : from + running.steps ≡ k
  pub total : IsTotal (λ j. account_at start (from + j)) running

-- the counts are those of the first k steps, of at most 20 trials each
pub record AreCountsAt (start : Start) (k : ℕ) (counts : RunCounts) : Type 0 where
  pub same : counts ≡ counts_after start k
  pub trials : counts.trials ≤ 20 * k
  pub unsettled : counts.unsettled ≤ k

-- all that a run keeps; the state before, the lateral inflows and the settings are only room for them
pub record IsKept (start : Start) (h : Hydraulics) (kept : Kept) : Type 0 where
  pub ready : IsFaultless start.project
  pub hot : IfSome start.hot (IsHotFor start.project)
  pub law : h ≡ hydraulics_of start.project
  pub clock : IsMomentAt start kept.counts.steps kept.moment
  pub now : IsStateAt start kept.counts.steps kept.nets
  pub room : Fits (project_law start.project) kept.before
  pub lateral_room : length kept.laterals ≡ length start.project.nodes
  pub runoff : IsRunoffAt start kept.moment kept.runoff
  pub setting_room : HasPlaces start.project kept.room
  pub flood_room : length kept.floods ≡ length start.project.nodes
  pub summed : AreSumsOf start (kept.counts.steps + 1) kept.sums
  pub loaded : AreLoadsAt start (kept.counts.steps + 1) kept.outfalls
  pub rained : AreRunoffsOf start (steps_done start.project.options.wet_ms kept.moment) kept.subs
  pub totalled : IsTotalAt start kept.counts.steps kept.total
  pub counted : AreCountsAt start kept.counts.steps kept.counts
