-- How the parts of a call take an input and a hotstart.
use Rattle.std.specs.Prelude.{◌≡◌, ◌≢◌, ◌⊎◌, ℕ, List, [], Option, Some, IfSome, Result, IfOk, OnErr, IsErrOf}
use Rattle.std.specs.Io.KnownBytes.{Appends}
use Rattle.command_words.specs.declared.command.Task.{Task}
use Rattle.fault_ports.specs.Output.{AppendsPrefix}
use Rattle.fault_ports.specs.declared.faults.Faults.{Faults}
use Rattle.hotstart.specs.declared.read.HotRead.{HotRead}
use Rattle.net_types.specs.declared.project.Project.{Project}
use Rattle.project_check.specs.Faultless.{IsFaultless}
use Rattle.run_engine.specs.Hot.{IsHotFor}
use Rattle.swmm_top.specs.Answers.{BeforeWriting, FailsOnlyAt, IsReadToEnd, Leaves}
use Rattle.swmm_top.specs.Input.{input_limit}
use Rattle.project_check.specs.ProjectFaults.{project_faults}
use Rattle.report_writer.specs.FaultReports.{project_faults_report}
use Rattle.swmm_top.specs.Outcome.{Outcome, IsInputOutcome, answer_of, input_for, project_outcome, refused}
use Rattle.swmm_top.specs.Outcome.{state_or}
use Rattle.swmm_top.specs.Uses.{read_of, work_of, work_reads, work_resumes}
use Rattle.swmm_top.specs.declared.fault.Port.TheVariants.{Inp, HotIn, Rpt, HotOut}
use Rattle.swmm_top.specs.declared.fault.TopFault.{TopFault}
use Rattle.swmm_top.specs.declared.fault.TopFault.TheVariants.{Read, Write, OutOfMemory}
use Rattle.swmm_top.specs.declared.status.Status.{Status}
use Rattle.swmm_top.specs.declared.status.Status.TheVariants.{Usage}
use Rattle.swmm_top.specs.declared.taken.Taken.{Taken}
use Rattle.swmm_top.specs.declared.taken.Taken.TheVariants as taken

-- an input is refused with this report, whatever is to be done with it
abbrev pub Refuses : (input report : List ℕ) → Type 0
Refuses input report = (task : Task) (hotstart : List ℕ) → IsInputOutcome task input hotstart (refused report)

-- an input gives what a task gives for this project
abbrev pub Accepts : (input : List ℕ) → Project → Type 0
Accepts input project = (task : Task) (hotstart : List ℕ)
    → IsInputOutcome task input hotstart (answer_of task project hotstart)

-- an input was taken: it is refused, and the report was put, or it is a project, and nothing was put
abbrev pub IsTaken : (input : List ℕ) (rpt₀ rpt : Option (List ℕ)) → Taken → Type 0
IsTaken input rpt₀ rpt taken.Refused = (report : List ℕ) × Refuses input report × Appends rpt₀ rpt report
IsTaken input rpt₀ rpt (taken.Accepted project) = Accepts input project × (rpt ≡ rpt₀)

-- the same of a project that was read
abbrev pub IsChecked : Project → (rpt₀ rpt : Option (List ℕ)) → Taken → Type 0
IsChecked project rpt₀ rpt taken.Refused =
    (project_faults project ≢ []) × Appends rpt₀ rpt (project_faults_report (project_faults project))
IsChecked project rpt₀ rpt (taken.Accepted same) = (same ≡ project) × (project_faults project ≡ []) × (rpt ≡ rpt₀)

pub record TakesProject (project : Project) (rpt₀ rpt : Option (List ℕ)) (result : Result Taken TopFault) : Type 0 where
  pub ended : IfOk result (IsChecked project rpt₀ rpt)
  pub failed : OnErr result ((task : Task) (hotstart : List ℕ)
      → AppendsPrefix rpt₀ rpt (project_outcome task project hotstart).report)

-- the same of a call that takes an input; where it failed, a front of the report of every outcome was put
pub record TakesInput (input : List ℕ) (rpt₀ rpt : Option (List ℕ)) (result : Result Taken TopFault) : Type 0 where
  pub ended : IfOk result (IsTaken input rpt₀ rpt)
  pub failed : OnErr result ((task : Task) (hotstart : List ℕ) (given : Outcome)
      → IsInputOutcome task input hotstart given → AppendsPrefix rpt₀ rpt given.report)

-- a project that was taken has no fault
abbrev pub IsGood : Taken → Type 0
IsGood taken.Refused = Unit {0}
IsGood (taken.Accepted project) = IsFaultless project

-- the sink of the report is as it was where a project was taken
abbrev pub IsUnput : {W : Type 0} → W → W → Taken → Type 0
IsUnput rpt₀ rpt taken.Refused = Unit {0}
IsUnput rpt₀ rpt (taken.Accepted project) = rpt ≡ rpt₀

-- where an input was taken, and where the report could not be written, it was read to its end, and no further
pub record TakesToEnd (old new : Option (List ℕ)) (result : Result Taken TopFault) : Type 0 where
  pub ended : IfOk result (λ taken. IsReadToEnd input_limit old new)
  pub unwritten : IsErrOf result (Write Rpt) → IsReadToEnd input_limit old new

-- a hotstart that is read as a state is one with which a run of the project can begin
abbrev pub IsFor : Project → HotRead → Type 0
IsFor project read = IfOk (state_or read) (IsHotFor project)

-- how a part of a call ends that puts a report: because a call of the report's sink failed, the last of them; or, before
-- any call of it, for want of memory
pub record EndsReport {W T : Type 0} (faults : W → Faults) (rpt₀ rpt : W) (result : Result T TopFault) : Type 0 where
  pub report : FailsOnlyAt (Write Rpt) (faults rpt₀) (faults rpt) result
  pub unwritten : IsErrOf result OutOfMemory → rpt ≡ rpt₀
  pub faults_are : OnErr result (IsErrOf result OutOfMemory ⊎ IsErrOf result (Write Rpt))

-- how a run ends: the sink of the report failed, or that of the hotstart after the report was put; or, before any call of
-- them, a source failed or memory was wanting
pub record EndsRun {W K : Type 0} (faults : W → Faults) (rpt₀ rpt : W) (hot_faults : K → Faults) (hot₀ hot : K)
    (result : Result Status TopFault) : Type 0 where
  pub no_usage : IfOk result (λ status. status ≢ Usage)
  pub report : FailsOnlyAt (Write Rpt) (faults rpt₀) (faults rpt) result
  pub hotstart : FailsOnlyAt (Write HotOut) (hot_faults hot₀) (hot_faults hot) result
  pub unwritten : BeforeWriting result ((rpt ≡ rpt₀) × (hot ≡ hot₀))
  pub hotstart_after : IsErrOf result (Write Rpt) → hot ≡ hot₀

-- a call gives an outcome of a task by what its sources had left, where they tell it
abbrev pub GivesWork : Task → (inp hot_in rpt₀ rpt hot₀ hot : Option (List ℕ)) → Result Status TopFault → Type 0
GivesWork task inp hot_in rpt₀ rpt hot₀ hot result =
    IfSome (read_of (work_reads (work_of task)) inp) (λ input.
    IfSome (read_of (work_resumes (work_of task)) hot_in) (λ hotstart.
    (given : Outcome) × IsInputOutcome task (input_for task input) hotstart given
    × Leaves given rpt₀ rpt hot₀ hot result))
