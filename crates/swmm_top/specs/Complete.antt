-- Completeness: what is asked of good words and good bytes is done, unless a port fails or memory is wanting.
use Rattle.std.specs.Prelude.{◌≡◌, ◌⊎◌, ℕ, ◌≤◌, true, List, [], length, Option, Some, Result, Ok, OnErr, IsOk, IsErrOf}
use Rattle.std.specs.Io.KnownBytes.{Appends}
use Rattle.command_words.specs.declared.command.Command.{Command}
use Rattle.command_words.specs.declared.command.Task.{Task}
use Rattle.fault_ports.specs.Causes.{HasFailed}
use Rattle.fault_ports.specs.declared.faults.Faults.{Faults}
use Rattle.inp_lines.specs.Lines.{lines_of}
use Rattle.inp_reader.specs.LineFaults.{line_faults}
use Rattle.inp_reader.specs.Meaning.{Means}
use Rattle.net_types.specs.declared.project.Project.{Project}
use Rattle.project_check.specs.ProjectFaults.{project_faults}
use Rattle.swmm_top.specs.Input.{input_limit}
use Rattle.swmm_top.specs.Outcome.{answer_of, hot_read_of, input_for, state_or}
use Rattle.swmm_top.specs.Uses.{read_of, reads_hotstart, reads_input, work_of, work_resumes}
use Rattle.swmm_top.specs.declared.fault.TopFault.{TopFault}
use Rattle.swmm_top.specs.declared.fault.TopFault.TheVariants.{OutOfMemory}
use Rattle.swmm_top.specs.declared.status.Status.{Status}
use Rattle.swmm_top.specs.declared.status.Status.TheVariants.{Done}

-- an input that means this project, and neither of them is at fault
pub record IsGoodInput (input : List ℕ) (project : Project) : Type 0 where
  pub short : length input ≤ input_limit
  pub faultless : line_faults (lines_of input) ≡ []
  pub means : Means (lines_of input) project
  pub good : project_faults project ≡ []

-- where a task begins from a hotstart, these bytes are a good one of the project
abbrev pub IsGoodHotstart : Task → Project → (hotstart : List ℕ) → Type 0
IsGoodHotstart task project hotstart =
    work_resumes (work_of task) ≡ true → IsOk (state_or (hot_read_of project hotstart))

-- one of the ports failed
abbrev pub SomeFailed : (inp₀ inp hot_in₀ hot_in rpt₀ rpt hot_out₀ hot_out : Faults) → Type 0
SomeFailed inp₀ inp hot_in₀ hot_in rpt₀ rpt hot_out₀ hot_out =
    HasFailed inp₀ inp ⊎ (HasFailed hot_in₀ hot_in ⊎ (HasFailed rpt₀ rpt ⊎ HasFailed hot_out₀ hot_out))

-- the work of a task was done for a project: the report and the hotstart gained all their bytes
pub record DoesWork (task : Task) (project : Project) (hotstart : List ℕ) (rpt₀ rpt hot₀ hot : Option (List ℕ))
    (result : Result Status TopFault) : Type 0 where
  pub status : result ≡ Ok Done
  pub report : Appends rpt₀ rpt (answer_of task project hotstart).report
  pub kept : Appends hot₀ hot (answer_of task project hotstart).hotstart

-- words that are a command, an input without a fault and, where the command asks for one, a good hotstart: then the work
-- is done, unless one of the ports failed or memory was wanting
abbrev pub Completes : Option Command → (inp hot_in rpt₀ rpt hot₀ hot : Option (List ℕ)) (failed : Type 0)
    → Result Status TopFault → Type 0
Completes words inp hot_in rpt₀ rpt hot₀ hot failed result =
    (command : Command) (project : Project) (input hotstart : List ℕ) → words ≡ Some command
    → read_of (reads_input words) inp ≡ Some input → read_of (reads_hotstart words) hot_in ≡ Some hotstart
    → IsGoodInput (input_for command.task input) project → IsGoodHotstart command.task project hotstart
    → DoesWork command.task project hotstart rpt₀ rpt hot₀ hot result ⊎ (IsErrOf result OutOfMemory ⊎ failed)
