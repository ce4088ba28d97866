-- What a command gives: a status, a report and a hotstart, by the words and the bytes alone.
use Rattle.std.specs.Prelude.{◌≡◌, ◌≢◌, ℕ, ◌+◌, Bool, List, [], ◌∷◌, length, take, nat_lt}
use Rattle.std.specs.Prelude.{Option, None, Some, IfSome, is_some, Result, Ok, Err, if◌then◌else◌}
use Rattle.std.specs.Bool.{MatchBool}
use Rattle.command_words.specs.declared.command.Command.{Command}
use Rattle.command_words.specs.declared.command.Task.{Task}
use Rattle.command_words.specs.declared.command.Task.TheVariants.{Run, Check, Demo}
use Rattle.hotstart.specs.HotBytes.{hot_bytes}
use Rattle.hotstart.specs.Reading.{reading_of}
use Rattle.hotstart.specs.declared.read.HotRead.{HotRead}
use Rattle.hotstart.specs.declared.read.HotRead.TheVariants.{Good, BadMagic, Ends, Count, Kind, BadValue, GoesOn}
use Rattle.hotstart.specs.declared.state.HotState.{HotState}
use Rattle.net_types.specs.declared.faults.ProjectFault.{ProjectFault}
use Rattle.net_types.specs.declared.project.Project.{Project}
use Rattle.inp_lines.specs.declared.line.Line.{Line}
use Rattle.inp_lines.specs.Faults.{cut}
use Rattle.inp_lines.specs.Lines.{lines_of}
use Rattle.inp_reader.specs.LineFaults.{line_faults}
use Rattle.inp_reader.specs.Meaning.{Means}
use Rattle.project_check.specs.ProjectFaults.{project_faults}
use Rattle.report_writer.specs.AcceptedReport.{accepted_report}
use Rattle.report_writer.specs.DemoReport.{demo_report}
use Rattle.report_writer.specs.FaultReports.{line_faults_report, project_faults_report, input_too_long_report}
use Rattle.report_writer.specs.HotRefusal.{hot_refusal_report}
use Rattle.run_engine.specs.Hot.{last_of}
use Rattle.run_engine.specs.Report.{report_of}
use Rattle.run_engine.specs.Results.{counts_after, total_after}
use Rattle.run_engine.specs.States.{steps_of}
use Rattle.run_engine.specs.declared.start.Start.{Start}
use Rattle.sample_maker.specs.SampleText.{sample_text}
use Rattle.swmm_top.specs.Input.{hot_limit, input_limit}
use Rattle.swmm_top.specs.declared.status.Status.{Status}
use Rattle.swmm_top.specs.declared.status.Status.TheVariants.{Done, Refused, Usage}

-- what a command gives
pub record Outcome : Type 0 where
  pub status : Status
  pub report : List ℕ
  pub hotstart : List ℕ

-- what is refused with this report
abbrev pub refused : (report : List ℕ) → Outcome
refused report = record { status = Refused; report = report; hotstart = [] }

-- words that are no command
abbrev pub usage : Outcome
usage = record { status = Usage; report = []; hotstart = [] }

-- work that was done, with this report and this hotstart
abbrev pub done : (report hotstart : List ℕ) → Outcome
done report hotstart = record { status = Done; report = report; hotstart = hotstart }

-- ---- a run
-- the hotstart of the last state of a run, where it is to be kept
abbrev pub kept_bytes : (keeps : Bool) → Start → List ℕ
kept_bytes keeps start = if keeps then hot_bytes (last_of start) else []

-- what a run gives that begins so
abbrev pub run_outcome : (keeps : Bool) → Start → Outcome
run_outcome keeps start = done (report_of start) (kept_bytes keeps start)

-- a run without a hotstart
abbrev pub fresh : Project → Start
fresh project = record { project = project; hot = None }

-- the state of a good hotstart, or what is wrong with another
abbrev pub state_or : HotRead → Result HotState HotRead
state_or (Good state) = Ok state
state_or (BadMagic place) = Err (BadMagic place)
state_or (Ends place) = Err (Ends place)
state_or (Count what file own) = Err (Count what file own)
state_or (Kind file own) = Err (Kind file own)
state_or (BadValue place) = Err (BadValue place)
state_or (GoesOn place) = Err (GoesOn place)

-- what a run gives that begins with this state, or whose hotstart is refused
abbrev pub begun : (keeps : Bool) → Project → Result HotState HotRead → Outcome
begun keeps project (Ok state) = run_outcome keeps (record { project = project; hot = Some state })
begun keeps project (Err refusal) = refused (hot_refusal_report refusal)

-- what a run gives whose hotstart is read so
abbrev pub resumed : (keeps : Bool) → Project → HotRead → Outcome
resumed keeps project read = begun keeps project (state_or read)

-- what the bytes of a hotstart are read as: no good one is longer than the limit, so its first bytes decide
abbrev pub hot_read_of : Project → (hotstart : List ℕ) → HotRead
hot_read_of project hotstart = reading_of project (take (hot_limit + 1) hotstart)

abbrev pub run_of : (resumes keeps : Bool) → Project → (hotstart : List ℕ) → Outcome
run_of resumes keeps project hotstart =
    if resumes then resumed keeps project (hot_read_of project hotstart) else run_outcome keeps (fresh project)

-- ---- a task
-- what the run of a sample gives: what it came to
abbrev pub demo_of : (number : ℕ) → Start → Outcome
demo_of number start =
    done (demo_report number (total_after start (steps_of start)) (counts_after start (steps_of start))) []

-- what a task gives for a project without a fault: a run reports what it came to, and a check says how large it is
abbrev pub answer_of : Task → Project → (hotstart : List ℕ) → Outcome
answer_of (Run inp hot_in hot_out) project hotstart = run_of (is_some hot_in) (is_some hot_out) project hotstart
answer_of (Check inp) project hotstart = done (accepted_report project) []
answer_of (Demo number) project hotstart = demo_of number (fresh project)

-- faults are what a project is refused with; without one there is the answer
abbrev pub answer_unless : List ProjectFault → Outcome → Outcome
answer_unless [] answer = answer
answer_unless (fault ∷ faults) answer = refused (project_faults_report (fault ∷ faults))

-- what a task gives for a project
abbrev pub project_outcome : Task → Project → (hotstart : List ℕ) → Outcome
project_outcome task project hotstart = answer_unless (project_faults project) (answer_of task project hotstart)

-- what a task gives for lines: their first hundred faults, or what it gives for the project that they mean
unfoldable pub IsLinesOutcome : Task → List Line → (hotstart : List ℕ) → Outcome → Type 0
IsLinesOutcome task lines hotstart given =
    (line_faults lines ≢ [] → given ≡ refused (line_faults_report (cut (line_faults lines))))
    × (line_faults lines ≡ []
    → (project : Project) × Means lines project × (given ≡ project_outcome task project hotstart))

-- what a task gives for an input
unfoldable pub IsInputOutcome : Task → (input hotstart : List ℕ) → Outcome → Type 0
IsInputOutcome task input hotstart given = MatchBool (nat_lt input_limit (length input))
    (given ≡ refused input_too_long_report) (IsLinesOutcome task (lines_of input) hotstart given)

-- the input of a task: a sample is made from its number
abbrev pub input_for : Task → (input : List ℕ) → List ℕ
input_for (Run inp hot_in hot_out) input = input
input_for (Check inp) input = input
input_for (Demo number) input = sample_text number

-- what a command gives for an input and a hotstart
unfoldable pub IsOutcome : Option Command → (input hotstart : List ℕ) → Outcome → Type 0
IsOutcome None input hotstart given = given ≡ usage
IsOutcome (Some command) input hotstart given =
    IsInputOutcome command.task (input_for command.task input) hotstart given
