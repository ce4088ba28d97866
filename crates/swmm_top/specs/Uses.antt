-- Which commands are meant by a call, and which ports a command uses.
use Rattle.std.specs.Prelude.{◌≡◌, ℕ, Bool, true, false, List, [], Option, None, Some, IfSome, is_some, if◌then◌else◌}
use Rattle.command_words.specs.declared.command.Command.{Command}
use Rattle.command_words.specs.declared.command.Task.{Task}
use Rattle.command_words.specs.declared.command.Task.TheVariants.{Run, Check, Demo}
use Rattle.swmm_top.specs.declared.work.Work.{Work}
use Rattle.swmm_top.specs.declared.work.Work.TheVariants as work

-- whether a task only checks
abbrev pub is_check : Task → Bool
is_check (Run inp hot_in hot_out) = false
is_check (Check inp) = true
is_check (Demo number) = false

-- a command where it makes a run, and where it only checks
abbrev pub run_only : Option Command → Option Command
run_only None = None
run_only (Some command) = if is_check command.task then None else Some command

abbrev pub check_only : Option Command → Option Command
check_only None = None
check_only (Some command) = if is_check command.task then Some command else None

-- whether work reads an input, begins from a hotstart, and keeps one: a sample reads nothing
abbrev pub work_reads : Work → Bool
work_reads (work.Run resumes keeps) = true
work_reads work.Check = true
work_reads (work.Demo number) = false

abbrev pub work_resumes : Work → Bool
work_resumes (work.Run resumes keeps) = resumes
work_resumes work.Check = false
work_resumes (work.Demo number) = false

abbrev pub work_keeps : Work → Bool
work_keeps (work.Run resumes keeps) = keeps
work_keeps work.Check = false
work_keeps (work.Demo number) = false

-- what is to be done, without the names: a run, which may begin from a hotstart and keep one; a check; a sample
abbrev pub work_of : Task → Work
work_of (Run inp hot_in hot_out) = work.Run (is_some hot_in) (is_some hot_out)
work_of (Check inp) = work.Check
work_of (Demo number) = work.Demo number

-- the same of a command; words that are none use no port
abbrev pub of_work : (Work → Bool) → Option Command → Bool
of_work uses None = false
of_work uses (Some command) = uses (work_of command.task)

abbrev pub reads_input : Option Command → Bool
reads_input = of_work work_reads

abbrev pub reads_hotstart : Option Command → Bool
reads_hotstart = of_work work_resumes

abbrev pub keeps_hotstart : Option Command → Bool
keeps_hotstart = of_work work_keeps

-- what is read of a source that has these bytes left: nothing where it isn't used
abbrev pub read_of : (uses : Bool) → Option (List ℕ) → Option (List ℕ)
read_of uses left = if uses then left else Some []
