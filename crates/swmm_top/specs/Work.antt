-- What words are to do.
use Rattle.std.specs.Prelude.{Option, None, Some}
use Rattle.command_words.specs.declared.command.Command.{Command}
use Rattle.swmm_top.specs.Uses.{work_of}
use Rattle.swmm_top.specs.declared.work.Work.{Work}
use Rattle.swmm_top.specs.declared.work.Work.TheVariants as work

-- the work of a command; words that are none have none
abbrev pub work_in : Option Command → Option Work
work_in None = None
work_in (Some command) = Some (work_of command.task)

-- work that is no check, and work that is one
abbrev pub runs_of : Option Work → Option Work
runs_of None = None
runs_of (Some (work.Run resumes keeps)) = Some (work.Run resumes keeps)
runs_of (Some work.Check) = None
runs_of (Some (work.Demo number)) = Some (work.Demo number)

abbrev pub checks_of : Option Work → Option Work
checks_of None = None
checks_of (Some (work.Run resumes keeps)) = None
checks_of (Some work.Check) = Some work.Check
checks_of (Some (work.Demo number)) = None
