-- The names of files that a command has.
use Rattle.std.specs.Prelude.{ℕ, List, Some, None}
use Rattle.command_words.specs.declared.command.Command.{Command}
use Rattle.command_words.specs.declared.command.Task.{Task}
use Rattle.command_words.specs.declared.command.Task.TheVariants.{Run, Check, Demo}
use Rattle.swmm_top.specs.declared.names.FileNames.{FileNames}

-- the names that a task has beside that of its report
abbrev pub names_with : Task → (rpt : List ℕ) → FileNames
names_with (Run inp hot_in hot_out) rpt = record { inp = Some inp; rpt = rpt; hot_in = hot_in; hot_out = hot_out }
names_with (Check inp) rpt = record { inp = Some inp; rpt = rpt; hot_in = None; hot_out = None }
names_with (Demo number) rpt = record { inp = None; rpt = rpt; hot_in = None; hot_out = None }

-- a command has the names that its words give
abbrev pub names_of : Command → FileNames
names_of command = names_with command.task command.rpt
