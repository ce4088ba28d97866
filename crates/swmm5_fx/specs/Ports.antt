-- The ports of a command over the files that its words name.
use Rattle.std.specs.Prelude.{ℕ, false, List, [], Option, None, Some}
use Rattle.fault_ports.specs.Causes.{no_faults}
use Rattle.fault_ports.specs.Files.{FileState}

-- a port over the file of this name, which it hasn't opened
abbrev pub unopened : List ℕ → FileState
unopened name = record { name = name; is_open = false; told = None; faults = no_faults }

-- a file's name, which is empty for a port that has none and is never called
abbrev pub name_or_none : Option (List ℕ) → List ℕ
name_or_none None = []
name_or_none (Some name) = name
