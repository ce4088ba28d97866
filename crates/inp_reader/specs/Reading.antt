-- What an input is read as.
use Rattle.std.specs.Prelude.{◌≡◌, ◌≢◌, List, []}
use Rattle.inp_lines.specs.declared.line.Line.{Line}
use Rattle.inp_lines.specs.Faults.{cut}
use Rattle.inp_reader.specs.declared.reading.Read.{Read}
use Rattle.inp_reader.specs.declared.reading.Read.TheVariants.{Accepted, Refused}
use Rattle.inp_reader.specs.LineFaults.{line_faults}
use Rattle.inp_reader.specs.Meaning.{Means}

-- Lines are accepted exactly where none of them is at fault, as the project that they mean; else they are refused
-- with their first hundred faults. Source: this project's profile.
abbrev pub ReadsAs : List Line → Read → Type 0
ReadsAs lines (Accepted project) = (line_faults lines ≡ []) × Means lines project
ReadsAs lines (Refused faults) = (line_faults lines ≢ []) × (faults ≡ cut (line_faults lines))
