-- The line that the program prints.
use Rattle.std.specs.Prelude.{ℕ, List, Option, None, Some, Result, Ok, Err, codes}
use Rattle.swmm_top.specs.TopFaults.{fault_text}
use Rattle.swmm_top.specs.declared.fault.TopFault.{TopFault}
use Rattle.swmm_top.specs.declared.status.Status.{Status}
use Rattle.swmm_top.specs.declared.status.Status.TheVariants.{Done, Refused, Usage}
use Rattle.swmm5_fx.specs.declared.line.Line.{Line}
use Rattle.swmm5_fx.specs.declared.line.Line.TheVariants as line

-- the words that are a command
abbrev pub usage_text : List ℕ
usage_text =
    codes "usage: swmm5_fx run INP RPT [--threads N] [--hot-in F] [--hot-out F] | check INP RPT | demo N RPT [--threads N]"

-- a line's text
abbrev pub line_text : Line → List ℕ
line_text line.Usage = usage_text
line_text (line.Fault fault) = fault_text fault

-- the line of an answer: none where the work was done, or where the report says why it wasn't
abbrev pub line_for : Result Status TopFault → Option Line
line_for (Ok Done) = None
line_for (Ok Refused) = None
line_for (Ok Usage) = Some line.Usage
line_for (Err fault) = Some (line.Fault fault)
