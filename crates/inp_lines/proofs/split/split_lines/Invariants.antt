use Rattle.std.proofs.Common.{◌≡◌, ◌+◌, ◌≤◌, ◌++◌, length}
use Rattle.std.specs.Str.Lines.{lines}
use Rattle.inp_lines.specs.Lines.{lines_of}
use Rattle.inp_lines.proofs.LineLemmas.{lines_from}
use Rattle.inp_lines.proofs.split.split_lines.Given as goal

abbrev pub invariant-loop-text : goal.invariant-loop-text
invariant-loop-text l = record {
  lines : l.lines ++ lines_from l.number l.section (lines l.rest) ≡ lines_of l.input;
  counted : l.number + length l.rest ≤ length l.input;
  kept : length l.lines ≤ l.number;
}

abbrev pub decreases-loop-text : goal.decreases-loop-text
decreases-loop-text l = length l.rest
