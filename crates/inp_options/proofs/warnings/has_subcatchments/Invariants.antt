use Rattle.std.proofs.Common.{◌≡◌, drop}
use Rattle.inp_options.specs.Warnings.{has_subcatchments}
use Rattle.inp_options.proofs.warnings.has_subcatchments.Given as goal

abbrev pub invariant-loop-line : goal.invariant-loop-line
invariant-loop-line l = has_subcatchments (drop l.line-index l.lines) ≡ has_subcatchments l.lines
