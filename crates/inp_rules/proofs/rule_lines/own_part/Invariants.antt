use Rattle.std.proofs.Common.{◌≡◌, take}
use Rattle.inp_rules.specs.RuleLines.{own_part}
use Rattle.inp_rules.proofs.rule_lines.own_part.Given as goal

abbrev pub invariant-loop-line : goal.invariant-loop-line
invariant-loop-line l = l.part ≡ own_part (take l.line-index l.own)
