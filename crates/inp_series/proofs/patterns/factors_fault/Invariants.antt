use Rattle.std.proofs.Common.{◌≡◌, ◌≤◌, ◌-◌, ℕ, Option, length, drop}
use Rattle.inp_lines.specs.declared.fault.Fault.{Fault}
use Rattle.inp_series.specs.PatternLines.{factors_fault}
use Rattle.inp_series.proofs.patterns.factors_fault.Given as goal

-- the first fault of the factors that are left is that of all
pub record FaultSoFar (rest count : ℕ) (left all : Option Fault) : Type 0 where
  pub within : rest ≤ count
  pub same : left ≡ all

abbrev pub invariant-loop-text : goal.invariant-loop-text
invariant-loop-text l = FaultSoFar (length l.rest) l.count (factors_fault l.left (l.count - length l.rest) l.rest) (factors_fault l.initial.left l.first (drop l.first l.tokens))

abbrev pub decreases-loop-text : goal.decreases-loop-text
decreases-loop-text l = length l.rest
