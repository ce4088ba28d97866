use Rattle.std.proofs.Common.{◌≡◌, ◌≤◌, ◌-◌, ℕ, Option, length, drop}
use Rattle.inp_lines.specs.declared.fault.Fault.{Fault}
use Rattle.inp_series.specs.Pairs.{pairs_fault}
use Rattle.inp_series.proofs.pairs.pairs_fault.Given as goal

-- the first fault of the pairs that are left is that of all
pub record FaultSoFar (rest count : ℕ) (left all : Option Fault) : Type 0 where
  pub within : rest ≤ count
  pub same : left ≡ all

abbrev pub invariant-loop-x : goal.invariant-loop-x
invariant-loop-x l = FaultSoFar (length l.rest) l.count (pairs_fault l.axis l.last (l.count - length l.rest) l.rest) (pairs_fault l.axis l.initial.last l.first (drop l.first l.tokens))

abbrev pub decreases-loop-x : goal.decreases-loop-x
decreases-loop-x l = length l.rest
