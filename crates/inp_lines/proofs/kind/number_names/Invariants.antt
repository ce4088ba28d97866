use Rattle.std.proofs.Common.{◌≡◌, ℕ, List, Option, length, take}
use Rattle.inp_lines.specs.Names.{number_in, defined}
use Rattle.inp_lines.specs.Numbers.{numbers_of}
use Rattle.inp_lines.proofs.kind.number_names.Given as goal

-- what the names so far are: those that the lines so far define
pub record NumbersSoFar (numbers : List ℕ → Option ℕ) (held : List (List ℕ)) (count : ℕ) : Type 0 where
  pub names : numbers ≡ number_in held
  pub count_of : length held ≡ count

abbrev pub invariant-loop-line : goal.invariant-loop-line
invariant-loop-line g l = NumbersSoFar (numbers_of l.names) (defined (g.K.Kind.name_of l.kind) (take l.line-index l.line-items)) l.count
