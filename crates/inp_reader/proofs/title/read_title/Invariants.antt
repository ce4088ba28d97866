use Rattle.std.proofs.Common.{◌≡◌, ◌≤◌, take, length, List, ℕ}
use Rattle.std.specs.List.{flat_map}
use Rattle.inp_reader.specs.Title.{title_lines}
use Rattle.inp_reader.proofs.title.read_title.Given as goal

-- the title of the lines so far
pub record TitleSoFar (title found : List (List ℕ)) : Type 0 where
  pub title_is : title ≡ take 3 found
  pub short : length title ≤ 3

abbrev pub invariant-loop-line : goal.invariant-loop-line
invariant-loop-line l = TitleSoFar l.title (flat_map title_lines (take l.line-index l.line-items))
