use Rattle.std.specs.Prelude.{ℕ, List, Option}
use Rattle.std.specs.BTreeMap.{BTreeMap, get_by}
use Rattle.std.specs.Cmp.Lexicographic.{slice_cmp}
use Rattle.std.specs.Ordering.{nat_cmp}
use denote.Ref.{Bor}

-- A map from names as a function: the number of each name that it has. Source: this project's profile.
abbrev pub numbers_of : BTreeMap (Bor (List ℕ)) ℕ → List ℕ → Option ℕ
numbers_of names name = get_by (λ k. slice_cmp nat_cmp name k.now) names
