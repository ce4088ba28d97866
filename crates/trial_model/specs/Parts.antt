-- Words of proofs alone: what one link adds at a node, for the loop over links.
use Rattle.std.specs.Prelude.{ℕ, ◌+◌, ℤ, pos, ◌≤ℤ◌, List}
use Rattle.std.specs.Int.RustNames.{unsigned_abs}
use Rattle.fixed_num.specs.Sums.{at}
use Rattle.phase_law.specs.declared.values.Share.{Share}
use Rattle.trial_model.specs.Flow.{forward, backward}
use Rattle.fixed_num.specs.Lists.{number}

-- two amounts, one at each end
abbrev pub both_ends : ℕ × ℕ → ℕ → ℕ → ℕ → ℕ
both_ends ends near far n = at ends.0 near n + at ends.1 far n

-- what a link adds to the inflow, the outflow and the area of node n
abbrev pub in_part : ℕ × ℕ → Share → ℕ → ℕ
in_part ends share n = both_ends ends (backward share.q) (forward share.q) n

abbrev pub out_part : ℕ × ℕ → Share → ℕ → ℕ
out_part ends share n = both_ends ends (forward share.q) (backward share.q) n

abbrev pub area_part : ℕ × ℕ → Share → ℕ → ℕ
area_part ends share n = both_ends ends (unsigned_abs share.area1) (unsigned_abs share.area2) n

-- the numbers of a list are 0 to a bound
pub record HasRoom (list : List ℤ) (most : ℕ) : Type 0 where
  pub least : (n : ℕ) → pos 0 ≤ℤ number list n
  pub most_of : (n : ℕ) → number list n ≤ℤ pos most
