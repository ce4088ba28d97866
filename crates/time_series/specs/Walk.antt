-- Words of the walk over the lines of inflow: what becomes of the places of nodes.
use Rattle.std.specs.Prelude.{◌≡◌, ℕ, ◌^◌, ◌<◌, List, length, ℤ, pos, neg_ℤ, ◌+ℤ◌}
use Rattle.fixed_num.specs.Lists.{number}
use Rattle.fixed_num.specs.Ranges.{cut_of, IsWithin}

pub record AreZero (flows : List ℤ) : Type 0 where
  pub each : (n : ℕ) → n < length flows → number flows n ≡ pos 0

pub record AreSmall (m : ℕ) (flows : List ℤ) : Type 0 where
  pub each : (n : ℕ) → n < length flows → IsWithin m (number flows n)

-- each place has grown by an amount of its own
pub record Adds (amount : ℕ → ℤ) (old new : List ℤ) : Type 0 where
  pub count : length new ≡ length old
  pub each : (n : ℕ) → n < length old → number new n ≡ number old n +ℤ amount n

-- each place is brought into 10^12 to either side
pub record AreCut (old new : List ℤ) : Type 0 where
  pub count : length new ≡ length old
  pub each : (n : ℕ) → n < length old → number new n ≡ cut_of (number old n) (neg_ℤ (pos (10 ^ 12))) (pos (10 ^ 12))
