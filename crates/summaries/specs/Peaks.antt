-- Figures over a sequence of states (this project's profile).
use Rattle.std.specs.Prelude.{◌≡◌, ℕ, zero, suc, ◌<◌, if◌then◌else◌, ℤ, ◌≤ℤ◌, ◌<ℤ◌, int_lt}

-- a greatest value, and a moment in ms since the start
pub record Peak : Type 0 where
  pub value : ℤ
  pub at : ℤ

-- of the values f 0, .., f (count - 1) this one is the greatest, and the moment is that of the first state that has it
pub record IsPeak (f moments : ℕ → ℤ) (count : ℕ) (peak : Peak) : Type 0 where
  pub place : ℕ
  pub within : place < count
  pub has : f place ≡ peak.value
  pub first : moments place ≡ peak.at
  pub most : (k : ℕ) → k < count → f k ≤ℤ peak.value
  pub less : (k : ℕ) → k < place → f k <ℤ peak.value

-- a peak with one value more
abbrev pub raised : Peak → (value at : ℤ) → Peak
raised peak value at = if int_lt peak.value value then record { value = value; at = at } else peak

-- the peak of f 0, .., f last
unfoldable pub peak_of : (f moments : ℕ → ℤ) → (last : ℕ) → Peak
peak_of f moments zero = record { value = f 0; at = moments 0 }
peak_of f moments (suc n) = raised (peak_of f moments n) (f (suc n)) (moments (suc n))
