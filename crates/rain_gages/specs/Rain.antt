-- The value of a rain series that holds at a moment (User's Manual, section [RAINGAGES]; this project's profile).
use Rattle.std.specs.Prelude.{◌≡◌, ℕ, ◌-◌, ◌<◌, ◌==◌, if◌then◌else◌, List, length, ℤ, pos, ◌-ℤ◌, ◌≤ℤ◌, ◌<ℤ◌}
use Rattle.std.specs.Prelude.{int_lt}
use Rattle.net_types.specs.Records.{pair_at}
use Rattle.rising_pairs.specs.FirstAbove.{first_above}

-- an entry that is not later than a moment is the last such one
pub record IsLastEntry (entries : List (ℤ × ℤ)) (moment : ℤ) (k : ℕ) : Type 0 where
  pub there : k < length entries
  pub not_later : (pair_at entries k).0 ≤ℤ moment
  pub last : (j : ℕ) → k < j → j < length entries → moment <ℤ (pair_at entries j).0

-- a value at a moment: that of the last entry that is not later, while the entry is younger than the interval, and
-- else 0
pub record IsRain (entries : List (ℤ × ℤ)) (interval moment value : ℤ) : Type 0 where
  pub young : (k : ℕ) → IsLastEntry entries moment k → (moment -ℤ (pair_at entries k).0) <ℤ interval
      → value ≡ (pair_at entries k).1
  pub old : (k : ℕ) → IsLastEntry entries moment k → interval ≤ℤ (moment -ℤ (pair_at entries k).0) → value ≡ pos 0
  pub before : ((k : ℕ) → k < length entries → moment <ℤ (pair_at entries k).0) → value ≡ pos 0

-- what an entry gives at a moment that is not before it
abbrev pub young_value : (entry : ℤ × ℤ) (interval moment : ℤ) → ℤ
young_value entry interval moment = if int_lt (moment -ℤ entry.0) interval then entry.1 else pos 0

-- the value of a rising list
unfoldable pub rain_at : List (ℤ × ℤ) → (interval moment : ℤ) → ℤ
rain_at entries interval moment =
    let later = first_above entries moment in
    if later == 0 then pos 0 else young_value (pair_at entries (later - 1)) interval moment
