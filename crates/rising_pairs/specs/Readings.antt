-- What a rising list of pairs is read as at a number: the value of the pair of this key, or else the straight line
-- between two neighbours (this project's profile).
use Rattle.std.specs.Prelude.{◌≡◌, ℕ, ◌+◌, ◌-◌, ◌<◌, ◌==◌, nat_lt, if◌then◌else◌, List, length, ℤ, ◌<ℤ◌, int_lt}
use Rattle.fixed_num.specs.Interpolation.{lerp_of}
use Rattle.net_types.specs.Records.{pair_at}
use Rattle.rising_pairs.specs.FirstAbove.{first_above}

-- the value at a number of the straight line through two pairs
abbrev pub line_at : (from to : ℤ × ℤ) (key : ℤ) → ℤ
line_at from to key = lerp_of from.0 from.1 to.0 to.1 key

-- a value of a list at a number, where `below` is its value before the first pair, and `beyond` after the last one
pub record IsReading (pairs : List (ℤ × ℤ)) (key below beyond value : ℤ) : Type 0 where
  pub at : (k : ℕ) → k < length pairs → (pair_at pairs k).0 ≡ key → value ≡ (pair_at pairs k).1
  pub between : (k : ℕ) → k + 1 < length pairs → (pair_at pairs k).0 <ℤ key → key <ℤ (pair_at pairs (k + 1)).0
      → value ≡ line_at (pair_at pairs k) (pair_at pairs (k + 1)) key
  pub before : key <ℤ (pair_at pairs 0).0 → value ≡ below
  pub after : (pair_at pairs (length pairs - 1)).0 <ℤ key → value ≡ beyond

-- the value from the last pair on: that of this pair at its key, and `beyond` after it
abbrev pub end_value : (last : ℤ × ℤ) (key beyond : ℤ) → ℤ
end_value last key beyond = if int_lt last.0 key then beyond else last.1

-- the value of a list with a pair: on the line from the last pair up to the number to the first pair above it
unfoldable pub reading_of : List (ℤ × ℤ) → (key below beyond : ℤ) → ℤ
reading_of pairs key below beyond =
    let above = first_above pairs key in
    if above == 0 then below
    else if nat_lt above (length pairs) then line_at (pair_at pairs (above - 1)) (pair_at pairs above) key
    else end_value (pair_at pairs (above - 1)) key beyond

-- the same where the ends are held: the first value before the first pair, and the last one after the last pair
abbrev pub held_value : List (ℤ × ℤ) → (key : ℤ) → ℤ
held_value pairs key = reading_of pairs key (pair_at pairs 0).1 (pair_at pairs (length pairs - 1)).1
