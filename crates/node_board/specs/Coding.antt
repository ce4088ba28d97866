-- How the numbers of the phase machine stand in the words of the board (this project's profile).
-- Word 0 has the phase and the index of the next item. The word at place j of the machine is word j + 1.
use Rattle.std.specs.Prelude.{ℕ, ◌+◌, ◌-◌, ◌*◌, ◌/◌, ◌%◌, ◌^◌, nat_lt, Bool, if◌then◌else◌}
use Rattle.std.specs.Prelude.{true, false, ℤ, pos, ◌+ℤ◌, ◌-ℤ◌, unsigned_abs}
use Rattle.phase_law.specs.Law.{Law}

-- ---- the claim word
abbrev pub claim_word : (phase index : ℕ) → ℕ
claim_word phase index = phase * 2 ^ 32 + index

abbrev pub phase_in : ℕ → ℕ
phase_in word = word / 2 ^ 32

abbrev pub index_in : ℕ → ℕ
index_in word = word % 2 ^ 32

-- what the claim word of a board is that was stopped, until seats that looked before count on
abbrev pub stop_word : ℕ
stop_word = 2 ^ 64 - 1

-- ---- the other words
-- counts, the word that tells the first trial, sums and the least time stand as they are; flows, heads and what stays
-- the same over a step may be below 0 and stand 2^63 higher
abbrev pub is_plain : Law → (place : ℕ) → Bool
is_plain law place =
    if nat_lt place 3 then true
    else if nat_lt place (3 + 6 * law.links) then false
    else if nat_lt place (3 + 6 * law.links + 10 * law.nodes)
    then nat_lt 6 ((place - 3 - 6 * law.links) % 10)
    else true

-- the word of a number, and the number of a word
abbrev pub coded : Law → (place : ℕ) → ℤ → ℕ
coded law place value = if is_plain law place then unsigned_abs value else unsigned_abs (value +ℤ pos (2 ^ 63))

abbrev pub decoded : Law → (place word : ℕ) → ℤ
decoded law place word = if is_plain law place then pos word else pos word -ℤ pos (2 ^ 63)
