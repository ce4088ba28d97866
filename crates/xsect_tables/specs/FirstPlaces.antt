-- First places that pass a test.
use Rattle.std.specs.Prelude.{ℕ, zero, suc, Bool, nat_lt, if◌then◌else◌}

-- the least number below n that passes a test, or n where none does
abbrev pub first_that : (ℕ → Bool) → ℕ → ℕ
first_that passes zero = 0
first_that passes (suc n) =
    if nat_lt (first_that passes n) n then first_that passes n
    else if passes n then n
    else suc n
