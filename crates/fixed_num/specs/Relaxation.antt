-- Under-relaxation of successive trials (Reference Manual volume II, chapter 3; the rounding is this project's
-- profile).
use Rattle.std.specs.Prelude.{Bool, if◌then◌else◌, ℤ, pos, ◌+ℤ◌}
use Rattle.fixed_num.specs.Rounding.{quo_of}

-- the value of a trial: the new one in the first trial, afterwards the mean of the last trial's and the new one
unfoldable pub relaxed_of : (first : Bool) → (last new : ℤ) → ℤ
relaxed_of first last new = if first then new else quo_of (last +ℤ new) (pos 2)
