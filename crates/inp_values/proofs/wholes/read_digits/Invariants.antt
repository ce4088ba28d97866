use Rattle.std.proofs.Common.{◌≡◌, ◌^◌, ◌<◌, ℕ, List, drop}
use Rattle.fixed_num.specs.Number.{AreDigits, digits_after}
use Rattle.inp_values.proofs.wholes.read_digits.Given as goal

-- the digits that are left lead to the same number
pub record Keeps (total read : ℕ) (digits left : List ℕ) : Type 0 where
  pub small : total < 10 ^ read
  pub are_digits : AreDigits left
  pub same : digits_after total left ≡ digits_after 0 digits

abbrev pub invariant-loop-digit : goal.invariant-loop-digit
invariant-loop-digit l = Keeps l.total l.digit-index l.digits (drop l.digit-index l.digits)
