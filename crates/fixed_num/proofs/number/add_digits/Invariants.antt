use Rattle.std.proofs.Common.{◌≡◌, ◌^◌, ◌≤◌, min, ℕ, List, drop}
use Rattle.fixed_num.specs.Number.{AreDigits, digits_after}
use Rattle.fixed_num.proofs.number.add_digits.Given as goal

-- the digits that are left lead to the same number
pub record Keeps (number total : ℕ) (digits left : List ℕ) : Type 0 where
  pub small : total ≤ 10 ^ 18
  pub are_digits : AreDigits left
  pub same : min (digits_after total left) (10 ^ 18) ≡ min (digits_after number digits) (10 ^ 18)

abbrev pub invariant-loop-digit : goal.invariant-loop-digit
invariant-loop-digit l = Keeps l.number l.total l.digits (drop l.digit-index l.digits)
