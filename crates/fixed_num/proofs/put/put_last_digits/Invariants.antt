use Rattle.std.proofs.Common.{◌≡◌, ◌+◌, ◌++◌, ◌≤◌, ℕ, List, take, drop}
use Rattle.fixed_num.specs.Decimal.{last_digits}
use Rattle.fixed_num.proofs.put.put_last_digits.Given as goal

-- the digits that are left complete the text
pub record Keeps (number count at left end : ℕ) (before now : List ℕ) : Type 0 where
  pub few : left ≤ 6
  pub place : end + left ≡ at + count
  pub text : take end now ++ last_digits left number ≡ take at before ++ last_digits count number
  pub rest : drop (at + count) now ≡ drop (at + count) before

abbrev pub decreases-loop-left : goal.decreases-loop-left
decreases-loop-left l = l.left

abbrev pub invariant-loop-left : goal.invariant-loop-left
invariant-loop-left l = Keeps l.number l.fn.count l.fn.at l.left l.end l.initial.to l.to
