-- Numbers in ranges.
use Rattle.std.proofs.Common.{T, ℤ, FitsSigned, to_z, of_z}
use Rattle.std.specs.Prelude.{int_le}
use Rattle.std.proofs.lemmas.Int.{to_z-of_z}
use Rattle.std.specs.Int.{w64}
use Rattle.fixed_num.specs.Ranges.{IsBetween, IsEven}
use Rattle.fixed_num.proofs.Between.{between_number, between_up}

-- a number that fits is itself
pub kept : (z : ℤ) {least most : ℤ} → FitsSigned w64 z → IsBetween least z most → IsBetween least (to_z w64 (of_z w64 z)) most
kept z f h = simp (to_z-of_z, f) h

-- a range on a numeral
pub numeral_in : {least z most : ℤ} → T (int_le least z) → T (int_le z most) → IsBetween least z most
numeral_in {least} {z} {most} low high = between_up (between_number z) low high

-- an even number that fits is itself
pub kept_even : (z : ℤ) → FitsSigned w64 z → IsEven z → IsEven (to_z w64 (of_z w64 z))
kept_even z f h = simp (to_z-of_z, f) h
