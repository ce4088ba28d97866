-- The calculus of bounds, for the crates that compute: which numbers a formula gives, and that they fit their types.
-- Each law takes the bounds of a formula's parts in the order of the formula; a `tt` proves a test on numerals.
use Rattle.std.proofs.Common.{◌^◌, ℤ, ◌*ℤ◌, FitsSigned, arith}
use Rattle.std.specs.Int.{w64, w128}
use Rattle.std.proofs.lemmas.Int.{ints, to_z-of_z, fits_signed_mul}
pub use Rattle.fixed_num.proofs.Within.{within_number, within_minus, within_up, within_add, within_sub, within_mul, within_neg, within_abs, within_min, within_max, within_both, within_between, between_within, within_quo, within_quo_by, fits128, fits64, fits32}
pub use Rattle.fixed_num.proofs.Between.{le_number, lt_number, between_number, between_up, between_add, between_sub, between_neg, between_mul, between_abs, between_min, between_max, between_cut, within_cut, cut_of-same, cut_of-least, cut_of-most, between_quo, between_quo_by, between_lerp}
pub use Rattle.fixed_num.proofs.RootLaws.{root2_of-from_zero, root3_of-from_zero, root2_of-most, root3_of-most, root2_of-mono, root3_of-mono, between_root2, between_root3, within_root2, within_root3}
pub use Rattle.fixed_num.proofs.RoundingLaws.{quo_of-abs, quo_of-no_larger, quo_of-by, quo_of-from_zero, quo_of-to_zero, quo_of-zero, quo_of-neg, quo_of-mono, quo_of-exact, quo_of-one}

pub fits_product : (a b : ℤ) → FitsSigned w64 a → FitsSigned w64 b → FitsSigned w128 (a *ℤ b)
fits_product a b f g = fits_signed_mul w128 a b (2 ^ 63) (2 ^ 63) (omega (arith, ints)) (omega (arith, ints)) (omega arith)

pub fits_wider : (a : ℤ) → FitsSigned w64 a → FitsSigned w128 a
fits_wider a f = omega (arith, ints)

-- for the head of a crate that computes: `#![tactic(auto, using(fixed_num::proofs::Bounds::casts))]`
pub ruleset casts = (to_z-of_z, fits_product, fits_wider, ints)
