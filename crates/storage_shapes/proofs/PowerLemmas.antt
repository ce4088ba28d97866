-- The ranges of powers of a depth.
use Rattle.std.proofs.Common.{◌≡◌, ℕ, ◌*◌, ◌^◌, ◌≤◌, ℤ, pos, ◌*ℤ◌, ◌≤ℤ◌}
use Rattle.fixed_num.specs.Ranges.{IsBetween}
use Rattle.fixed_num.proofs.Bounds.{between_mul, between_number, between_quo_by, between_root2, between_up, le_number}
use Rattle.storage_shapes.specs.ShapeArea.{product_of, root6_of}

pub product-between : {p x : ℤ} → IsBetween (pos 0) p (pos 100_000_000_000_000)
    → IsBetween (pos 0) x (pos 10_000_000_000)
    → IsBetween (pos 0) (product_of p x) (pos 1_000_000_000_000_000_000)
unfolding product_of
product-between p x =
    between_up (between_quo_by {y = pos 1_000_000} 1_000_000 (between_mul p x) (le_number tt) tt) tt tt

pub product-one : {p x : ℤ} → IsBetween (pos 0) p (pos 1_000_000) → IsBetween (pos 0) x (pos 10_000_000_000)
    → IsBetween (pos 0) (product_of p x) (pos 10_000_000_000)
unfolding product_of
product-one p x = between_up (between_quo_by {y = pos 1_000_000} 1_000_000 (between_mul p x) (le_number tt) tt) tt tt

pub product-two : {p x : ℤ} → IsBetween (pos 0) p (pos 10_000_000_000) → IsBetween (pos 0) x (pos 10_000_000_000)
    → IsBetween (pos 0) (product_of p x) (pos 100_000_000_000_000)
unfolding product_of
product-two p x = between_up (between_quo_by {y = pos 1_000_000} 1_000_000 (between_mul p x) (le_number tt) tt) tt tt

pub root6-between : {x : ℤ} → IsBetween (pos 0) x (pos 10_000_000_000)
    → IsBetween (pos 0) (root6_of x) (pos 100_000_000)
unfolding root6_of
root6-between h = between_root2 (between_mul h (between_number (pos 1_000_000))) tt
