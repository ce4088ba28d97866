-- The quotient of the pressure, of which both sides are divided by 160.
use Rattle.std.proofs.Common.{◌≡◌, ℕ, zero, suc, ◌+◌, ◌*◌, ℤ, pos, negsuc, ◌*ℤ◌, ◌≤ℤ◌, neg_ℤ, ap, sym, ◌∙◌, arith}
use Rattle.std.proofs.lemmas.Int.{ints}
use Rattle.std.proofs.Math.Nat.{mul-div-mul_right}
use borrow.Author.Differences.{neg_is}
use Rattle.fixed_num.specs.Rounding.{quo_of, rounded}
use Rattle.fixed_num.specs.declared.constants.TheConstants.{GRAVITY}
use Rattle.fixed_num.proofs.Bounds.{quo_of-neg}
use Rattle.conduit_flow.specs.Momentum.{pressure_of}

rounded_part : (n k : ℕ) → rounded (n * 160) (k * 160) ≡ rounded n k
unfolding rounded
rounded_part n k =
    let above : 2 * (n * 160) + k * 160 ≡ (2 * n + k) * 160 = omega arith in
    let below : 2 * (k * 160) ≡ (2 * k) * 160 = omega arith in
    rw (above, below) (mul-div-mul_right (2 * n + k) (2 * k) (omega arith))

part_from_zero : (n k : ℕ) → quo_of (pos (n * 160)) (pos (k * 160)) ≡ quo_of (pos n) (pos k)
unfolding quo_of
part_from_zero n k = ap pos (rounded_part n k)

part : (x : ℤ) (k : ℕ) → quo_of (x *ℤ pos 160) (pos (k * 160)) ≡ quo_of x (pos k)
part (pos n) k = part_from_zero n k
part (negsuc n) k =
    let whole : negsuc n *ℤ pos 160 ≡ neg_ℤ (pos (suc n * 160)) = omega (arith, ints, neg_is (pos (suc n * 160))) in
    ap (λ (z : ℤ). quo_of z (pos (k * 160))) whole
    ∙ quo_of-neg (pos (suc n * 160)) (pos (k * 160))
    ∙ ap neg_ℤ (part_from_zero (suc n) k)
    ∙ sym (quo_of-neg (pos (suc n)) (pos k))

-- ---- a factor taken out of a product
factor_first : (m : ℕ) (y : ℤ) → (pos m *ℤ pos 160) *ℤ y ≡ (pos m *ℤ y) *ℤ pos 160
factor_first m (pos n) = omega (arith, ints)
factor_first m (negsuc n) = omega (arith, ints)

neg_times : (n k : ℕ) → neg_ℤ (pos n) *ℤ pos k ≡ neg_ℤ (pos (n * k))
neg_times zero k = omega (arith, ints)
neg_times (suc n) k = omega (arith, ints, neg_is (pos (suc n * k)))

factor_out : (x : ℤ) (n : ℕ) → (x *ℤ pos 160) *ℤ pos n ≡ (x *ℤ pos n) *ℤ pos 160
factor_out (pos m) n = omega (arith, ints)
factor_out (negsuc m) n =
    let same : suc m * 160 * n ≡ suc m * n * 160 = omega arith in
    ap (λ (z : ℤ). z *ℤ pos n) (neg_times (suc m) 160)
    ∙ neg_times (suc m * 160) n
    ∙ ap (λ (k : ℕ). neg_ℤ (pos k)) same
    ∙ sym (neg_times (suc m * n) 160)
    ∙ sym (ap (λ (z : ℤ). z *ℤ pos 160) (neg_times (suc m) n))

pub pressure_by_part : (area fall dt length : ℤ) → pos 1 ≤ℤ area → pos 0 ≤ℤ dt → pos 10_000 ≤ℤ length
    → quo_of (pos 61_341 *ℤ area *ℤ fall *ℤ dt) (pos 6_250_000 *ℤ length) ≡ pressure_of area fall dt length
unfolding pressure_of
pressure_by_part (pos a) fall (pos d) (pos l) g t h =
    let first : GRAVITY *ℤ pos a ≡ pos (61_341 * a) *ℤ pos 160 = omega (arith, ints) in
    let plain : pos 61_341 *ℤ pos a ≡ pos (61_341 * a) = omega (arith, ints) in
    let second : GRAVITY *ℤ pos a *ℤ fall ≡ (pos (61_341 * a) *ℤ fall) *ℤ pos 160 = ap (λ (z : ℤ). z *ℤ fall) first ∙ factor_first (61_341 * a) fall in
    let above : GRAVITY *ℤ pos a *ℤ fall *ℤ pos d ≡ (pos (61_341 * a) *ℤ fall *ℤ pos d) *ℤ pos 160 = ap (λ (z : ℤ). z *ℤ pos d) second ∙ factor_out (pos (61_341 * a) *ℤ fall) d in
    let below : pos 1_000_000_000 *ℤ pos l ≡ pos (6_250_000 * l * 160) = omega (arith, ints) in
    let divisor : pos 6_250_000 *ℤ pos l ≡ pos (6_250_000 * l) = omega (arith, ints) in
    let whole = pos (61_341 * a) *ℤ fall *ℤ pos d in
    (λ i. quo_of (plain i *ℤ fall *ℤ pos d) (divisor i))
    ∙ sym (part whole (6_250_000 * l))
    ∙ sym (λ i. quo_of (above i) (below i))
pressure_by_part (negsuc a) fall dt length g t h = absurd g.le
pressure_by_part (pos a) fall (negsuc d) length g t h = absurd t.le
pressure_by_part (pos a) fall (pos d) (negsuc l) g t h = absurd h.le
