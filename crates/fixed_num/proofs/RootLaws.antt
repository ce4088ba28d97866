-- Laws of integer roots: sign, order, bounds.
use Rattle.std.proofs.Common.{ℕ, ◌+◌, ◌*◌, T, ltb, ltb→lt, ℤ, pos, negsuc, ◌≤ℤ◌, ◌<ℤ◌, arith}
use Rattle.std.proofs.lemmas.Int.{ints}
use Rattle.fixed_num.specs.Ranges.{IsWithin, IsBetween}
use Rattle.fixed_num.specs.Roots.{root2_of, root3_of}
use Rattle.fixed_num.proofs.RootLemmas.{root2_at, root3_at, root2_of-none, root3_of-none, square_order, cube_order}

pub root2_of-from_zero : (a : ℤ) → pos 0 ≤ℤ root2_of a
root2_of-from_zero (pos a) = let r = root2_at a in omega (arith, ints, r.1.0)
root2_of-from_zero (negsuc a) = omega (arith, ints, root2_of-none a)

pub root3_of-from_zero : (a : ℤ) → pos 0 ≤ℤ root3_of a
root3_of-from_zero (pos a) = let r = root3_at a in omega (arith, ints, r.1.0)
root3_of-from_zero (negsuc a) = omega (arith, ints, root3_of-none a)

pub root2_of-most : (a : ℤ) (n : ℕ) → a <ℤ pos ((n + 1) * (n + 1)) → root2_of a ≤ℤ pos n
root2_of-most (pos a) n h = let r = root2_at a in omega (arith, ints, r.1.0, square_order r.0 n (omega (arith, ints, r.1.1)))
root2_of-most (negsuc a) n h = omega (arith, ints, root2_of-none a)

pub root3_of-most : (a : ℤ) (n : ℕ) → a <ℤ pos ((n + 1) * (n + 1) * (n + 1)) → root3_of a ≤ℤ pos n
root3_of-most (pos a) n h = let r = root3_at a in omega (arith, ints, r.1.0, cube_order r.0 n (omega (arith, ints, r.1.1)))
root3_of-most (negsuc a) n h = omega (arith, ints, root3_of-none a)

pub root2_of-mono : (a b : ℤ) → a ≤ℤ b → root2_of a ≤ℤ root2_of b
root2_of-mono (negsuc a) b h = omega (arith, ints, root2_of-none a, root2_of-from_zero b)
root2_of-mono (pos a) (negsuc b) h = absurd h.le
root2_of-mono (pos a) (pos b) h =
    let r = root2_at a in
    let s = root2_at b in
    omega (arith, ints, r.1.0, s.1.0, square_order r.0 s.0 (omega (arith, ints, r.1.1, s.1.2)))

pub root3_of-mono : (a b : ℤ) → a ≤ℤ b → root3_of a ≤ℤ root3_of b
root3_of-mono (negsuc a) b h = omega (arith, ints, root3_of-none a, root3_of-from_zero b)
root3_of-mono (pos a) (negsuc b) h = absurd h.le
root3_of-mono (pos a) (pos b) h =
    let r = root3_at a in
    let s = root3_at b in
    omega (arith, ints, r.1.0, s.1.0, cube_order r.0 s.0 (omega (arith, ints, r.1.1, s.1.2)))

-- ---- bounds: n is the goal's, and `tt` proves that (n + 1) squared, or cubed, is above the bound of a
pub between_root2 : {l a : ℤ} {m n : ℕ} → IsBetween l a (pos m) → T (ltb m ((n + 1) * (n + 1))) → IsBetween (pos 0) (root2_of a) (pos n)
between_root2 {l} {a} {m} {n} p t = record { from = root2_of-from_zero a; to = root2_of-most a n (omega (arith, ints, ltb→lt m ((n + 1) * (n + 1)) t)) }

pub between_root3 : {l a : ℤ} {m n : ℕ} → IsBetween l a (pos m) → T (ltb m ((n + 1) * (n + 1) * (n + 1))) → IsBetween (pos 0) (root3_of a) (pos n)
between_root3 {l} {a} {m} {n} p t = record { from = root3_of-from_zero a; to = root3_of-most a n (omega (arith, ints, ltb→lt m ((n + 1) * (n + 1) * (n + 1)) t)) }

pub within_root2 : {a : ℤ} {m n : ℕ} → IsWithin m a → T (ltb m ((n + 1) * (n + 1))) → IsWithin n (root2_of a)
within_root2 {a} {m} {n} p t =
    let most = root2_of-most a n (omega (arith, ints, ltb→lt m ((n + 1) * (n + 1)) t)) in
    record { within = omega (arith, ints, root2_of-from_zero a) }

pub within_root3 : {a : ℤ} {m n : ℕ} → IsWithin m a → T (ltb m ((n + 1) * (n + 1) * (n + 1))) → IsWithin n (root3_of a)
within_root3 {a} {m} {n} p t =
    let most = root3_of-most a n (omega (arith, ints, ltb→lt m ((n + 1) * (n + 1) * (n + 1)) t)) in
    record { within = omega (arith, ints, root3_of-from_zero a) }
