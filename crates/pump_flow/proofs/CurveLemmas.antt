-- A curve is read alike at a number and at the same brought near to its points.
use Rattle.std.proofs.Common.{◌≡◌, ℕ, ◌-◌, ◌*◌, ◌^◌, ◌<◌, ◌≤◌, List, length, get_or, ℤ, pos, neg_ℤ, ◌≤ℤ◌, ◌<ℤ◌, arith}
use Rattle.std.specs.Int.{int_max, int_min}
use Rattle.std.specs.List.{All}
use Rattle.std.proofs.lemmas.Int.{ints, clamps}
use Rattle.fixed_num.specs.Ranges.{IsWithin, cut_of}
use Rattle.net_types.specs.Ranges.{PointInRange}
use Rattle.net_types.specs.Records.{pair_at}
use Rattle.rising_pairs.specs.FirstAbove.{IsFirstAbove, first_above}
use Rattle.rising_pairs.proofs.SearchLemmas.{first_above_is}

back_up_to : (key x : ℤ) → IsWithin (10 ^ 15) x
    → x ≤ℤ cut_of key (neg_ℤ (pos 2_000_000_000_000_000)) (pos 2_000_000_000_000_000) → x ≤ℤ key
unfolding cut_of
back_up_to key x w h = omega (arith, ints, clamps, w.within, h)

back_above : (key x : ℤ) → IsWithin (10 ^ 15) x
    → cut_of key (neg_ℤ (pos 2_000_000_000_000_000)) (pos 2_000_000_000_000_000) <ℤ x → key <ℤ x
unfolding cut_of
back_above key x w h = omega (arith, ints, clamps, w.within, h)

pub same_place : (points : List (ℤ × ℤ)) (key : ℤ) (place : ℕ) → All PointInRange points
    → IsFirstAbove points (cut_of key (neg_ℤ (pos 2_000_000_000_000_000)) (pos 2_000_000_000_000_000)) place
    → place ≡ first_above points key
same_place points key place all h = first_above_is points key place (record {
  within = h.within;
  before = λ k less. back_up_to key (pair_at points k).0 (all k (pos 0, pos 0) (omega (
    arith,
    less,
    h.within,
  ))).x_in (h.before k less);
  after = λ k from inside. back_above key (pair_at points k).0 (all k (
    pos 0,
    pos 0,
  ) inside).x_in (h.after k from inside);
})

pub values_in : (points : List (ℤ × ℤ)) → All PointInRange points
    → All (λ (point : ℤ × ℤ). IsWithin (10 ^ 15) point.1) points
values_in points all k d h = (all k d h).y_in

pub first_in : (points : List (ℤ × ℤ)) (k : ℕ) → All PointInRange points → k < length points
    → IsWithin (10 ^ 15) (pair_at points k).1
first_in points k all h = (all k (pos 0, pos 0) h).y_in
