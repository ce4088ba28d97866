-- The steps of a run in time: their lengths and moments.
use Rattle.std.proofs.Common.{◌≡◌, ℕ, ◌+◌, ◌*◌, ◌/◌, ℤ, pos, ◌+ℤ◌, ◌-ℤ◌, ◌*ℤ◌, ◌≤ℤ◌}
use Rattle.std.proofs.Common.{Bool, true, false, if◌then◌else◌, unsigned_abs, refl, arith, FitsSigned, w64}
use Rattle.std.specs.Int.{int_min, int_max}
use Rattle.std.specs.Ordering.{int_eq}
use Rattle.std.proofs.lemmas.Int.{ints, clamps}
use Rattle.fixed_num.specs.Ranges.{cut_of, IsBetween, IsEven, IsStepLength}
use Rattle.fixed_num.proofs.Bounds.{within_mul, within_between, fits64}
use Rattle.net_types.specs.declared.options.Options.{Options}
use Rattle.run_engine.specs.Times.{AreRunOptions, IsRunStep, IsRunTime, duration_of}
use Rattle.run_engine.specs.Times.{length_of, shortest_of, travel_part_of, wanted_of}

-- ---- numbers that are even
even_min : (a b : ℤ) → IsEven a → IsEven b → IsEven (int_min a b)
even_min a b e f = omega (arith, ints, clamps, e, f)

even_max : (a b : ℤ) → IsEven a → IsEven b → IsEven (int_max a b)
even_max a b e f = omega (arith, ints, clamps, e, f)

even_twice : (n : ℕ) → IsEven (pos (2 * n))
even_twice n = omega (arith, ints)

even_sum : (a b : ℤ) → IsEven a → IsEven b → IsEven (a +ℤ b)
even_sum a b e f = omega (arith, ints, e, f)

even_rest : (a b : ℤ) → IsEven a → IsEven b → IsEven (a -ℤ b)
even_rest a b e f = omega (arith, ints, e, f)

-- ---- the length of a step
min_between : (a b : ℤ) → pos 0 ≤ℤ a → pos 0 ≤ℤ b → IsBetween (pos 0) (int_min a b) b
min_between a b h k = record { from = omega (arith, ints, clamps, h, k); to = omega (arith, ints, clamps) }

at_least : (a b : ℤ) → pos 0 ≤ℤ a → pos 0 ≤ℤ int_max a b
at_least a b h = omega (arith, ints, clamps, h)

from_zero : {k : ℕ} {x b : ℤ} → IsBetween (pos k) x b → pos 0 ≤ℤ x
from_zero h = omega (arith, ints, h.from)

not_below : (n : ℕ) → pos 0 ≤ℤ pos n
not_below n = omega (arith, ints)

module _ {options : Options} (o : AreRunOptions options) where
  pub duration_fits : FitsSigned w64 (duration_of options)
  duration_fits = fits64 (within_between o.duration) tt

  pub shortest_in : IsBetween (pos 0) (shortest_of options) options.step_ms
  unfolding shortest_of
  shortest_in =
      let share = (unsigned_abs (duration_of options) + 99_999_999) / 100_000_000 in
      min_between (int_max (pos (2 * share)) (pos 500)) options.step_ms (at_least (pos (2 * share)) (pos 500) (not_below (2 * share))) (from_zero o.step)

  pub shortest_even : IsEven (shortest_of options)
  unfolding shortest_of
  shortest_even =
      let share = (unsigned_abs (duration_of options) + 99_999_999) / 100_000_000 in
      even_min (int_max (pos (2 * share)) (pos 500)) options.step_ms (even_max (pos (2 * share)) (pos 500) (even_twice share) (even_twice 250)) o.step_even

  pub travel_part_in : (least : ℤ) → IsBetween (pos 0) (travel_part_of options least) options.step_ms
  unfolding travel_part_of cut_of
  travel_part_in least =
      let n = unsigned_abs (options.variable6 *ℤ least) / 2_000_000 in
      min_between (int_max (pos (2 * n)) (shortest_of options)) options.step_ms (at_least (pos (2 * n)) (shortest_of options) (not_below (2 * n))) (from_zero o.step)

  pub travel_part_even : (least : ℤ) → IsEven (travel_part_of options least)
  unfolding travel_part_of cut_of
  travel_part_even least =
      let n = unsigned_abs (options.variable6 *ℤ least) / 2_000_000 in
      even_min (int_max (pos (2 * n)) (shortest_of options)) options.step_ms (even_max (pos (2 * n)) (shortest_of options) (even_twice n) shortest_even) o.step_even

  wanted_at : (b : Bool) (least : ℤ) → IsBetween (pos 0) (if b then options.step_ms else travel_part_of options least) options.step_ms
  wanted_at true least = record { from = from_zero o.step; to = omega (arith, ints) }
  wanted_at false least = travel_part_in least

  even_at : (b : Bool) (least : ℤ) → IsEven (if b then options.step_ms else travel_part_of options least)
  even_at true least = o.step_even
  even_at false least = travel_part_even least

  pub wanted_in : (least : ℤ) → IsBetween (pos 0) (wanted_of options least) options.step_ms
  unfolding wanted_of
  wanted_in least = wanted_at (int_eq options.variable6 (pos 0)) least

  pub wanted_even : (least : ℤ) → IsEven (wanted_of options least)
  unfolding wanted_of
  wanted_even least = even_at (int_eq options.variable6 (pos 0)) least

  pub travel_fits : {least : ℤ} → IsBetween (pos 0) least (pos 3_600_000) → FitsSigned w64 (options.variable6 *ℤ least)
  travel_fits h = fits64 (within_mul (within_between o.variable) (within_between h)) tt

  -- ---- a step from a moment of the run
  module _ {moment : ℤ} (m : IsRunTime options moment) (least : ℤ) where
    rest_in : (d : ℤ) → moment ≤ℤ d → pos 0 ≤ℤ (d -ℤ moment)
    rest_in d h = omega (arith, ints, h)

    short : (a b step : ℤ) → IsBetween (pos 0) a step → pos 0 ≤ℤ b → step ≤ℤ pos 3_600_000 → pos 0 ≤ℤ int_min a b × int_min a b ≤ℤ pos 3_600_000
    short a b step h k most = (omega (arith, ints, clamps, h.from, k), omega (arith, ints, clamps, h.to, most))

    pub length_in : IsStepLength (length_of options moment least)
    unfolding length_of
    length_in =
        let rest = duration_of options -ℤ moment in
        let s = short (wanted_of options least) rest options.step_ms (wanted_in least) (rest_in (duration_of options) m.between.to) o.step.to in
        record {
          least = s.0;
          most = s.1;
          even = even_min (wanted_of options least) rest (wanted_even least) (even_rest (duration_of options) moment o.duration_even m.even);
        }

    rest_most : (d : ℤ) → d ≤ℤ pos 316_224_000_000 → pos 0 ≤ℤ moment → moment ≤ℤ d → IsBetween (pos 0) (d -ℤ moment) (pos 316_224_000_000)
    rest_most d most from to = record { from = omega (arith, ints, to); to = omega (arith, ints, most, from) }

    pub rest_fits : FitsSigned w64 (duration_of options -ℤ moment)
    rest_fits = fits64 (within_between (rest_most (duration_of options) o.duration.to m.between.from m.between.to)) tt

    no_later : (a d : ℤ) → (moment +ℤ int_min a (d -ℤ moment)) ≤ℤ d
    no_later a d = omega (arith, ints, clamps)

    no_earlier : (a : ℤ) → pos 0 ≤ℤ moment → pos 0 ≤ℤ a → pos 0 ≤ℤ (moment +ℤ a)
    no_earlier a h k = omega (arith, ints, h, k)

    below_end : (moment +ℤ length_of options moment least) ≤ℤ duration_of options
    unfolding length_of
    below_end = no_later (wanted_of options least) (duration_of options)

    pub finish_in : IsRunTime options (moment +ℤ length_of options moment least)
    finish_in = record {
      between = record { from = no_earlier (length_of options moment least) m.between.from length_in.least; to = below_end };
      even = even_sum moment (length_of options moment least) m.even length_in.even;
    }

    all_most : {z d : ℤ} → IsBetween (pos 0) z d → d ≤ℤ pos 316_224_000_000 → IsBetween (pos 0) z (pos 316_224_000_000)
    all_most h most = record { from = h.from; to = omega (arith, ints, h.to, most) }

    pub finish_fits : FitsSigned w64 (moment +ℤ length_of options moment least)
    finish_fits = fits64 (within_between (all_most finish_in.between o.duration.to)) tt

    pub step_in : IsRunStep options (moment +ℤ length_of options moment least) (length_of options moment least)
    step_in = record { finish_in = finish_in; length_in = length_in }

-- ---- what is wanted of a step, by its kind
pub wanted_constant : (options : Options) (least : ℤ) → int_eq options.variable6 (pos 0) ≡ true → wanted_of options least ≡ options.step_ms
unfolding wanted_of
wanted_constant options least is = rw is refl

pub wanted_variable : (options : Options) (least : ℤ) → int_eq options.variable6 (pos 0) ≡ false → wanted_of options least ≡ travel_part_of options least
unfolding wanted_of
wanted_variable options least is = rw is refl
