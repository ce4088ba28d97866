-- The steps of a run in time (User's Manual, section [OPTIONS]; the lengths of variable steps and their rounding are
-- this project's profile).
use Rattle.std.specs.Prelude.{◌+◌, ◌*◌, ◌/◌, Bool, int_lt, if◌then◌else◌, ℤ, pos, ◌-ℤ◌, ◌*ℤ◌, ◌≤ℤ◌}
use Rattle.std.specs.Int.{int_min, int_max}
use Rattle.std.specs.Int.RustNames.{unsigned_abs}
use Rattle.std.specs.Ordering.{int_eq}
use Rattle.fixed_num.specs.Ranges.{cut_of, IsBetween, IsEven, IsStepLength}
use Rattle.net_types.specs.declared.options.Options.{Options}

-- how long a run lasts, in ms
abbrev pub duration_of : Options → ℤ
duration_of options = options.finish -ℤ options.start

-- whether a run goes on at a moment, in ms since its start: the moment is before its end
abbrev pub goes_on : Options → (moment : ℤ) → Bool
goes_on options moment = int_lt moment (duration_of options)

-- the length of the shortest step, in ms: half a second, or more where 50,000,000 steps are to reach the end, and no
-- more than the routing step
unfoldable pub shortest_of : Options → ℤ
shortest_of options =
    let share = (unsigned_abs (duration_of options) + 99_999_999) / 100_000_000 in
    int_min (int_max (pos (2 * share)) (pos 500)) options.step_ms

-- a part of the least travel time of a wave, in ms: rounded down to an even number and brought between the shortest
-- step and the routing step; that, or the routing step, is the length that a step is to have
unfoldable pub travel_part_of : Options → (least : ℤ) → ℤ
travel_part_of options least =
    cut_of (pos (2 * (unsigned_abs (options.variable6 *ℤ least) / 2_000_000))) (shortest_of options) options.step_ms

unfoldable pub wanted_of : Options → (least : ℤ) → ℤ
wanted_of options least =
    if int_eq options.variable6 (pos 0) then options.step_ms else travel_part_of options least

-- the length of the step that begins at a moment, in ms: no more than the time that is left
unfoldable pub length_of : Options → (moment least : ℤ) → ℤ
length_of options moment least = int_min (wanted_of options least) (duration_of options -ℤ moment)

-- what the steps of a run ask of its options: it does not end before it starts and lasts at most 3,660 days;
-- its routing step is 10 ms to an hour, and 50,000,000 of them reach the end; both are even numbers of ms,
-- so that every step is one; and the part of the travel time is up to twice that time
pub record AreRunOptions (options : Options) : Type 0 where
  pub duration : IsBetween (pos 0) (duration_of options) (pos 316_224_000_000)
  pub duration_even : IsEven (duration_of options)
  pub step : IsBetween (pos 10) options.step_ms (pos 3_600_000)
  pub step_even : IsEven options.step_ms
  pub steps : duration_of options ≤ℤ (pos 50_000_000 *ℤ options.step_ms)
  pub variable : IsBetween (pos 0) options.variable6 (pos 2_000_000)

-- a moment of a run: it is no later than the end, and an even number of ms after the start
pub record IsRunTime (options : Options) (moment : ℤ) : Type 0 where
  pub between : IsBetween (pos 0) moment (duration_of options)
  pub even : IsEven moment

-- a step of a run in time: it finishes at a moment of the run, and has a length in range
pub record IsRunStep (options : Options) (finish dt : ℤ) : Type 0 where
  pub finish_in : IsRunTime options finish
  pub length_in : IsStepLength dt
