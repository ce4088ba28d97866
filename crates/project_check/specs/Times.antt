-- The times of a run (User's Manual, section [OPTIONS]; the limits are this project's profile).
use Rattle.std.specs.Prelude.{Bool, ◌||◌, ◌⊎◌, ℤ, pos, ◌-ℤ◌, ◌*ℤ◌, ◌<ℤ◌, int_lt}
use Rattle.net_types.specs.declared.options.Options.{Options}

-- the run ends before it starts; one that ends as it starts has no steps
abbrev pub EndsBeforeStart : Options → Type 0
EndsBeforeStart options = options.finish <ℤ options.start

-- the duration of a run, in ms
abbrev pub duration : Options → ℤ
duration options = options.finish -ℤ options.start

-- 3,660 days, in ms
abbrev pub longest : ℤ
longest = pos 316_224_000_000

-- the time of 50,000,000 routing steps, in ms
abbrev pub most_steps_time : Options → ℤ
most_steps_time options = pos 50_000_000 *ℤ options.step_ms

-- a run is over a limit where it lasts more than 3,660 days, or where 50,000,000 routing steps do not reach its end,
-- so that the number of its steps, counting a shorter last one, is greater; one that ends before it starts is not
abbrev pub IsOverLimit : Options → Type 0
IsOverLimit options = (longest <ℤ duration options) ⊎ (most_steps_time options <ℤ duration options)

-- both as tests
abbrev pub ends_before_start : Options → Bool
ends_before_start options = int_lt options.finish options.start

abbrev pub is_over_limit : Options → Bool
is_over_limit options = int_lt longest (duration options) || int_lt (most_steps_time options) (duration options)
