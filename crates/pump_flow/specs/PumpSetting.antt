-- When a pump starts and stops (User's Manual, section [PUMPS]; that the stop counts where both do is this project's
-- profile). Depths are µm.
use Rattle.std.specs.Prelude.{◌&&◌, if◌then◌else◌, ℤ, pos, int_le, int_lt}

-- a pump is shut off at or below its shutoff depth and turned on at or above its startup depth, where it has them
unfoldable pub pump_setting_of : (startup shutoff depth setting : ℤ) → ℤ
pump_setting_of startup shutoff depth setting =
    if int_lt (pos 0) shutoff && int_le depth shutoff then pos 0
    else if int_lt (pos 0) startup && int_le startup depth then pos 1_000_000
    else setting
