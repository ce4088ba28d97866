-- The intensity of a rain gage at a moment (User's Manual, section [RAINGAGES]; rounding and range are this project's
-- profile).
use Rattle.std.specs.Prelude.{ℕ, ◌^◌, Bool, false, if◌then◌else◌, List, [], slice_index_or, ℤ, pos, ◌*ℤ◌}
use Rattle.fixed_num.specs.Ranges.{cut_of}
use Rattle.fixed_num.specs.Rounding.{quo_of}
use Rattle.inp_values.specs.Units.{unit_for}
use Rattle.inp_values.specs.declared.quantities.Quantity.TheVariants.{Rate}
use Rattle.net_types.specs.declared.hydrology.Gage.{Gage}
use Rattle.net_types.specs.declared.options.FlowUnits.{FlowUnits}
use Rattle.net_types.specs.declared.project.Project.{Project}
use Rattle.net_types.specs.Records.{series_at}
use Rattle.rain_gages.specs.Rain.{rain_at}

-- a gage by its number; a number past the end has the gage of nothing
abbrev pub no_gage : Gage
no_gage = record { name = []; volume = false; interval = pos 0; series = 0 }

abbrev pub gage_at : List Gage → ℕ → Gage
gage_at gages k = slice_index_or gages k no_gage

-- a volume that falls in an interval, as an intensity of the hour
unfoldable pub hourly_of : (volume interval : ℤ) → ℤ
hourly_of volume interval = quo_of (volume *ℤ pos 3_600_000) interval

-- the values of a gage are intensities, or volumes of its interval
abbrev pub hourly_value : (volume : Bool) (interval value : ℤ) → ℤ
hourly_value volume interval value = if volume then hourly_of value interval else value

-- millionths of the user's unit of a rate, in nm/h and brought into the range of a rate
unfoldable pub rate_of : FlowUnits → (value6 : ℤ) → ℤ
rate_of units value6 =
    let unit = unit_for units Rate in
    cut_of (quo_of (value6 *ℤ pos unit.num) (pos unit.den *ℤ pos 1_000_000)) (pos 0) (pos (10 ^ 10))

-- what falls at a gage, in nm/h
abbrev pub gage_rate : Project → Gage → (moment : ℤ) → ℤ
gage_rate project gage moment =
    let entries = (series_at project.series gage.series).entries in
    rate_of project.options.units (hourly_value gage.volume gage.interval (rain_at entries gage.interval moment))

abbrev pub intensity_of : Project → (gage : ℕ) (moment : ℤ) → ℤ
intensity_of project gage moment = gage_rate project (gage_at project.gages gage) moment
