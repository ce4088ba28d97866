-- The values of options (User's Manual, section [OPTIONS]).
use Rattle.std.specs.Prelude.{ℕ, ◌==◌, ◌^◌, Bool, true, false, not, cond, ◌&&◌, nat_lt, List, ℤ, pos}
use Rattle.std.specs.Prelude.{negsuc, ◌+ℤ◌, ◌*ℤ◌, int_le, Option, Some, None, Result, Ok, Err}
use Rattle.net_types.specs.declared.options.FlowUnits.{FlowUnits}
use Rattle.net_types.specs.declared.options.FlowUnits.TheVariants.{Cfs}
use Rattle.net_types.specs.declared.faults.FaultKind.TheVariants.{InvalidKeyword, InvalidNumber}
use Rattle.net_types.specs.declared.faults.FaultKind.TheVariants.{NotInProfile, OverLimit}
use Rattle.fixed_num.specs.Decimal.{scaled_of}
use Rattle.inp_lines.specs.Faults.{fault_of_kind}
use Rattle.inp_lines.specs.declared.fault.Fault.{Fault}
use Rattle.inp_values.specs.Units.{unit_for}
use Rattle.inp_values.specs.declared.quantities.Quantity.TheVariants.{NodeArea, Depth, Raw}
use Rattle.inp_options.specs.declared.setting.Setting.{Setting}
use Rattle.inp_options.specs.declared.setting.Setting.TheVariants as setting

-- the moment of a day and a time of day, in ms
abbrev pub moment_of : ℤ → ℤ → ℤ
moment_of day time = day *ℤ pos 86_400_000 +ℤ time

-- a value that lies in a range
abbrev pub within : ℤ → ℤ → Option ℤ → Option ℤ
within least most None = None
within least most (Some value) = cond (int_le least value && int_le value most) (Some value) None

-- whether a value is there and is 0
abbrev pub is_zero : Option ℤ → Bool
is_zero None = false
is_zero (Some (pos n)) = n == 0
is_zero (Some (negsuc n)) = false

-- a value where 0 stands for the default
abbrev pub zero_as : ℤ → Option ℤ → Option ℤ
zero_as default value = cond (is_zero value) (Some default) value

-- MIN_SURFAREA: 0 stands for 1,167,420 mm²; other areas are 10,000 mm² or more
unfoldable pub area_of : FlowUnits → List ℕ → Option ℤ
area_of units text =
    within (pos 10_000) (pos (10 ^ 13)) (zero_as (pos 1_167_420) (scaled_of (unit_for units NodeArea) text))

-- VARIABLE_STEP: a part of 0 to 2 in millionths
unfoldable pub variable_of : List ℕ → Option ℤ
variable_of text = within (pos 0) (pos 2_000_000) (scaled_of (unit_for Cfs Raw) text)

-- HEAD_TOLERANCE: 0 stands for 1,524 µm
unfoldable pub tolerance_of : FlowUnits → List ℕ → Option ℤ
tolerance_of units text = within (pos 1) (pos (10 ^ 9)) (zero_as (pos 1_524) (scaled_of (unit_for units Depth) text))

-- MAX_TRIALS: 0 stands for 8, and more than 20 are over the limit
abbrev pub trials_of : Option ℕ → Result ℕ Fault
trials_of None = Err (fault_of_kind InvalidNumber 1)
trials_of (Some n) = cond (nat_lt 20 n) (Err (fault_of_kind OverLimit 1)) (cond (n == 0) (Ok 8) (Ok n))

-- an option that is built for one value alone
abbrev pub built_of : Bool → Result Setting Fault
built_of true = Ok setting.Fixed
built_of false = Err (fault_of_kind NotInProfile 1)

-- a switch that is built for its off side alone
abbrev pub off_of : Option Bool → Result Setting Fault
off_of None = Err (fault_of_kind InvalidKeyword 1)
off_of (Some on) = built_of (not on)
