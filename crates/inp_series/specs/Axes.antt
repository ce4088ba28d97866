-- When the first items of pairs can be computed.
use Rattle.std.specs.Prelude.{⊤}
use Rattle.fixed_num.specs.Ranges.{IsMoment}
use Rattle.inp_series.specs.declared.pairs.Axis.{Axis}
use Rattle.inp_series.specs.declared.pairs.Axis.TheVariants.{Amounts, Hours}

-- hours count from a moment of the years 1900 to 2200
abbrev pub IsAxis : Axis → Type 0
IsAxis Amounts = ⊤
IsAxis (Hours start date) = IsMoment start
