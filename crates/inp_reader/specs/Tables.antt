-- The faults of the lines of time series, curves and time patterns.
use Rattle.std.specs.Prelude.{ℤ, List}
use Rattle.net_types.specs.declared.faults.LineFault.{LineFault}
use Rattle.inp_lines.specs.declared.line.Line.{Line}
use Rattle.inp_lines.specs.Sources.{both_of}
use Rattle.inp_series.specs.CurveLines.{curve_fault}
use Rattle.inp_series.specs.PatternLines.{pattern_fault}
use Rattle.inp_series.specs.SeriesLines.{series_fault}

-- The fault of a line, none or one, by the start of the run and the lines before it: as one of a time series, a curve
-- or a time pattern. Source: this project's profile.
unfoldable pub table_fault : ℤ → List Line → Line → List LineFault
table_fault start = both_of (both_of (series_fault start) curve_fault) pattern_fault
