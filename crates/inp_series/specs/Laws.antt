-- Laws of time series, curves and patterns.
use Rattle.std.specs.Prelude.{◌≡◌, ◌<◌, ◌≤◌, ℕ, ℤ, List, [], get_or, length, map, sum_by}
use Rattle.std.specs.Prelude.{None, Some}
use Rattle.std.specs.List.{All}
use Rattle.fixed_num.specs.declared.constants.TheConstants.{RECORD_LIMIT}
use Rattle.fixed_num.specs.Ranges.{IsMoment}
use Rattle.net_types.specs.declared.tables.Curve.{Curve}
use Rattle.net_types.specs.declared.tables.CurveKind.{CurveKind}
use Rattle.net_types.specs.declared.tables.Pattern.{Pattern}
use Rattle.net_types.specs.declared.tables.Series.{Series}
use Rattle.net_types.specs.Ranges.{CurveInRange, PatternInRange, SeriesInRange}
use Rattle.net_types.specs.Sound.{NamesCurve}
use Rattle.inp_lines.specs.declared.line.Line.{Line}
use Rattle.inp_lines.specs.Gather.{gather}
use Rattle.inp_lines.specs.Names.{number_in}
use Rattle.inp_lines.specs.Sources.{FaultsIn}
use Rattle.inp_series.specs.SeriesLines.{is_series_section, series_fault, series_names, series_of}
use Rattle.inp_series.specs.CurveLines.{curve_fault, curve_states, curves_of, is_curve_section}
use Rattle.inp_series.specs.PatternLines.{is_pattern_section, pattern_fault, pattern_names, patterns_of}
use Rattle.inp_series.specs.Meaning.{MeanCurves, MeanPatterns, MeanSeries}

-- Where no line is at fault, the records that are read are those that the lines mean; and lines mean one list of
-- records.
pub record SeriesHaveOneMeaning : Type 0 where
  pub meant : (start : ℤ) (lines : List Line) → gather (series_fault start) [] lines ≡ []
      → MeanSeries start lines (series_of start lines)
  pub one : (start : ℤ) (lines : List Line) (a b : List Series) → MeanSeries start lines a
      → MeanSeries start lines b → a ≡ b

pub record CurvesHaveOneMeaning : Type 0 where
  pub meant : (lines : List Line) → gather curve_fault [] lines ≡ [] → MeanCurves lines (curves_of lines)
  pub one : (lines : List Line) (a b : List Curve) → MeanCurves lines a → MeanCurves lines b → a ≡ b

pub record PatternsHaveOneMeaning : Type 0 where
  pub meant : (lines : List Line) → gather pattern_fault [] lines ≡ [] → MeanPatterns lines (patterns_of lines)
  pub one : (lines : List Line) (a b : List Pattern) → MeanPatterns lines a → MeanPatterns lines b → a ≡ b

-- A line has at most one fault of each kind of record, and only a line of its section.
pub record FaultsAreOfSections : Type 0 where
  pub series : (start : ℤ) → FaultsIn is_series_section (series_fault start)
  pub curves : FaultsIn is_curve_section curve_fault
  pub patterns : FaultsIn is_pattern_section pattern_fault

-- Where no line is at fault, the records lie in their ranges; be the lines at fault or not, there are as many records
-- and pairs as may be, and the number of a name is that of a record.
pub record SeriesAreSound : Type 0 where
  pub ranges : (start : ℤ) (lines : List Line) → IsMoment start → gather (series_fault start) [] lines ≡ []
      → All SeriesInRange (series_of start lines)
  pub few : (start : ℤ) (lines : List Line) → length (series_of start lines) ≤ RECORD_LIMIT
  pub entries : (start : ℤ) (lines : List Line)
      → sum_by (λ series. length series.entries) (series_of start lines) ≤ 1_000_000
  pub numbers : (start : ℤ) (lines : List Line) (name : List ℕ) (n : ℕ)
      → number_in (series_names start lines) name ≡ Some n
      → n < length (series_of start lines)

-- The type of a curve by what is known of its lines is that of the curve.
pub record CurvesAreSound : Type 0 where
  pub ranges : (lines : List Line) → gather curve_fault [] lines ≡ [] → All CurveInRange (curves_of lines)
  pub few : (lines : List Line) → length (curves_of lines) ≤ RECORD_LIMIT
  pub points : (lines : List Line) → sum_by (λ curve. length curve.points) (curves_of lines) ≤ 1_000_000
  pub kinds : (lines : List Line) (n : ℕ) (kind : CurveKind)
      → get_or (map (λ state. state.kind) (curve_states lines)) n None ≡ Some kind
      → NamesCurve (curves_of lines) n kind

pub record PatternsAreSound : Type 0 where
  pub ranges : (lines : List Line) → gather pattern_fault [] lines ≡ [] → All PatternInRange (patterns_of lines)
  pub few : (lines : List Line) → length (patterns_of lines) ≤ RECORD_LIMIT
  pub numbers : (lines : List Line) (name : List ℕ) (n : ℕ) → number_in (pattern_names lines) name ≡ Some n
      → n < length (patterns_of lines)
