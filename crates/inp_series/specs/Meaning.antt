-- What lines of time series, curves and patterns mean, apart from how they are read.
use Rattle.std.specs.Prelude.{◌≡◌, ℕ, ℤ, ⊤, List, [], ◌∷◌, ◌++◌, filter, Some}
use Rattle.std.specs.List.{AllZip}
use Rattle.net_types.specs.declared.options.FlowUnits.TheVariants.{Cms}
use Rattle.net_types.specs.declared.tables.Curve.{Curve}
use Rattle.net_types.specs.declared.tables.Pattern.{Pattern}
use Rattle.net_types.specs.declared.tables.Series.{Series}
use Rattle.fixed_num.specs.Decimal.{IsStored}
use Rattle.inp_values.specs.declared.quantities.Quantity.TheVariants.{Raw, Coefficient}
use Rattle.inp_values.specs.Duration.{hours_of}
use Rattle.inp_values.specs.Units.{unit_for}
use Rattle.inp_lines.specs.declared.line.Line.{Line}
use Rattle.inp_lists.specs.Chains.{names_in, own_lines}
use Rattle.inp_series.specs.declared.pairs.Axis.{Axis}
use Rattle.inp_series.specs.declared.pairs.Axis.TheVariants.{Amounts, Hours}
use Rattle.inp_series.specs.Pairs.{moved}
use Rattle.inp_series.specs.SeriesLines.{axis_at, dated_in, is_series_line, series_pairs}
use Rattle.inp_series.specs.CurveLines.{curve_pairs, is_curve_line, kind_in}
use Rattle.inp_series.specs.PatternLines.{is_pattern_line, items_in, pattern_kind_in}

-- A text means this value as the first item of a pair: it is a number, or hours that count from a date or the start.
abbrev pub IsX : Axis → List ℕ → ℤ → Type 0
IsX Amounts text x = IsStored (unit_for Cms Raw) text x
IsX (Hours start date) text x = (ms : ℤ) × (hours_of text ≡ Some ms) × (x ≡ moved start date ms)

-- Items mean these pairs of values, two items each.
abbrev pub ArePairs : Axis → List (List ℕ) → List (ℤ × ℤ) → Type 0
ArePairs axis [] [] = ⊤
ArePairs axis [] (pair ∷ pairs) = ⊥
ArePairs axis (x ∷ []) pairs = ⊥
ArePairs axis (x ∷ y ∷ items) [] = ⊥
ArePairs axis (x ∷ y ∷ items) (pair ∷ pairs) = IsX axis x pair.0 × IsStored (unit_for Cms Raw) y pair.1
    × ArePairs axis items pairs

-- Lines mean these pairs, one line after the other. What the first items of a line are, and which of its items are
-- pairs, depends on the lines before it.
abbrev pub GivePairs : (List Line → Line → Axis) → (List Line → Line → List (List ℕ)) → List Line
    → List Line → List (ℤ × ℤ) → Type 0
GivePairs axis items before [] pairs = pairs ≡ []
GivePairs axis items before (line ∷ lines) pairs =
    (here : List (ℤ × ℤ)) × (rest : List (ℤ × ℤ)) × (pairs ≡ here ++ rest)
    × ArePairs (axis before line) (items before line) here × GivePairs axis items (before ++ line ∷ []) lines rest

-- The lines of a name mean this series.
pub record IsSeries (start : ℤ) (name : List ℕ) (own : List Line) (series : Series) : Type 0 where
  pub name_is : series.name ≡ name
  pub dated_is : series.dated ≡ dated_in own
  pub entries_are : GivePairs (axis_at start) (λ before line. series_pairs line) [] own series.entries

-- The lines of a name mean this curve: its type stands on the first of them.
pub record IsCurve (name : List ℕ) (own : List Line) (curve : Curve) : Type 0 where
  pub name_is : curve.name ≡ name
  pub kind_is : kind_in own ≡ Some curve.kind
  pub points_are : GivePairs (λ before line. Amounts) curve_pairs [] own curve.points

-- The lines of a name mean this pattern: its type stands on the first of them.
pub record IsPattern (name : List ℕ) (own : List Line) (pattern : Pattern) : Type 0 where
  pub name_is : pattern.name ≡ name
  pub kind_is : pattern_kind_in own ≡ Some pattern.kind
  pub factors_are : AllZip (IsStored (unit_for Cms Coefficient)) (items_in own) pattern.factors6

-- Lines mean these records: one for each name, in the order of the names' first lines.
abbrev pub MeanSeries : ℤ → List Line → List Series → Type 0
MeanSeries start lines series =
    AllZip (λ name made. IsSeries start name (own_lines name (filter is_series_line lines)) made)
    (names_in (filter is_series_line lines)) series

abbrev pub MeanCurves : List Line → List Curve → Type 0
MeanCurves lines curves = AllZip (λ name made. IsCurve name (own_lines name (filter is_curve_line lines)) made)
    (names_in (filter is_curve_line lines)) curves

abbrev pub MeanPatterns : List Line → List Pattern → Type 0
MeanPatterns lines patterns = AllZip (λ name made. IsPattern name (own_lines name (filter is_pattern_line lines)) made)
    (names_in (filter is_pattern_line lines)) patterns
