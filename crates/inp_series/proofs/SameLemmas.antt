-- Records with the same parts are the same.
use Rattle.std.proofs.Common.{◌≡◌}
use Rattle.net_types.specs.declared.tables.Curve.{Curve}
use Rattle.net_types.specs.declared.tables.Pattern.{Pattern}
use Rattle.net_types.specs.declared.tables.Series.{Series}
use Rattle.inp_series.specs.declared.curves.CurveState.{CurveState}
use Rattle.inp_series.specs.declared.patterns.PatternState.{PatternState}
use Rattle.inp_series.specs.declared.series.SeriesState.{SeriesState}

pub same_series : (a b : Series) → a.name ≡ b.name → a.dated ≡ b.dated → a.entries ≡ b.entries → a ≡ b
same_series a b p q r = λ i. record { name = p i; dated = q i; entries = r i }

pub same_series_state : (a b : SeriesState) → a.date ≡ b.date → a.last ≡ b.last → a ≡ b
same_series_state a b p q = λ i. record { date = p i; last = q i }

pub same_curve : (a b : Curve) → a.name ≡ b.name → a.kind ≡ b.kind → a.points ≡ b.points → a ≡ b
same_curve a b p q r = λ i. record { name = p i; kind = q i; points = r i }

pub same_curve_state : (a b : CurveState) → a.first ≡ b.first → a.kind ≡ b.kind → a.last ≡ b.last → a ≡ b
same_curve_state a b p q r = λ i. record { first = p i; kind = q i; last = r i }

pub same_pattern : (a b : Pattern) → a.name ≡ b.name → a.kind ≡ b.kind → a.factors6 ≡ b.factors6 → a ≡ b
same_pattern a b p q r = λ i. record { name = p i; kind = q i; factors6 = r i }

pub same_pattern_state : (a b : PatternState) → a.first ≡ b.first → a.kind ≡ b.kind → a.left ≡ b.left → a ≡ b
same_pattern_state a b p q r = λ i. record { first = p i; kind = q i; left = r i }
