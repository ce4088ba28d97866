-- Records of a project by their numbers; a number past the end of a list has the record of nothing.
use Rattle.std.specs.Prelude.{ℕ, List, [], slice_index_or, None, false, ℤ, pos}
use Rattle.net_types.specs.declared.network.Link.{Link}
use Rattle.net_types.specs.declared.network.LinkKind.TheVariants.{Pump}
use Rattle.net_types.specs.declared.network.Node.{Node}
use Rattle.net_types.specs.declared.network.NodeKind.TheVariants.{Junction}
use Rattle.net_types.specs.declared.tables.Curve.{Curve}
use Rattle.net_types.specs.declared.tables.CurveKind.TheVariants.{Storage as StorageCurve}
use Rattle.net_types.specs.declared.tables.Pattern.{Pattern}
use Rattle.net_types.specs.declared.tables.PatternKind.TheVariants.{Monthly}
use Rattle.net_types.specs.declared.tables.Series.{Series}

-- ---- the record of nothing, of each kind
abbrev pub no_node : Node
no_node = record { name = []; invert = pos 0; y_max = pos 0; y0 = pos 0; kind = Junction (pos 0) (pos 0) }

abbrev pub no_link : Link
no_link = record { name = []; first = 0; second = 0; kind = Pump 0 false (pos 0) (pos 0); section = None }

abbrev pub no_curve : Curve
no_curve = record { name = []; kind = StorageCurve; points = [] }

abbrev pub no_series : Series
no_series = record { name = []; dated = false; entries = [] }

abbrev pub no_pattern : Pattern
no_pattern = record { name = []; kind = Monthly; factors6 = [] }

-- ---- records by their numbers
abbrev pub node_at : List Node → ℕ → Node
node_at nodes k = slice_index_or nodes k no_node

abbrev pub link_at : List Link → ℕ → Link
link_at links k = slice_index_or links k no_link

abbrev pub curve_at : List Curve → ℕ → Curve
curve_at curves k = slice_index_or curves k no_curve

abbrev pub series_at : List Series → ℕ → Series
series_at series k = slice_index_or series k no_series

abbrev pub pattern_at : List Pattern → ℕ → Pattern
pattern_at patterns k = slice_index_or patterns k no_pattern

-- a point of a curve, or an entry of a series, by its number
abbrev pub pair_at : List (ℤ × ℤ) → ℕ → ℤ × ℤ
pair_at pairs k = slice_index_or pairs k (pos 0, pos 0)
