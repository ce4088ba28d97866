-- What a reader of lines knows of the whole input: its flow units, and the numbers of all names.
use Rattle.std.specs.Prelude.{ℕ, Bool, true, false, if◌then◌else◌, List, get_or, Option, Some, None}
use Rattle.net_types.specs.declared.options.FlowUnits.{FlowUnits}
use Rattle.net_types.specs.declared.tables.CurveKind.{CurveKind}
use Rattle.net_types.specs.declared.tables.CurveKind.TheVariants.{Storage, Pump1, Pump2, Pump3, Pump4, Tidal}
use Rattle.inp_lines.specs.declared.line.SectionName.{SectionName}
use Rattle.inp_lines.specs.declared.line.SectionName.TheVariants as section
use Rattle.inp_lines.specs.Numbers.{numbers_of}
use Rattle.inp_forms.specs.declared.item.Objects.{Objects}
use Rattle.inp_forms.specs.declared.item.Objects.TheVariants as objects
use Rattle.inp_forms.specs.declared.known.Known.{Known}

-- The numbers of names by the kind of object, the section of the line that defines each link, and the type of each
-- curve, which there is none where it is at fault.
pub record Context : Type 0 where
  pub units : FlowUnits
  pub nodes : List ℕ → Option ℕ
  pub links : List ℕ → Option ℕ
  pub link_sections : List SectionName
  pub subs : List ℕ → Option ℕ
  pub gages : List ℕ → Option ℕ
  pub series : List ℕ → Option ℕ
  pub patterns : List ℕ → Option ℕ
  pub curves : List ℕ → Option ℕ
  pub curve_kinds : List (Option CurveKind)

-- the context that the dictionaries of a reader hold
abbrev pub context_of : Known → Context
context_of known = record {
  units = known.units;
  nodes = numbers_of known.nodes;
  links = numbers_of known.links;
  link_sections = known.link_sections;
  subs = numbers_of known.subs;
  gages = numbers_of known.gages;
  series = numbers_of known.series;
  patterns = numbers_of known.patterns;
  curves = numbers_of known.curves;
  curve_kinds = known.curve_kinds;
}

abbrev pub kept_if : Bool → ℕ → Option ℕ
kept_if kept number = if kept then Some number else None

-- a number that passes a test
abbrev pub that_is : (ℕ → Bool) → Option ℕ → Option ℕ
that_is test None = None
that_is test (Some number) = kept_if (test number) number

abbrev pub is_conduits : SectionName → Bool
is_conduits section.Conduits = true
is_conduits _ = false

abbrev pub is_pumps : SectionName → Bool
is_pumps section.Pumps = true
is_pumps _ = false

abbrev pub is_orifices : SectionName → Bool
is_orifices section.Orifices = true
is_orifices _ = false

abbrev pub is_weirs : SectionName → Bool
is_weirs section.Weirs = true
is_weirs _ = false

-- whether lines of a section define links of this kind
abbrev pub defines : Objects → SectionName → Bool
defines objects.Conduits name = is_conduits name
defines objects.Pumps name = is_pumps name
defines objects.Orifices name = is_orifices name
defines objects.Weirs name = is_weirs name
defines _ name = false

abbrev pub is_link_of : Context → Objects → ℕ → Bool
is_link_of known kind number = defines kind (get_or known.link_sections number section.Before)

-- the number of a link of this kind: a link is what the section of its line says
abbrev pub link_number : Context → Objects → List ℕ → Option ℕ
link_number known kind name = that_is (is_link_of known kind) (known.links name)

abbrev pub are_storage : Objects → Bool
are_storage objects.StorageCurves = true
are_storage _ = false

abbrev pub are_pump : Objects → Bool
are_pump objects.PumpCurves = true
are_pump _ = false

abbrev pub are_tidal : Objects → Bool
are_tidal objects.TidalCurves = true
are_tidal _ = false

-- whether curves of a type serve this use; a curve whose type is at fault serves none
abbrev pub serves : Objects → Option CurveKind → Bool
serves kind None = false
serves kind (Some Storage) = are_storage kind
serves kind (Some Pump1) = are_pump kind
serves kind (Some Pump2) = are_pump kind
serves kind (Some Pump3) = are_pump kind
serves kind (Some Pump4) = are_pump kind
serves kind (Some Tidal) = are_tidal kind

abbrev pub curve_kind_at : Context → ℕ → Option CurveKind
curve_kind_at known number = get_or known.curve_kinds number None

-- the number of a curve of a type that serves this use
abbrev pub curve_number : Context → Objects → List ℕ → Option ℕ
curve_number known kind name = that_is (λ number. serves kind (curve_kind_at known number)) (known.curves name)

-- the number of an object of this kind by its name
unfoldable pub object_number : Context → Objects → List ℕ → Option ℕ
object_number known objects.Nodes name = known.nodes name
object_number known objects.Links name = known.links name
object_number known objects.Conduits name = link_number known objects.Conduits name
object_number known objects.Pumps name = link_number known objects.Pumps name
object_number known objects.Orifices name = link_number known objects.Orifices name
object_number known objects.Weirs name = link_number known objects.Weirs name
object_number known objects.Subcatchments name = known.subs name
object_number known objects.Gages name = known.gages name
object_number known objects.StorageCurves name = curve_number known objects.StorageCurves name
object_number known objects.PumpCurves name = curve_number known objects.PumpCurves name
object_number known objects.TidalCurves name = curve_number known objects.TidalCurves name
object_number known objects.Series name = known.series name
object_number known objects.Patterns name = known.patterns name
