-- The faults of the nodes, links and subcatchments of a project (User's Manual, appendix E, for 138 and 141;
-- the others are this project's profile).
use Rattle.std.specs.Prelude.{◌≡◌, ℕ, ◌≤◌, ◌==◌, nat_le, Bool, true, false, not, ◌&&◌, ◌||◌}
use Rattle.std.specs.Prelude.{if◌then◌else◌, Option, Some, None, ℤ, pos, ◌≤ℤ◌, int_le, int_lt, IsTrue}
use Rattle.std.specs.Bool.{⊤}
use Rattle.std.specs.Ordering.{int_eq}
use Rattle.net_types.specs.declared.faults.FaultKind.{FaultKind}
use Rattle.net_types.specs.declared.faults.FaultKind.TheVariants.{OutfallLinks, InitialDepth, BadObject}
use Rattle.net_types.specs.declared.hydrology.Infil.{Infil}
use Rattle.net_types.specs.declared.hydrology.Infil.TheVariants.{Horton, Number}
use Rattle.net_types.specs.declared.hydrology.Sub.{Sub}
use Rattle.net_types.specs.declared.hydrology.SubAreas.{SubAreas}
use Rattle.net_types.specs.declared.network.Link.{Link}
use Rattle.net_types.specs.declared.network.LinkKind.{LinkKind}
use Rattle.net_types.specs.declared.network.LinkKind.TheVariants.{Conduit, Pump, Orifice, Weir}
use Rattle.net_types.specs.declared.network.Node.{Node}
use Rattle.net_types.specs.declared.network.Section.{Section}
use Rattle.net_types.specs.declared.network.Shape.{Shape}
use Rattle.net_types.specs.declared.network.Shape.TheVariants.{RectOpen, RectClosed, Trapezoidal, Triangular, Circular}
use Rattle.net_types.specs.declared.project.Project.{Project}
use Rattle.net_types.specs.Records.{node_at}
use Rattle.project_check.specs.declared.ends.NodeEnds.{NodeEnds}
use Rattle.project_check.specs.Ends.{ends_of}
use Rattle.project_check.specs.FullHeight.{kind_height}
use Rattle.project_check.specs.Network.{is_outfall, is_storage}
use Rattle.xsect_tables.specs.SectionTable.{table_of, full_area}

-- ---- nodes
-- an outfall has at most one link, which doesn't begin there
abbrev pub has_wrong_links : Node → NodeEnds → Bool
has_wrong_links node ends = is_outfall node && (nat_le 2 ends.ends || nat_le 1 ends.begins)

-- a node begins no higher than full
abbrev pub begins_too_high : Node → NodeEnds → Bool
begins_too_high node ends = int_lt (kind_height node.kind node.y_max ends.top) node.y0

-- a storage is at least 1,000 µm deep
abbrev pub is_too_shallow : Node → Bool
is_too_shallow node = is_storage node && int_lt node.y_max (pos 1_000)

-- the fault of a node: the first of these that stands
unfoldable pub node_fault : Node → NodeEnds → Option FaultKind
node_fault node ends =
    if has_wrong_links node ends then Some OutfallLinks
    else if begins_too_high node ends then Some InitialDepth
    else if is_too_shallow node then Some BadObject
    else None

-- ---- links
-- an orifice is circular or a closed rectangle, a transverse weir an open rectangle, a weir with a notch a triangle
abbrev pub is_orifice_shape : Shape → Bool
is_orifice_shape (RectOpen width) = false
is_orifice_shape (RectClosed width) = true
is_orifice_shape (Trapezoidal bottom left6 right6) = false
is_orifice_shape (Triangular top) = false
is_orifice_shape Circular = true

abbrev pub is_rect_open : Shape → Bool
is_rect_open (RectOpen width) = true
is_rect_open (RectClosed width) = false
is_rect_open (Trapezoidal bottom left6 right6) = false
is_rect_open (Triangular top) = false
is_rect_open Circular = false

abbrev pub is_triangular : Shape → Bool
is_triangular (RectOpen width) = false
is_triangular (RectClosed width) = false
is_triangular (Trapezoidal bottom left6 right6) = false
is_triangular (Triangular top) = true
is_triangular Circular = false

abbrev pub fits_kind : LinkKind → Shape → Bool
fits_kind (Conduit long n6 z1 z2 q0 q_max entry6 exit6 avg6 flap) shape = true
fits_kind (Pump curve on startup shutoff) shape = true
fits_kind (Orifice bottom offset cd6 flap) shape = is_orifice_shape shape
fits_kind (Weir notch crest cd6 flap contractions) shape = if notch then is_triangular shape else is_rect_open shape

-- only a pump needs no section
abbrev pub needs_none : LinkKind → Bool
needs_none (Conduit long n6 z1 z2 q0 q_max entry6 exit6 avg6 flap) = false
needs_none (Pump curve on startup shutoff) = true
needs_none (Orifice bottom offset cd6 flap) = false
needs_none (Weir notch crest cd6 flap contractions) = false

-- the area of a full section, in mm²; it is not 0, and at most 10^11 mm²
unfoldable pub section_area : Section → ℤ
section_area section = full_area (table_of section)

abbrev pub has_good_area : Section → Bool
has_good_area section =
    not (int_eq (section_area section) (pos 0)) && int_le (section_area section) (pos 100_000_000_000)

-- a link has the section that it needs, of a shape that fits it and of a good area
abbrev pub has_good_section : LinkKind → Option Section → Bool
has_good_section kind (Some section) = fits_kind kind section.shape && has_good_area section
has_good_section kind None = needs_none kind

-- a link is good where its ends differ and its section is good
unfoldable pub is_good_link : Link → Bool
is_good_link link = not (link.first == link.second) && has_good_section link.kind link.section

-- ---- subcatchments
-- a Horton infiltration's least rate is not above its greatest
abbrev pub has_good_rates : Infil → Bool
has_good_rates (Horton max min decay6 dry volume) = int_le min max
has_good_rates (Number cn6 dry) = true

abbrev pub has_good_infiltration : Option Infil → Bool
has_good_infiltration (Some infil) = has_good_rates infil
has_good_infiltration None = false

abbrev pub has_runoff : Option SubAreas → Option Infil → Bool
has_runoff (Some areas) infil = has_good_infiltration infil
has_runoff None infil = false

-- a subcatchment is good where it has its subareas and a good infiltration
abbrev pub is_good_sub : Sub → Bool
is_good_sub sub = has_runoff sub.sub_areas sub.infil
