-- The law of an orifice, and what it gives in a trial (User's Manual, section [ORIFICES]; Reference Manual volume II,
-- chapter 6).
use Rattle.std.specs.Prelude.{◌≡◌, Bool, ℤ, ◌+ℤ◌}
use Rattle.conduit_flow.specs.Conduits.{IsConduitTable}
use Rattle.net_types.specs.declared.network.Section.{Section}
use Rattle.orifice_weir.specs.OrificeFlow.{IsOrifice, orifice_depth_of, orifice_flow_of}
use Rattle.phase_law.specs.declared.values.LinkFixed.{LinkFixed}
use Rattle.phase_law.specs.declared.values.Share.{Share}
use Rattle.short_links.specs.ShortShare.{short_share_of}
use Rattle.xsect_tables.specs.LookUps.{area_of}
use Rattle.xsect_tables.specs.SectionTable.{SectionTable, full_height}
use Rattle.link_eval.specs.Ends.{short_link_of}
use Rattle.link_eval.specs.declared.ends.LinkEnds.{LinkEnds}
use Rattle.link_eval.specs.declared.orifice.OrificeLaw.{OrificeLaw}

-- an orifice as it is routed: its sill lies at the invert of its first node and its offset
abbrev pub orifice_law_of : {T : Type 0} → (bottom : Bool) → (offset cd6 : ℤ) → (flap : Bool) → Section → (table : T)
    → LinkEnds → OrificeLaw T
orifice_law_of bottom offset cd6 flap section table ends = record {
  ends = short_link_of ends flap;
  orifice = record { bottom = bottom; sill = ends.invert1 +ℤ offset; full = section.full; cd6 = cd6 };
  table = table;
}

-- an orifice with another table
abbrev pub orifice_with : {S T : Type 0} → (table : T) → OrificeLaw S → OrificeLaw T
orifice_with table law = record { ends = law.ends; orifice = law.orifice; table = table }

-- the area of its opening up to the depth to which it is filled, by its setting
unfoldable pub open_area_of : OrificeLaw SectionTable → (setting near far : ℤ) → ℤ
open_area_of law setting near far = area_of law.table (orifice_depth_of law.orifice setting near far)

-- its share
unfoldable pub orifice_share_of : OrificeLaw SectionTable → LinkFixed → (first : Bool) → (near far last : ℤ) → Share
orifice_share_of law fixed first near far last =
    short_share_of law.ends first near far last
    (orifice_flow_of law.orifice fixed.setting near far (open_area_of law fixed.setting near far))

-- an orifice in range, and a table of its full height whose areas are at most 10^11 mm²
pub record IsOrificeLaw (law : OrificeLaw SectionTable) : Type 0 where
  pub orifice : IsOrifice law.orifice
  pub table : IsConduitTable law.table
  pub full : law.orifice.full ≡ full_height law.table
