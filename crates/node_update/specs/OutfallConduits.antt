-- The conduit that ends at an outfall (User's Manual, section [OUTFALLS]).
use Rattle.std.specs.Prelude.{ℕ, zero, suc, eqb, if◌then◌else◌, List, length, Option, Some, None, ℤ, ◌+ℤ◌, ◌-ℤ◌}
use Rattle.net_types.specs.declared.network.Link.{Link}
use Rattle.net_types.specs.declared.network.LinkKind.{LinkKind}
use Rattle.net_types.specs.declared.network.LinkKind.TheVariants.{Conduit, Pump, Orifice, Weir}
use Rattle.net_types.specs.declared.network.Node.{Node}
use Rattle.net_types.specs.declared.network.Section.{Section}
use Rattle.net_types.specs.declared.project.Project.{Project}
use Rattle.net_types.specs.Records.{link_at, node_at}
use Rattle.xsect_tables.specs.SectionTable.{table_of}
use Rattle.node_update.specs.declared.node_law.OutfallConduit.{OutfallConduit}

-- the last of the first n links that ends at a node, if one does; at an outfall without faults there is at most one
unfoldable pub ending_link : List Link → (node n : ℕ) → Option ℕ
ending_link links node zero = None
ending_link links node (suc n) = if eqb node (link_at links n).second then Some n else ending_link links node n

-- a conduit with a section, between these inverts, as an outfall at its second end sees it; other links are none
abbrev pub kind_end : LinkKind → Option Section → (invert1 invert2 : ℤ) → Option OutfallConduit
kind_end (Conduit long n6 z1 z2 q0 q_max entry6 exit6 avg6 flap) (Some section) invert1 invert2 = Some (record {
  table = table_of section;
  height = invert2 +ℤ z2;
  n6 = n6;
  drop = invert1 +ℤ z1 -ℤ (invert2 +ℤ z2);
  length = long;
})
kind_end (Conduit long n6 z1 z2 q0 q_max entry6 exit6 avg6 flap) None invert1 invert2 = None
kind_end (Pump curve on startup shutoff) section invert1 invert2 = None
kind_end (Orifice bottom offset cd6 flap) section invert1 invert2 = None
kind_end (Weir notch crest cd6 flap contractions) section invert1 invert2 = None

abbrev pub link_end : List Node → Link → Option OutfallConduit
link_end nodes link =
    kind_end link.kind link.section (node_at nodes link.first).invert (node_at nodes link.second).invert

abbrev pub found_end : Project → Option ℕ → Option OutfallConduit
found_end project (Some l) = link_end project.nodes (link_at project.links l)
found_end project None = None

-- the conduit that ends at a node, if one does
unfoldable pub conduit_to : Project → ℕ → Option OutfallConduit
conduit_to project node = found_end project (ending_link project.links node (length project.links))
