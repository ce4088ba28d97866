-- What a link sees at its ends (User's Manual, sections [CONDUITS] and [OUTFALLS]).
use Rattle.std.specs.Prelude.{Bool, false, ◌||◌}
use Rattle.fixed_num.specs.Ranges.{IsElevation}
use Rattle.net_types.specs.declared.network.Node.{Node}
use Rattle.net_types.specs.declared.network.NodeKind.{NodeKind}
use Rattle.net_types.specs.declared.network.NodeKind.TheVariants.{Junction, Outfall, Storage}
use Rattle.short_links.specs.declared.share.ShortLink.{ShortLink}
use Rattle.link_eval.specs.declared.ends.LinkEnds.{LinkEnds}

-- the node is a gated outfall
abbrev pub is_gated : NodeKind → Bool
is_gated (Junction surcharge pond) = false
is_gated (Outfall stage gated) = gated
is_gated (Storage shape) = false

-- the inverts of the nodes at the two ends, and whether a gate stands at the second
abbrev pub ends_between : (near far : Node) → LinkEnds
ends_between near far = record { invert1 = near.invert; invert2 = far.invert; gated = is_gated far.kind }

-- what bars a link without length: a flap gate of its own or a gated outfall at its second end, and ends that are dry
abbrev pub short_link_of : LinkEnds → (flap : Bool) → ShortLink
short_link_of ends flap = record { flap = flap || ends.gated; invert1 = ends.invert1; invert2 = ends.invert2 }

-- inverts within 10^10 µm
pub record AreLinkEnds (ends : LinkEnds) : Type 0 where
  pub near : IsElevation ends.invert1
  pub far : IsElevation ends.invert2
