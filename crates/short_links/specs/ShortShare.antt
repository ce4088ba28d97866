-- What a link without length gives in a trial (Reference Manual volume II, chapters 3 and 6; the order of the steps is
-- this project's profile). Flows are cm³/s, heads µm.
use Rattle.std.specs.Prelude.{Bool, ◌&&◌, ◌||◌, if◌then◌else◌, ℤ, pos, neg_ℤ, int_le, int_lt}
use Rattle.fixed_num.specs.Ranges.{cut_of}
use Rattle.fixed_num.specs.Relaxation.{relaxed_of}
use Rattle.phase_law.specs.declared.values.Share.{Share}
use Rattle.short_links.specs.declared.share.ShortLink.{ShortLink}

-- a flap gate, or the gate of an outfall at the second end, lets nothing run back
unfoldable pub forward_of : (flap : Bool) → (q : ℤ) → ℤ
forward_of flap q = if flap && int_lt q (pos 0) then pos 0 else q

-- a flow is at most 10^12 either way
unfoldable pub bounded_of : (q : ℤ) → ℤ
bounded_of q = cut_of q (neg_ℤ (pos 1_000_000_000_000)) (pos 1_000_000_000_000)

-- nothing flows out of a node whose head is at or below its invert
unfoldable pub from_wet_of : ShortLink → (near far q : ℤ) → ℤ
from_wet_of link near far q =
    if (int_lt (pos 0) q && int_le near link.invert1) || (int_lt q (pos 0) && int_le far link.invert2) then pos 0 else q

-- the flow of a link that is driven so: relaxed, barred by a gate, bounded, and barred by a dry end
unfoldable pub short_flow_of : ShortLink → (first : Bool) → (near far last driven : ℤ) → ℤ
short_flow_of link first near far last driven =
    from_wet_of link near far (bounded_of (forward_of link.flap (relaxed_of first last driven)))

-- its share: it adds no water surface at its ends and bounds no step
unfoldable pub short_share_of : ShortLink → (first : Bool) → (near far last driven : ℤ) → Share
short_share_of link first near far last driven = record {
  q = short_flow_of link first near far last driven;
  area1 = pos 0;
  area2 = pos 0;
  time = pos 3_600_000;
}
