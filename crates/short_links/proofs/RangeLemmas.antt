-- The share of a link without length lies in its ranges, whatever drives it.
use Rattle.std.proofs.Common.{◌*◌, ◌^◌, Bool, true, false, cond, ◌&&◌, ◌||◌, ℤ, pos, neg_ℤ, ◌≤ℤ◌, int_le, int_lt, arith}
use Rattle.std.proofs.lemmas.Int.{ints}
use Rattle.fixed_num.specs.Ranges.{IsFlow}
use Rattle.fixed_num.proofs.Bounds.{le_number, within_cut, within_minus, within_number}
use Rattle.phase_law.specs.Ranges.{ShareInRange}
use Rattle.short_links.specs.ShortShare.{bounded_of, forward_of, from_wet_of, short_flow_of, short_share_of}
use Rattle.short_links.specs.declared.share.ShortLink.{ShortLink}

bounded-in : (q : ℤ) → IsFlow (bounded_of q)
unfolding bounded_of
bounded-in q = within_cut q (le_number tt) (within_minus 1_000_000_000_000) (within_number 1_000_000_000_000)

picked-in : (dry : Bool) {q : ℤ} → IsFlow q → IsFlow (cond dry (pos 0) q)
picked-in true h = record { within = omega arith }
picked-in false h = h

from_wet-in : (link : ShortLink) (near far : ℤ) {q : ℤ} → IsFlow q → IsFlow (from_wet_of link near far q)
unfolding from_wet_of
from_wet-in link near far {q} h =
    picked-in ((int_lt (pos 0) q && int_le near link.invert1) || (int_lt q (pos 0) && int_le far link.invert2)) h

pub short_share-in_range : (link : ShortLink) (first : Bool) (near far last driven : ℤ)
    → ShareInRange (short_share_of link first near far last driven)
unfolding short_share_of short_flow_of
short_share-in_range link first near far last driven = record {
  flow = from_wet-in link near far (bounded-in _);
  area1 = record { from = omega (arith, ints); to = omega (arith, ints) };
  area2 = record { from = omega (arith, ints); to = omega (arith, ints) };
  time = record { from = omega (arith, ints); to = omega (arith, ints) };
}
