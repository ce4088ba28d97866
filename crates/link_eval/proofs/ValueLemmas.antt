-- What good hydraulics give lies in its ranges, and a node that is no outfall stays below its top: for the crates that add up volumes.
use Rattle.std.proofs.Common.{◌≡◌, ℕ, ◌^◌, ◌<◌, Bool, false, length, ℤ, pos, ◌*◌, ◌≤ℤ◌, unsigned_abs}
use Rattle.std.proofs.Common.{arith}
use Rattle.std.proofs.lemmas.Int.{ints}
use Rattle.conduit_flow.proofs.GeometryLemmas.{mid_area_of-between, volume_of-between}
use Rattle.fixed_num.specs.Ranges.{IsBetween, IsHead, IsWithin}
use Rattle.node_update.proofs.GainLemmas.{gain_within, inflow_between, outflow_between}
use Rattle.node_update.proofs.UpdateLemmas.{next_place, flood_between, flood_most, volume_within}
use Rattle.node_update.specs.NodeUpdate.{gain_of, flood_of, volume_of as node_volume_of}
use Rattle.node_update.specs.NodeLaws.{is_outfall_rule}
use Rattle.phase_law.specs.Ranges.{HeadInRange, SumsInRange, NodeFixedInRange}
use Rattle.phase_law.specs.declared.values.NodeFixed.{NodeFixed}
use Rattle.link_eval.specs.Good.{IsGood}
use Rattle.link_eval.specs.Hydraulics.{Hydraulics, node_law_at, link_law_at, mid_area_at, law_of, rule_mid_area, rule_volume}
use Rattle.link_eval.specs.LinkLaws.{IsLinkRule}
use Rattle.xsect_tables.specs.SectionTable.{SectionTable}
use Rattle.link_eval.specs.declared.link_law.LinkRule.{LinkRule}
use Rattle.link_eval.specs.declared.link_law.LinkRule.TheVariants.{Conduit as ConduitRule, Pump as PumpRule}
use Rattle.link_eval.specs.declared.link_law.LinkRule.TheVariants.{Orifice as OrificeRule, Weir as WeirRule}
use Rattle.link_eval.specs.LawGood.{head_in, fixed_in}

-- ---- a link, by its rule and by its number
none-between : (m : ℕ) → IsBetween (pos 0) (pos 0) (pos m)
none-between m = record { from = omega (arith, ints); to = omega (arith, ints) }

pub rule_mid_area-between : (rule : LinkRule SectionTable) {near far : ℤ} → IsLinkRule rule → IsHead near → IsHead far → IsBetween (pos 0) (rule_mid_area rule near far) (pos (5 * 10 ^ 11))
rule_mid_area-between (ConduitRule law) r n f = mid_area_of-between r.conduit r.table n f
rule_mid_area-between (PumpRule law) r n f = none-between (5 * 10 ^ 11)
rule_mid_area-between (OrificeRule law) r n f = none-between (5 * 10 ^ 11)
rule_mid_area-between (WeirRule law) r n f = none-between (5 * 10 ^ 11)

pub rule_volume-between : (rule : LinkRule SectionTable) {near far : ℤ} → IsLinkRule rule → IsHead near → IsHead far → IsBetween (pos 0) (rule_volume rule near far) (pos (10 ^ 22))
rule_volume-between (ConduitRule law) r n f = volume_of-between r.conduit r.table n f
rule_volume-between (PumpRule law) r n f = none-between (10 ^ 22)
rule_volume-between (OrificeRule law) r n f = none-between (10 ^ 22)
rule_volume-between (WeirRule law) r n f = none-between (10 ^ 22)

pub mid_area_at-between : (h : Hydraulics) (l : ℕ) {near far : ℤ} → IsGood h → l < length h.links → IsHead near → IsHead far → IsBetween (pos 0) (mid_area_at h l near far) (pos (5 * 10 ^ 11))
unfolding mid_area_at
mid_area_at-between h l g inside n f = rule_mid_area-between (link_law_at h l).rule (g.links l inside).rule n f

-- ---- a node, by its number
pub node_volume-within : (h : Hydraulics) (n : ℕ) {head : ℤ} → IsGood h → n < length h.nodes → HeadInRange (law_of h) head → IsWithin (10 ^ 21) (node_volume_of (node_law_at h n) head)
node_volume-within h n g inside r = volume_within (g.nodes n inside) (head_in h r)

pub node_gain-within : (h : Hydraulics) {fixed : NodeFixed} {i o a : ℤ} → NodeFixedInRange (law_of h) fixed → SumsInRange i o a → IsWithin (10 ^ 24) (gain_of fixed i o)
node_gain-within h f s = gain_within (fixed_in h f) (inflow_between s) (outflow_between s)

pub node_flood-between : (h : Hydraulics) (n : ℕ) {fixed : NodeFixed} {i o a : ℤ} (last : ℤ) → IsGood h → n < length h.nodes → NodeFixedInRange (law_of h) fixed → SumsInRange i o a
    → IsBetween (pos 0) (flood_of (node_law_at h n) fixed i o a last) (pos (10 ^ 25))
node_flood-between h n last g inside f s = flood_between last (g.nodes n inside) (fixed_in h f) s

-- from a head that is not above the top no more is lost than comes in
pub node_flood-most : (h : Hydraulics) (n : ℕ) (fixed : NodeFixed) {i o a : ℤ} (last : ℤ) → IsGood h → n < length h.nodes → SumsInRange i o a → fixed.h_old ≤ℤ (node_law_at h n).top
    → flood_of (node_law_at h n) fixed i o a last ≤ℤ pos (unsigned_abs (gain_of fixed i o))
node_flood-most h n fixed last g inside s k = flood_most fixed last (g.nodes n inside) s k

-- a node that is no outfall, whose last head was not above its top stays there
pub node_place : (h : Hydraulics) (n : ℕ) (fixed : NodeFixed) (first : Bool) (i o a last : ℤ) → IsGood h → n < length h.nodes → is_outfall_rule (node_law_at h n).rule ≡ false → last ≤ℤ (node_law_at h n).top
    → ((law_of h).next n fixed first i o a last).head ≤ℤ (node_law_at h n).top
unfolding law_of
node_place h n fixed first i o a last g inside e k = next_place fixed first i o a last (g.nodes n inside) e k
