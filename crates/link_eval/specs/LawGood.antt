-- The law of good hydraulics answers in range wherever it is asked in range: proofs, which stand here since the ghost
-- law of a type may cite no other file of its crate.
use Rattle.std.proofs.Common.{ℕ, ◌/◌, ◌^◌, Bool, true, false, cond, ℤ, pos, negsuc, ◌*ℤ◌, ◌≤ℤ◌, neg_ℤ, arith}
use Rattle.std.specs.Int.{int_min}
use Rattle.std.specs.Ordering.{int_eq}
use Rattle.std.proofs.Math.Nat.{mul-div-le}
use Rattle.std.proofs.lemmas.Int.{ints, clamps}
use Rattle.conduit_flow.proofs.RangeLemmas.{end_area-between}
use Rattle.conduit_flow.proofs.TravelLemmas.{travel_time-between}
use Rattle.conduit_flow.specs.ConduitShare.{barrel_flow_of, no_share, wet_share_of, is_dry, open_share_of, share_of}
use Rattle.conduit_flow.specs.Conduits.{IsConduit, IsConduitTable}
use Rattle.conduit_flow.specs.Geometry.{depth_of, mean_depth_of, ends_of, middle_of}
use Rattle.conduit_flow.specs.Limits.{greatest_of, held_of}
use Rattle.conduit_flow.specs.declared.conduit.ConduitData.{ConduitData}
use Rattle.fixed_num.specs.Ranges.{IsBetween, IsWithin, IsFlow, IsHead}
use Rattle.fixed_num.proofs.Bounds.{within_between, within_number, within_neg, within_mul, within_cut}
use Rattle.node_update.specs.NodeUpdate.{IsNodeFixed}
use Rattle.node_update.proofs.UpdateLemmas.{next_within}
use Rattle.phase_law.specs.Laws.{IsLaw}
use Rattle.phase_law.specs.Ranges.{HeadInRange, ShareInRange, NodeFixedInRange}
use Rattle.phase_law.specs.declared.values.LinkFixed.{LinkFixed}
use Rattle.phase_law.specs.declared.values.NodeFixed.{NodeFixed}
use Rattle.phase_law.specs.declared.values.Share.{Share}
use Rattle.xsect_tables.proofs.TableLemmas.{width_of-between}
use Rattle.xsect_tables.specs.SectionTable.{SectionTable}
use Rattle.short_links.proofs.RangeLemmas.{short_share-in_range}
use Rattle.link_eval.specs.Good.{IsGood}
use Rattle.link_eval.specs.Hydraulics.{Hydraulics, law_of, link_law_at, rule_share}
use Rattle.link_eval.specs.LinkLaws.{IsLinkRule}
use Rattle.link_eval.specs.Orifices.{orifice_share_of}
use Rattle.link_eval.specs.Pumps.{pump_share_of}
use Rattle.link_eval.specs.Weirs.{weir_share_of}
use Rattle.link_eval.specs.declared.link_law.LinkRule.{LinkRule}
use Rattle.link_eval.specs.declared.link_law.LinkRule.TheVariants.{Conduit as ConduitRule, Pump as PumpRule}
use Rattle.link_eval.specs.declared.link_law.LinkRule.TheVariants.{Orifice as OrificeRule, Weir as WeirRule}

-- ---- the share of a conduit
least_of : (b : Bool) (q m : ℤ) → pos 0 ≤ℤ q → pos 0 ≤ℤ m → IsBetween (pos 0) (cond b m (int_min q m)) m
least_of true q m h k = record { from = omega (arith, ints); to = omega (arith, ints) }
least_of false q m h k = record { from = omega (arith, ints, clamps); to = omega (arith, ints, clamps) }

-- the greatest flow of one of n barrels
greatest-between : (q_max : ℤ) (n : ℕ) → pos 0 ≤ℤ q_max
    → IsBetween (pos 0) (greatest_of q_max (pos n)) (pos (10 ^ 12 / n))
unfolding greatest_of
greatest-between q_max n h = least_of (int_eq q_max (pos 0)) q_max (pos (10 ^ 12 / n)) h (omega (arith, ints))

opposite : (m : ℤ) → pos 0 ≤ℤ m → neg_ℤ m ≤ℤ m
opposite m h = omega (arith, ints)

held-within : (q_max : ℤ) (n : ℕ) (q : ℤ) → pos 0 ≤ℤ q_max → IsWithin (10 ^ 12 / n) (held_of q_max (pos n) q)
unfolding held_of
held-within q_max n q h =
    let most = greatest-between q_max n h in
    within_cut q (opposite (greatest_of q_max (pos n)) most.from) (within_neg (within_between most))
    (within_between most)

all_barrels : (n : ℕ) {q : ℤ} → IsWithin (10 ^ 12 / n) q → IsFlow (pos n *ℤ q)
all_barrels n h =
    let p = within_mul (within_number n) h in record { within = omega (arith, p.within, mul-div-le (10 ^ 12) n) }

held-flow : (q_max barrels q : ℤ) → pos 0 ≤ℤ q_max → IsBetween (pos 1) barrels (pos 100)
    → IsFlow (barrels *ℤ held_of q_max barrels q)
held-flow q_max (pos n) q h b = all_barrels n (held-within q_max n q h)
held-flow q_max (negsuc n) q h b = absurd b.from.le

wet_share-in_range : {conduit : ConduitData} {table : SectionTable} (fixed : LinkFixed) (first : Bool)
    (near far last : ℤ) → IsConduit conduit → IsConduitTable table
    → ShareInRange (wet_share_of conduit table fixed (ends_of conduit table near far)
    (middle_of table (mean_depth_of conduit near far)) first last)
unfolding wet_share_of barrel_flow_of ends_of middle_of
wet_share-in_range {conduit} {table} fixed first near far last c t =
    let mid = width_of-between (mean_depth_of conduit near far) t.rows in
    let area1 = end_area-between (width_of-between (depth_of near conduit.z1) t.rows) mid c.length t.rows.barrels in
    let area2 = end_area-between (width_of-between (depth_of far conduit.z2) t.rows) mid c.length t.rows.barrels in
    record {
      flow = held-flow conduit.q_max table.barrels _ c.q_max.from t.rows.barrels;
      area1 = area1;
      area2 = area2;
      time = travel_time-between _ _ c.length;
    }

either : (b : Bool) {x y : Share} → ShareInRange x → ShareInRange y → ShareInRange (cond b x y)
either true p q = p
either false p q = q

no_share-in_range : ShareInRange no_share
no_share-in_range = record {
  flow = record { within = omega arith };
  area1 = record { from = omega (arith, ints); to = omega (arith, ints) };
  area2 = record { from = omega (arith, ints); to = omega (arith, ints) };
  time = record { from = omega (arith, ints); to = omega (arith, ints) };
}

pub share-in_range : {conduit : ConduitData} {table : SectionTable} (fixed : LinkFixed) (first : Bool)
    (near far last : ℤ)
    → IsConduit conduit → IsConduitTable table → ShareInRange (share_of conduit table fixed first near far last)
unfolding share_of open_share_of
share-in_range {conduit} {table} fixed first near far last c t =
    either (int_eq fixed.setting (pos 0)) no_share-in_range
    (either (is_dry (middle_of table (mean_depth_of conduit near far))) no_share-in_range
    (wet_share-in_range fixed first near far last c t))

-- ---- the share of a link
rule_share-in_range : (h : Hydraulics) (rule : LinkRule SectionTable) (node : ℕ) (fixed : LinkFixed) (first : Bool)
    (near far last : ℤ) → IsLinkRule rule
    → ShareInRange (rule_share h rule node fixed first near far last)
unfolding pump_share_of orifice_share_of weir_share_of
rule_share-in_range h (ConduitRule law) node fixed first near far last r =
    share-in_range fixed first near far last r.conduit r.table
rule_share-in_range h (PumpRule law) node fixed first near far last r =
    short_share-in_range law.ends first near far last _
rule_share-in_range h (OrificeRule law) node fixed first near far last r =
    short_share-in_range law.ends first near far last _
rule_share-in_range h (WeirRule law) node fixed first near far last r =
    short_share-in_range law.ends first near far last _

-- ---- the next head of a node
pub head_in : (h : Hydraulics) {head : ℤ} → HeadInRange (law_of h) head → IsHead head
unfolding law_of
head_in h r = record { within = r.within }

pub fixed_in : (h : Hydraulics) {fixed : NodeFixed} → NodeFixedInRange (law_of h) fixed → IsNodeFixed fixed
unfolding law_of
fixed_in h i = record {
  head = head_in h i.head;
  net = i.net;
  lateral = i.lateral;
  stage = head_in h i.stage;
  length = i.length;
}

-- ---- the whole
pub law_good : (h : Hydraulics) → IsGood h → IsLaw (law_of h)
unfolding law_of
law_good h g = record {
  few_nodes = g.few_nodes;
  few_links = g.few_links;
  limit_least = omega arith;
  limit_most = omega arith;
  ends_in = λ l inside. (g.links l inside).ends;
  share_in = λ l fixed first near far last inside in_fixed in_near in_far in_last.
      rule_share-in_range h (link_law_at h l).rule (link_law_at h l).first fixed first near far last
      (g.links l inside).rule;
  next_in = λ n fixed first inflow outflow area last inside in_fixed in_sums in_last.
      record {
        within = (next_within first inflow outflow area (g.nodes n inside) (fixed_in h in_fixed)
            (head_in h in_last)).within;
      };
}

-- ---- what is in range is in the law's ranges
pub head_of_law : (h : Hydraulics) {head : ℤ} → IsHead head → HeadInRange (law_of h) head
unfolding law_of
head_of_law h r = record { within = r.within }

pub fixed_of_law : (h : Hydraulics) {fixed : NodeFixed} → IsNodeFixed fixed → NodeFixedInRange (law_of h) fixed
unfolding law_of
fixed_of_law h i = record {
  head = record { within = i.head.within };
  net = i.net;
  lateral = i.lateral;
  stage = record { within = i.stage.within };
  length = i.length;
}
