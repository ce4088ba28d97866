-- What a network computes: the laws of its nodes and links, and the law of the whole (Reference Manual volume II,
-- chapters 3 and 6).
use Rattle.std.specs.Prelude.{ℕ, ◌*◌, ◌^◌, Bool, length, map, slice_index_or, ℤ, pos}
use Rattle.fixed_num.specs.Lists.{list_of}
use Rattle.conduit_flow.specs.ConduitShare.{share_of}
use Rattle.conduit_flow.specs.Geometry.{mid_area_of, volume_of}
use Rattle.net_types.specs.Records.{curve_at}
use Rattle.net_types.specs.declared.project.Project.{Project}
use Rattle.node_update.specs.NodeLaws.{node_law_of}
use Rattle.node_update.specs.NodeUpdate.{next_of, volume_of as node_volume_of}
use Rattle.node_update.specs.declared.node_law.NodeRule.TheVariants.{Outfall as OutfallRule}
use Rattle.node_update.specs.declared.node_law.OutfallLevel.TheVariants.{AtInvert}
use Rattle.node_update.specs.declared.node_law.NodeLaw.{NodeLaw}
use Rattle.phase_law.specs.Law.{Law}
use Rattle.phase_law.specs.declared.values.LinkFixed.{LinkFixed}
use Rattle.phase_law.specs.declared.values.Share.{Share}
use Rattle.link_eval.specs.LinkLaws.{no_link_law, link_law_of}
use Rattle.link_eval.specs.Orifices.{orifice_share_of}
use Rattle.link_eval.specs.Pumps.{pump_share_of}
use Rattle.link_eval.specs.Weirs.{weir_share_of}
use Rattle.xsect_tables.specs.SectionTable.{SectionTable}
use Rattle.link_eval.specs.declared.link_law.LinkRule.{LinkRule}
use Rattle.link_eval.specs.declared.link_law.LinkRule.TheVariants.{Conduit as ConduitRule, Pump as PumpRule}
use Rattle.link_eval.specs.declared.link_law.LinkRule.TheVariants.{Orifice as OrificeRule, Weir as WeirRule}
pub use Rattle.link_eval.specs.declared.hydraulics.Hydraulics.{Hydraulics}
pub use Rattle.link_eval.specs.declared.link_law.LinkLaw.{LinkLaw}

-- the laws of all nodes and links of a project, and its curves
unfoldable pub hydraulics_of : Project → Hydraulics
hydraulics_of project = record {
  nodes = list_of (node_law_of project) (length project.nodes);
  links = map (link_law_of project.nodes project.options) project.links;
  curves = project.curves;
}

-- a node's law, for numbers past the end of a list
abbrev pub no_node_law : NodeLaw
no_node_law = record {
  rule = OutfallRule AtInvert;
  invert = pos 0;
  full = pos 0;
  top = pos 0;
  min_area = pos 0;
  tolerance = pos 0;
}

-- the law of a node and of a link, by their numbers
unfoldable pub node_law_at : Hydraulics → ℕ → NodeLaw
node_law_at h n = slice_index_or h.nodes n no_node_law

unfoldable pub link_law_at : Hydraulics → ℕ → LinkLaw SectionTable
link_law_at h l = slice_index_or h.links l no_link_law

-- ---- a link at the heads of its ends
-- the volume of water in a link, in mm³, and the area of flow in its middle, in mm²; only a conduit has them
abbrev pub rule_volume : LinkRule SectionTable → (near far : ℤ) → ℤ
rule_volume (ConduitRule law) near far = volume_of law.conduit law.table near far
rule_volume (PumpRule law) near far = pos 0
rule_volume (OrificeRule law) near far = pos 0
rule_volume (WeirRule law) near far = pos 0

abbrev pub rule_mid_area : LinkRule SectionTable → (near far : ℤ) → ℤ
rule_mid_area (ConduitRule law) near far = mid_area_of law.conduit law.table near far
rule_mid_area (PumpRule law) near far = pos 0
rule_mid_area (OrificeRule law) near far = pos 0
rule_mid_area (WeirRule law) near far = pos 0

unfoldable pub volume_at : Hydraulics → ℕ → (near far : ℤ) → ℤ
volume_at h l near far = rule_volume (link_law_at h l).rule near far

unfoldable pub mid_area_at : Hydraulics → ℕ → (near far : ℤ) → ℤ
mid_area_at h l near far = rule_mid_area (link_law_at h l).rule near far

-- ---- a link in a trial
-- the share of a link by its rule; a pump draws from this node, whose volume counts
abbrev pub rule_share : Hydraulics → LinkRule SectionTable → (node : ℕ) → LinkFixed → (first : Bool)
    → (near far last : ℤ) → Share
rule_share h (ConduitRule law) node fixed first near far last =
    share_of law.conduit law.table fixed first near far last
rule_share h (PumpRule law) node fixed first near far last =
    let volume = node_volume_of (node_law_at h node) near in
    pump_share_of law (curve_at h.curves law.curve) volume fixed first near far last
rule_share h (OrificeRule law) node fixed first near far last = orifice_share_of law fixed first near far last
rule_share h (WeirRule law) node fixed first near far last = weir_share_of law fixed first near far last

abbrev pub link_share_of : Hydraulics → LinkLaw SectionTable → LinkFixed → (first : Bool) → (near far last : ℤ) → Share
link_share_of h link fixed first near far last = rule_share h link.rule link.first fixed first near far last

-- ---- the whole
-- what the trials ask: heads are within 2·10^10 µm, a link's share is that of its rule, a node's next head its law's
unfoldable pub law_of : Hydraulics → Law
law_of h = record {
  nodes = length h.nodes;
  links = length h.links;
  limit = 2 * 10 ^ 10;
  ends = λ l. ((link_law_at h l).first, (link_law_at h l).second);
  share = λ l fixed first near far last. link_share_of h (link_law_at h l) fixed first near far last;
  next = λ n fixed first inflow outflow area last. next_of (node_law_at h n) fixed first inflow outflow area last;
}
