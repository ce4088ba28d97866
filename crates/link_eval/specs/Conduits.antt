-- The law of a conduit, from its project (User's Manual, sections [CONDUITS], [XSECTIONS] and [LOSSES]).
use Rattle.std.specs.Prelude.{pos, ◌+ℤ◌, ◌||◌, false}
use Rattle.conduit_flow.specs.Conduits.{IsConduit, IsConduitTable}
use Rattle.conduit_flow.specs.declared.conduit.ConduitData.{ConduitData}
use Rattle.net_types.specs.declared.network.LinkKind.{LinkKind}
use Rattle.net_types.specs.declared.network.LinkKind.TheVariants.{Conduit, Pump, Orifice, Weir}
use Rattle.net_types.specs.declared.options.Damping.TheVariants.{Full}
use Rattle.net_types.specs.declared.options.Limiter.TheVariants.{Both}
use Rattle.net_types.specs.declared.options.Options.{Options}
use Rattle.xsect_tables.specs.SectionTable.{SectionTable}
use Rattle.link_eval.specs.declared.conduit.ConduitLaw.{ConduitLaw}
use Rattle.link_eval.specs.declared.ends.LinkEnds.{LinkEnds}

-- a conduit of which all is 0
abbrev pub no_conduit : ConduitData
no_conduit = record {
  z1 = pos 0;
  z2 = pos 0;
  length = pos 0;
  n6 = pos 0;
  q_max = pos 0;
  entry6 = pos 0;
  exit6 = pos 0;
  avg6 = pos 0;
  flap = false;
  damping = Full;
  limiter = Both;
}

-- a conduit as it is routed: its ends lie at the inverts of its nodes and its offsets; a flap gate of its own or a
-- gated outfall at its second end keeps water from running back; other links are none
abbrev pub conduit_of : LinkKind → LinkEnds → Options → ConduitData
conduit_of (Conduit long n6 z1 z2 q0 q_max entry6 exit6 avg6 flap) ends options = record {
  z1 = ends.invert1 +ℤ z1;
  z2 = ends.invert2 +ℤ z2;
  length = long;
  n6 = n6;
  q_max = q_max;
  entry6 = entry6;
  exit6 = exit6;
  avg6 = avg6;
  flap = flap || ends.gated;
  damping = options.damping;
  limiter = options.limiter;
}
conduit_of (Pump curve on startup shutoff) ends options = no_conduit
conduit_of (Orifice bottom offset cd6 flap) ends options = no_conduit
conduit_of (Weir notch crest cd6 flap contractions) ends options = no_conduit

-- the conduit and its table
abbrev pub conduit_law_of : {T : Type 0} → LinkKind → (table : T) → LinkEnds → Options → ConduitLaw T
conduit_law_of kind table ends options = record { conduit = conduit_of kind ends options; table = table }

-- a conduit and a table that can be routed
pub record IsConduitLaw (law : ConduitLaw SectionTable) : Type 0 where
  pub conduit : IsConduit law.conduit
  pub table : IsConduitTable law.table
