-- The law of a link, by its kind (User's Manual, appendix D).
use Rattle.std.specs.Prelude.{ℕ, ◌<◌, Option, Some, None, List, pos}
use Rattle.std.specs.Bool.{⊤}
use Rattle.net_types.specs.Records.{node_at}
use Rattle.net_types.specs.declared.network.Link.{Link}
use Rattle.net_types.specs.declared.network.LinkKind.{LinkKind}
use Rattle.net_types.specs.declared.network.LinkKind.TheVariants.{Conduit, Pump, Orifice, Weir}
use Rattle.net_types.specs.declared.network.Node.{Node}
use Rattle.net_types.specs.declared.network.Section.{Section}
use Rattle.net_types.specs.declared.network.Shape.TheVariants.{Circular}
use Rattle.net_types.specs.declared.options.Options.{Options}
use Rattle.link_eval.specs.Conduits.{IsConduitLaw, conduit_law_of}
use Rattle.link_eval.specs.Ends.{ends_between}
use Rattle.link_eval.specs.Orifices.{IsOrificeLaw, orifice_law_of}
use Rattle.link_eval.specs.Pumps.{IsPumpLaw, pump_law_of}
use Rattle.link_eval.specs.Weirs.{IsWeirLaw, no_weir_law, weir_law_of}
use Rattle.link_eval.specs.declared.ends.LinkEnds.{LinkEnds}
use Rattle.link_eval.specs.declared.link_law.LinkLaw.{LinkLaw}
use Rattle.link_eval.specs.declared.link_law.LinkRule.{LinkRule}
use Rattle.link_eval.specs.declared.link_law.LinkRule.TheVariants.{Conduit as ConduitRule, Pump as PumpRule}
use Rattle.link_eval.specs.declared.link_law.LinkRule.TheVariants.{Orifice as OrificeRule, Weir as WeirRule}
use Rattle.xsect_tables.specs.SectionTable.{SectionTable, table_of}

-- the section of a link, and one of which all is 0 where it has none
abbrev pub no_section : Section
no_section = record { shape = Circular; full = pos 0; barrels = pos 0 }

abbrev pub given_section : Option Section → Section
given_section (Some section) = section
given_section None = no_section

-- the rule of a link of a kind, with this section and its table, between these ends
abbrev pub link_rule_of : {T : Type 0} → Options → LinkEnds → LinkKind → Section → (table : T) → LinkRule T
link_rule_of options ends (Conduit long n6 z1 z2 q0 q_max entry6 exit6 avg6 flap) section table =
    ConduitRule (conduit_law_of (Conduit long n6 z1 z2 q0 q_max entry6 exit6 avg6 flap) table ends options)
link_rule_of options ends (Pump curve on startup shutoff) section table =
    PumpRule (pump_law_of curve ends options.units)
link_rule_of options ends (Orifice bottom offset cd6 flap) section table =
    OrificeRule (orifice_law_of bottom offset cd6 flap section table ends)
link_rule_of options ends (Weir notch crest cd6 flap contractions) section table =
    WeirRule (weir_law_of notch crest cd6 flap contractions section ends)

-- the rule of a link between these ends, with the table of its section
abbrev pub routed_rule_of : Options → LinkEnds → Link → LinkRule SectionTable
routed_rule_of options ends link =
    let section = given_section link.section in
    link_rule_of options ends link.kind section (table_of section)

-- the law of a link
unfoldable pub link_law_of : List Node → Options → Link → LinkLaw SectionTable
link_law_of nodes options link =
    let ends = ends_between (node_at nodes link.first) (node_at nodes link.second) in
    record { first = link.first; second = link.second; rule = routed_rule_of options ends link }

-- a link's law for numbers past the end of a list
abbrev pub no_link_law : LinkLaw SectionTable
no_link_law = record { first = 0; second = 0; rule = WeirRule no_weir_law }

-- ---- its ranges (this project's profile)
abbrev pub IsLinkRule : LinkRule SectionTable → Type 0
IsLinkRule (ConduitRule law) = IsConduitLaw law
IsLinkRule (PumpRule law) = IsPumpLaw law
IsLinkRule (OrificeRule law) = IsOrificeLaw law
IsLinkRule (WeirRule law) = IsWeirLaw law

-- the curve of a pump is one of so many
abbrev pub NamesOneOf : (curves : ℕ) → LinkRule SectionTable → Type 0
NamesOneOf curves (ConduitRule law) = ⊤
NamesOneOf curves (PumpRule law) = law.curve < curves
NamesOneOf curves (OrificeRule law) = ⊤
NamesOneOf curves (WeirRule law) = ⊤
