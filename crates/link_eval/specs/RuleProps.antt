-- The ranges of a link's rule have one proof at most: proofs, which stand here since the fact that a struct holds of
-- its laws cites them.
use Rattle.std.specs.Prelude.{ℕ}
use Rattle.std.proofs.Props.{props}
use Rattle.node_update.specs.RuleProps.{node_rule_prop}
use Rattle.xsect_tables.specs.SectionTable.{SectionTable}
use Rattle.link_eval.specs.LinkLaws.{IsLinkRule, NamesOneOf}
use Rattle.link_eval.specs.declared.link_law.LinkRule.{LinkRule}
use Rattle.link_eval.specs.declared.link_law.LinkRule.TheVariants.{Conduit as ConduitRule, Pump as PumpRule}
use Rattle.link_eval.specs.declared.link_law.LinkRule.TheVariants.{Orifice as OrificeRule, Weir as WeirRule}

pub link_rule_prop : (rule : LinkRule SectionTable) → IsProp (IsLinkRule rule)
link_rule_prop (ConduitRule law) = hlevel props
link_rule_prop (PumpRule law) = hlevel props
link_rule_prop (OrificeRule law) = hlevel props
link_rule_prop (WeirRule law) = hlevel props

pub names_prop : (curves : ℕ) (rule : LinkRule SectionTable) → IsProp (NamesOneOf curves rule)
names_prop curves (ConduitRule law) = hlevel props
names_prop curves (PumpRule law) = hlevel props
names_prop curves (OrificeRule law) = hlevel props
names_prop curves (WeirRule law) = hlevel props

pub ruleset rule_props = (node_rule_prop, link_rule_prop, names_prop, props)
