-- The ranges of a node's rule have one proof at most: proofs, which stand here since the fact that a struct above holds
-- of its laws cites them.
use Rattle.std.proofs.Props.{props}
use Rattle.node_update.specs.NodeLaws.{IsNodeRule, IsOutfallLevel}
use Rattle.node_update.specs.declared.node_law.NodeRule.{NodeRule as Rule}
use Rattle.node_update.specs.declared.node_law.NodeRule.TheVariants.{Junction as JunctionRule, Outfall as OutfallRule}
use Rattle.node_update.specs.declared.node_law.NodeRule.TheVariants.{Storage as StorageRule}
use Rattle.node_update.specs.declared.node_law.OutfallLevel.{OutfallLevel}
use Rattle.node_update.specs.declared.node_law.OutfallLevel.TheVariants.{AtStage, AtInvert, FreeFall, UniformFlow}

level_prop : (level : OutfallLevel) → IsProp (IsOutfallLevel level)
level_prop AtStage = hlevel props
level_prop AtInvert = hlevel props
level_prop (FreeFall conduit) = hlevel props
level_prop (UniformFlow conduit) = hlevel props

pub node_rule_prop : (rule : Rule) → IsProp (IsNodeRule rule)
node_rule_prop (JunctionRule pond) = hlevel props
node_rule_prop (StorageRule table) = hlevel props
node_rule_prop (OutfallRule level) = level_prop level

pub ruleset node_rule_props = (node_rule_prop, props)
