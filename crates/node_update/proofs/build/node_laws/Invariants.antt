use Rattle.std.proofs.Common.{◌≡◌}
use Rattle.std.specs.List.{All}
use Rattle.fixed_num.specs.Lists.{list_of}
use Rattle.node_update.specs.NodeLaws.{IsNodeLaw, node_law_of}
use Rattle.node_update.proofs.build.node_laws.Given as goal

abbrev pub invariant-loop-n : goal.invariant-loop-n
invariant-loop-n l = record {
  made : l.laws ≡ list_of (node_law_of l.fn.project) l.n;
  range : All IsNodeLaw l.laws;
}
