use Rattle.std.proofs.Common.{◌∙◌, sym}
use Rattle.project_check.proofs.CutLemmas.{none_more}
use Rattle.project_check.proofs.nodes.check_node.Goals as goal

pub returns-in-None : goal.returns-in-None
returns-in-None c = rw (sym c.node_fault.ensures ∙ c.in-None.is) (none_more c.args.faults.now c.requires.room)
