use Rattle.trial_model.specs.Trial.{next_of}
use Rattle.trial_model.proofs.LoopLemmas.{HeadsMade}
use Rattle.trial_model.proofs.head_phase.make_heads.Given as goal

abbrev pub invariant-loop-node : goal.invariant-loop-node
invariant-loop-node g l =
    HeadsMade
    (next_of (g.P.PhaseLaw.law l.law) l.nodes l.first l.inflows l.outflows l.areas l.read_heads)
    l.heads
    l.unsettled
    l.node
