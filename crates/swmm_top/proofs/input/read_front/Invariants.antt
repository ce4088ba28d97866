-- The bytes read so far are the front of what the source told.
use Rattle.std.proofs.Common.{◌-◌, length}
use Rattle.swmm_top.proofs.InputLemmas.{Reading}
use Rattle.swmm_top.proofs.input.read_front.Given as goal

abbrev pub invariant-loop-bytes : goal.invariant-loop-bytes
invariant-loop-bytes g l = Reading (g.S.Source.left l.initial.source) (g.S.Source.left l.source) (g.S.Source.faults l.initial.source) (g.S.Source.faults l.source) l.most l.bytes.items

abbrev pub decreases-loop-bytes : goal.decreases-loop-bytes
decreases-loop-bytes g l = l.most - length l.bytes.items
