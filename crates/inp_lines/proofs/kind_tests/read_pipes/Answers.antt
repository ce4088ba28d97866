use Rattle.std.proofs.Common.{◌++◌, [], ap, ◌∙◌}
use Rattle.inp_lines.specs.Example.{pipe_name, pipe_reading}
use Rattle.inp_lines.specs.Faults.{cut}
use Rattle.inp_lines.specs.Gather.{gather, record_at, fault_at}
use Rattle.inp_lines.specs.Merge.{merged}
use Rattle.inp_lines.proofs.kind_tests.read_pipes.Goals as goal

pub returns-clause-pipes : goal.returns-clause-pipes
returns-clause-pipes c = c.in_ok-found.ensures.records
    ∙ ap (λ nodes. c.args.pipes.now ++ gather (record_at pipe_name (pipe_reading nodes)) [] c.args.lines.now) c.in_ok-nodes.ensures

pub returns-clause-faults : goal.returns-clause-faults
returns-clause-faults c = c.in_ok-merge_faults.ensures
    ∙ ap (λ found. cut (merged c.args.faults.now found)) (c.in_ok-found.ensures.faults
    ∙ ap (λ nodes. cut (gather (fault_at pipe_name (pipe_reading nodes)) [] c.args.lines.now)) c.in_ok-nodes.ensures)
