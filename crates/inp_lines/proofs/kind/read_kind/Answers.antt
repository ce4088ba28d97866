use Rattle.std.proofs.Common.{◌++◌, [], ap, ◌∙◌}
use Rattle.inp_lines.specs.Faults.{cut}
use Rattle.inp_lines.specs.Gather.{gather, fault_at}
use Rattle.inp_lines.proofs.kind.read_kind.Goals as goal

pub returns-clause-faults : goal.returns-clause-faults
returns-clause-faults g c =
    c.in_ok-read_records.ensures.faults
    ∙ ap (λ found. cut (found ++ gather (fault_at (g.K.Kind.name_of c.args.kind.now) (g.K.RecordKind.reading_of c.args.kind.now)) [] c.args.lines.now)) c.new-found.ensures
