use Rattle.std.proofs.Common.{◌∙◌, sym}
use Rattle.inp_lines.proofs.GatherLemmas.{no_fault_other, no_fault_record}
use Rattle.inp_lines.proofs.kind.read_line.Goals as goal

pub returns-in-Other-clause-faults : goal.returns-in-Other-clause-faults
returns-in-Other-clause-faults g c =
    no_fault_other c.args.faults.now c.args.line.now (g.K.RecordKind.reading_of c.args.kind.now c.args.naming c.args.line.now) c.requires.short (sym c.in_ok-read.ensures ∙ c.in-Other.is)

pub returns-in_ok-push-in-Record-clause-faults : goal.returns-in_ok-push-in-Record-clause-faults
returns-in_ok-push-in-Record-clause-faults g c =
    no_fault_record c.args.faults.now c.args.line.now (g.K.RecordKind.reading_of c.args.kind.now c.args.naming c.args.line.now) c.in-Record.record c.requires.short (sym c.in_ok-read.ensures ∙ c.in-Record.is)
