use Rattle.inp_lines.proofs.GatherLemmas.{no_fault_other, no_fault_record}
use Rattle.inp_inflows.proofs.counted.keep.Goals as goal

pub returns-in-Other-clause-faults : goal.returns-in-Other-clause-faults
returns-in-Other-clause-faults g c = no_fault_other c.args.faults.now c.args.line.now c.args.reading c.requires.short c.in-Other.is

pub returns-in_ok-push-in-Record-clause-faults : goal.returns-in_ok-push-in-Record-clause-faults
returns-in_ok-push-in-Record-clause-faults g c = no_fault_record c.args.faults.now c.args.line.now c.args.reading c.in-Record.made c.requires.short c.in-Record.is
