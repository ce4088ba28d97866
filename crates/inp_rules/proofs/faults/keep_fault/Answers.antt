use Rattle.std.proofs.Common.{◌++◌, ap, sym, ◌∙◌}
use Rattle.inp_lines.specs.Faults.{cut}
use Rattle.inp_lines.specs.Gather.{fault_found}
use Rattle.inp_lines.proofs.CutLemmas.{cut_nothing}
use Rattle.inp_rules.proofs.faults.keep_fault.Goals as goal

pub returns-in-None-clause-faults : goal.returns-in-None-clause-faults
returns-in-None-clause-faults c = cut_nothing 100 c.args.faults.now c.requires.short ∙ ap (λ fault. cut (c.args.faults.now ++ fault_found c.args.line.now fault)) (sym c.in-None.is)
