-- What the input is read as, it is taken for.
use Rattle.std.proofs.Common.{subst}
use Rattle.inp_lines.specs.Lines.{lines_of}
use Rattle.inp_reader.specs.Reading.{ReadsAs}
use Rattle.swmm_top.proofs.OutcomeLemmas.{lines_are_refused, meant_is_taken, refusal_is}
use Rattle.swmm_top.proofs.taken.take_read.Goals as goal

pub returns-in-Refused-clause-taken : goal.returns-in-Refused-clause-taken
returns-in-Refused-clause-taken g c = λ input few reads.
    let found = subst (ReadsAs (lines_of input)) c.in-Refused.is reads in
    refusal_is input _ _ _ _ (lines_are_refused input _ few found.0 found.1) c.refuse_lines.ensures.taken c.refuse_lines.ensures.report

pub returns-in-Accepted-clause-taken : goal.returns-in-Accepted-clause-taken
returns-in-Accepted-clause-taken g c = λ input few reads.
    let found = subst (ReadsAs (lines_of input)) c.in-Accepted.is reads in
    meant_is_taken input _ _ _ _ few found.0 found.1 c.take_project.ensures.taken
