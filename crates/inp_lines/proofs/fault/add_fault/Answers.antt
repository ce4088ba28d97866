use Rattle.std.proofs.Common.{◌<◌, length, ◌∷◌, ◌++◌, [], sym, ap, ◌∙◌, arith}
use Rattle.inp_lines.proofs.CutLemmas.{cut_room, cut_full}
use Rattle.inp_lines.specs.Faults.{line_fault}
use Rattle.inp_lines.proofs.fault.add_fault.Goals as goal

pub returns-in_ok-push-clause-faults : goal.returns-in_ok-push-clause-faults
returns-in_ok-push-clause-faults c =
    let room : length c.args.faults.now < 100 = omega (arith, c.if-as_slice-lt100.true, ap length c.as_slice.ensures) in
    let made = line_fault c.args.line.now c.args.fault in
    c.in_ok-push.ensures.ok ∙ (ap (λ x. c.args.faults.now ++ x ∷ []) c.in_ok-made.ensures ∙ sym (cut_room 100 c.args.faults.now made room))

pub returns-else-as_slice-lt100-clause-faults : goal.returns-else-as_slice-lt100-clause-faults
returns-else-as_slice-lt100-clause-faults c =
    sym (cut_full 100 c.args.faults.now (line_fault c.args.line.now c.args.fault ∷ []) c.requires.short (omega (arith, c.if-as_slice-lt100.false, ap length c.as_slice.ensures)))
