use Rattle.std.proofs.Common.{◌∷◌, ℕ, subst}
use Rattle.hotstart.specs.Checks.{HasFault, Passes}
use Rattle.hotstart.specs.Layout.{kind, new_values}
use Rattle.hotstart.proofs.CheckLemmas.{passes_then, fault_stays}
use Rattle.hotstart.proofs.checks.check_new.Goals as goal

pub returns-in-Ok : goal.returns-in-Ok
returns-in-Ok c =
    subst (λ (n : ℕ). Passes c.args.file.now c.args.from (kind n ∷ new_values c.args.shape.now) c.check_values.result) c.kind_number.ensures
    (passes_then _ _ _ _ _ c.check_values.result c.in-Ok.ensures c.check_values.ensures)

pub returns-in-Err : goal.returns-in-Err
returns-in-Err c =
    subst (λ (n : ℕ). HasFault c.args.file.now c.args.from (kind n ∷ new_values c.args.shape.now) c.in-Err.refusal) c.kind_number.ensures
    (fault_stays c.in-Err.ensures _)
