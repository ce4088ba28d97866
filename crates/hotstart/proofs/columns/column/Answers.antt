use Rattle.std.proofs.Common.{rules, FitsSigned, ◌∙◌, ◌+◌, ◌*◌, ℕ}
use Rattle.std.specs.Int.{w64}
use Rattle.std.proofs.lemmas.Int.{to_z-of_z}
use Rattle.hotstart.specs.Layout.{value_at as value_at_place}
use Rattle.hotstart.proofs.ColumnLemmas.{list_more}
use Rattle.hotstart.proofs.columns.column.Goals as goal

pub loop-k-preserved : goal.loop-k-preserved
loop-k-preserved c =
    let fits : FitsSigned w64 c.value_at.result = search rules in
    let pushed = simp (to_z-of_z, fits) at c.in_ok-push.ensures.ok in
    pushed ∙ list_more (λ (k : ℕ). value_at_place c.args.file.now (c.args.place + c.args.apart * k)) c.loop-k.k c.loop-k.values c.value_at.result c.loop-k.invariant c.value_at.ensures
