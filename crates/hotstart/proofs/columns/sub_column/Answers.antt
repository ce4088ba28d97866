use Rattle.std.proofs.Common.{◌∙◌, ◌+◌, ◌*◌, ℕ, ap}
use Rattle.hotstart.specs.Reading.{sub_at as sub_at_place, sub_width}
use Rattle.hotstart.proofs.ColumnLemmas.{list_more}
use Rattle.hotstart.proofs.columns.sub_column.Goals as goal

pub loop-k-preserved : goal.loop-k-preserved
loop-k-preserved c =
    let kind = c.args.kind.now in
    let file = c.args.file.now in
    c.in_ok-push.ensures.ok ∙ list_more (λ (k : ℕ). sub_at_place kind file (c.args.place + sub_width kind * k)) c.loop-k.k c.loop-k.subs c.sub_at.result c.loop-k.invariant
    (c.sub_at.ensures ∙ ap (λ (w : ℕ). sub_at_place kind file (c.args.place + w * c.loop-k.k)) c.sub_width-width.ensures.value)
