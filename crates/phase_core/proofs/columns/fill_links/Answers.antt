use Rattle.std.proofs.Common.{rules, ◌≡◌, ℕ, ◌<◌, FitsSigned, w64, ap, ◌∙◌, arith, pos}
use Rattle.std.proofs.lemmas.Int.{to_z-of_z}
use Rattle.fixed_num.specs.Lists.{number}
use Rattle.phase_machine.specs.Places.{link_place}
use Rattle.phase_core.proofs.ColumnLemmas.{filled_more}
use Rattle.phase_core.proofs.columns.fill_links.Goals as goal

pub loop-link-preserved : goal.loop-link-preserved
loop-link-preserved c =
    let fits : FitsSigned w64 c.word_at.result = search rules in
    filled_more
    (λ (j : ℕ). number c.args.words.now (link_place j c.args.k))
    c.loop-link.to
    c.loop-link.link
    (pos 0)
    _
    (omega arith)
    (to_z-of_z w64 _ fits ∙ c.word_at.ensures ∙ ap (λ (p : ℕ). number c.args.words.now p) c.link_place.ensures)
    c.loop-link.invariant
