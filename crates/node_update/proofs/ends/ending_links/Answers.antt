use Rattle.std.proofs.Common.{◌≡◌, ◌∙◌, ℕ, Option, None, List, length, ap}
use Rattle.std.proofs.lemmas.List.{length-replicate}
use Rattle.std.proofs.lemmas.List.FromFn.{fill_by_all}
use Rattle.net_types.specs.declared.network.Node.{Node}
use Rattle.project_check.proofs.EndsLemmas.{written_whole}
use Rattle.node_update.specs.OutfallConduits.{ending_link}
use Rattle.node_update.proofs.ends.ending_links.Goals as goal

pub returns : goal.returns
returns c =
    let project = c.args.project.now in
    let new = c.mark_ends.new.ends in
    let same : length new ≡ length c.in_ok-list.list = c.mark_ends.ensures.count ∙ ap (λ (l : List (Option ℕ)). length l) c.as_mut_slice-ends.ensures.value in
    let many : length c.in_ok-list.list ≡ length project.nodes =
    ap (λ (l : List (Option ℕ)). length l) c.in_ok-list.ensures ∙ length-replicate (length c.as_slice.result.now) None ∙ ap (λ (l : List Node). length l) c.as_slice.ensures in
    written_whole c.in_ok-list.list new same
    ∙ fill_by_all (λ n. ending_link project.links n (length project.links)) new (length project.nodes) None (same ∙ many)
    (λ n inside. let each = simp (c.as_slice-2.ensures) at (c.mark_ends.ensures.each n) in each)
