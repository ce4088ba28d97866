use Rattle.std.proofs.Common.{◌≡◌, ℕ, ◌+◌, length, ap, sym, subst, ◌∙◌, arith}
use Rattle.std.proofs.lemmas.Int.{to_z-of_z}
use Rattle.summaries.specs.Figures.{Figures, AreFigures, AreSummaries}
use Rattle.summaries.proofs.FigureLemmas.{nodes_more, links_more, written_whole}
use Rattle.summaries.proofs.figures.Summaries.add_state.Goals as goal

pub returns-clause-summaries : goal.returns-clause-summaries
returns-clause-summaries c run flooded moments sums here floods now =
    let inside : Figures = record { inverts = c.self.inside.inverts; nodes = c.self.inside.nodes; links = c.self.inside.links; states = c.self.inside.states } in
    let old : c.args.self.now ≡ inside = sym c.self.view_is in
    let count = c.add_nodes.ensures.count ∙ ap length c.as_mut_slice-nodes.ensures.value in
    let link_count = c.add_links.ensures.count ∙ ap length c.as_mut_slice-links.ensures.value in
    let each = simp (to_z-of_z, c.ranges.moment, c.as_mut_slice-nodes.ensures.value, c.as_slice-inverts.ensures, c.as_slice-heads.ensures) at c.add_nodes.ensures.each in
    let link_each = simp (to_z-of_z, c.ranges.moment, c.as_mut_slice-links.ensures.value, c.as_slice-flows.ensures) at c.add_links.ensures.each in
    let before = subst (AreSummaries run flooded moments) old sums in
    let run_is = rw old at here in
    let floods_is = rw old at floods in
    let now_is = rw old at now in
    let nodes = nodes_more run flooded moments inside (subst AreFigures old c.requires.figures) before c.add_nodes.new.nodes count (rw (run_is, floods_is, now_is) each) in
    let links = links_more run flooded moments inside before c.add_links.new.links link_count (rw (run_is, now_is) link_each) in
    let counted = λ (last : ℕ) (e : inside.states + 1 ≡ last + 1). let same : inside.states ≡ last = omega (arith, e) in same in
    simp (written_whole c.self.inside.nodes c.add_nodes.new.nodes count, written_whole c.self.inside.links c.add_links.new.links link_count) (record { nodes = λ last e. nodes last (counted last e); links = λ last e. links last (counted last e) })
