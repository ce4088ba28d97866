use Rattle.std.proofs.Common.{◌≡◌, length, ap, sym, subst, ◌∙◌}
use Rattle.std.proofs.lemmas.Int.{to_z-of_z}
use Rattle.summaries.specs.Loads.{AreLoads, AreLoadsOf, Loads, outfall_nodes}
use Rattle.summaries.proofs.FigureLemmas.{written_whole}
use Rattle.summaries.proofs.LoadLemmas.{loads_are, loads_more, nodes_kept}
use Rattle.summaries.proofs.outfall_summary.OutfallSums.add_state.Goals as goal

pub returns-clause-summaries : goal.returns-clause-summaries
returns-clause-summaries c run lengths sums here long =
    let inside : Loads = record { outfalls = c.self.inside.outfalls; states = c.self.inside.states } in
    let old : c.args.self.now ≡ inside = sym c.self.view_is in
    let count = c.add_loads.ensures.count ∙ ap length c.as_mut_slice-outfalls.ensures.value in
    let each = simp (to_z-of_z, c.ranges.ms, c.as_mut_slice-outfalls.ensures.value) at c.add_loads.ensures.each in
    let before = subst (AreLoads run lengths) old sums in
    let run_is = rw old at here in
    let length_is = rw old at long in
    let more = loads_more run lengths inside c.add_loads.new.outfalls before count (rw (run_is, length_is) each) in
    simp (written_whole c.self.inside.outfalls c.add_loads.new.outfalls count) more

pub returns-clause-loads : goal.returns-clause-loads
returns-clause-loads c =
    let inside : Loads = record { outfalls = c.self.inside.outfalls; states = c.self.inside.states } in
    let old : c.args.self.now ≡ inside = sym c.self.view_is in
    let count = c.add_loads.ensures.count ∙ ap length c.as_mut_slice-outfalls.ensures.value in
    let each = simp (to_z-of_z, c.ranges.ms, c.as_mut_slice-outfalls.ensures.value) at c.add_loads.ensures.each in
    let small = simp (to_z-of_z, c.ranges.ms, c.as_mut_slice-outfalls.ensures.value) at c.add_loads.ensures.small in
    let nodes = length c.args.nets.now.nodes in
    let before = subst (AreLoadsOf nodes) old c.requires.loads in
    let more = loads_are nodes inside c.add_loads.new.outfalls c.args.nets.now c.args.ms before count each small in
    simp (written_whole c.self.inside.outfalls c.add_loads.new.outfalls count) more

pub returns-clause-nodes : goal.returns-clause-nodes
returns-clause-nodes c =
    let inside : Loads = record { outfalls = c.self.inside.outfalls; states = c.self.inside.states } in
    let old : c.args.self.now ≡ inside = sym c.self.view_is in
    let count = c.add_loads.ensures.count ∙ ap length c.as_mut_slice-outfalls.ensures.value in
    let each = simp (to_z-of_z, c.ranges.ms, c.as_mut_slice-outfalls.ensures.value) at c.add_loads.ensures.each in
    let kept = nodes_kept _ c.args.nets.now c.args.ms inside.outfalls c.add_loads.new.outfalls count each in
    rw (ap (λ (l : Loads). outfall_nodes l.outfalls) old) (simp (written_whole c.self.inside.outfalls c.add_loads.new.outfalls count) kept)
