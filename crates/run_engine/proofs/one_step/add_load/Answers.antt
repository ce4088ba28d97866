use Rattle.std.proofs.Common.{◌∙◌, ◌+◌, ℕ, sym, ap, subst}
use Rattle.std.proofs.lemmas.Int.{to_z-of_z}
use Rattle.summaries.specs.Loads.{AreLoadsOf}
use Rattle.run_engine.specs.Results.{length_before}
use Rattle.run_engine.specs.States.{nets_at}
use Rattle.run_engine.proofs.LawLemmas.{law_nodes}
use Rattle.run_engine.proofs.OutfallLemmas.{has_nets}
use Rattle.run_engine.proofs.one_step.add_load.Goals as goal

pub add_state-requires-clause-nets : goal.add_state-requires-clause-nets
add_state-requires-clause-nets c = has_nets c.requires.now.fits

pub add_state-requires-clause-loads : goal.add_state-requires-clause-loads
add_state-requires-clause-loads c =
    subst (λ (n : ℕ). AreLoadsOf n c.args.outfalls.now) (sym (c.requires.now.fits.nodes.count ∙ law_nodes c.args.start.now.project)) c.requires.outfalls.good

pub returns : goal.returns
returns c =
    let start = c.args.start.now in
    let loads = c.requires.outfalls in
    let added = c.add_state.ensures in
    let summaries = simp (to_z-of_z, c.ranges.ms) at added.summaries in
    record {
      outfalls = record {
        good = subst (λ (n : ℕ). AreLoadsOf n c.add_state.new.self) (c.requires.now.fits.nodes.count ∙ law_nodes start.project) added.loads;
        states = added.states ∙ ap (λ (n : ℕ). n + 1) loads.states;
        outfalls = added.nodes ∙ loads.outfalls;
        summaries = summaries (nets_at start) (length_before start) loads.summaries
            (ap (nets_at start) loads.states ∙ sym c.requires.now.same)
            (ap (length_before start) loads.states ∙ sym c.requires.length);
      };
    }
