use Rattle.std.proofs.Common.{◌∙◌, ◌+◌, ℕ, length, sym, ap}
use Rattle.std.proofs.lemmas.Int.{to_z-of_z}
use Rattle.link_eval.specs.Hydraulics.{hydraulics_of}
use Rattle.run_engine.specs.Results.{floods_at}
use Rattle.run_engine.specs.States.{moment_at, nets_at}
use Rattle.run_engine.proofs.LawLemmas.{law_nodes, law_links}
use Rattle.run_engine.proofs.SumsLemmas.{flow_at, head_at, floods_count, inverts_count}
use Rattle.run_engine.proofs.one_step.add_state.Goals as goal

pub add_state-requires-clause-heads : goal.add_state-requires-clause-heads
add_state-requires-clause-heads c =
    c.requires.now.fits.heads.count ∙ law_nodes c.args.start.now.project ∙ sym (inverts_count c.requires.sums)

pub add_state-requires-clause-heads_in : goal.add_state-requires-clause-heads_in
add_state-requires-clause-heads_in c = head_at (hydraulics_of c.args.start.now.project) c.args.nets.now.heads c.requires.now.fits.heads

pub add_state-requires-clause-flows : goal.add_state-requires-clause-flows
add_state-requires-clause-flows c =
    c.requires.now.fits.flows.count ∙ law_links c.args.start.now.project ∙ sym c.requires.sums.links

pub add_state-requires-clause-flows_in : goal.add_state-requires-clause-flows_in
add_state-requires-clause-flows_in c = flow_at (hydraulics_of c.args.start.now.project) c.args.nets.now.flows c.requires.now.fits.flows

pub add_state-requires-clause-floods : goal.add_state-requires-clause-floods
add_state-requires-clause-floods c =
    ap length c.requires.floods.same ∙ floods_count c.args.start.now c.args.k ∙ sym (inverts_count c.requires.sums)

pub returns : goal.returns
returns c =
    let start = c.args.start.now in
    let sums = c.requires.sums in
    let added = c.add_state.ensures in
    let summaries = simp (to_z-of_z, c.ranges.moment) at added.summaries in
    record {
      sums = record {
        good = added.figures;
        states = added.states ∙ ap (λ (n : ℕ). n + 1) sums.states;
        inverts = added.inverts ∙ sums.inverts;
        links = added.links ∙ sums.links;
        summaries = summaries (nets_at start) (floods_at start) (moment_at start) sums.summaries
            (ap (nets_at start) sums.states ∙ sym c.requires.now.same)
            (ap (floods_at start) sums.states ∙ sym c.requires.floods.same)
            (ap (moment_at start) sums.states ∙ sym c.requires.moment);
      };
    }
