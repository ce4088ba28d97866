-- The summaries of outfalls: of no state, and what they are of all states so far.
use Rattle.std.proofs.Common.{◌≡◌, ◌∙◌, ℕ, ◌+◌, ◌<◌, List, [], ◌∷◌, length, map, slice_index_or, pos, refl, sym, ap, subst, inl, inr, arith, add-one}
use Rattle.std.specs.List.{All}
use Rattle.std.proofs.lemmas.Bool.{cases_lt}
use Rattle.std.proofs.lemmas.Int.{ints}
use Rattle.std.proofs.lemmas.List.{ext_get_or, get_or-map, get_or_past, length-map}
use Rattle.std.proofs.lemmas.List.Elements.{All-from_get_or}
use Rattle.phase_law.specs.Law.{Law}
use Rattle.summaries.specs.Loads.{AreLoadsOf, HasNets, Loads, load_at, load_of, no_load, no_loads, outfall_nodes, outfalls_from}
use Rattle.summaries.specs.declared.outfall_summary.OutfallSummary.{OutfallSummary}
use Rattle.trial_model.specs.Fits.{Fits}
use Rattle.trial_model.specs.Start.{no_node}
use Rattle.trial_model.specs.declared.nets.Nets.{Nets}
use Rattle.run_engine.specs.Kept.{AreLoadsAt}
use Rattle.run_engine.specs.Results.{length_before, outfall_summaries}
use Rattle.run_engine.specs.States.{length_at, nets_at}
use Rattle.run_engine.specs.declared.start.Start.{Start}

-- ---- the numbers of a state of a law, also past its nodes
pub has_nets : {law : Law} {nets : Nets} → Fits law nets → HasNets (length nets.nodes) nets
has_nets {law} {nets} fits = record {
  fixed = refl;
  inflows = fits.sums.inflow_count ∙ sym fits.nodes.count;
  outflows = fits.sums.outflow_count ∙ sym fits.nodes.count;
  lateral_in = λ n. elim (cases_lt n law.nodes) [
    | inl less ↦ (fits.nodes.each n less).lateral
    | inr past ↦ rw (get_or_past nets.nodes n no_node (omega (arith, past, fits.nodes.count))) (record { within = omega (arith, ints) })
  ];
  net_old_in = λ n. elim (cases_lt n law.nodes) [
    | inl less ↦ (fits.nodes.each n less).net
    | inr past ↦ rw (get_or_past nets.nodes n no_node (omega (arith, past, fits.nodes.count))) (record { within = omega (arith, ints) })
  ];
  inflow_in = λ n. elim (cases_lt n law.nodes) [
    | inl less ↦ (fits.sums.each n less).inflow_in
    | inr past ↦ rw (get_or_past nets.inflows n (pos 0) (omega (arith, past, fits.sums.inflow_count))) (record { from = omega (arith, ints); to = omega (arith, ints) })
  ];
  outflow_in = λ n. elim (cases_lt n law.nodes) [
    | inl less ↦ (fits.sums.each n less).outflow_in
    | inr past ↦ rw (get_or_past nets.outflows n (pos 0) (omega (arith, past, fits.sums.outflow_count))) (record { from = omega (arith, ints); to = omega (arith, ints) })
  ];
}

-- ---- the length of the step before a state
pub length_none : (start : Start) → pos 0 ≡ length_before start 0
unfolding length_before
length_none start = refl

pub length_next : (start : Start) (k : ℕ) → length_at start k ≡ length_before start (k + 1)
unfolding length_before
length_next start k = rw (add-one k) refl

-- ---- of no state
nodes_none : (ns : List ℕ) → outfall_nodes (map no_load ns) ≡ ns
nodes_none [] = refl
nodes_none (n ∷ ns) = ap (λ (l : List ℕ). n ∷ l) (nodes_none ns)

pub loads_none : (start : Start) (loads : Loads) → loads ≡ no_loads start.project → AreLoadsOf (length start.project.nodes) loads → AreLoadsAt start 0 loads
loads_none start loads is good = rw is (record {
  good = subst (AreLoadsOf (length start.project.nodes)) is good;
  states = refl;
  outfalls = nodes_none (outfalls_from 0 start.project.nodes);
  summaries = record { each = λ last e. absurd (no_state last e) };
})
  where
    no_state : (last : ℕ) → 0 ≡ last + 1 → ⊥
    no_state last e = omega (arith, e)

-- ---- of all states so far
pub outfalls_are : (start : Start) (k : ℕ) (loads : Loads) → AreLoadsAt start (k + 1) loads → loads.outfalls ≡ outfall_summaries start k
unfolding outfall_summaries
outfalls_are start k loads are =
    let of = load_of (nets_at start) (length_before start) k in
    let node = λ (o : OutfallSummary). o.node in
    let ns = outfalls_from 0 start.project.nodes in
    let count : length loads.outfalls ≡ length ns = sym (length-map loads.outfalls node) ∙ ap length are.outfalls in
    ext_get_or (no_load 0) loads.outfalls (map of ns) (count ∙ sym (length-map ns of))
    (λ i inside.
    let here : (load_at loads.outfalls i).node ≡ number_at ns i = sym (get_or-map node loads.outfalls i (no_load 0) 0 inside) ∙ ap (λ (l : List ℕ). number_at l i) are.outfalls in
    are.summaries.each k are.states i inside ∙ ap of here ∙ sym (get_or-map of ns i 0 (no_load 0) (omega (arith, inside, count))))
  where
    number_at : List ℕ → ℕ → ℕ
    number_at l i = slice_index_or l i 0

-- each is one of a node
pub outfall_nodes_in : {nodes : ℕ} {loads : Loads} → AreLoadsOf nodes loads → All (λ (o : OutfallSummary). o.node < nodes) loads.outfalls
outfall_nodes_in {nodes} {loads} are = All-from_get_or (λ (o : OutfallSummary). o.node < nodes) loads.outfalls (no_load 0) are.nodes_of
