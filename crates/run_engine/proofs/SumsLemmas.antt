-- The summaries of a run: of no state, and what they are of all states so far.
use Rattle.std.proofs.Common.{◌≡◌, ◌∙◌, ℕ, zero, suc, ◌+◌, ◌<◌, List, length}
use Rattle.std.proofs.Common.{ℤ, pos, refl, ap, inl, inr, arith}
use Rattle.std.proofs.lemmas.Bool.{cases_lt}
use Rattle.std.proofs.lemmas.Int.{ints}
use Rattle.std.proofs.lemmas.List.{length-map, length-replicate, get_or-map, get_or_past}
use Rattle.std.proofs.lemmas.List.FromFn.{fill_by_all, get_or-map-range_with_len, length-map-range_with_len}
use Rattle.fixed_num.specs.Ranges.{IsHead, IsFlow}
use Rattle.net_types.specs.declared.network.Node.{Node}
use Rattle.net_types.specs.Records.{node_at, no_node}
use Rattle.summaries.specs.Figures.{Figures, AreFigures, inverts_of}
use Rattle.summaries.specs.Figures.{new_figures, node_summary}
use Rattle.summaries.specs.Steps.{no_node_summary, no_link_summary}
use Rattle.trial_model.specs.Fits.{FlowsFit, HeadsFit}
use Rattle.fixed_num.specs.Lists.{number, list_of}
use Rattle.trial_model.specs.declared.nets.Nets.{Nets}
use Rattle.link_eval.specs.LawGood.{head_in as head_within}
use Rattle.run_engine.specs.Kept.{AreSumsOf}
use Rattle.run_engine.specs.Results.{floods_at, node_summaries, link_summaries}
use Rattle.run_engine.specs.States.{moment_at, nets_at}
use Rattle.run_engine.proofs.LawLemmas.{law_nodes}
use Rattle.continuity.specs.Account.{floods_of, flood_at}
use Rattle.link_eval.specs.Hydraulics.{hydraulics_of, law_of}
use Rattle.link_eval.specs.declared.hydraulics.Hydraulics.{Hydraulics}
use Rattle.run_engine.specs.declared.start.Start.{Start}

-- ---- lists
same_lists : {A : Type 0} (none : A) (f g : ℕ → A) (count : ℕ) → ((n : ℕ) → n < count → f n ≡ g n) → list_of f count ≡ list_of g count
same_lists none f g count each =
    fill_by_all g (list_of f count) count none (length-map-range_with_len f 0 count) (λ n h. get_or-map-range_with_len f 0 count n n none h (omega arith) ∙ each n h)

-- ---- of no state
no_state : (last : ℕ) → 0 ≡ last + 1 → ⊥
no_state last e = omega (arith, e)

pub new_sums : (start : Start) → AreFigures (new_figures start.project) → AreSumsOf start 0 (new_figures start.project)
new_sums start good = record {
  good = good;
  states = refl;
  inverts = refl;
  links = length-replicate (length start.project.links) no_link_summary;
  summaries = record { nodes = λ last e. absurd (no_state last e); links = λ last e. absurd (no_state last e) };
}

-- ---- of all states so far
invert_is : (nodes : List Node) (n : ℕ) → n < length nodes → number (inverts_of nodes) n ≡ (node_at nodes n).invert
invert_is nodes n h = get_or-map (λ (node : Node). node.invert) nodes n no_node (pos 0) h

pub nodes_are : (start : Start) (k : ℕ) (figures : Figures) → AreSumsOf start (k + 1) figures → figures.nodes ≡ node_summaries start k
unfolding node_summaries
nodes_are start k figures sums =
    let of = λ (invert : ℤ) (n : ℕ). node_summary (nets_at start) (floods_at start) (moment_at start) k invert n in
    let inverts = inverts_of start.project.nodes in
    let here : figures.nodes ≡ list_of (λ n. of (number inverts n) n) (length inverts) = rw sums.inverts at sums.summaries.nodes k sums.states in
    here ∙ ap (list_of (λ n. of (number inverts n) n)) (length-map start.project.nodes (λ (node : Node). node.invert))
    ∙ same_lists no_node_summary (λ n. of (number inverts n) n) (λ n. of (node_at start.project.nodes n).invert n) (length start.project.nodes) (λ n h. ap (λ (z : ℤ). of z n) (invert_is start.project.nodes n h))

pub links_are : (start : Start) (k : ℕ) (figures : Figures) → AreSumsOf start (k + 1) figures → figures.links ≡ link_summaries start k
unfolding link_summaries
links_are start k figures sums = rw sums.links at sums.summaries.links k sums.states

-- ---- what a state gives to the summaries, in range
pub head_at : (h : Hydraulics) (heads : List ℤ) → HeadsFit (law_of h) heads → (n : ℕ) → IsHead (number heads n)
head_at h heads fit n = elim (cases_lt n (length heads)) [
  | inl less ↦ head_within h (fit.each n (omega (arith, less, fit.count)))
  | inr past ↦ rw (get_or_past heads n (pos 0) (omega (arith, past))) (record { within = omega (arith, ints) })
]

pub flow_at : (h : Hydraulics) (flows : List ℤ) → FlowsFit (law_of h) flows → (l : ℕ) → IsFlow (number flows l)
flow_at h flows fit l = elim (cases_lt l (length flows)) [
  | inl less ↦ let f = fit.each l (omega (arith, less, fit.count)) in record { within = f.within }
  | inr past ↦ rw (get_or_past flows l (pos 0) (omega (arith, past))) (record { within = omega (arith, ints) })
]

-- ---- counts
pub inverts_count : {start : Start} {count : ℕ} {figures : Figures} → AreSumsOf start count figures → length figures.inverts ≡ length start.project.nodes
inverts_count {start} sums = ap length sums.inverts ∙ length-map start.project.nodes (λ (node : Node). node.invert)

floods_length : (h : Hydraulics) (s : Nets) → length (floods_of h s) ≡ (law_of h).nodes
unfolding floods_of
floods_length h s = length-map-range_with_len (flood_at h s) 0 (law_of h).nodes

pub floods_count : (start : Start) (k : ℕ) → length (floods_at start k) ≡ length start.project.nodes
unfolding floods_at
floods_count start zero = length-replicate (length start.project.nodes) (pos 0)
floods_count start (suc k) = floods_length (hydraulics_of start.project) (nets_at start (suc k)) ∙ law_nodes start.project
