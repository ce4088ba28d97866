-- The trials of a step keep what the account of the step asks for.
use Rattle.std.proofs.Common.{◌≡◌, ℕ, zero, suc, ◌<◌, Bool, false, eqb, List, ℤ, ◌≤ℤ◌, pos, refl, sym, subst, ◌∙◌, arith}
use Rattle.std.proofs.lemmas.List.FromFn.{get_or-map-range_with_len}
use Rattle.link_eval.specs.Good.{IsGood}
use Rattle.link_eval.specs.Hydraulics.{law_of, node_law_at}
use Rattle.link_eval.specs.declared.hydraulics.Hydraulics.{Hydraulics}
use Rattle.node_update.specs.NodeLaws.{is_outfall_rule}
use Rattle.node_update.proofs.UpdateLemmas.{next_place}
use Rattle.phase_law.specs.Law.{Law}
use Rattle.phase_law.specs.declared.values.NodeFixed.{NodeFixed}
use Rattle.trial_model.specs.Fits.{node_fixed_at}
use Rattle.fixed_num.specs.Lists.{number}
use Rattle.trial_model.specs.RoutingStep.{trials}
use Rattle.trial_model.specs.Trial.{trial, with_flows, next_in}
use Rattle.trial_model.specs.declared.nets.Nets.{Nets}
use Rattle.continuity.specs.StepOf.{IsBelowTops, IsFixedOf, IsStepOf}
use Rattle.continuity.proofs.LawLemmas.{node_law_in}

-- ---- what is fixed for the nodes
trial_nodes : (law : Law) (s : Nets) (first : Bool) → (trial law s first).nodes ≡ s.nodes
unfolding trial with_flows
trial_nodes law s first = refl

pub trials_nodes : (law : Law) (s : Nets) (k : ℕ) → (trials law s k).nodes ≡ s.nodes
unfolding trials
trials_nodes law s zero = refl
trials_nodes law s (suc k) = trial_nodes law (trials law s k) (eqb k 0) ∙ trials_nodes law s k

-- so a step that was opened as one from a state stays one
pub step_of_trials : (h : Hydraulics) (before opened : Nets) (ms : ℤ) (k : ℕ) → IsStepOf h before opened ms → IsStepOf h before (trials (law_of h) opened k) ms
step_of_trials h before opened ms k step = record {
  each = λ n inside. subst (λ (nodes : List NodeFixed). IsFixedOf before ms n (node_fixed_at nodes n)) (sym (trials_nodes (law_of h) opened k)) (step.each n inside);
}

-- ---- no head but an outfall's goes above its top
next_head : (h : Hydraulics) → IsGood h → (n : ℕ) → n < (law_of h).nodes → is_outfall_rule (node_law_at h n).rule ≡ false → (fixed : NodeFixed) (first : Bool) (i o a last : ℤ)
    → last ≤ℤ (node_law_at h n).top → ((law_of h).next n fixed first i o a last).head ≤ℤ (node_law_at h n).top
unfolding law_of
next_head h good n inside e fixed first i o a last below = next_place fixed first i o a last (node_law_in h good n inside) e below

new_head : (law : Law) (s : Nets) (first : Bool) (n : ℕ) → n < law.nodes → number (trial law s first).heads n ≡ (next_in law (with_flows law s first) first n).head
unfolding trial
new_head law s first n inside = get_or-map-range_with_len (λ k. (next_in law (with_flows law s first) first k).head) 0 law.nodes n n (pos 0) inside (omega arith)

read_head : (law : Law) (s : Nets) (first : Bool) (n : ℕ) → number (with_flows law s first).read_heads n ≡ number s.heads n
unfolding with_flows
read_head law s first n = refl

trial_tops : (h : Hydraulics) → IsGood h → (s : Nets) (first : Bool) → IsBelowTops h s → IsBelowTops h (trial (law_of h) s first)
trial_tops h good s first tops = record {
  each = λ n inside e.
      let t = with_flows (law_of h) s first in
      let below : number t.read_heads n ≤ℤ (node_law_at h n).top = rw (read_head (law_of h) s first n) (tops.each n inside e) in
      rw (new_head (law_of h) s first n inside)
      (next_head h good n inside e (node_fixed_at t.nodes n) first (number t.inflows n) (number t.outflows n) (number t.areas n) (number t.read_heads n) below);
}

pub trials_tops : (h : Hydraulics) → IsGood h → (s : Nets) (k : ℕ) → IsBelowTops h s → IsBelowTops h (trials (law_of h) s k)
unfolding trials
trials_tops h good s zero tops = tops
trials_tops h good s (suc k) tops = trial_tops h good (trials (law_of h) s k) (eqb k 0) (trials_tops h good s k tops)
