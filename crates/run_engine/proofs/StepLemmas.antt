-- A step from one state to the next.
use Rattle.std.proofs.Common.{◌≡◌, ◌∙◌, ℕ, zero, suc, ◌<◌, Bool, false, eqb, ℤ, pos}
use Rattle.std.proofs.Common.{◌+ℤ◌, ◌-ℤ◌, ◌≤ℤ◌, refl, sym, ap, subst, arith}
use Rattle.std.proofs.lemmas.List.FromFn.{get_or-map-range_with_len}
use Rattle.continuity.specs.StepOf.{IsBelowTops, IsFixedOf, IsStepOf}
use Rattle.link_eval.specs.Good.{IsGood}
use Rattle.link_eval.specs.Hydraulics.{hydraulics_of, law_of, node_law_at}
use Rattle.link_eval.specs.declared.hydraulics.Hydraulics.{Hydraulics}
use Rattle.node_update.proofs.UpdateLemmas.{next_place}
use Rattle.node_update.specs.NodeUpdate.{net_of}
use Rattle.node_update.specs.NodeLaws.{is_outfall_rule}
use Rattle.phase_law.specs.Law.{Law}
use Rattle.phase_law.specs.declared.values.NodeFixed.{NodeFixed}
use Rattle.trial_model.specs.Fits.{Fits, node_fixed_at}
use Rattle.fixed_num.specs.Lists.{number}
use Rattle.trial_model.specs.RoutingStep.{end_of, trials}
use Rattle.trial_model.specs.Start.{no_node}
use Rattle.trial_model.specs.Trial.{next_in, trial, with_flows}
use Rattle.trial_model.specs.declared.nets.Nets.{Nets}
use Rattle.trial_model.specs.declared.step.StepEnd.{StepEnd}
use Rattle.run_engine.specs.Kept.{HaveSameCounts}
use Rattle.run_engine.specs.States.{next_nets, prepared, prepared_node, project_law, step_end}
use Rattle.run_engine.specs.declared.start.Start.{Start}

-- two states that fit a law have as many of everything
pub same_counts : {law : Law} {a b : Nets} → Fits law a → Fits law b → HaveSameCounts a b
same_counts fa fb = record {
  heads = fb.heads.count ∙ sym fa.heads.count;
  flows = fb.flows.count ∙ sym fa.flows.count;
  inflows = fb.sums.inflow_count ∙ sym fa.sums.inflow_count;
  outflows = fb.sums.outflow_count ∙ sym fa.sums.outflow_count;
  areas = fb.sums.area_count ∙ sym fa.sums.area_count;
  read_heads = fb.read_heads.count ∙ sym fa.read_heads.count;
  links = fb.links.count ∙ sym fa.links.count;
  nodes = fb.nodes.count ∙ sym fa.nodes.count;
}

-- ---- what stays the same over the trials of a step
trial_nodes : (law : Law) (s : Nets) (first : Bool) → (trial law s first).nodes ≡ s.nodes
unfolding trial with_flows
trial_nodes law s first = refl

trials_nodes : (law : Law) (s : Nets) (k : ℕ) → (trials law s k).nodes ≡ s.nodes
unfolding trials
trials_nodes law s zero = refl
trials_nodes law s (suc k) = trial_nodes law (trials law s k) (eqb k 0) ∙ trials_nodes law s k

prepared_at : (start : Start) (finish dt : ℤ) (s : Nets) (n : ℕ) → n < (project_law start.project).nodes → node_fixed_at (prepared start finish dt s).nodes n ≡ prepared_node start s finish dt n
unfolding prepared
prepared_at start finish dt s n h = get_or-map-range_with_len (prepared_node start s finish dt) 0 (project_law start.project).nodes n n no_node h (omega arith)

net_is : (fixed : NodeFixed) (inflow outflow : ℤ) → fixed.lateral +ℤ inflow -ℤ outflow ≡ net_of fixed inflow outflow
unfolding net_of
net_is fixed inflow outflow = refl

-- a state and the next belong together
pub step_is : (start : Start) (finish dt : ℤ) (s : Nets) → IsStepOf (hydraulics_of start.project) s (next_nets start finish dt s) dt
unfolding next_nets
step_is start finish dt s =
    let law = project_law start.project in
    let made = (step_end start finish dt s).trials in
    record {
      each = λ n h.
          let here : node_fixed_at (trials law (prepared start finish dt s) made).nodes n ≡ prepared_node start s finish dt n =
          ap (λ nodes. node_fixed_at nodes n) (trials_nodes law (prepared start finish dt s) made) ∙ prepared_at start finish dt s n h in
          subst (IsFixedOf s dt n) (sym here) (record { head = refl; net = net_is (node_fixed_at s.nodes n) (number s.inflows n) (number s.outflows n); length = refl });
    }

-- ---- no node but an outfall goes above its top
next_top : (h : Hydraulics) → IsGood h → (n : ℕ) → n < (law_of h).nodes → is_outfall_rule (node_law_at h n).rule ≡ false → (fixed : NodeFixed) (first : Bool) (inflow outflow area last : ℤ)
    → last ≤ℤ (node_law_at h n).top → ((law_of h).next n fixed first inflow outflow area last).head ≤ℤ (node_law_at h n).top
unfolding law_of
next_top h good n inside junction fixed first inflow outflow area last below = next_place fixed first inflow outflow area last (good.nodes n inside) junction below

trial_head : (law : Law) (s : Nets) (first : Bool) (n : ℕ) → n < law.nodes → number (trial law s first).heads n ≡ (next_in law (with_flows law s first) first n).head
unfolding trial
trial_head law s first n h = get_or-map-range_with_len (λ k. (next_in law (with_flows law s first) first k).head) 0 law.nodes n n (pos 0) h (omega arith)

read_is : (law : Law) (s : Nets) (first : Bool) → (with_flows law s first).read_heads ≡ s.heads
unfolding with_flows
read_is law s first = refl

trial_tops : {h : Hydraulics} → IsGood h → (s : Nets) (first : Bool) → IsBelowTops h s → IsBelowTops h (trial (law_of h) s first)
trial_tops {h} good s first below = record {
  each = λ n inside junction.
      let t = with_flows (law_of h) s first in
      let top = (node_law_at h n).top in
      let last : number t.read_heads n ≤ℤ top = subst (λ heads. number heads n ≤ℤ top) (sym (read_is (law_of h) s first)) (below.each n inside junction) in
      subst (λ (x : ℤ). x ≤ℤ top) (sym (trial_head (law_of h) s first n inside))
      (next_top h good n inside junction (node_fixed_at t.nodes n) first (number t.inflows n) (number t.outflows n) (number t.areas n) (number t.read_heads n) last);
}

trials_tops : {h : Hydraulics} → IsGood h → (s : Nets) (k : ℕ) → IsBelowTops h s → IsBelowTops h (trials (law_of h) s k)
unfolding trials
trials_tops good s zero below = below
trials_tops {h} good s (suc k) below = trial_tops good (trials (law_of h) s k) (eqb k 0) (trials_tops good s k below)

prepared_tops : {h : Hydraulics} (start : Start) (finish dt : ℤ) (s : Nets) → IsBelowTops h s → IsBelowTops h (prepared start finish dt s)
unfolding prepared
prepared_tops start finish dt s below = record { each = below.each }

pub next_tops : (start : Start) (finish dt : ℤ) (s : Nets) → IsGood (hydraulics_of start.project) → IsBelowTops (hydraulics_of start.project) s → IsBelowTops (hydraulics_of start.project) (next_nets start finish dt s)
unfolding next_nets
next_tops start finish dt s good below = trials_tops good (prepared start finish dt s) (step_end start finish dt s).trials (prepared_tops start finish dt s below)

-- ---- the trials of a state that was made ready give the next one
module _ (start : Start) (finish dt : ℤ) (s : Nets) (h : Hydraulics) (ready new : Nets) (end : StepEnd) (law : h ≡ hydraulics_of start.project) (made : ready ≡ prepared start finish dt s) (ended : end ≡ end_of (law_of h) ready start.project.options.max_trials) where
  pub end_is : end ≡ step_end start finish dt s
  unfolding step_end
  end_is = ended ∙ rw (law, made) refl

  pub next_is : new ≡ trials (law_of h) ready end.trials → new ≡ next_nets start finish dt s
  unfolding next_nets
  next_is all = all ∙ rw (law, made, end_is) refl
