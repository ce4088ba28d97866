-- What stands on a board once its phases are closed is the trial of the state that stood there before.
use Rattle.std.proofs.Common.{◌≡◌, ℕ, ◌+◌, Bool, true, false, pos, sym, ap, subst, ◌∙◌, arith}
use Rattle.std.proofs.lemmas.Bool.Decides.{nat_tests}
use Rattle.phase_law.specs.Law.{Law}
use Rattle.trial_model.specs.declared.nets.Nets.{Nets}
use Rattle.trial_model.specs.Trial.{with_flows, trial, unsettled_in}
use Rattle.phase_machine.specs.Kept.{with_links}
use Rattle.phase_machine.specs.Places.{is_odd, written, nets_in}
use Rattle.node_board.specs.declared.views.Plan.{Plan}
use Rattle.node_board.specs.Known.{state_in, unsettled_known, nodes_opened, HasFlows}
use Rattle.node_board.specs.Plays.{trial_of, unsettled_of, Shuts}
use Rattle.node_board.proofs.OpenLemmas.{trial_next, unsettled_next}

even_next : (p : ℕ) → is_odd p ≡ true → is_odd (p + 1) ≡ false
even_next p odd = grind (arith, nat_tests)

module _ (law : Law) (s : Nets) (begun : Bool) (opened closed : Plan) (shuts : Shuts law opened closed) where
  same_phase : closed.phase ≡ opened.phase
  same_phase = ap (λ (p : Plan). p.phase) shuts.plan

  links_least : is_odd opened.phase ≡ true
      → (nets_in law closed.known (written opened.phase)).least ≡ (with_links law opened.opened opened.phase).least
  unfolding nets_in
  links_least odd = shuts.closed.least odd

  pub links_made : is_odd opened.phase ≡ true
      → with_links law opened.opened opened.phase ≡ with_flows law s begun
      → HasFlows (state_in law closed) (with_flows law s begun)
  links_made odd is =
      let here : HasFlows (nets_in law closed.known (written opened.phase)) (with_links law opened.opened opened.phase) =
      record {
        flows = shuts.closed.flows odd;
        inflows = shuts.closed.inflows odd;
        outflows = shuts.closed.outflows odd;
        areas = shuts.closed.areas odd;
        least = links_least odd;
      } in
      subst (λ (p : ℕ). HasFlows (nets_in law closed.known (written p)) (with_flows law s begun)) (sym same_phase)
      (subst (λ (t : Nets). HasFlows (nets_in law closed.known (written opened.phase)) t) is here)

  nodes_made : is_odd opened.phase ≡ false → trial_of law opened.opened opened.phase ≡ trial law s begun
      → unsettled_of law opened.opened opened.phase ≡ unsettled_in law s begun
      → (state_in law closed ≡ trial law s begun) × (unsettled_known closed ≡ pos (unsettled_in law s begun))
  nodes_made even is count = (
    ap (λ (p : ℕ). nets_in law closed.known (written p)) same_phase ∙ shuts.closed.trial even ∙ is,
    shuts.closed.unsettled even ∙ ap pos count,
  )

pub trial_made : (law : Law) (s : Nets) (begun : Bool) (first links nodes : Plan) → is_odd first.phase ≡ true
    → trial_of law first.opened first.phase ≡ trial law s begun
    → unsettled_of law first.opened first.phase ≡ unsettled_in law s begun
    → Shuts law first links → Shuts law (nodes_opened law links) nodes
    → (state_in law nodes ≡ trial law s begun) × (unsettled_known nodes ≡ pos (unsettled_in law s begun))
trial_made law s begun first links nodes odd is count shut1 shut2 =
    let odd_then : is_odd links.phase ≡ true = ap (λ (p : Plan). is_odd p.phase) shut1.plan ∙ odd in
    nodes_made law s begun (nodes_opened law links) nodes shut2 (even_next links.phase odd_then)
    (trial_next law links.opened links.phase odd_then
    ∙ ap (λ (p : Plan). trial_of law p.opened p.phase) shut1.plan
    ∙ is)
    (unsettled_next law links.opened links.phase odd_then
    ∙ ap (λ (p : Plan). unsettled_of law p.opened p.phase) shut1.plan
    ∙ count)
