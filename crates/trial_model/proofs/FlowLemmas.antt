-- The sums of a state's own flows: a flow is a share that adds no area.
use Rattle.std.proofs.Common.{◌≡◌, ℕ, ◌*◌, ◌^◌, ◌<◌, ◌≤◌, pos, ℤ, List, sym, ap, subst, ◌∙◌, arith}
use Rattle.std.proofs.lemmas.Int.{ints}
use Rattle.std.proofs.lemmas.List.FromFn.{fill_by_all, length-map-range_with_len}
use Rattle.phase_law.specs.Law.{Law}
use Rattle.phase_law.specs.Laws.{IsLaw}
use Rattle.fixed_num.specs.Lists.{number, list_of}
use Rattle.fixed_num.specs.Ranges.{IsFlow}
use Rattle.phase_law.specs.Ranges.{ShareInRange}
use Rattle.phase_law.specs.declared.values.Share.{Share}
use Rattle.trial_model.specs.declared.nets.Nets.{Nets}
use Rattle.trial_model.specs.Fits.{FlowsFit}
use Rattle.trial_model.specs.Parts.{in_part, out_part}
use Rattle.trial_model.specs.Trial.{inflow_of, outflow_of, SumsOf}
use Rattle.trial_model.proofs.RangeLemmas.{SharesFit, in_most, out_most, parts_most, listed}
use Rattle.trial_model.proofs.SumLemmas.{in_parts, out_parts, inflow_same, outflow_same}

no_area : (q : ℤ) → IsFlow q → ShareInRange (record { q = q; area1 = pos 0; area2 = pos 0; time = pos 0 })
no_area q h = record {
  flow = h;
  area1 = record { from = omega (arith, ints); to = omega (arith, ints) };
  area2 = record { from = omega (arith, ints); to = omega (arith, ints) };
  time = record { from = omega (arith, ints); to = omega (arith, ints) };
}

abbrev pub flow_share : List ℤ → ℕ → Share
flow_share flows k = record { q = number flows k; area1 = pos 0; area2 = pos 0; time = pos 0 }

pub flow_shares_fit : {law : Law} {flows : List ℤ} → FlowsFit law flows → SharesFit law (flow_share flows)
flow_shares_fit {law} {flows} fit = record { each = λ k h. no_area (number flows k) (fit.each k h) }

-- a state of other inflows and outflows
pub summed : (s : Nets) {i o i2 o2 : List ℤ} → i ≡ i2 → o ≡ o2
    → ◌≡◌ {A = Nets} (record s { inflows = i; outflows = o }) (record s { inflows = i2; outflows = o2 })
summed s e1 e2 = cc

-- the sums over flows in range
pub flow_sums_most : {law : Law} → IsLaw law → (flow : ℕ → ℤ) → ((l : ℕ) → l < law.links → IsFlow (flow l)) → (n : ℕ)
    → (inflow_of law flow n ≤ 2 * 10 ^ 16) × (outflow_of law flow n ≤ 2 * 10 ^ 16)
flow_sums_most {law} good flow range n =
    let share : ℕ → Share = λ l. record { q = flow l; area1 = pos 0; area2 = pos 0; time = pos 0 } in
    let fit : SharesFit law share = record { each = λ k h. no_area (flow k) (range k h) } in
    let ins = parts_most (λ k. in_part (law.ends k) (share k)) (10 ^ 12) law.links n good.few_links (in_most good fit) in
    let outs = parts_most (λ k. out_part (law.ends k) (share k)) (10 ^ 12) law.links n good.few_links (out_most good fit) in
    (subst (λ (x : ℕ). x ≤ 2 * 10 ^ 16) (in_parts law share n) ins, subst (λ (x : ℕ). x ≤ 2 * 10 ^ 16) (out_parts law share n) outs)

-- lists of functions that agree
pub list_same : {A : Type 0} (f g : ℕ → A) (default : A) (count : ℕ) → ((k : ℕ) → k < count → f k ≡ g k) → list_of f count ≡ list_of g count
list_same f g default count same =
    fill_by_all g (list_of f count) count default (length-map-range_with_len f 0 count) (λ k h. listed f count k default h ∙ same k h)

-- the sums over flows that were listed are those over the flows
module _ (law : Law) (flow : ℕ → ℤ) where
  own : (l : ℕ) → l < law.links → number (list_of flow law.links) l ≡ flow l
  own l h = listed flow law.links l (pos 0) h

  pub listed_inflows : list_of (λ n. pos (inflow_of law (number (list_of flow law.links)) n)) law.nodes ≡ list_of (λ n. pos (inflow_of law flow n)) law.nodes
  listed_inflows =
      list_same (λ n. pos (inflow_of law (number (list_of flow law.links)) n)) (λ n. pos (inflow_of law flow n)) (pos 0) law.nodes
      (λ n h. ap pos (inflow_same law (number (list_of flow law.links)) flow n own))

  pub listed_outflows : list_of (λ n. pos (outflow_of law (number (list_of flow law.links)) n)) law.nodes ≡ list_of (λ n. pos (outflow_of law flow n)) law.nodes
  listed_outflows =
      list_same (λ n. pos (outflow_of law (number (list_of flow law.links)) n)) (λ n. pos (outflow_of law flow n)) (pos 0) law.nodes
      (λ n h. ap pos (outflow_same law (number (list_of flow law.links)) flow n own))

  pub listed_sums : (s : Nets) → s.flows ≡ list_of flow law.links → s.inflows ≡ list_of (λ n. pos (inflow_of law flow n)) law.nodes
      → s.outflows ≡ list_of (λ n. pos (outflow_of law flow n)) law.nodes → SumsOf law s
  listed_sums s flows inflows outflows = record {
    inflows = λ n h.
        ap (λ (xs : List ℤ). number xs n) inflows
        ∙ listed (λ n. pos (inflow_of law flow n)) law.nodes n (pos 0) h
        ∙ ap pos (inflow_same law flow (number s.flows) n (λ l k. sym (ap (λ (xs : List ℤ). number xs l) flows ∙ own l k)));
    outflows = λ n h.
        ap (λ (xs : List ℤ). number xs n) outflows
        ∙ listed (λ n. pos (outflow_of law flow n)) law.nodes n (pos 0) h
        ∙ ap pos (outflow_same law flow (number s.flows) n (λ l k. sym (ap (λ (xs : List ℤ). number xs l) flows ∙ own l k)));
  }
