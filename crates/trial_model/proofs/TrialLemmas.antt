-- A trial and so many trials: the state that they leave fits the law, and its inflows and outflows are the sums over
-- its own flows.
use Rattle.std.proofs.Common.{◌≡◌, ℕ, zero, suc, ◌+◌, ◌<◌, ◌≤◌, ℤ, pos, Bool, eqb, List, ◌++◌, length, take, drop, refl, sym, ap, subst, ◌∙◌, arith, add-one}
use Rattle.std.proofs.Math.Seq.{take-append_seam}
use Rattle.std.proofs.lemmas.List.FromFn.{length-map-range_with_len}
use Rattle.phase_law.specs.Law.{Law}
use Rattle.phase_law.specs.Laws.{IsLaw}
use Rattle.phase_law.specs.Ranges.{HeadInRange}
use Rattle.trial_model.specs.declared.nets.Nets.{Nets}
use Rattle.fixed_num.specs.Lists.{number, list_of}
use Rattle.fixed_num.specs.Sums.{least_below}
use Rattle.trial_model.specs.Fits.{Fits}
use Rattle.trial_model.specs.Trial.{share_in, next_in, inflow_of, outflow_of, area_of, with_flows, trial, unsettled_in, SumsOf}
use Rattle.trial_model.specs.RoutingStep.{trials, unsettled_after}
use Rattle.trial_model.proofs.RangeLemmas.{listed, with_flows_fit}
use Rattle.trial_model.proofs.SumLemmas.{inflow_same, outflow_same}

-- a list that was lent whole is what was left behind the loan
pub written_whole : {A : Type 0} (xs ys : List A) → length ys ≡ length xs → take (length xs) (ys ++ drop (length ys) xs) ≡ ys
written_whole xs ys same = rw (sym same) (take-append_seam ys (drop (length ys) xs))

-- the links' half of a trial, part by part
pub with_flows_is : (law : Law) (s : Nets) (first : Bool) {f i o a r : List ℤ} {m : ℤ}
    → f ≡ list_of (λ l. (share_in law s first l).q) law.links
    → i ≡ list_of (λ n. pos (inflow_of law (λ l. (share_in law s first l).q) n)) law.nodes
    → o ≡ list_of (λ n. pos (outflow_of law (λ l. (share_in law s first l).q) n)) law.nodes
    → a ≡ list_of (λ n. pos (area_of law (share_in law s first) n)) law.nodes
    → r ≡ s.heads
    → m ≡ least_below (pos 3_600_000) (λ l. (share_in law s first l).time) law.links
    → ◌≡◌ {A = Nets} (record s { flows = f; inflows = i; outflows = o; areas = a; read_heads = r; least = m }) (with_flows law s first)
unfolding with_flows
with_flows_is law s first e1 e2 e3 e4 e5 e6 = cc

-- a trial leaves a state that fits
pub trial_fits : {law : Law} → IsLaw law → {s : Nets} → Fits law s → (first : Bool) → Fits law (trial law s first)
unfolding trial
trial_fits {law} good {s} fits first =
    let t = with_flows law s first in
    let f = with_flows_fit good fits first in
    let next = next_in law t first in
    record {
      heads = record {
        count = length-map-range_with_len (λ n. (next n).head) 0 law.nodes;
        each = λ n h.
            subst (λ head. HeadInRange law head)
            (sym (listed (λ n. (next n).head) law.nodes n (pos 0) h))
            (good.next_in n _ first _ _ _ _ h (f.nodes.each n h) (f.sums.each n h) (f.read_heads.each n h));
      };
      flows = f.flows;
      sums = f.sums;
      read_heads = f.read_heads;
      links = f.links;
      nodes = f.nodes;
      least = f.least;
    }

-- whose inflows and outflows are the sums over its own flows
pub trial_sums : (law : Law) (s : Nets) (first : Bool) → SumsOf law (trial law s first)
unfolding trial with_flows
trial_sums law s first =
    let flow : ℕ → ℤ = λ l. (share_in law s first l).q in
    let own = λ (l : ℕ) (h : l < law.links). sym (listed flow law.links l (pos 0) h) in
    record {
      inflows = λ n h.
          listed (λ n. pos (inflow_of law flow n)) law.nodes n (pos 0) h
          ∙ ap pos (inflow_same law flow (number (list_of flow law.links)) n own);
      outflows = λ n h.
          listed (λ n. pos (outflow_of law flow n)) law.nodes n (pos 0) h
          ∙ ap pos (outflow_same law flow (number (list_of flow law.links)) n own);
    }

-- one trial more
pub trials_more : (law : Law) (s : Nets) (k : ℕ) → trials law s (k + 1) ≡ trial law (trials law s k) (eqb k 0)
unfolding trials
trials_more law s k = rw add-one refl

pub after_more : (law : Law) (s : Nets) (k : ℕ) → unsettled_after law s (k + 1) ≡ unsettled_in law (trials law s k) (eqb k 0)
unfolding unsettled_after
after_more law s k = rw add-one refl

pub trials_none : (law : Law) (s : Nets) → trials law s 0 ≡ s
unfolding trials
trials_none law s = refl

-- so many trials leave a state that fits
pub trials_fit : {law : Law} → IsLaw law → {s : Nets} → Fits law s → (k : ℕ) → Fits law (trials law s k)
unfolding trials
trials_fit good fits zero = fits
trials_fit good fits (suc k) = trial_fits good (trials_fit good fits k) (eqb k 0)

-- whose inflows and outflows are the sums over its own flows, if one was made
pub trials_sums : (law : Law) (s : Nets) (k : ℕ) → 1 ≤ k → SumsOf law (trials law s k)
unfolding trials
trials_sums law s zero h = absurd (omega arith)
trials_sums law s (suc k) h = trial_sums law (trials law s k) (eqb k 0)
