-- The lateral inflows of all nodes: what their own lines give, and what runs off to them.
use Rattle.std.proofs.Common.{◌≡◌, ◌∙◌, ℕ, ◌^◌, ◌<◌, List, length, ℤ, pos, neg_ℤ, ◌+ℤ◌, ap, subst, sym}
use Rattle.std.proofs.lemmas.List.FromFn.{fill_by_all, length-map-range_with_len}
use Rattle.fixed_num.specs.Lists.{number, list_of}
use Rattle.fixed_num.specs.Ranges.{IsWithin, cut_of}
use Rattle.fixed_num.proofs.Bounds.{le_number, within_cut, within_minus, within_number}
use Rattle.net_types.specs.declared.project.Project.{Project}
use Rattle.runoff_states.specs.RunoffTimes.{runoff_at}
use Rattle.time_series.specs.LateralFlow.{lateral_at}
use Rattle.trial_model.proofs.RangeLemmas.{listed}
use Rattle.run_engine.specs.Laterals.{laterals_at, node_lateral, runoff_start}
use Rattle.run_engine.specs.declared.start.Start.{Start}

own_of : (project : Project) (moment : ℤ) {flows : List ℤ} → flows ≡ list_of (λ n. lateral_at project n moment) (length project.nodes)
    → (n : ℕ) → n < length project.nodes → number flows n ≡ lateral_at project n moment
own_of project moment is n inside =
    ap (λ (xs : List ℤ). number xs n) is ∙ listed (λ k. lateral_at project k moment) (length project.nodes) n (pos 0) inside

own_within : (project : Project) (n : ℕ) (moment : ℤ) → IsWithin (10 ^ 12) (lateral_at project n moment)
own_within project n moment = record { within = (within_cut _ (le_number tt) (within_minus (10 ^ 12)) (within_number (10 ^ 12))).within }

pub own_small : (project : Project) (moment : ℤ) {flows : List ℤ} → flows ≡ list_of (λ n. lateral_at project n moment) (length project.nodes)
    → (n : ℕ) → n < length project.nodes → IsWithin (10 ^ 12) (number flows n)
own_small project moment is n inside =
    subst (IsWithin (10 ^ 12)) (sym (own_of project moment is n inside)) (own_within project n moment)

pub laterals_found : (start : Start) (moment : ℤ) {flows found : List ℤ}
    → flows ≡ list_of (λ n. lateral_at start.project n moment) (length start.project.nodes) → length found ≡ length flows
    → ((n : ℕ) → n < length start.project.nodes → number found n
    ≡ cut_of (number flows n +ℤ runoff_at start.project (runoff_start start) moment n) (neg_ℤ (pos (10 ^ 12))) (pos (10 ^ 12)))
    → found ≡ laterals_at start moment
unfolding node_lateral
laterals_found start moment {flows} {found} is count each =
    let many = ap (λ (xs : List ℤ). length xs) is ∙ length-map-range_with_len (λ k. lateral_at start.project k moment) 0 (length start.project.nodes) in
    fill_by_all (λ n. node_lateral start n moment) found (length start.project.nodes) (pos 0) (count ∙ many)
    (λ n inside. each n inside
    ∙ ap (λ (x : ℤ). cut_of (x +ℤ runoff_at start.project (runoff_start start) moment n) (neg_ℤ (pos (10 ^ 12))) (pos (10 ^ 12)))
    (own_of start.project moment is n inside))
