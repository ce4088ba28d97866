-- The trials that lists of events make are those of one worker.
use Rattle.std.proofs.Common.{◌≡◌, ℕ, zero, suc, ◌<◌, ◌≤◌, Bool, true, false, eqb, List, refl, ◌∙◌, arith}
use Rattle.std.proofs.lemmas.Bool.Decides.{nat_tests}
use Rattle.fixed_num.specs.Sums.{below, at}
use Rattle.phase_law.specs.Law.{Law}
use Rattle.phase_law.specs.Laws.{IsLaw}
use Rattle.trial_model.specs.declared.nets.Nets.{Nets}
use Rattle.trial_model.specs.Fits.{Fits}
use Rattle.phase_machine.specs.declared.acts.Event.{Event}
use Rattle.phase_machine.specs.Places.{is_odd, count, nets_in}
use Rattle.phase_machine.specs.Core.{Core, IsStart}
use Rattle.phase_machine.specs.Runs.{Leads, times_finished, LinksDone, NodesDone}
use Rattle.phase_machine.specs.Kept.{Kept}
use Rattle.phase_machine.proofs.Progress.{all_finished}
use Rattle.phase_machine.proofs.Loaded.{links_count, nodes_count}
use Rattle.phase_machine.proofs.Closing.{inflow_list, outflow_list, area_list, flow_list, least_is}
use Rattle.phase_machine.proofs.LeadActs.{made_of_links}
use Rattle.phase_machine.proofs.Starts.{kept_at_start}
use Rattle.phase_machine.proofs.Keeps.{kept_of}

-- one for each number below n
none_before : (x n : ℕ) → n ≤ x → below (λ k. at k 1 x) n ≡ 0
none_before x zero h = refl
none_before x (suc n) h =
    let off : eqb n x ≡ false = grind (arith, nat_tests) in
    let before = none_before x n (omega (arith, h)) in
    rw off (omega (arith, before))

counted_once : (x n : ℕ) → x < n → below (λ k. at k 1 x) n ≡ 1
counted_once x zero h = absurd (omega arith)
counted_once x (suc n) h = by_test (λ less. counted_once x n less) (eqb n x) refl
  where
    by_test : (x < n → below (λ k. at k 1 x) n ≡ 1) → (t : Bool) → eqb n x ≡ t → below (λ k. at k 1 x) (suc n) ≡ 1
    by_test earlier true on =
        let e : n ≡ x = grind (arith, nat_tests) in
        let before = none_before x n (omega (arith, e)) in
        rw on (omega (arith, before))
    by_test earlier false off =
        let less : x < n = grind (arith, nat_tests) in
        let before = earlier less in
        rw off (omega (arith, before))

module _ {law : Law} (good : IsLaw law) (c : Core) (kept : Kept law c) (off : c.is_open ≡ false) where
  each_once : (x : ℕ) → x < count law c.phase → times_finished c x ≡ 1
  each_once x h =
      all_finished c.phase c.index (count law c.phase) c.seats kept.once (kept.all off) (λ k. at k 1 x)
      ∙ counted_once x (count law c.phase) h

  pub links_done : is_odd c.phase ≡ true → LinksDone law c
  unfolding nets_in
  links_done odd =
      let old = kept.links odd in
      let made = made_of_links good c kept odd (kept.all off) in
      record {
        once = λ l h. each_once l (omega (arith, h, links_count law c.phase odd));
        inflows = inflow_list old made;
        outflows = outflow_list old made;
        areas = area_list old made;
        flows = flow_list old made;
        least = least_is old made;
      }

  pub nodes_done : is_odd c.phase ≡ false → 1 ≤ c.phase → NodesDone law c
  nodes_done even some =
      let old = kept.trials even off some in
      record {
        once = λ n h. each_once n (omega (arith, h, nodes_count law c.phase even some));
        trial = old.trial;
        unsettled = λ e. old.unsettled (omega (arith, e));
      }

-- for every list of events
module _ (law : Law) (good : IsLaw law) (nets : Nets) (fits : Fits law nets) (seats : ℕ) (first : Core) (start : IsStart law nets seats first)
    (es : List Event) (c : Core) (leads : Leads law first es c) where
  pub reached : Kept law c
  reached = kept_of good first (kept_at_start fits start) es c leads

  pub links_of_events : is_odd c.phase ≡ true → c.is_open ≡ false → LinksDone law c
  links_of_events odd off = links_done good c reached off odd

  pub nodes_of_events : is_odd c.phase ≡ false → 1 ≤ c.phase → c.is_open ≡ false → NodesDone law c
  nodes_of_events even some off = nodes_done good c reached off even some
