-- While no phase is open, sums, the least time and the count of unsettled nodes lie in their ranges.
use Rattle.std.proofs.Common.{◌≡◌, ℕ, zero, suc, ◌+◌, ◌-◌, ◌^◌, ◌<◌, inl, inr, Bool, true, false, eqb, if◌then◌else◌}
use Rattle.std.proofs.Common.{ℤ, pos, List, length, slice_set, refl, sym, subst, ◌∙◌, arith}
use Rattle.std.proofs.lemmas.Bool.Decides.{nat_tests}
use Rattle.std.proofs.lemmas.Int.{ints}
use Rattle.fixed_num.specs.Lists.{number}
use Rattle.fixed_num.specs.Ranges.{IsBetween}
use Rattle.phase_law.specs.Law.{Law}
use Rattle.phase_law.specs.Laws.{IsLaw}
use Rattle.trial_model.specs.declared.nets.Nets.{Nets}
use Rattle.trial_model.specs.Fits.{Fits}
use Rattle.trial_model.proofs.LoopLemmas.{number_same, number_other}
use Rattle.trial_model.proofs.RangeLemmas.{with_flows_fit}
use Rattle.phase_machine.specs.declared.acts.Act.{Act}
use Rattle.phase_machine.specs.declared.acts.Act.TheVariants.{Look, Claim, LoadInput, AddFirst, AddSecond}
use Rattle.phase_machine.specs.declared.acts.Act.TheVariants.{AddAreaFirst, AddAreaSecond, OfferTime, PutFlow, Done}
use Rattle.phase_machine.specs.declared.acts.Act.TheVariants.{LoadSums, PutHead, MarkUnsettled, LoadDone, Reset}
use Rattle.phase_machine.specs.declared.acts.Act.TheVariants.{SetFixed, OpenLinks, OpenNodes, Stop}
use Rattle.phase_machine.specs.declared.acts.Event.{Event}
use Rattle.phase_machine.specs.Places.{done_place, unsettled_place, first_place, node_place, least_place, word_count}
use Rattle.phase_machine.specs.Places.{is_odd, count, written, other, is_first, IsRead}
use Rattle.phase_machine.specs.Core.{Core, seat_of}
use Rattle.phase_machine.specs.Kept.{Kept, sum_of, with_links}
use Rattle.phase_machine.specs.Steps.{Can, CanWork, CanLead, after, by_lead, by_worker, looked_done, is_all}
use Rattle.phase_machine.specs.Steps.{words_after, reset_place, reset_value}
use Rattle.phase_machine.proofs.Bounds.{sum_few, unsettled_few, running}
use Rattle.phase_machine.proofs.Fitting.{fits_in}
use Rattle.phase_machine.proofs.PlaceLemmas.{equal_or_not, other_few, written_few, read_within}
use Rattle.phase_machine.proofs.PlaceLemmas.{read_apart_unsettled, read_apart_sum, read_apart_least}
use Rattle.phase_machine.proofs.Resets.{ResetView, of_done, of_unsettled, of_sum, of_least, reset_view, few_of}
use Rattle.node_board.specs.Reached.{IsReached, starts, makes}
use Rattle.node_board.proofs.AmountSteps.{least_low}
use Rattle.node_board.proofs.ReachedLemmas.{kept_of_reached}
use Rattle.node_board.proofs.WorkerSteps.{held}

pub record IsCounted (law : Law) (words : List ℤ) : Type 0 where
  pub sums : (n s : ℕ) → n < law.nodes → s < 3
      → IsBetween (pos 0) (number words (node_place law n (7 + s))) (pos (10 ^ 17))
  pub least : IsBetween (pos 0) (number words (least_place law)) (pos 3_600_000)
  pub unsettled : IsBetween (pos 0) (number words unsettled_place) (pos 20_000)

-- ---- a word that is stored
set_between : (words : List ℤ) (place j : ℕ) (value m : ℤ) → place < length words
    → (j ≡ place → IsBetween (pos 0) value m) → IsBetween (pos 0) (number words j) m
    → IsBetween (pos 0) (number (slice_set words place value) j) m
set_between words place j value m within here old =
    elim (equal_or_not j place) [
      | inl e ↦ subst (λ (i : ℕ). IsBetween (pos 0) (number (slice_set words place value) i) m) (sym e)
          (subst (λ (v : ℤ). IsBetween (pos 0) v m) (sym (number_same words place value within)) (here e))
      | inr differ ↦
          subst (λ (v : ℤ). IsBetween (pos 0) v m) (sym (number_other words place j value differ)) old
    ]

module _ {law : Law} {words : List ℤ} (old : IsCounted law words) where
  -- a word that a trial reads is none of them
  read_counted : (b place : ℕ) (value : ℤ) → b < 2 → IsRead law b place → place < length words
      → IsCounted law (slice_set words place value)
  read_counted b place value few read within = record {
    sums = λ n s h less.
        set_between words place (node_place law n (7 + s)) value (pos (10 ^ 17)) within
        (λ e. absurd (read_apart_sum few read n s h less (sym e))) (old.sums n s h less);
    least = set_between words place (least_place law) value (pos 3_600_000) within
        (λ e. absurd (read_apart_least few read (sym e))) old.least;
    unsettled = set_between words place unsettled_place value (pos 20_000) within
        (λ e. absurd (read_apart_unsettled read (sym e))) old.unsettled;
  }

  -- a reset stores 0 in all but the least word
  none_counted : (place : ℕ) → place < length words → IsCounted law (slice_set words place (pos 0))
  none_counted place within = record {
    sums = λ n s h less.
        set_between words place (node_place law n (7 + s)) (pos 0) (pos (10 ^ 17)) within
        (λ e. record { from = omega (arith, ints); to = omega (arith, ints) }) (old.sums n s h less);
    least = set_between words place (least_place law) (pos 0) (pos 3_600_000) within
        (λ e. record { from = omega (arith, ints); to = omega (arith, ints) }) old.least;
    unsettled = set_between words place unsettled_place (pos 0) (pos 20_000) within
        (λ e. record { from = omega (arith, ints); to = omega (arith, ints) }) old.unsettled;
  }

  least_counted : least_place law < length words
      → IsCounted law (slice_set words (least_place law) (pos 3_600_000))
  least_counted within = record {
    sums = λ n s h less.
        set_between words (least_place law) (node_place law n (7 + s)) (pos 3_600_000) (pos (10 ^ 17)) within
        (λ e. absurd (omega (arith, e, h, less))) (old.sums n s h less);
    least = set_between words (least_place law) (least_place law) (pos 3_600_000) (pos 3_600_000) within
        (λ e. record { from = omega (arith, ints); to = omega (arith, ints) }) old.least;
    unsettled = set_between words (least_place law) unsettled_place (pos 3_600_000) (pos 20_000) within
        (λ e. absurd (omega (arith, e))) old.unsettled;
  }

  reset_counted : (r : ℕ) → length words ≡ word_count law → ResetView law r
      → IsCounted law (slice_set words (reset_place law r) (reset_value law r))
  reset_counted r size (of_done e p v) =
      rw (p, v) (none_counted done_place (omega (arith, size)))
  reset_counted r size (of_unsettled e p v) =
      rw (p, v) (none_counted unsettled_place (omega (arith, size)))
  reset_counted r size (of_sum n s h few e p v) =
      rw (p, v) (none_counted (node_place law n (7 + s)) (omega (arith, size, h, few)))
  reset_counted r size (of_least e p v) =
      rw (p, v) (least_counted (omega (arith, size)))

-- ---- an open phase
module _ {law : Law} (good : IsLaw law) (c : Core) (kept : Kept law c) where
  sum_between : (t : Nets) → Fits law t → (n s : ℕ) → n < law.nodes → s < 3
      → IsBetween (pos 0) (sum_of t n s) (pos (10 ^ 17))
  sum_between t fits n zero h few =
      let range = fits.sums.each n h in
      record { from = range.inflow_in.from; to = omega (arith, ints, range.inflow_in.to) }
  sum_between t fits n (suc zero) h few =
      let range = fits.sums.each n h in
      record { from = range.outflow_in.from; to = omega (arith, ints, range.outflow_in.to) }
  sum_between t fits n (suc (suc zero)) h few =
      let range = fits.sums.each n h in
      record { from = range.area_in.from; to = omega (arith, ints, range.area_in.to) }
  sum_between t fits n (suc (suc (suc s))) h few = absurd (omega arith)

  links_counted : is_odd c.phase ≡ true → IsCounted law c.words
  links_counted odd =
      let old = kept.links odd in
      record {
        sums = λ n s h few.
            let is = old.sums n s h few in
            let most = sum_few good c kept odd n s h few in
            record { from = omega (arith, ints, is); to = omega (arith, ints, most) };
        least =
            let low = least_low good c kept odd in
            let most = old.least_most in
            record { from = omega (arith, ints, low); to = omega (arith, ints, most) };
        unsettled =
            let none = old.unsettled in
            record { from = omega (arith, ints, none); to = omega (arith, ints, none) };
      }

  with_links_fit : Fits law (with_links law c.opened c.phase)
  with_links_fit =
      with_flows_fit good
      (fits_in law c.opened kept.opened_ranges kept.opened_sums kept.opened_least (other (written c.phase))
      (other_few (written c.phase)))
      (is_first (number c.opened first_place))

  nodes_counted : is_odd c.phase ≡ false → c.is_open ≡ true → IsCounted law c.words
  nodes_counted even on =
      let old = kept.nodes even on in
      record {
        sums = λ n s h few.
            subst (λ (v : ℤ). IsBetween (pos 0) v (pos (10 ^ 17))) (sym (old.sums n s h few))
            (sum_between (with_links law c.opened c.phase) with_links_fit n s h few);
        least =
            subst (λ (v : ℤ). IsBetween (pos 0) v (pos 3_600_000)) (sym old.least) with_links_fit.least;
        unsettled =
            let is = old.unsettled in
            let most = unsettled_few good c kept even on in
            record { from = omega (arith, ints, is); to = omega (arith, ints, most) };
      }

  open_counted : c.is_open ≡ true → IsCounted law c.words
  open_counted on = by_kind (is_odd c.phase) refl
    where
      by_kind : (t : Bool) → is_odd c.phase ≡ t → IsCounted law c.words
      by_kind true odd = links_counted odd
      by_kind false even = nodes_counted even on

  -- no worker changes a word while no phase is open
  calm : c.is_open ≡ false → (i : ℕ) (act : Act) → CanWork law (seat_of c i) act
      → words_after law c (seat_of c i) act ≡ c.words
  calm off i act can =
      elim (held law (seat_of c i) act can) [
        | inl begun ↦ let on = running good c kept i begun in let no : true ≡ false = sym on ∙ off in cc
        | inr same ↦ same c
      ]

  -- ---- a step
  module _ (old : c.is_open ≡ false → IsCounted law c.words) where
    looked_counted : c.is_open ≡ true → (t : Bool) → IsCounted law (looked_done law c t).words
    looked_counted on true = open_counted on
    looked_counted on false = open_counted on

    lead_counted : (act : Act) → CanLead law c act → (by_lead law c act).is_open ≡ false
        → IsCounted law (by_lead law c act).words
    lead_counted LoadDone can off = looked_counted can (is_all (number c.words done_place) (count law c.phase))
    lead_counted Reset can off =
        let most = few_of law c.phase in
        reset_counted (old can.0.0) c.resets kept.words (reset_view law c.resets (omega (arith, can.1, most)))
    lead_counted (SetFixed word value) can off =
        let e : word - 1 ≡ can.2.0 = omega (arith, can.2.1) in
        let within = read_within (written_few c.phase) can.2.2 in
        subst (λ (j : ℕ). IsCounted law (slice_set c.words j value)) (sym e)
        (read_counted (old can.0.0) (written c.phase) can.2.0 value (written_few c.phase) can.2.2
        (omega (arith, within, kept.words)))
    lead_counted OpenLinks can off = let no : true ≡ false = off in cc
    lead_counted OpenNodes can off = let no : true ≡ false = off in cc
    lead_counted Stop can off = old off
    lead_counted Look can off = absurd can
    lead_counted Claim can off = absurd can
    lead_counted LoadInput can off = absurd can
    lead_counted AddFirst can off = absurd can
    lead_counted AddSecond can off = absurd can
    lead_counted AddAreaFirst can off = absurd can
    lead_counted AddAreaSecond can off = absurd can
    lead_counted OfferTime can off = absurd can
    lead_counted PutFlow can off = absurd can
    lead_counted Done can off = absurd can
    lead_counted LoadSums can off = absurd can
    lead_counted PutHead can off = absurd can
    lead_counted MarkUnsettled can off = absurd can

    worker_counted : (i : ℕ) (act : Act) → CanWork law (seat_of c i) act → c.is_open ≡ false
        → IsCounted law (by_worker law c i act).words
    worker_counted i act can off =
        subst (λ (words : List ℤ). IsCounted law words) (sym (calm off i act can)) (old off)

    after_counted : (e : Event) → Can law c e → (after law c e).is_open ≡ false
        → IsCounted law (after law c e).words
    unfolding after
    after_counted e can = by_seat (eqb e.seat 0) refl
      where
        by_seat : (t : Bool) → eqb e.seat 0 ≡ t
            → (if t then by_lead law c e.act else by_worker law c e.seat e.act).is_open ≡ false
            → IsCounted law (if t then by_lead law c e.act else by_worker law c e.seat e.act).words
        by_seat true on off = lead_counted e.act (can.lead (grind (arith, nat_tests))) off
        by_seat false later off = worker_counted e.seat e.act (can.worker (grind (arith, nat_tests))) off

pub shut_counted : (law : Law) → IsLaw law → (n : ℕ) (c : Core) → IsReached law n c → c.is_open ≡ false
    → IsCounted law c.words
shut_counted law good n _ (starts c start) off = record {
  sums = λ m s h few.
      let none = start.sums m s h few in
      record { from = omega (arith, ints, none); to = omega (arith, ints, none) };
  least = let is = start.least in record { from = omega (arith, ints, is); to = omega (arith, ints, is) };
  unsettled =
      let none = start.unsettled in record { from = omega (arith, ints, none); to = omega (arith, ints, none) };
}
shut_counted law good n _ (makes c e r can) off =
    after_counted good c (kept_of_reached law n c good r) (shut_counted law good n c r) e can off
