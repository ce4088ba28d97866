-- The acts of the lead keep what holds of a core.
use Rattle.std.proofs.Common.{◌≡◌, ℕ, zero, suc, ◌+◌, ◌*◌, ◌%◌, ◌<◌, ◌≤◌, Bool, true, false, eqb, nat_lt, min, if◌then◌else◌, inl, inr, ℤ, pos, List, [], ◌∷◌, length, slice_set, slice_index_or, refl, sym, ap, subst, ◌∙◌, arith}
use Rattle.std.proofs.lemmas.Int.{ints}
use Rattle.std.proofs.lemmas.Bool.Decides.{nat_tests}
use Rattle.std.proofs.lemmas.Bool.{eq-eqb}
use Rattle.fixed_num.specs.Lists.{number}
use Rattle.fixed_num.specs.Sums.{below}
use Rattle.phase_law.specs.Law.{Law}
use Rattle.phase_law.specs.Laws.{IsLaw}
use Rattle.trial_model.proofs.LoopLemmas.{number_same, number_other}
use Rattle.phase_machine.specs.declared.work.Work.{Work}
use Rattle.phase_machine.specs.Places.{done_place, unsettled_place, node_place, least_place, is_odd, count, written, other, IsRead, IsInRange}
use Rattle.phase_machine.specs.Core.{Core, idle, seat_of}
use Rattle.phase_machine.specs.Steps.{reset_count, reset_place, reset_value, closed_by}
use Rattle.phase_machine.specs.Runs.{total}
use Rattle.phase_machine.specs.Kept.{so_far, finished_sum, looks, claims, sum_parts, late, flow_off, head_off, marks, shares, nexts, LinkKept, NodeKept, Kept}
use Rattle.phase_machine.proofs.Totals.{total_most, total_none, total_at, total_one}
use Rattle.phase_machine.proofs.PlaceLemmas.{equal_or_not, written_few, ranges_set}
use Rattle.phase_machine.proofs.Progress.{so_far_other, finished_other, holding, none_held, all_made}
use Rattle.phase_machine.proofs.Loaded.{links_count, nodes_count}
use Rattle.phase_machine.proofs.HeldActs.{not_both, length_set}
use Rattle.phase_machine.proofs.Claims.{link_done}
use Rattle.phase_machine.proofs.Closing.{flows_are, least_is, sums_are, trial_is, unsettled_is}
use Rattle.phase_machine.proofs.Resets.{ResetView, reset_view, reset_within, reset_range, reset_unread, resets_apart, sum_reset, least_reset, few_of}

pub index_past : {A : Type 0} (xs : List A) (i : ℕ) (default : A) → length xs ≤ i → slice_index_or xs i default ≡ default
index_past [] i default h = refl
index_past (x ∷ xs) zero default h = absurd (omega arith)
index_past (x ∷ xs) (suc i) default h = index_past xs i default (omega arith)

-- the phase after an odd one is even, and the other way round
pub next_even : (p : ℕ) → is_odd p ≡ true → is_odd (p + 1) ≡ false
next_even p odd =
    let h : p % 2 ≡ 1 = grind (arith, nat_tests) in
    let e : (p + 1) % 2 ≡ 0 = omega (arith, h) in
    rw e refl

pub next_odd : (p : ℕ) → is_odd p ≡ false → is_odd (p + 1) ≡ true
next_odd p even =
    let h : ¬ (p % 2 ≡ 1) = λ e. let on : is_odd p ≡ true = eq-eqb _ _ e in cc in
    let e : (p + 1) % 2 ≡ 1 = omega (arith, h) in
    rw e refl

-- a trial's two phases write one buffer
pub written_next : (p : ℕ) → is_odd p ≡ true → written (p + 1) ≡ written p
written_next p odd =
    let h : p % 2 ≡ 1 = grind (arith, nat_tests) in
    omega (arith, h)

module _ {law : Law} (good : IsLaw law) (c : Core) (kept : Kept law c) where
  -- once all items are done, no seat has one
  pub no_items : total (finished_sum c.phase (λ _. 1)) c.seats ≡ count law c.phase → (i : ℕ) → 1 ≤ (seat_of c i).stage → ⊥
  no_items all i some =
      let none = none_held c.phase c.index (count law c.phase) c.seats kept.once all in
      let tag = ((kept.seats i).item some).tag in
      let on : eqb (seat_of c i).tag c.phase ≡ true = eq-eqb _ _ tag in
      let off : eqb (seat_of c i).stage 0 ≡ false = grind (arith, nat_tests) in
      let one : holding c.phase (seat_of c i) ≡ 1 = rw (on, off) refl in
      let most = total_one (holding c.phase) c.seats i idle (inside i some) in
      omega (arith, none, one, most)
    where
      inside : (i : ℕ) → 1 ≤ (seat_of c i).stage → i < length c.seats
      inside i some = by_test (nat_lt i (length c.seats)) refl
        where
          by_test : (t : Bool) → nat_lt i (length c.seats) ≡ t → i < length c.seats
          by_test true on = grind (arith, nat_tests)
          by_test false off =
              let past : length c.seats ≤ i = grind (arith, nat_tests) in
              let e : (seat_of c i).stage ≡ 0 = ap (λ (w : Work). w.stage) (index_past c.seats i idle past) in
              absurd (omega (arith, e, some))

  pub made_of_links : is_odd c.phase ≡ true → total (finished_sum c.phase (λ _. 1)) c.seats ≡ count law c.phase
      → (am : ℕ → ℕ → ℕ) → total (so_far c.phase am) c.seats ≡ below (λ x. below (λ k. am k x) 15) law.links
  made_of_links odd all am =
      all_made c.phase c.index (count law c.phase) c.seats kept.once all am
      ∙ ap (below (λ x. below (λ k. am k x) 15)) (links_count law c.phase odd)

  pub made_of_nodes : is_odd c.phase ≡ false → 1 ≤ c.phase → total (finished_sum c.phase (λ _. 1)) c.seats ≡ count law c.phase
      → (am : ℕ → ℕ → ℕ) → total (so_far c.phase am) c.seats ≡ below (λ x. below (λ k. am k x) 15) law.nodes
  made_of_nodes even some all am =
      all_made c.phase c.index (count law c.phase) c.seats kept.once all am
      ∙ ap (below (λ x. below (λ k. am k x) 15)) (nodes_count law c.phase even some)

  -- ---- a phase is closed
  pub keeps_close : c.is_open ≡ true → number c.words done_place ≡ pos (count law c.phase) → Kept law (closed_by law c)
  keeps_close on counted = record {
    words = kept.words;
    ranges = kept.ranges;
    opened_ranges = kept.opened_ranges;
    opened_sums = kept.opened_sums;
    opened_least = kept.opened_least;
    seats = λ i. record {
      tag = (kept.seats i).tag;
      look = (kept.seats i).look;
      item = λ some. absurd (no_items all i some);
    };
    once = kept.once;
    few = kept.few;
    done = λ on. absurd (not_both on refl);
    all = λ _. all;
    links = kept.links;
    nodes = λ even on. absurd (not_both on refl);
    trials = λ even off some.
        let old = kept.nodes even on in
        let made = made_of_nodes even some all in
        record {
          trial = rw even (trial_is old made);
          unsettled = λ _. unsettled_is old made;
        };
    few_resets = λ _. omega arith;
    resets = λ off r h. absurd (omega arith);
  }
    where
      all : total (finished_sum c.phase (λ _. 1)) c.seats ≡ count law c.phase
      all = let done = kept.done on in omega (arith, ints, counted, done)

  -- ---- a word is reset
  module _ (off : c.is_open ≡ false) (few : c.resets < reset_count law c.phase) where
    view : ResetView law c.resets
    view = reset_view law c.resets (let most = few_of law c.phase in omega (arith, few, most))

    within : reset_place law c.resets < length c.words
    within = let w = reset_within view in omega (arith, w, kept.words)

    pub keeps_reset : Kept law (record c { words = slice_set c.words (reset_place law c.resets) (reset_value law c.resets); resets = c.resets + 1 })
    keeps_reset =
        let place = reset_place law c.resets in
        let v = reset_value law c.resets in
        record {
          words = length_set c.words place v ∙ kept.words;
          ranges = ranges_set c.words kept.ranges place v within (reset_range view v);
          opened_ranges = kept.opened_ranges;
          opened_sums = kept.opened_sums;
          opened_least = kept.opened_least;
          seats = kept.seats;
          once = kept.once;
          few = kept.few;
          done = λ on. absurd (not_both on off);
          all = kept.all;
          links = λ odd. subst (λ (p : ℕ). LinkKept law c.opened (slice_set c.words p (reset_value law c.resets)) c.phase c.seats) (sym (of_links odd))
              (link_done (reset_value law c.resets) (kept.links odd));
          nodes = λ even on. absurd (not_both on off);
          trials = λ even off some. record {
            trial = (kept.trials even off some).trial;
            unsettled = λ h.
                let first : c.resets ≡ 0 = omega (arith, h) in
                let at : reset_place law c.resets ≡ 0 = ap (reset_place law) first in
                number_other c.words place unsettled_place v (λ e. omega (arith, e, at)) ∙ (kept.trials even off some).unsettled (omega (arith, first));
          };
          few_resets = λ _. omega (arith, few);
          resets = λ _ r h.
              elim (equal_or_not r c.resets) [
                | inl e ↦ subst (λ (t : ℕ). number (slice_set c.words (reset_place law c.resets) (reset_value law c.resets)) (reset_place law t) ≡ reset_value law t) (sym e)
                    (number_same c.words (reset_place law c.resets) (reset_value law c.resets) within)
                | inr differ ↦
                    number_other c.words place (reset_place law r) v (apart r h differ) ∙ kept.resets off r (omega (arith, h, differ))
              ];
        }
      where
        of_links : is_odd c.phase ≡ true → reset_place law c.resets ≡ done_place
        of_links odd =
            let one : c.resets < 1 = subst (λ (t : Bool). c.resets < (if t then 1 else 3 + 3 * law.nodes)) odd few in
            let first : c.resets ≡ 0 = omega (arith, one) in
            ap (reset_place law) first

        apart : (r : ℕ) → r < c.resets + 1 → ¬ (r ≡ c.resets) → ¬ (reset_place law r ≡ reset_place law c.resets)
        apart r h differ =
            let most = few_of law c.phase in
            resets_apart (reset_view law r (omega (arith, h, few, most))) view differ

  -- ---- a word that the next trial reads is set
  pub keeps_set : c.is_open ≡ false → is_odd c.phase ≡ false → (place : ℕ) (value : ℤ) → IsRead law (written c.phase) place → IsInRange law place value
      → place < length c.words → Kept law (record c { words = slice_set c.words place value })
  keeps_set off even place value read range inside = record {
    words = length_set c.words place value ∙ kept.words;
    ranges = ranges_set c.words kept.ranges place value inside range;
    opened_ranges = kept.opened_ranges;
    opened_sums = kept.opened_sums;
    opened_least = kept.opened_least;
    seats = kept.seats;
    once = kept.once;
    few = kept.few;
    done = λ on. absurd (not_both on off);
    all = kept.all;
    links = λ odd. absurd (not_both odd even);
    nodes = λ even on. absurd (not_both on off);
    trials = λ even off some. record {
      trial = (kept.trials even off some).trial;
      unsettled = λ h. number_other c.words place unsettled_place value (λ e. unread 1 (omega arith) (sym e)) ∙ (kept.trials even off some).unsettled h;
    };
    few_resets = kept.few_resets;
    resets = λ _ r h.
        let most = few_of law c.phase in
        let few = kept.few_resets off in
        number_other c.words place (reset_place law r) value (λ e. unread r (omega (arith, h, few, most)) (sym e)) ∙ kept.resets off r h;
  }
    where
      unread : (r : ℕ) → r < 3 + 3 * law.nodes → ¬ (place ≡ reset_place law r)
      unread r h = reset_unread (reset_view law r h) (written_few c.phase) read

  -- ---- a phase is opened: no seat has anything of it
  nothing_yet : (am : ℕ → ℕ → ℕ) → total (so_far (c.phase + 1) am) c.seats ≡ 0
  nothing_yet am =
      total_at (so_far (c.phase + 1) am) (λ _. 0) c.seats idle
      (λ i. so_far_other (c.phase + 1) am (seat_of c i) (λ e. let past = (kept.seats i).tag in omega (arith, e, past)))
      ∙ total_none (λ _. 0) c.seats (λ w. refl)

  nothing_finished : total (finished_sum (c.phase + 1) (λ _. 1)) c.seats ≡ 0
  nothing_finished =
      total_at (finished_sum (c.phase + 1) (λ _. 1)) (λ _. 0) c.seats idle
      (λ i. finished_other (c.phase + 1) (λ _. 1) (seat_of c i) (λ e. let past = (kept.seats i).tag in omega (arith, e, past)))
      ∙ total_none (λ _. 0) c.seats (λ w. refl)

  least_none : (n : ℕ) → min 0 n ≡ 0
  least_none n = omega arith

  few_looks : total looks c.seats ≤ length c.seats
  few_looks = total_most looks c.seats look_most
    where
      look_most : (w : Work) → looks w ≤ 1
      look_most w = grind (arith, nat_tests)

  module _ (off : c.is_open ≡ false) (all : c.resets ≡ reset_count law c.phase) where
    was_reset : (r : ℕ) → r < reset_count law c.phase → number c.words (reset_place law r) ≡ reset_value law r
    was_reset r h = kept.resets off r (omega (arith, h, all))

    some_resets : 0 < reset_count law c.phase
    some_resets = by_kind (is_odd c.phase)
      where
        by_kind : (t : Bool) → 0 < (if t then 1 else 3 + 3 * law.nodes)
        by_kind true = omega arith
        by_kind false = omega arith

    none_done : number c.words done_place ≡ pos 0
    none_done = was_reset 0 some_resets ∙ zero_value
      where
        zero_value : reset_value law 0 ≡ pos 0
        zero_value = let on : nat_lt 0 (2 + 3 * law.nodes) ≡ true = grind (arith, nat_tests) in rw on refl

    free : (i : ℕ) → 1 ≤ (seat_of c i).stage → ⊥
    free = no_items (kept.all off)

    pub keeps_open_links : is_odd c.phase ≡ false → Kept law (record c { phase = c.phase + 1; is_open = true; index = 0; opened = c.words })
    keeps_open_links even = record {
      words = kept.words;
      ranges = kept.ranges;
      opened_ranges = kept.ranges;
      opened_sums = sums_zero;
      opened_least = least_full;
      seats = λ i. record {
        tag = let past = (kept.seats i).tag in omega (arith, past);
        look = let past = (kept.seats i).look in omega (arith, past);
        item = λ some. absurd (free i some);
      };
      once = λ f. nothing_yet (claims f) ∙ ap (below f) (sym (least_none (count law (c.phase + 1))));
      few = omega (arith, few_looks);
      done = λ _. none_done ∙ ap pos (sym nothing_finished);
      all = λ off. absurd (not_both refl off);
      links = λ _. record {
        frozen = λ j read. refl;
        unsettled = unsettled_zero;
        sums = λ n s h few. sums_zero n s h few ∙ ap pos (sym (nothing_yet (sum_parts law (shares law c.words (c.phase + 1)) n s)));
        least_most = omega (arith, ints, least_full);
        least_one = inl least_full;
        least_each = nothing_yet (late (shares law c.words (c.phase + 1)) (number c.words (least_place law)));
        flows = nothing_yet (flow_off law (shares law c.words (c.phase + 1)) c.words (written (c.phase + 1)));
      };
      nodes = λ odd on. absurd (not_both (next_odd c.phase even) odd);
      trials = λ odd off. absurd (not_both refl off);
      few_resets = λ off. absurd (not_both refl off);
      resets = λ off. absurd (not_both refl off);
    }
      where
        full : reset_count law c.phase ≡ 3 + 3 * law.nodes
        full = rw even refl

        unsettled_zero : number c.words unsettled_place ≡ pos 0
        unsettled_zero = was_reset 1 (omega (arith, full)) ∙ zero_value
          where
            zero_value : reset_value law 1 ≡ pos 0
            zero_value = let on : nat_lt 1 (2 + 3 * law.nodes) ≡ true = grind (arith, nat_tests) in rw on refl

        sums_zero : (n s : ℕ) → n < law.nodes → s < 3 → number c.words (node_place law n (7 + s)) ≡ pos 0
        sums_zero n s h few =
            let at = sum_reset law n s h few in
            ap (number c.words) (sym at.0) ∙ was_reset (2 + 3 * n + s) (omega (arith, h, few, full)) ∙ at.1

        least_full : number c.words (least_place law) ≡ pos 3_600_000
        least_full =
            let at = least_reset law in
            ap (number c.words) (sym at.0) ∙ was_reset (2 + 3 * law.nodes) (omega (arith, full)) ∙ at.1

    pub keeps_open_nodes : is_odd c.phase ≡ true → Kept law (record c { phase = c.phase + 1; is_open = true; index = 0 })
    keeps_open_nodes odd = record {
      words = kept.words;
      ranges = kept.ranges;
      opened_ranges = kept.opened_ranges;
      opened_sums = kept.opened_sums;
      opened_least = kept.opened_least;
      seats = λ i. record {
        tag = let past = (kept.seats i).tag in omega (arith, past);
        look = let past = (kept.seats i).look in omega (arith, past);
        item = λ some. absurd (free i some);
      };
      once = λ f. nothing_yet (claims f) ∙ ap (below f) (sym (least_none (count law (c.phase + 1))));
      few = omega (arith, few_looks);
      done = λ _. none_done ∙ ap pos (sym nothing_finished);
      all = λ off. absurd (not_both refl off);
      links = λ again. absurd (not_both again (next_even c.phase odd));
      nodes = λ _ _. of_links;
      trials = λ even off. absurd (not_both refl off);
      few_resets = λ off. absurd (not_both refl off);
      resets = λ off. absurd (not_both refl off);
    }
      where
        old : LinkKept law c.opened c.words c.phase c.seats
        old = kept.links odd

        made : (am : ℕ → ℕ → ℕ) → total (so_far c.phase am) c.seats ≡ below (λ x. below (λ k. am k x) 15) law.links
        made = made_of_links odd (kept.all off)

        of_links : NodeKept law c.opened c.words (c.phase + 1) c.seats
        of_links =
            let e = written_next c.phase odd in
            record {
              frozen = λ j read. old.frozen j (subst (λ (b : ℕ). IsRead law (other b) j) e read);
              sums = λ n s h few. rw e (sums_are old made n s h few);
              least = rw e (least_is old made);
              flows = λ l h. rw e (flows_are old made l h);
              unsettled = old.unsettled ∙ ap pos (sym (nothing_yet (marks (nexts law c.opened (c.phase + 1)))));
              heads = nothing_yet (head_off law (nexts law c.opened (c.phase + 1)) c.words (written (c.phase + 1)));
            }

  -- ---- the machine is stopped
  pub keeps_stop : Kept law (record c { stopped = true })
  keeps_stop = record {
    words = kept.words;
    ranges = kept.ranges;
    opened_ranges = kept.opened_ranges;
    opened_sums = kept.opened_sums;
    opened_least = kept.opened_least;
    seats = kept.seats;
    once = kept.once;
    few = kept.few;
    done = kept.done;
    all = kept.all;
    links = kept.links;
    nodes = kept.nodes;
    trials = λ even off some. record { trial = (kept.trials even off some).trial; unsettled = (kept.trials even off some).unsettled };
    few_resets = kept.few_resets;
    resets = kept.resets;
  }
