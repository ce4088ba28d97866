-- Each act of a seat on its item keeps what holds of a core.
use Rattle.std.proofs.Common.{◌≡◌, ℕ, zero, suc, ◌+◌, ◌-◌, ◌<◌, ◌≤◌, Bool, true, false, eqb, nat_lt, if◌then◌else◌, ◌⊎◌, inl, inr, ℤ, pos, ◌+ℤ◌, List, [], ◌∷◌, length, slice_set, slice_index_or, refl, sym, ap, subst, ◌∙◌, arith}
use Rattle.std.specs.Int.{int_min}
use Rattle.std.proofs.lemmas.Int.{ints, clamps}
use Rattle.std.proofs.lemmas.Bool.Decides.{nat_tests}
use Rattle.std.proofs.lemmas.List.{get_or-set_same, get_or-set_other}
use Rattle.fixed_num.specs.Lists.{number}
use Rattle.fixed_num.proofs.SumLemmas.{at_other}
use Rattle.phase_law.specs.Law.{Law}
use Rattle.phase_law.specs.Laws.{IsLaw}
use Rattle.phase_law.specs.declared.values.NodeNext.{NodeNext}
use Rattle.phase_law.specs.declared.values.Share.{Share}
use Rattle.trial_model.specs.Fits.{Fits}
use Rattle.trial_model.specs.Trial.{unsettled_part}
use Rattle.trial_model.proofs.LoopLemmas.{number_same, number_other}
use Rattle.phase_machine.specs.declared.work.Work.{Work}
use Rattle.phase_machine.specs.Places.{done_place, unsettled_place, link_place, node_place, least_place, word_count, is_odd, count, written, other, nets_in, IsInRange}
use Rattle.phase_machine.specs.Core.{Core, idle, seat_of}
use Rattle.phase_machine.specs.Items.{link_input, node_input, input_place, share_at, next_at, Deposit}
use Rattle.phase_machine.specs.Steps.{further, loaded_more, added, deposited}
use Rattle.phase_machine.specs.Kept.{finished_sum, looks, claims, part_of, sum_parts, marks, shares, with_links, nexts, sum_of, input_of, HasItem, SeatKept, NodeKept, Kept}
use Rattle.phase_machine.proofs.Totals.{total_kept}
use Rattle.phase_machine.proofs.PlaceLemmas.{equal_or_not, written_few, other_few, read_apart_unsettled, read_apart_sum, read_apart_least, read_apart_flow, read_apart_head, unsettled_range, sum_range, least_range, flow_range, head_range, ranges_set}
use Rattle.phase_machine.proofs.Loaded.{nodes_count, item_link, link_input_read, node_input_read, share_is, next_is, has_loaded, has_further}
use Rattle.phase_machine.proofs.Parts.{no_parts, no_parts_late, the_mark, no_mark}
use Rattle.phase_machine.proofs.Effects.{GoesOn, LinkEffect, NodeEffect, total_next, link_kept, node_kept}
use Rattle.phase_machine.proofs.Fitting.{fits_in, share_fits, next_fits}

pub not_both : {b : Bool} → b ≡ true → b ≡ false → ⊥
not_both on off = cc

pub length_set : {A : Type 0} (xs : List A) (i : ℕ) (y : A) → length (slice_set xs i y) ≡ length xs
length_set [] i y = refl
length_set (x ∷ xs) zero y = refl
length_set (x ∷ xs) (suc i) y = omega (arith, length_set xs i y)

-- one seat changes
pub seats_set : {law : Law} {opened : List ℤ} {phase : ℕ} {on : Bool} (seats : List Work)
    → ((i : ℕ) → SeatKept law opened phase on (slice_index_or seats i idle)) → (i : ℕ) (new : Work) → i < length seats
    → SeatKept law opened phase on new → (j : ℕ) → SeatKept law opened phase on (slice_index_or (slice_set seats i new) j idle)
seats_set {law} {opened} {phase} {on} seats kept i new within one j =
    elim (equal_or_not j i) [
      | inl e ↦ subst (λ (k : ℕ). SeatKept law opened phase on (slice_index_or (slice_set seats i new) k idle)) (sym e)
          (subst (λ (w : Work). SeatKept law opened phase on w) (sym (get_or-set_same seats i new idle within)) one)
      | inr differ ↦ subst (λ (w : Work). SeatKept law opened phase on w) (sym (get_or-set_other seats i j new idle differ)) (kept j)
    ]

-- ---- what an act does to the words
module _ (law : Law) (share : ℕ → Share) (b : ℕ) (few : b < 2) (words : List ℤ) (size : length words ≡ word_count law) where
  -- nothing
  pub load_effect : (k x : ℕ) → k < 9 → LinkEffect law share b words words k x
  load_effect k x early = record {
    frozen = λ j read. refl;
    unsettled = refl;
    sums = λ n s h h2. let none = no_parts law share n s k x h2 early in omega (arith, ints, none);
    least_less = omega (arith, ints);
    least_one = inl refl;
    least_here = λ e. absurd (omega arith);
    flows = λ l h. inl refl;
    flow_here = λ e. absurd (omega arith);
  }

  sum_one : (d : Deposit) → d.node < law.nodes → d.sum < 3 → (n s : ℕ) → n < law.nodes → s < 3
      → number (deposited law words d) (node_place law n (7 + s)) ≡ number words (node_place law n (7 + s)) +ℤ pos (part_of d n s)
  sum_one d node sum n s h h2 =
      by_test (eqb d.sum s) refl (eqb d.node n) refl
    where
      by_test : (t : Bool) → eqb d.sum s ≡ t → (u : Bool) → eqb d.node n ≡ u
          → number (deposited law words d) (node_place law n (7 + s)) ≡ number words (node_place law n (7 + s)) +ℤ pos (part_of d n s)
      by_test true on true same =
          let e1 : d.sum ≡ s = grind (arith, nat_tests) in
          let e2 : d.node ≡ n = grind (arith, nat_tests) in
          let place : node_place law n (7 + s) ≡ node_place law d.node (7 + d.sum) = omega arith in
          let part : part_of d n s ≡ d.amount = rw (on, same) refl in
          let written : number (deposited law words d) (node_place law d.node (7 + d.sum))
          ≡ number words (node_place law d.node (7 + d.sum)) +ℤ pos d.amount = number_same words _ _ (omega (arith, size)) in
          rw (place, part) written
      by_test true on false differ =
          let apart : ¬ (d.node ≡ n) = λ e. let yes_it_is : eqb d.node n ≡ true = grind (arith, nat_tests) in cc in
          let part : part_of d n s ≡ 0 = rw (on, differ) refl in
          let same = number_other words (node_place law d.node (7 + d.sum)) (node_place law n (7 + s))
          (number words (node_place law d.node (7 + d.sum)) +ℤ pos d.amount) (λ e. apart (omega arith)) in
          omega (arith, ints, same, part)
      by_test false off u e =
          let apart : ¬ (d.sum ≡ s) = λ e. let yes_it_is : eqb d.sum s ≡ true = grind (arith, nat_tests) in cc in
          let part : part_of d n s ≡ 0 = rw off refl in
          let same = number_other words (node_place law d.node (7 + d.sum)) (node_place law n (7 + s))
          (number words (node_place law d.node (7 + d.sum)) +ℤ pos d.amount) (λ e. apart (omega arith)) in
          omega (arith, ints, same, part)

  -- an amount is added to a sum
  pub deposit_effect : (k x : ℕ) (d : Deposit) → ((n s : ℕ) → part_of d n s ≡ sum_parts law share n s k x) → k < 13 → d.node < law.nodes → d.sum < 3
      → LinkEffect law share b words (deposited law words d) k x
  deposit_effect k x d parts late node sum =
      let place = node_place law d.node (7 + d.sum) in
      let v = number words (node_place law d.node (7 + d.sum)) +ℤ pos d.amount in
      let least = number_other words place (least_place law) v (λ e. omega arith) in
      record {
        frozen = λ j read. number_other words place j v (read_apart_sum (other_few b) read d.node d.sum node sum);
        unsettled = number_other words place unsettled_place v (λ e. omega arith);
        sums = λ n s h h2. sum_one d node sum n s h h2 ∙ ap (λ (m : ℕ). number words (node_place law n (7 + s)) +ℤ pos m) (parts n s);
        least_less = omega (arith, ints, least);
        least_one = inl least;
        least_here = λ e. absurd (omega arith);
        flows = λ l h. inl (number_other words place (link_place l (4 + b)) v (λ e. omega arith));
        flow_here = λ e. absurd (omega arith);
      }

  -- a time is offered
  pub offer_effect : (x : ℕ) (time : ℤ) → time ≡ (share x).time
      → LinkEffect law share b words (slice_set words (least_place law) (int_min (number words (least_place law)) time)) 13 x
  offer_effect x time e =
      let place = least_place law in
      let v = int_min (number words (least_place law)) time in
      let here : number (slice_set words (least_place law) (int_min (number words (least_place law)) time)) (least_place law)
      ≡ int_min (number words (least_place law)) time = number_same words _ _ (omega (arith, size)) in
      record {
        frozen = λ j read. number_other words place j v (read_apart_least (other_few b) read);
        unsettled = number_other words place unsettled_place v (λ e. omega arith);
        sums = λ n s h h2.
            let same = number_other words place (node_place law n (7 + s)) v (λ e. omega arith) in
            let none = no_parts_late law share n s 13 x h2 (omega arith) in
            omega (arith, ints, same, none);
        least_less = omega (arith, ints, clamps, here);
        least_one = elim (lesser_of (number words (least_place law)) time) [
          | inl old ↦ inl (here ∙ old)
          | inr new ↦ inr (here ∙ new ∙ e)
        ];
        least_here = λ _. omega (arith, ints, clamps, here, e);
        flows = λ l h. inl (number_other words place (link_place l (4 + b)) v (λ e. omega arith));
        flow_here = λ e. absurd (omega arith);
      }
    where
      lesser_of : (a b : ℤ) → (int_min a b ≡ a) ⊎ (int_min a b ≡ b)
      lesser_of a b = grind (arith, ints, clamps)

  -- a flow is put
  pub flow_effect : (x : ℕ) (q : ℤ) → x < law.links → q ≡ (share x).q → LinkEffect law share b words (slice_set words (link_place x (4 + b)) q) 14 x
  flow_effect x q h e =
      let place = link_place x (4 + b) in
      let least = number_other words place (least_place law) q (λ e. omega arith) in
      let here : number (slice_set words (link_place x (4 + b)) q) (link_place x (4 + b)) ≡ q = number_same words _ _ (omega (arith, size)) in
      record {
        frozen = λ j read. number_other words place j q (read_apart_flow few read x h);
        unsettled = number_other words place unsettled_place q (λ e. omega arith);
        sums = λ n s h1 h2.
            let same = number_other words place (node_place law n (7 + s)) q (λ e. omega (arith, h)) in
            let none = no_parts_late law share n s 14 x h2 (omega arith) in
            omega (arith, ints, same, none);
        least_less = omega (arith, ints, least);
        least_one = inl least;
        least_here = λ e. absurd (omega arith);
        flows = λ l h. elim (equal_or_not l x) [
          | inl same ↦ inr (ap (λ (m : ℕ). number (slice_set words (link_place x (4 + b)) q) (link_place m (4 + b))) same ∙ here ∙ e
              ∙ ap (λ (m : ℕ). (share m).q) (sym same))
          | inr differ ↦ inl (number_other words place (link_place l (4 + b)) q (λ e. differ (omega arith)))
        ];
        flow_here = λ _. here ∙ e;
      }

module _ (law : Law) (next : ℕ → NodeNext) (b : ℕ) (few : b < 2) (words : List ℤ) (size : length words ≡ word_count law) where
  -- nothing
  pub sums_effect : (k x : ℕ) → k < 11 → NodeEffect law next b words words k x
  sums_effect k x early = record {
    frozen = λ j read. refl;
    sums = λ n s h h2. refl;
    least = refl;
    flows = λ l h. refl;
    unsettled = let none = no_mark next k x (λ e. omega arith) in omega (arith, ints, none);
    heads = λ n. inl refl;
    head_here = λ e. absurd (omega arith);
  }

  -- a head is put
  pub head_effect : (x : ℕ) (v : ℤ) → x < law.nodes → v ≡ (next x).head → NodeEffect law next b words (slice_set words (node_place law x (5 + b)) v) 11 x
  head_effect x v h e =
      let place = node_place law x (5 + b) in
      let same = number_other words place unsettled_place v (λ e. omega arith) in
      let here : number (slice_set words (node_place law x (5 + b)) v) (node_place law x (5 + b)) ≡ v = number_same words _ _ (omega (arith, size)) in
      record {
        frozen = λ j read. number_other words place j v (read_apart_head few read x h);
        sums = λ n s h h2. number_other words place (node_place law n (7 + s)) v (λ e. omega arith);
        least = number_other words place (least_place law) v (λ e. omega arith);
        flows = λ l h. number_other words place (link_place l (4 + b)) v (λ e. omega arith);
        unsettled = let none = no_mark next 11 x (λ e. omega arith) in omega (arith, ints, same, none);
        heads = λ n. elim (equal_or_not n x) [
          | inl same ↦ inr (ap (λ (m : ℕ). number (slice_set words (node_place law x (5 + b)) v) (node_place law m (5 + b))) same ∙ here ∙ e
              ∙ ap (λ (m : ℕ). (next m).head) (sym same))
          | inr differ ↦ inl (number_other words place (node_place law n (5 + b)) v (λ e. differ (omega arith)))
        ];
        head_here = λ _. here ∙ e;
      }

  -- a mark is made
  pub mark_effect : (x : ℕ) → (next x).settled ≡ false → NodeEffect law next b words (added words unsettled_place 1) 12 x
  mark_effect x loose =
      let v = number words unsettled_place +ℤ pos 1 in
      let here : number (added words unsettled_place 1) unsettled_place ≡ number words unsettled_place +ℤ pos 1 = number_same words _ _ (omega (arith, size)) in
      let mark : marks next 12 x ≡ 1 = the_mark next x ∙ ap unsettled_part loose in
      record {
        frozen = λ j read. number_other words unsettled_place j v (read_apart_unsettled read);
        sums = λ n s h h2. number_other words unsettled_place (node_place law n (7 + s)) v (λ e. omega arith);
        least = number_other words unsettled_place (least_place law) v (λ e. omega arith);
        flows = λ l h. number_other words unsettled_place (link_place l (4 + b)) v (λ e. omega arith);
        unsettled = omega (arith, ints, here, mark);
        heads = λ n. inl (number_other words unsettled_place (node_place law n (5 + b)) v (λ e. omega arith));
        head_here = λ e. absurd (omega arith);
      }

-- ---- the acts
goes_further : (w : Work) → GoesOn w (further w)
goes_further w = record { tag = refl; item = refl; finished = refl; look = refl; stage = refl }

goes_loaded : (w : Work) (v : ℤ) → GoesOn w (loaded_more w v)
goes_loaded w v = record { tag = refl; item = refl; finished = refl; look = refl; stage = refl }

module _ {law : Law} (good : IsLaw law) (c : Core) (kept : Kept law c) (i : ℕ) (within : i < length c.seats) (held : 1 ≤ (seat_of c i).stage) where
  has : HasItem law c.opened c.phase c.is_open (seat_of c i)
  has = (kept.seats i).item held

  some_phase : 1 ≤ c.phase
  some_phase = by_phase c.phase has.item
    where
      by_phase : (p : ℕ) → (seat_of c i).item < count law p → 1 ≤ p
      by_phase zero h = absurd (omega arith)
      by_phase (suc p) h = omega arith

  opened_fits : Fits law (nets_in law c.opened (other (written c.phase)))
  opened_fits = fits_in law c.opened kept.opened_ranges kept.opened_sums kept.opened_least (other (written c.phase)) (other_few (written c.phase))

  -- a seat goes on with its item
  keeps_held : (new : Work) (after : List ℤ) → GoesOn (seat_of c i) new → HasItem law c.opened c.phase c.is_open new
      → length after ≡ word_count law → ((j : ℕ) → IsInRange law j (number after j)) → number after done_place ≡ number c.words done_place
      → (is_odd c.phase ≡ true → LinkEffect law (shares law c.opened c.phase) (written c.phase) c.words after (seat_of c i).stage (seat_of c i).item)
      → (is_odd c.phase ≡ false → NodeEffect law (nexts law c.opened c.phase) (written c.phase) c.words after (seat_of c i).stage (seat_of c i).item)
      → Kept law (record c { words = after; seats = slice_set c.seats i new })
  keeps_held new after goes item size ranges done link node = record {
    words = size;
    ranges = ranges;
    opened_ranges = kept.opened_ranges;
    opened_sums = kept.opened_sums;
    opened_least = kept.opened_least;
    seats = seats_set c.seats kept.seats i new within (record {
      tag = omega (arith, goes.tag, (kept.seats i).tag);
      look = omega (arith, goes.look, (kept.seats i).look);
      item = λ _. item;
    });
    once = λ f.
        let more = total_next c.phase c.seats i new within has.tag goes (claims f) in
        let none : claims f (seat_of c i).stage (seat_of c i).item ≡ 0 = at_other 0 (f (seat_of c i).item) (seat_of c i).stage (λ e. omega (arith, held)) in
        omega (arith, more, none, kept.once f);
    few =
        let same = total_kept looks c.seats i new idle within (ap (λ (n : ℕ). if eqb n 0 then 0 else 1) goes.look) in
        let size = length_set c.seats i new in
        omega (arith, same, size, kept.few);
    done = λ on.
        done ∙ kept.done on
        ∙ ap pos (sym (total_kept (finished_sum c.phase (λ _. 1)) c.seats i new idle within
        (same_finished (seat_of c i) new goes.tag goes.finished)));
    all = λ off. absurd (not_both has.is_open off);
    links = λ odd.
        link_kept c.phase c.seats i new within has.tag goes law c.opened c.words after (item_link law c.phase (seat_of c i).item odd has.item)
        (kept.links odd) (link odd);
    nodes = λ even on. node_kept c.phase c.seats i new within has.tag goes law c.opened c.words after (kept.nodes even on) (node even);
    trials = λ even off. absurd (not_both has.is_open off);
    few_resets = λ off. absurd (not_both has.is_open off);
    resets = λ off. absurd (not_both has.is_open off);
  }
    where
      same_finished : (w new : Work) → new.tag ≡ w.tag → new.finished ≡ w.finished
          → finished_sum c.phase (λ _. 1) new ≡ finished_sum c.phase (λ _. 1) w
      same_finished w new e f = rw (e, f) refl

  odd_tag : {t : Bool} → is_odd (seat_of c i).tag ≡ t → is_odd c.phase ≡ t
  odd_tag e = ap is_odd (sym has.tag) ∙ e

  -- a load finds what was opened
  node_value : (odd : is_odd c.phase ≡ false) → (k : ℕ) → k < 10
      → number c.words (node_input law (other (written c.phase)) (seat_of c i).item k)
      ≡ (if nat_lt k 7 then number c.opened (node_input law (other (written c.phase)) (seat_of c i).item k)
      else sum_of (with_links law c.opened c.phase) (seat_of c i).item (k - 7))
  node_value even k few = by_load k few
    where
      node : (seat_of c i).item < law.nodes
      node = subst (λ (m : ℕ). (seat_of c i).item < m) (nodes_count law c.phase even some_phase) has.item

      old : NodeKept law c.opened c.words c.phase c.seats
      old = kept.nodes even has.is_open

      by_load : (k : ℕ) → k < 10
          → number c.words (node_input law (other (written c.phase)) (seat_of c i).item k)
          ≡ (if nat_lt k 7 then number c.opened (node_input law (other (written c.phase)) (seat_of c i).item k)
          else sum_of (with_links law c.opened c.phase) (seat_of c i).item (k - 7))
      by_load zero h = old.frozen _ (node_input_read (other (written c.phase)) (seat_of c i).item 0 node (omega arith))
      by_load (suc zero) h = old.frozen _ (node_input_read (other (written c.phase)) (seat_of c i).item 1 node (omega arith))
      by_load (suc (suc zero)) h = old.frozen _ (node_input_read (other (written c.phase)) (seat_of c i).item 2 node (omega arith))
      by_load (suc (suc (suc zero))) h = old.frozen _ (node_input_read (other (written c.phase)) (seat_of c i).item 3 node (omega arith))
      by_load (suc (suc (suc (suc zero)))) h = old.frozen _ (node_input_read (other (written c.phase)) (seat_of c i).item 4 node (omega arith))
      by_load (suc (suc (suc (suc (suc zero))))) h = old.frozen _ (node_input_read (other (written c.phase)) (seat_of c i).item 5 node (omega arith))
      by_load (suc (suc (suc (suc (suc (suc zero)))))) h = old.frozen _ (node_input_read (other (written c.phase)) (seat_of c i).item 6 node (omega arith))
      by_load (suc (suc (suc (suc (suc (suc (suc zero))))))) h = old.sums (seat_of c i).item 0 node (omega arith)
      by_load (suc (suc (suc (suc (suc (suc (suc (suc zero)))))))) h = old.sums (seat_of c i).item 1 node (omega arith)
      by_load (suc (suc (suc (suc (suc (suc (suc (suc (suc zero))))))))) h = old.sums (seat_of c i).item 2 node (omega arith)
      by_load (suc (suc (suc (suc (suc (suc (suc (suc (suc (suc k)))))))))) h = absurd (omega arith)

  load_value : (k : ℕ) → k < (if is_odd c.phase then 8 else 10)
      → number c.words (input_place law (seat_of c i) k) ≡ input_of law c.opened c.phase (seat_of c i).item k
  load_value k few = rw has.tag (by_kind (is_odd c.phase) refl)
    where
      by_kind : (t : Bool) → is_odd c.phase ≡ t
          → number c.words (if is_odd c.phase then link_input law (other (written c.phase)) (seat_of c i).item k
          else node_input law (other (written c.phase)) (seat_of c i).item k)
          ≡ input_of law c.opened c.phase (seat_of c i).item k
      by_kind true odd =
          let less : k < 8 = subst (λ (t : Bool). k < (if t then 8 else 10)) odd few in
          let l = item_link law c.phase (seat_of c i).item odd has.item in
          rw odd ((kept.links odd).frozen _ (link_input_read good (other (written c.phase)) (seat_of c i).item k l less))
      by_kind false even =
          let less : k < 10 = subst (λ (t : Bool). k < (if t then 8 else 10)) even few in
          rw even (node_value even k less)

  pub keeps_load : (seat_of c i).stage ≤ (if is_odd c.phase then 8 else 10)
      → Kept law (record c { seats = slice_set c.seats i (loaded_more (seat_of c i) (number c.words (input_place law (seat_of c i) ((seat_of c i).stage - 1)))) })
  keeps_load few =
      keeps_held _ c.words (goes_loaded (seat_of c i) _)
      (has_loaded c.opened c.phase c.is_open (seat_of c i) has _ held few (load_value ((seat_of c i).stage - 1) (omega (arith, few, held))))
      kept.words kept.ranges refl
      (λ odd. load_effect law _ (written c.phase) (written_few c.phase) c.words kept.words _ _ (most_link odd))
      (λ even. sums_effect law _ (written c.phase) (written_few c.phase) c.words kept.words _ _ (most_node even))
    where
      most_link : is_odd c.phase ≡ true → (seat_of c i).stage < 9
      most_link odd = let h : (seat_of c i).stage ≤ 8 = subst (λ (t : Bool). (seat_of c i).stage ≤ (if t then 8 else 10)) odd few in omega (arith, h)

      most_node : is_odd c.phase ≡ false → (seat_of c i).stage < 11
      most_node even = let h : (seat_of c i).stage ≤ 10 = subst (λ (t : Bool). (seat_of c i).stage ≤ (if t then 8 else 10)) even few in omega (arith, h)

  -- ---- acts on a link
  module _ (odd : is_odd c.phase ≡ true) (late : 9 ≤ (seat_of c i).stage) (more : (seat_of c i).stage < 15) where
    link : (seat_of c i).item < law.links
    link = item_link law c.phase (seat_of c i).item odd has.item

    pub its_share : share_at law (seat_of c i) ≡ shares law c.opened c.phase (seat_of c i).item
    its_share = share_is good c.opened c.phase c.is_open (seat_of c i) has odd late

    goes_link : HasItem law c.opened c.phase c.is_open (further (seat_of c i))
    goes_link =
        has_further c.opened c.phase c.is_open (seat_of c i) has
        (subst (λ (t : Bool). (if t then 8 else 10) < (seat_of c i).stage) (sym odd) (omega (arith, late)))
        (subst (λ (t : Bool). (seat_of c i).stage < (if t then 15 else 13)) (sym odd) more)

    keeps_link : (after : List ℤ) → length after ≡ word_count law → ((j : ℕ) → IsInRange law j (number after j))
        → number after done_place ≡ number c.words done_place
        → LinkEffect law (shares law c.opened c.phase) (written c.phase) c.words after (seat_of c i).stage (seat_of c i).item
        → Kept law (record c { words = after; seats = slice_set c.seats i (further (seat_of c i)) })
    keeps_link after size ranges done effect =
        keeps_held _ after (goes_further (seat_of c i)) goes_link size ranges done (λ _. effect) (λ even. absurd (not_both odd even))

    pub keeps_deposit : (d : Deposit) → ((n s : ℕ) → part_of d n s ≡ sum_parts law (shares law c.opened c.phase) n s (seat_of c i).stage (seat_of c i).item)
        → (seat_of c i).stage < 13 → d.node < law.nodes → d.sum < 3
        → Kept law (record c { words = deposited law c.words d; seats = slice_set c.seats i (further (seat_of c i)) })
    keeps_deposit d parts early node sum =
        let place = node_place law d.node (7 + d.sum) in
        let v = number c.words (node_place law d.node (7 + d.sum)) +ℤ pos d.amount in
        keeps_link (deposited law c.words d)
        (length_set c.words place v ∙ kept.words)
        (ranges_set c.words kept.ranges place v (omega (arith, kept.words)) (sum_range d.node d.sum sum v))
        (number_other c.words place done_place v (λ e. omega arith))
        (deposit_effect law _ (written c.phase) (written_few c.phase) c.words kept.words _ _ d parts early node sum)

    pub keeps_offer : (seat_of c i).stage ≡ 13 → (time : ℤ) → time ≡ (shares law c.opened c.phase (seat_of c i).item).time
        → Kept law (record c {
          words = slice_set c.words (least_place law) (int_min (number c.words (least_place law)) time);
          seats = slice_set c.seats i (further (seat_of c i));
        })
    keeps_offer at_offer time e =
        let v = int_min (number c.words (least_place law)) time in
        keeps_link (slice_set c.words (least_place law) v)
        (length_set c.words (least_place law) v ∙ kept.words)
        (ranges_set c.words kept.ranges (least_place law) v (omega (arith, kept.words)) (least_range v))
        (number_other c.words (least_place law) done_place v (λ e. omega arith))
        (rw at_offer (offer_effect law _ (written c.phase) (written_few c.phase) c.words kept.words _ time e))

    pub keeps_flow : (seat_of c i).stage ≡ 14 → (q : ℤ) → q ≡ (shares law c.opened c.phase (seat_of c i).item).q
        → Kept law (record c {
          words = slice_set c.words (link_place (seat_of c i).item (4 + written c.phase)) q;
          seats = slice_set c.seats i (further (seat_of c i));
        })
    keeps_flow at_flow q e =
        let place = link_place (seat_of c i).item (4 + written c.phase) in
        let few = written_few c.phase in
        let range = (share_fits good c.opened c.phase opened_fits (seat_of c i).item link).flow in
        keeps_link (slice_set c.words place q)
        (length_set c.words place q ∙ kept.words)
        (ranges_set c.words kept.ranges place q (omega (arith, kept.words, few, link)) (flow_range (seat_of c i).item (written c.phase) link few q (rw e range)))
        (number_other c.words place done_place q (λ e. omega arith))
        (rw at_flow (flow_effect law _ (written c.phase) few c.words kept.words _ q link e))

  -- ---- acts on a node
  module _ (even : is_odd c.phase ≡ false) (late : 11 ≤ (seat_of c i).stage) (more : (seat_of c i).stage < 13) where
    node : (seat_of c i).item < law.nodes
    node = subst (λ (m : ℕ). (seat_of c i).item < m) (nodes_count law c.phase even some_phase) has.item

    pub its_next : next_at law (seat_of c i) ≡ nexts law c.opened c.phase (seat_of c i).item
    its_next = next_is good c.opened c.phase c.is_open (seat_of c i) has even some_phase late node

    goes_node : HasItem law c.opened c.phase c.is_open (further (seat_of c i))
    goes_node =
        has_further c.opened c.phase c.is_open (seat_of c i) has
        (subst (λ (t : Bool). (if t then 8 else 10) < (seat_of c i).stage) (sym even) (omega (arith, late)))
        (subst (λ (t : Bool). (seat_of c i).stage < (if t then 15 else 13)) (sym even) more)

    keeps_node : (after : List ℤ) → length after ≡ word_count law → ((j : ℕ) → IsInRange law j (number after j))
        → number after done_place ≡ number c.words done_place
        → NodeEffect law (nexts law c.opened c.phase) (written c.phase) c.words after (seat_of c i).stage (seat_of c i).item
        → Kept law (record c { words = after; seats = slice_set c.seats i (further (seat_of c i)) })
    keeps_node after size ranges done effect =
        keeps_held _ after (goes_further (seat_of c i)) goes_node size ranges done (λ odd. absurd (not_both odd even)) (λ _. effect)

    pub keeps_head : (seat_of c i).stage ≡ 11 → (v : ℤ) → v ≡ (nexts law c.opened c.phase (seat_of c i).item).head
        → Kept law (record c {
          words = slice_set c.words (node_place law (seat_of c i).item (5 + written c.phase)) v;
          seats = slice_set c.seats i (further (seat_of c i));
        })
    keeps_head at_head v e =
        let place = node_place law (seat_of c i).item (5 + written c.phase) in
        let few = written_few c.phase in
        let range = next_fits good c.opened c.phase opened_fits (seat_of c i).item node in
        keeps_node (slice_set c.words place v)
        (length_set c.words place v ∙ kept.words)
        (ranges_set c.words kept.ranges place v (omega (arith, kept.words, few, node)) (head_range (seat_of c i).item (written c.phase) node few v (rw e range)))
        (number_other c.words place done_place v (λ e. omega arith))
        (rw at_head (head_effect law _ (written c.phase) few c.words kept.words _ v node e))

    pub keeps_mark : (seat_of c i).stage ≡ 12 → (nexts law c.opened c.phase (seat_of c i).item).settled ≡ false
        → Kept law (record c { words = added c.words unsettled_place 1; seats = slice_set c.seats i (further (seat_of c i)) })
    keeps_mark at_mark loose =
        let v = number c.words unsettled_place +ℤ pos 1 in
        keeps_node (added c.words unsettled_place 1)
        (length_set c.words unsettled_place v ∙ kept.words)
        (ranges_set c.words kept.ranges unsettled_place v (omega (arith, kept.words)) (unsettled_range v))
        (number_other c.words unsettled_place done_place v (λ e. omega arith))
        (rw at_mark (mark_effect law _ (written c.phase) (written_few c.phase) c.words kept.words _ loose))
