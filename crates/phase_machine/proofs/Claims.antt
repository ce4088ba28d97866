-- Looks, claims and the ends of items keep what holds of a core.
use Rattle.std.proofs.Common.{◌≡◌, ℕ, zero, suc, ◌+◌, ◌<◌, ◌≤◌, Bool, true, false, eqb, nat_lt, min, if◌then◌else◌, ◌⊎◌, inl, inr, ℤ, pos, ◌+ℤ◌, List, [], ◌∷◌, ◌++◌, length, slice_set, refl, sym, ap, subst, ◌∙◌, arith}
use Rattle.std.proofs.lemmas.Int.{ints}
use Rattle.std.proofs.lemmas.Bool.Decides.{nat_tests}
use Rattle.std.proofs.lemmas.Bool.{eq-eqb}
use Rattle.fixed_num.specs.Lists.{number}
use Rattle.fixed_num.specs.Sums.{below}
use Rattle.fixed_num.proofs.SumLemmas.{below_next}
use Rattle.phase_law.specs.Law.{Law}
use Rattle.phase_law.specs.Laws.{IsLaw}
use Rattle.phase_law.specs.declared.values.NodeNext.{NodeNext}
use Rattle.trial_model.specs.Trial.{unsettled_part}
use Rattle.trial_model.proofs.LoopLemmas.{number_same, number_other}
use Rattle.phase_machine.specs.declared.work.Work.{Work}
use Rattle.phase_machine.specs.Places.{done_place, unsettled_place, link_place, node_place, least_place, is_odd, count, written}
use Rattle.phase_machine.specs.Core.{Core, idle, seat_of, finished_in}
use Rattle.phase_machine.specs.Items.{next_at, last_stage}
use Rattle.phase_machine.specs.Steps.{claimed, added}
use Rattle.phase_machine.specs.Runs.{total}
use Rattle.phase_machine.specs.Kept.{so_far, finished_sum, looks, claims, sum_parts, late, flow_off, head_off, marks, shares, nexts, HasItem, LinkKept, NodeKept, Kept}
use Rattle.phase_machine.proofs.Totals.{total_set, total_kept, total_more, total_most, total_end, total_grows}
use Rattle.phase_machine.proofs.PlaceLemmas.{equal_or_not, read_apart_done, done_range, ranges_set}
use Rattle.phase_machine.proofs.Progress.{so_far_now, so_far_free, so_far_done, so_far_grows, claimed_once, all_given}
use Rattle.phase_machine.proofs.Loaded.{nodes_count, next_is}
use Rattle.phase_machine.proofs.Parts.{no_parts, not_late, flow_off_less, flow_off_none, head_off_less, head_off_none, no_mark, the_mark}
use Rattle.phase_machine.proofs.HeldActs.{not_both, length_set, seats_set}

-- a sum to which nothing is added from some place on
pub below_from : (f : ℕ → ℕ) (m n : ℕ) → m ≤ n → ((k : ℕ) → m ≤ k → f k ≡ 0) → below f m ≡ below f n
below_from f m zero h none = let e : m ≡ 0 = omega arith in ap (below f) e
below_from f m (suc n) h none =
    elim (equal_or_not m (suc n)) [
      | inl e ↦ ap (below f) e
      | inr differ ↦
          let before = below_from f m n (omega (arith, differ, h)) none in
          let last : f n ≡ 0 = none n (omega (arith, differ, h)) in
          omega (arith, before, last)
    ]

-- ---- the words stay, and so do the sums over what was made
module _ {law : Law} {opened words : List ℤ} {phase : ℕ} {seats new : List Work} where
  pub link_same : LinkKept law opened words phase seats
      → ((n s : ℕ) → s < 3 → total (so_far phase (sum_parts law (shares law opened phase) n s)) new ≡ total (so_far phase (sum_parts law (shares law opened phase) n s)) seats)
      → total (so_far phase (late (shares law opened phase) (number words (least_place law)))) new ≡ total (so_far phase (late (shares law opened phase) (number words (least_place law)))) seats
      → total (so_far phase (flow_off law (shares law opened phase) words (written phase))) new ≡ total (so_far phase (flow_off law (shares law opened phase) words (written phase))) seats
      → LinkKept law opened words phase new
  link_same old sums late flows = record {
    frozen = old.frozen;
    unsettled = old.unsettled;
    sums = λ n s h few. old.sums n s h few ∙ ap pos (sym (sums n s few));
    least_most = old.least_most;
    least_one = old.least_one;
    least_each = late ∙ old.least_each;
    flows = flows ∙ old.flows;
  }

  pub node_same : NodeKept law opened words phase seats
      → total (so_far phase (marks (nexts law opened phase))) new ≡ total (so_far phase (marks (nexts law opened phase))) seats
      → total (so_far phase (head_off law (nexts law opened phase) words (written phase))) new ≡ total (so_far phase (head_off law (nexts law opened phase) words (written phase))) seats
      → NodeKept law opened words phase new
  node_same old marks heads = record {
    frozen = old.frozen;
    sums = old.sums;
    least = old.least;
    flows = old.flows;
    unsettled = old.unsettled ∙ ap pos (sym marks);
    heads = heads ∙ old.heads;
  }

-- ---- the count of done items changes, and the other words stay
module _ {law : Law} {opened words : List ℤ} {phase : ℕ} {seats : List Work} (v : ℤ) where
  pub link_done : LinkKept law opened words phase seats → LinkKept law opened (slice_set words done_place v) phase seats
  link_done old =
      let least = number_other words done_place (least_place law) v (λ e. omega arith) in
      let share = shares law opened phase in
      record {
        frozen = λ j read. number_other words done_place j v (read_apart_done read) ∙ old.frozen j read;
        unsettled = number_other words done_place unsettled_place v (λ e. omega arith) ∙ old.unsettled;
        sums = λ n s h few. number_other words done_place (node_place law n (7 + s)) v (λ e. omega arith) ∙ old.sums n s h few;
        least_most = omega (arith, ints, least, old.least_most);
        least_one = subst (λ (z : ℤ). (z ≡ pos 3_600_000) ⊎ ((l : ℕ) × (l < law.links) × (z ≡ (share l).time))) (sym least) old.least_one;
        least_each = subst (λ (z : ℤ). total (so_far phase (late share z)) seats ≡ 0) (sym least) old.least_each;
        flows = flows_same (λ l h. number_other words done_place (link_place l (4 + written phase)) v (λ e. omega arith)) old.flows;
      }
    where
      flows_same : ((l : ℕ) → l < law.links → number (slice_set words done_place v) (link_place l (4 + written phase)) ≡ number words (link_place l (4 + written phase)))
          → total (so_far phase (flow_off law (shares law opened phase) words (written phase))) seats ≡ 0
          → total (so_far phase (flow_off law (shares law opened phase) (slice_set words done_place v) (written phase))) seats ≡ 0
      flows_same same none =
          let less = total_grows (so_far phase (flow_off law (shares law opened phase) (slice_set words done_place v) (written phase)))
          (so_far phase (flow_off law (shares law opened phase) words (written phase))) seats
          (so_far_grows phase _ _ (flow_off_less law (shares law opened phase) words (slice_set words done_place v) (written phase) (λ l h. inl (same l h)))) in
          omega (arith, less, none)

  pub node_done : NodeKept law opened words phase seats → NodeKept law opened (slice_set words done_place v) phase seats
  node_done old =
      record {
        frozen = λ j read. number_other words done_place j v (read_apart_done read) ∙ old.frozen j read;
        sums = λ n s h few. number_other words done_place (node_place law n (7 + s)) v (λ e. omega arith) ∙ old.sums n s h few;
        least = number_other words done_place (least_place law) v (λ e. omega arith) ∙ old.least;
        flows = λ l h. number_other words done_place (link_place l (4 + written phase)) v (λ e. omega arith) ∙ old.flows l h;
        unsettled = number_other words done_place unsettled_place v (λ e. omega arith) ∙ old.unsettled;
        heads = heads_same (λ n. number_other words done_place (node_place law n (5 + written phase)) v (λ e. omega arith)) old.heads;
      }
    where
      heads_same : ((n : ℕ) → number (slice_set words done_place v) (node_place law n (5 + written phase)) ≡ number words (node_place law n (5 + written phase)))
          → total (so_far phase (head_off law (nexts law opened phase) words (written phase))) seats ≡ 0
          → total (so_far phase (head_off law (nexts law opened phase) (slice_set words done_place v) (written phase))) seats ≡ 0
      heads_same same none =
          let less = total_grows (so_far phase (head_off law (nexts law opened phase) (slice_set words done_place v) (written phase)))
          (so_far phase (head_off law (nexts law opened phase) words (written phase))) seats
          (so_far_grows phase _ _ (head_off_less law (nexts law opened phase) words (slice_set words done_place v) (written phase) (λ n. inl (same n)))) in
          omega (arith, less, none)

module _ {law : Law} (good : IsLaw law) (c : Core) (kept : Kept law c) (i : ℕ) (within : i < length c.seats) where
  -- ---- a look, and a claim that finds no item: a seat of which only the look changes
  keeps_look : (look index : ℕ) → (seat_of c i).stage ≡ 0 → look ≤ c.phase
      → min index (count law c.phase) ≡ min c.index (count law c.phase)
      → index + total looks (slice_set c.seats i (record (seat_of c i) { look = look })) ≤ count law c.phase + length c.seats
      → Kept law (record c { index = index; seats = slice_set c.seats i (record (seat_of c i) { look = look }) })
  keeps_look look index free past least few =
      let new : Work = record (seat_of c i) { look = look } in
      let same = λ (f : Work → ℕ) (e : f (record (seat_of c i) { look = look }) ≡ f (seat_of c i)). total_kept f c.seats i (record (seat_of c i) { look = look }) idle within e in
      record {
        words = kept.words;
        ranges = kept.ranges;
        opened_ranges = kept.opened_ranges;
        opened_sums = kept.opened_sums;
        opened_least = kept.opened_least;
        seats = seats_set c.seats kept.seats i (record (seat_of c i) { look = look }) within (record {
          tag = (kept.seats i).tag;
          look = past;
          item = λ some. absurd (omega (arith, some, free));
        });
        once = λ f. same (so_far c.phase (claims f)) refl ∙ kept.once f ∙ ap (below f) (sym least);
        few = rw (length_set c.seats i (record (seat_of c i) { look = look })) few;
        done = λ on. kept.done on ∙ ap pos (sym (same (finished_sum c.phase (λ _. 1)) refl));
        all = λ off. same (finished_sum c.phase (λ _. 1)) refl ∙ kept.all off;
        links = λ odd.
            link_same (kept.links odd) (λ n s h. same (so_far c.phase (sum_parts law (shares law c.opened c.phase) n s)) refl)
            (same (so_far c.phase (late (shares law c.opened c.phase) (number c.words (least_place law)))) refl)
            (same (so_far c.phase (flow_off law (shares law c.opened c.phase) c.words (written c.phase))) refl);
        nodes = λ even on.
            node_same (kept.nodes even on) (same (so_far c.phase (marks (nexts law c.opened c.phase))) refl)
            (same (so_far c.phase (head_off law (nexts law c.opened c.phase) c.words (written c.phase))) refl);
        trials = λ even off some. record { trial = (kept.trials even off some).trial; unsettled = (kept.trials even off some).unsettled };
        few_resets = kept.few_resets;
        resets = kept.resets;
      }

  look_most : (w : Work) → looks w ≤ 1
  look_most w = grind (arith, nat_tests)

  pub looks_at : (seat_of c i).stage ≡ 0
      → Kept law (record c { seats = slice_set c.seats i (record (seat_of c i) { look = if nat_lt c.index (count law c.phase) then c.phase else 0 }) })
  looks_at free = by_test (nat_lt c.index (count law c.phase)) refl
    where
      by_test : (t : Bool) → nat_lt c.index (count law c.phase) ≡ t
          → Kept law (record c { seats = slice_set c.seats i (record (seat_of c i) { look = if nat_lt c.index (count law c.phase) then c.phase else 0 }) })
      by_test true on =
          let less : c.index < count law c.phase = grind (arith, nat_tests) in
          let most = total_most looks (slice_set c.seats i (record (seat_of c i) { look = c.phase })) look_most in
          let size = length_set c.seats i (record (seat_of c i) { look = c.phase }) in
          rw on (keeps_look c.phase c.index free (omega arith) refl (omega (arith, less, most, size)))
      by_test false off =
          let set = total_set looks c.seats i (record (seat_of c i) { look = 0 }) idle within in
          rw off (keeps_look 0 c.index free (omega arith) refl (omega (arith, kept.few, set)))

  -- ---- a claim
  a_look : 1 ≤ (seat_of c i).look → looks (seat_of c i) ≡ 1
  a_look some = let off : eqb (seat_of c i).look 0 ≡ false = grind (arith, nat_tests) in rw off refl

  -- that takes an item
  takes : (seat_of c i).stage ≡ 0 → 1 ≤ (seat_of c i).look → c.index < count law c.phase
      → Kept law (record c { index = c.index + 1; seats = slice_set c.seats i (record { look = 0; tag = c.phase; stage = 1; item = c.index; loaded = []; finished = finished_in c.phase (seat_of c i) }) })
  takes free look less =
      record {
        words = kept.words;
        ranges = kept.ranges;
        opened_ranges = kept.opened_ranges;
        opened_sums = kept.opened_sums;
        opened_least = kept.opened_least;
        seats = seats_set c.seats kept.seats i new within (record {
          tag = omega arith;
          look = omega arith;
          item = λ _. record {
            tag = refl;
            is_open = running;
            item = less;
            most = few_stages (is_odd c.phase);
            loads = omega arith;
            loaded = λ k h. absurd (omega arith);
          };
        });
        once = λ f.
            let more = moved (claims f) in
            let first : claims f 0 c.index ≡ f c.index = refl in
            let before : min c.index (count law c.phase) ≡ c.index = omega arith in
            let now : min (c.index + 1) (count law c.phase) ≡ c.index + 1 = omega arith in
            let old : total (so_far c.phase (claims f)) c.seats ≡ below f c.index = kept.once f ∙ ap (below f) before in
            let next = below_next f c.index in
            rw now (omega (arith, more, first, old, next));
        few =
            let set = total_set looks c.seats i new idle within in
            let one = a_look look in
            let size = length_set c.seats i new in
            omega (arith, kept.few, set, one, size);
        done = λ on. kept.done on ∙ ap pos (sym (total_kept (finished_sum c.phase (λ _. 1)) c.seats i new idle within same_finished));
        all = λ off. absurd (not_both running off);
        links = λ odd.
            link_same (kept.links odd)
            (λ n s h. nothing (sum_parts law (shares law c.opened c.phase) n s) (no_parts law (shares law c.opened c.phase) n s 0 c.index h (omega arith)))
            (nothing (late (shares law c.opened c.phase) (number c.words (least_place law))) (not_late (shares law c.opened c.phase) (number c.words (least_place law)) 0 c.index (λ e. absurd (omega arith))))
            (nothing (flow_off law (shares law c.opened c.phase) c.words (written c.phase)) (flow_off_none law (shares law c.opened c.phase) c.words c.words (written c.phase) 0 c.index (λ e. absurd (omega arith))));
        nodes = λ even on.
            node_same (kept.nodes even on)
            (nothing (marks (nexts law c.opened c.phase)) (no_mark (nexts law c.opened c.phase) 0 c.index (λ e. omega arith)))
            (nothing (head_off law (nexts law c.opened c.phase) c.words (written c.phase)) (head_off_none law (nexts law c.opened c.phase) c.words c.words (written c.phase) 0 c.index (λ e. absurd (omega arith))));
        trials = λ even off. absurd (not_both running off);
        few_resets = λ off. absurd (not_both running off);
        resets = λ off. absurd (not_both running off);
      }
    where
      new : Work
      new = record { look = 0; tag = c.phase; stage = 1; item = c.index; loaded = []; finished = finished_in c.phase (seat_of c i) }

      running : c.is_open ≡ true
      running = by_open c.is_open refl
        where
          by_open : (b : Bool) → c.is_open ≡ b → c.is_open ≡ true
          by_open true on = on
          by_open false off =
              let given = all_given c.phase c.index (count law c.phase) c.seats kept.once (kept.all off) in
              absurd (omega (arith, given, less))

      few_stages : (t : Bool) → 1 ≤ (if t then 15 else 13)
      few_stages true = omega arith
      few_stages false = omega arith

      same_finished : finished_sum c.phase (λ _. 1) new ≡ finished_sum c.phase (λ _. 1) (seat_of c i)
      same_finished = let on : eqb c.phase c.phase ≡ true = eq-eqb c.phase c.phase refl in rw on refl

      moved : (am : ℕ → ℕ → ℕ) → total (so_far c.phase am) (slice_set c.seats i new) ≡ total (so_far c.phase am) c.seats + am 0 c.index
      moved am =
          let now = so_far_now c.phase am new refl in
          let before = so_far_free c.phase am (seat_of c i) free in
          total_more (so_far c.phase am) c.seats i (am 0 c.index) new idle within (omega (arith, now, before))

      nothing : (am : ℕ → ℕ → ℕ) → am 0 c.index ≡ 0 → total (so_far c.phase am) (slice_set c.seats i new) ≡ total (so_far c.phase am) c.seats
      nothing am none = let more = moved am in omega (arith, more, none)

  pub keeps_claim : (seat_of c i).stage ≡ 0 → 1 ≤ (seat_of c i).look
      → Kept law (record c { index = c.index + 1; seats = slice_set c.seats i (claimed law c.phase c.index (seat_of c i)) })
  keeps_claim free look = by_test (nat_lt c.index (count law c.phase)) refl
    where
      by_test : (t : Bool) → nat_lt c.index (count law c.phase) ≡ t
          → Kept law (record c { index = c.index + 1; seats = slice_set c.seats i (claimed law c.phase c.index (seat_of c i)) })
      by_test true on = rw on (takes free look (grind (arith, nat_tests)))
      by_test false off =
          let most : count law c.phase ≤ c.index = grind (arith, nat_tests) in
          let set = total_set looks c.seats i (record (seat_of c i) { look = 0 }) idle within in
          let one = a_look look in
          rw off (keeps_look 0 (c.index + 1) free (omega arith) (omega arith) (omega (arith, kept.few, set, one)))

  -- ---- the end of an item
  module _ (held : 1 ≤ (seat_of c i).stage) (last : (seat_of c i).stage ≡ last_stage law (seat_of c i)) where
    abbrev ended : Work
    ended = record (seat_of c i) { stage = 0; finished = (seat_of c i).finished ++ (seat_of c i).item ∷ [] }

    has : HasItem law c.opened c.phase c.is_open (seat_of c i)
    has = (kept.seats i).item held

    made : (am : ℕ → ℕ → ℕ) → ((k : ℕ) → (seat_of c i).stage ≤ k → am k (seat_of c i).item ≡ 0) → (seat_of c i).stage ≤ 15
        → total (so_far c.phase am) (slice_set c.seats i ended) ≡ total (so_far c.phase am) c.seats
    made am none most =
        total_kept (so_far c.phase am) c.seats i ended idle within
        (so_far_done c.phase am (seat_of c i) ended has.tag refl refl refl
        (below_from (λ k. am k (seat_of c i).item) (seat_of c i).stage 15 most none))

    most_stages : (seat_of c i).stage ≤ 15
    most_stages = by_kind (is_odd c.phase) has.most
      where
        by_kind : (t : Bool) → (seat_of c i).stage ≤ (if t then 15 else 13) → (seat_of c i).stage ≤ 15
        by_kind true h = h
        by_kind false h = omega (arith, h)

    link_last : is_odd c.phase ≡ true → (seat_of c i).stage ≡ 15
    link_last odd =
        let e : is_odd (seat_of c i).tag ≡ true = ap is_odd has.tag ∙ odd in
        last ∙ rw e refl

    node_last : is_odd c.phase ≡ false → (12 ≤ (seat_of c i).stage) × ((seat_of c i).stage ≡ 12 → (next_at law (seat_of c i)).settled ≡ true)
    node_last even =
        let e : is_odd (seat_of c i).tag ≡ false = ap is_odd has.tag ∙ even in
        by_settled e (next_at law (seat_of c i)).settled refl
      where
        by_settled : is_odd (seat_of c i).tag ≡ false → (t : Bool) → (next_at law (seat_of c i)).settled ≡ t
            → (12 ≤ (seat_of c i).stage) × ((seat_of c i).stage ≡ 12 → (next_at law (seat_of c i)).settled ≡ true)
        by_settled e true on =
            let stage : (seat_of c i).stage ≡ 12 = last ∙ rw (e, on) refl in
            (omega (arith, stage), λ _. on)
        by_settled e false off =
            let stage : (seat_of c i).stage ≡ 13 = last ∙ rw (e, off) refl in
            (omega (arith, stage), λ at. absurd (omega (arith, stage, at)))

    pub keeps_done : Kept law (record c { words = added c.words done_place 1; seats = slice_set c.seats i (record (seat_of c i) { stage = 0; finished = (seat_of c i).finished ++ (seat_of c i).item ∷ [] }) })
    keeps_done = record {
      words = length_set c.words done_place (number c.words done_place +ℤ pos 1) ∙ kept.words;
      ranges = ranges_set c.words kept.ranges done_place (number c.words done_place +ℤ pos 1) (omega (arith, kept.words)) (done_range (number c.words done_place +ℤ pos 1));
      opened_ranges = kept.opened_ranges;
      opened_sums = kept.opened_sums;
      opened_least = kept.opened_least;
      seats = seats_set c.seats kept.seats i ended within (record {
        tag = (kept.seats i).tag;
        look = (kept.seats i).look;
        item = λ some. absurd (omega arith);
      });
      once = λ f.
          total_kept (so_far c.phase (claims f)) c.seats i ended idle within
          (so_far_done c.phase (claims f) (seat_of c i) ended has.tag refl refl refl
          (claimed_once f (seat_of c i).item (seat_of c i).stage held ∙ sym (claimed_once f (seat_of c i).item 15 (omega arith))))
          ∙ kept.once f;
      few =
          let same = total_kept looks c.seats i ended idle within refl in
          let size = length_set c.seats i ended in
          omega (arith, same, size, kept.few);
      done = λ on.
          let here : number (added c.words done_place 1) done_place ≡ number c.words done_place +ℤ pos 1 = number_same c.words done_place _ (omega (arith, kept.words)) in
          let more = total_more (finished_sum c.phase (λ _. 1)) c.seats i 1 ended idle within one_more in
          let old = kept.done on in
          omega (arith, ints, here, more, old);
      all = λ off. absurd (not_both has.is_open off);
      links = λ odd.
          let stage = link_last odd in
          link_done (number c.words done_place +ℤ pos 1) (link_same (kept.links odd)
          (λ n s h. at_end stage (sum_parts law (shares law c.opened c.phase) n s))
          (at_end stage (late (shares law c.opened c.phase) (number c.words (least_place law))))
          (at_end stage (flow_off law (shares law c.opened c.phase) c.words (written c.phase))));
      nodes = λ even on.
          let stage = node_last even in
          node_done (number c.words done_place +ℤ pos 1) (node_same (kept.nodes even on)
          (made (marks (nexts law c.opened c.phase)) (no_more_marks even) most_stages)
          (made (head_off law (nexts law c.opened c.phase) c.words (written c.phase))
          (λ k h. head_off_none law (nexts law c.opened c.phase) c.words c.words (written c.phase) k (seat_of c i).item (λ e. absurd (omega (arith, e, h, stage.0)))) most_stages));
      trials = λ even off. absurd (not_both has.is_open off);
      few_resets = λ off. absurd (not_both has.is_open off);
      resets = λ off. absurd (not_both has.is_open off);
    }
      where
        one_more : finished_sum c.phase (λ _. 1) ended ≡ finished_sum c.phase (λ _. 1) (seat_of c i) + 1
        one_more =
            let on : eqb (seat_of c i).tag c.phase ≡ true = eq-eqb _ _ has.tag in
            rw on (total_end (λ _. 1) (seat_of c i).finished (seat_of c i).item)

        at_end : (seat_of c i).stage ≡ 15 → (am : ℕ → ℕ → ℕ) → total (so_far c.phase am) (slice_set c.seats i ended) ≡ total (so_far c.phase am) c.seats
        at_end stage am =
            total_kept (so_far c.phase am) c.seats i ended idle within
            (so_far_done c.phase am (seat_of c i) ended has.tag refl refl refl (ap (below (λ k. am k (seat_of c i).item)) stage))

        node_phase : is_odd c.phase ≡ false → 1 ≤ c.phase
        node_phase even = by_phase c.phase has.item
          where
            by_phase : (p : ℕ) → (seat_of c i).item < count law p → 1 ≤ p
            by_phase zero h = absurd (omega arith)
            by_phase (suc p) h = omega arith

        no_more_marks : is_odd c.phase ≡ false → (k : ℕ) → (seat_of c i).stage ≤ k → marks (nexts law c.opened c.phase) k (seat_of c i).item ≡ 0
        no_more_marks even k h =
            elim (equal_or_not k 12) [
              | inl e ↦
                  let stage = node_last even in
                  let at : (seat_of c i).stage ≡ 12 = omega (arith, e, h, stage.0) in
                  let some = node_phase even in
                  let node : (seat_of c i).item < law.nodes = subst (λ (m : ℕ). (seat_of c i).item < m) (nodes_count law c.phase even some) has.item in
                  let its = next_is good c.opened c.phase c.is_open (seat_of c i) has even some (omega (arith, at)) node in
                  let settled : (nexts law c.opened c.phase (seat_of c i).item).settled ≡ true = ap (λ (x : NodeNext). x.settled) (sym its) ∙ stage.1 at in
                  ap (λ (m : ℕ). marks (nexts law c.opened c.phase) m (seat_of c i).item) e ∙ the_mark (nexts law c.opened c.phase) (seat_of c i).item ∙ ap unsettled_part settled
              | inr differ ↦ no_mark (nexts law c.opened c.phase) k (seat_of c i).item differ
            ]
