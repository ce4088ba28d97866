-- Bounds that follow from what holds of a core: for programs that make its steps.
use Rattle.std.proofs.Common.{◌≡◌, ℕ, zero, suc, ◌+◌, ◌*◌, ◌^◌, ◌<◌, ◌≤◌, Bool, true, false, eqb, min, if◌then◌else◌, pos, ◌≤ℤ◌, List, [], ◌∷◌, length, slice_index_or, refl, sym, ap, subst, ◌∙◌, arith}
use Rattle.std.proofs.lemmas.Int.{ints}
use Rattle.fixed_num.specs.Lists.{number}
use Rattle.fixed_num.specs.Sums.{below}
use Rattle.fixed_num.proofs.SumLemmas.{below_grows, below_same, below_most}
use Rattle.phase_law.specs.Law.{Law}
use Rattle.phase_law.specs.Laws.{IsLaw}
use Rattle.phase_law.specs.Ranges.{HeadInRange, ShareInRange}
use Rattle.trial_model.specs.Fits.{Fits}
use Rattle.trial_model.specs.Parts.{in_part, out_part, area_part}
use Rattle.trial_model.specs.Trial.{unsettled_part}
use Rattle.trial_model.proofs.RangeLemmas.{SharesFit, in_most, out_most, area_most, parts_most, with_flows_fit}
use Rattle.phase_machine.specs.declared.work.Work.{Work}
use Rattle.phase_machine.specs.Places.{done_place, unsettled_place, first_place, link_place, node_place, is_odd, is_first, count, written, other, nets_in}
use Rattle.phase_machine.specs.Core.{Core, idle, seat_of}
use Rattle.phase_machine.specs.Runs.{total}
use Rattle.phase_machine.specs.Asks.{AsksLink, AsksNode}
use Rattle.phase_machine.specs.Items.{share_at}
use Rattle.phase_machine.specs.Kept.{so_far, finished_sum, claims, sum_parts, marks, shares, nexts, loads_at, HasItem, Kept}
use Rattle.phase_machine.proofs.Totals.{total_grows, total_one}
use Rattle.phase_machine.proofs.PlaceLemmas.{other_few, word_flow, word_head}
use Rattle.phase_machine.proofs.Progress.{so_far_now, claimed_once, claimed_finished}
use Rattle.phase_machine.proofs.Loaded.{links_count, nodes_count, item_link, at_link_loads, at_node_loads}
use Rattle.phase_machine.proofs.Parts.{parts_in, parts_out, parts_area, one_mark}
use Rattle.phase_machine.proofs.Fitting.{fits_in, link_in, node_in, share_fits}

-- what a seat has made so far is at most what its items make in all
less_than_all : (phase : ℕ) (am : ℕ → ℕ → ℕ) (w : Work) → w.stage ≤ 15
    → so_far phase am w ≤ so_far phase (claims (λ x. below (λ k. am k x) 15)) w
less_than_all phase am w most = by_tag (eqb w.tag phase) refl
  where
    held : (stage : ℕ) → stage ≤ 15 → below (λ k. am k w.item) stage ≤ below (λ k. claims (λ x. below (λ k. am k x) 15) k w.item) stage
    held zero h = omega arith
    held (suc n) h =
        let all = claimed_once (λ x. below (λ k. am k x) 15) w.item (suc n) (omega arith) in
        let less = below_grows (λ k. am k w.item) (suc n) 15 h in
        omega (arith, all, less)

    by_tag : (t : Bool) → eqb w.tag phase ≡ t → so_far phase am w ≤ so_far phase (claims (λ x. below (λ k. am k x) 15)) w
    by_tag true on =
        let h = held w.stage most in
        let done = claimed_finished (λ x. below (λ k. am k x) 15) w.finished in
        rw on (omega (arith, h, done))
    by_tag false off = rw off (omega arith)

-- a share that may be asked is in range
pub share_range : {law : Law} → IsLaw law → (w : Work) → AsksLink law w → ShareInRange (share_at law w)
unfolding share_at
share_range good w asks = good.share_in w.item _ (is_first (number w.loaded 4)) _ _ _ asks.link asks.fixed asks.near asks.far asks.last

module _ {law : Law} (good : IsLaw law) (c : Core) (kept : Kept law c) where
  stage_most : (i : ℕ) → (seat_of c i).stage ≤ 15
  stage_most i = by_stage (seat_of c i).stage refl
    where
      by_kind : (t : Bool) → (seat_of c i).stage ≤ (if t then 15 else 13) → (seat_of c i).stage ≤ 15
      by_kind true h = h
      by_kind false h = omega (arith, h)

      by_stage : (k : ℕ) → (seat_of c i).stage ≡ k → (seat_of c i).stage ≤ 15
      by_stage zero e = omega (arith, e)
      by_stage (suc k) e = by_kind (is_odd c.phase) ((kept.seats i).item (omega (arith, e))).most

  pub made_most : (am : ℕ → ℕ → ℕ) → total (so_far c.phase am) c.seats ≤ below (λ x. below (λ k. am k x) 15) (count law c.phase)
  made_most am =
      let less = total_less c.seats (λ i. less_than_all c.phase am (seat_of c i) (stage_most i)) in
      let all = kept.once (λ x. below (λ k. am k x) 15) in
      let few : min c.index (count law c.phase) ≤ count law c.phase = omega arith in
      let grown = below_grows (λ x. below (λ k. am k x) 15) (min c.index (count law c.phase)) (count law c.phase) few in
      omega (arith, less, all, grown)
    where
      total_less : (xs : List Work)
          → ((i : ℕ) → so_far c.phase am (slice_index_or xs i idle) ≤ so_far c.phase (claims (λ x. below (λ k. am k x) 15)) (slice_index_or xs i idle))
          → total (so_far c.phase am) xs ≤ total (so_far c.phase (claims (λ x. below (λ k. am k x) 15))) xs
      total_less [] less = omega arith
      total_less (x ∷ xs) less =
          let here : so_far c.phase am x ≤ so_far c.phase (claims (λ x. below (λ k. am k x) 15)) x = less 0 in
          omega (arith, here, total_less xs (λ i. less (suc i)))

  pub count_few : count law c.phase ≤ 20_000
  count_few = by_kind (is_odd c.phase) (eqb c.phase 0)
    where
      by_kind : (t u : Bool) → (if t then law.links else if u then 0 else law.nodes) ≤ 20_000
      by_kind true u = omega (arith, good.few_links)
      by_kind false true = omega arith
      by_kind false false = omega (arith, good.few_nodes)

  pub index_few : c.index ≤ 20_000 + length c.seats
  index_few = omega (arith, kept.few, count_few)

  opened_fits : Fits law (nets_in law c.opened (other (written c.phase)))
  opened_fits = fits_in law c.opened kept.opened_ranges kept.opened_sums kept.opened_least (other (written c.phase)) (other_few (written c.phase))

  -- the counts and the sums
  pub done_few : c.is_open ≡ true → number c.words done_place ≤ℤ pos 20_000
  done_few on =
      let most = kept.once (λ _. 1) in
      let less = total_grows (finished_sum c.phase (λ _. 1)) (so_far c.phase (claims (λ _. 1))) c.seats finished_less in
      let ones = below_most (λ _. 1) 1 (min c.index (count law c.phase)) (λ k h. omega arith) in
      let done = kept.done on in
      let few : min c.index (count law c.phase) ≤ count law c.phase = omega arith in
      omega (arith, ints, most, less, ones, done, few, count_few)
    where
      finished_less : (w : Work) → finished_sum c.phase (λ _. 1) w ≤ so_far c.phase (claims (λ _. 1)) w
      finished_less w = by_tag (eqb w.tag c.phase) refl
        where
          by_tag : (t : Bool) → eqb w.tag c.phase ≡ t → finished_sum c.phase (λ _. 1) w ≤ so_far c.phase (claims (λ _. 1)) w
          by_tag true on = rw on (omega (arith, claimed_finished (λ _. 1) w.finished))
          by_tag false off = rw off (omega arith)

  pub finished_few : (i : ℕ) → i < length c.seats → 1 ≤ (seat_of c i).stage → length (seat_of c i).finished < 20_000
  finished_few i within held =
      let w = seat_of c i in
      let has = (kept.seats i).item held in
      let now = so_far_now c.phase (claims (λ _. 1)) (seat_of c i) has.tag in
      let one = claimed_once (λ _. 1) (seat_of c i).item (seat_of c i).stage held in
      let all = claimed_finished (λ _. 1) (seat_of c i).finished in
      let size = total_ones (seat_of c i).finished in
      let here = total_one (so_far c.phase (claims (λ _. 1))) c.seats i idle within in
      let most = kept.once (λ _. 1) in
      let ones = below_most (λ _. 1) 1 (min c.index (count law c.phase)) (λ k h. omega arith) in
      let few : min c.index (count law c.phase) ≤ count law c.phase = omega arith in
      omega (arith, now, one, all, size, here, most, ones, few, count_few)
    where
      total_ones : (xs : List ℕ) → total (λ _. 1) xs ≡ length xs
      total_ones [] = refl
      total_ones (x ∷ xs) = omega (arith, total_ones xs)

  pub unsettled_few : is_odd c.phase ≡ false → c.is_open ≡ true → number c.words unsettled_place ≤ℤ pos 20_000
  unsettled_few even on =
      let next = nexts law c.opened c.phase in
      let most = made_most (marks (nexts law c.opened c.phase)) in
      let ones = below_most (λ n. below (λ k. marks (nexts law c.opened c.phase) k n) 15) 1 (count law c.phase) (λ n h. one_of n) in
      let unsettled = (kept.nodes even on).unsettled in
      omega (arith, ints, most, ones, unsettled, count_few)
    where
      part_most : (t : Bool) → unsettled_part t ≤ 1
      part_most true = omega arith
      part_most false = omega arith

      one_of : (n : ℕ) → below (λ k. marks (nexts law c.opened c.phase) k n) 15 ≤ 1
      one_of n = let e = one_mark (nexts law c.opened c.phase) n in omega (arith, e, part_most (nexts law c.opened c.phase n).settled)

  pub sum_few : is_odd c.phase ≡ true → (n s : ℕ) → n < law.nodes → s < 3 → number c.words (node_place law n (7 + s)) ≤ℤ pos (10 ^ 17)
  sum_few odd n s h few =
      let old = (kept.links odd).sums n s h few in
      let most = made_most (sum_parts law (shares law c.opened c.phase) n s) in
      let all = of_sum s few in
      let e = ap (below (λ x. below (λ k. sum_parts law (shares law c.opened c.phase) n s k x) 15)) (links_count law c.phase odd) in
      omega (arith, ints, old, most, all, e)
    where
      fit : SharesFit law (shares law c.opened c.phase)
      fit = record { each = share_fits good c.opened c.phase opened_fits }

      of_sum : (s : ℕ) → s < 3 → below (λ x. below (λ k. sum_parts law (shares law c.opened c.phase) n s k x) 15) law.links ≤ 10 ^ 17
      of_sum zero few =
          let e = below_same (λ x. below (λ k. sum_parts law (shares law c.opened c.phase) n 0 k x) 15)
          (λ k. in_part (law.ends k) (shares law c.opened c.phase k) n) law.links (λ l h. parts_in law (shares law c.opened c.phase) n l) in
          let most = parts_most (λ k. in_part (law.ends k) (shares law c.opened c.phase k)) (10 ^ 12) law.links n good.few_links (in_most good fit) in
          omega (arith, e, most)
      of_sum (suc zero) few =
          let e = below_same (λ x. below (λ k. sum_parts law (shares law c.opened c.phase) n 1 k x) 15)
          (λ k. out_part (law.ends k) (shares law c.opened c.phase k) n) law.links (λ l h. parts_out law (shares law c.opened c.phase) n l) in
          let most = parts_most (λ k. out_part (law.ends k) (shares law c.opened c.phase k)) (10 ^ 12) law.links n good.few_links (out_most good fit) in
          omega (arith, e, most)
      of_sum (suc (suc zero)) few =
          let e = below_same (λ x. below (λ k. sum_parts law (shares law c.opened c.phase) n 2 k x) 15)
          (λ k. area_part (law.ends k) (shares law c.opened c.phase k) n) law.links (λ l h. parts_area law (shares law c.opened c.phase) n l) in
          let most = parts_most (λ k. area_part (law.ends k) (shares law c.opened c.phase k)) (5 * 10 ^ 12) law.links n good.few_links (area_most good fit) in
          omega (arith, e, most)
      of_sum (suc (suc (suc s))) few = absurd (omega arith)

  -- ---- what a seat asks of the law is in the law's ranges
  module _ (i : ℕ) (held : 1 ≤ (seat_of c i).stage) where
    has : HasItem law c.opened c.phase c.is_open (seat_of c i)
    has = (kept.seats i).item held

    pub some_phase : 1 ≤ c.phase
    some_phase = by_phase c.phase has.item
      where
        by_phase : (p : ℕ) → (seat_of c i).item < count law p → 1 ≤ p
        by_phase zero h = absurd (omega arith)
        by_phase (suc p) h = omega arith

    pub tag_is : (seat_of c i).tag ≡ c.phase
    tag_is = has.tag

    pub running : c.is_open ≡ true
    running = has.is_open

    pub asks_link : is_odd (seat_of c i).tag ≡ true → 9 ≤ (seat_of c i).stage → AsksLink law (seat_of c i)
    asks_link link late =
        let odd : is_odd c.phase ≡ true = ap is_odd (sym has.tag) ∙ link in
        let l = item_link law c.phase (seat_of c i).item odd has.item in
        let ends = good.ends_in (seat_of c i).item l in
        let x = at_link_loads good c.opened c.phase c.is_open (seat_of c i) has odd late in
        let b = other (written c.phase) in
        record {
          link = l;
          loads = let all : loads_at c.phase (seat_of c i).stage ≡ 8 = rw odd (omega arith) in omega (arith, has.loads, all);
          fixed = rw (x 0 (omega arith), x 1 (omega arith), x 2 (omega arith), x 3 (omega arith)) (link_in law c.opened kept.opened_ranges (seat_of c i).item l);
          near = rw (x 5 (omega arith)) (head_in (law.ends (seat_of c i).item).0 ends.first);
          far = rw (x 6 (omega arith)) (head_in (law.ends (seat_of c i).item).1 ends.second);
          last = rw (x 7 (omega arith)) (word_flow (other (written c.phase)) (number c.opened (link_place (seat_of c i).item (4 + other (written c.phase)))) (other_few (written c.phase))
              ((kept.opened_ranges (link_place (seat_of c i).item (4 + other (written c.phase)))).link (seat_of c i).item (4 + other (written c.phase)) l (let few = other_few (written c.phase) in omega (arith, few)) refl));
        }
      where
        head_in : (n : ℕ) → n < law.nodes → HeadInRange law (number c.opened (node_place law n (5 + other (written c.phase))))
        head_in n h =
            word_head law (other (written c.phase)) (number c.opened (node_place law n (5 + other (written c.phase)))) (other_few (written c.phase))
            ((kept.opened_ranges (node_place law n (5 + other (written c.phase)))).node n (5 + other (written c.phase)) h (let few = other_few (written c.phase) in omega (arith, few)) refl)

    pub asks_node : is_odd (seat_of c i).tag ≡ false → 11 ≤ (seat_of c i).stage → AsksNode law (seat_of c i)
    asks_node node late =
        let even : is_odd c.phase ≡ false = ap is_odd (sym has.tag) ∙ node in
        let n : (seat_of c i).item < law.nodes = subst (λ (m : ℕ). (seat_of c i).item < m) (nodes_count law c.phase even some_phase) has.item in
        let x = at_node_loads good c.opened c.phase c.is_open (seat_of c i) has even late in
        let f = with_flows_fit good opened_fits (is_first (number c.opened first_place)) in
        record {
          node = n;
          loads = let all : loads_at c.phase (seat_of c i).stage ≡ 10 = rw even (omega arith) in omega (arith, has.loads, all);
          fixed = rw (x.0 0 (omega arith), x.0 1 (omega arith), x.0 2 (omega arith), x.0 3 (omega arith), x.0 4 (omega arith)) (node_in law c.opened kept.opened_ranges (seat_of c i).item n);
          sums = rw (x.1, x.2, x.3) (f.sums.each (seat_of c i).item n);
          last = rw (x.0 6 (omega arith)) (word_head law (other (written c.phase)) (number c.opened (node_place law (seat_of c i).item (5 + other (written c.phase)))) (other_few (written c.phase))
              ((kept.opened_ranges (node_place law (seat_of c i).item (5 + other (written c.phase)))).node (seat_of c i).item (5 + other (written c.phase)) n (let few = other_few (written c.phase) in omega (arith, few)) refl));
        }

    pub stage_few : (seat_of c i).stage ≤ 15
    stage_few = stage_most i

    pub loads_few : length (seat_of c i).loaded ≡ loads_at c.phase (seat_of c i).stage
    loads_few = has.loads
