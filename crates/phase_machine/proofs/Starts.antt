-- What holds of a core holds at the start.
use Rattle.std.proofs.Common.{◌≡◌, ℕ, zero, suc, ◌+◌, ◌<◌, false, min, replicate, slice_index_or, refl, sym, ap, ◌∙◌, arith}
use Rattle.std.proofs.lemmas.Int.{ints}
use Rattle.fixed_num.specs.Lists.{number}
use Rattle.fixed_num.specs.Ranges.{IsFlow}
use Rattle.fixed_num.specs.Sums.{below}
use Rattle.phase_law.specs.Law.{Law}
use Rattle.phase_law.specs.Ranges.{HeadInRange}
use Rattle.phase_law.specs.declared.values.LinkFixed.{LinkFixed}
use Rattle.phase_law.specs.declared.values.NodeFixed.{NodeFixed}
use Rattle.trial_model.specs.declared.nets.Nets.{Nets}
use Rattle.trial_model.specs.Fits.{Fits}
use Rattle.phase_machine.specs.declared.work.Work.{Work}
use Rattle.phase_machine.specs.Places.{link_place, node_place, is_odd, count, LinkWord, NodeWord, IsInRange}
use Rattle.phase_machine.specs.Core.{Core, idle, seat_of, IsStart}
use Rattle.phase_machine.specs.Runs.{total}
use Rattle.phase_machine.specs.Kept.{so_far, finished_sum, looks, claims, SeatKept, Kept}
use Rattle.phase_machine.proofs.HeldActs.{not_both}

idle_at : (n i : ℕ) → slice_index_or (replicate n idle) i idle ≡ idle
idle_at zero i = refl
idle_at (suc n) zero = refl
idle_at (suc n) (suc i) = idle_at n i

total_idle : (f : Work → ℕ) (n : ℕ) → f idle ≡ 0 → total f (replicate n idle) ≡ 0
total_idle f zero e = refl
total_idle f (suc n) e = omega (arith, e, total_idle f n e)

below_none : (f : ℕ → ℕ) → below f 0 ≡ 0
below_none f = refl

module _ {law : Law} {nets : Nets} (fits : Fits law nets) {seats : ℕ} {c : Core} (start : IsStart law nets seats c) where
  flow_at : (l b : ℕ) → l < law.links → b < 2 → IsFlow (number c.words (link_place l (4 + b)))
  flow_at l zero h few = rw (start.flow l h) (fits.flows.each l h)
  flow_at l (suc zero) h few = rw (start.other_flow l h) (record { within = omega (arith, ints) })
  flow_at l (suc (suc b)) h few = absurd (omega arith)

  head_at : (n b : ℕ) → n < law.nodes → b < 2 → HeadInRange law (number c.words (node_place law n (5 + b)))
  head_at n zero h few = rw (start.head n h) (fits.heads.each n h)
  head_at n (suc zero) h few = rw (start.other_head n h) (record { within = omega (arith, ints) })
  head_at n (suc (suc b)) h few = absurd (omega arith)

  link_words : (l k : ℕ) → l < law.links → k < 6 → LinkWord k (number c.words (link_place l k))
  link_words l zero h few = rw (ap (λ (f : LinkFixed). f.q_old) (start.link_fixed l h)) (fits.links.each l h).flow
  link_words l (suc zero) h few = rw (ap (λ (f : LinkFixed). f.a_old) (start.link_fixed l h)) (fits.links.each l h).area
  link_words l (suc (suc zero)) h few = rw (ap (λ (f : LinkFixed). f.setting) (start.link_fixed l h)) (fits.links.each l h).setting
  link_words l (suc (suc (suc zero))) h few = rw (ap (λ (f : LinkFixed). f.dt) (start.link_fixed l h)) (fits.links.each l h).length
  link_words l (suc (suc (suc (suc zero)))) h few = flow_at l 0 h (omega arith)
  link_words l (suc (suc (suc (suc (suc zero))))) h few = flow_at l 1 h (omega arith)
  link_words l (suc (suc (suc (suc (suc (suc k)))))) h few = absurd (omega arith)

  node_words : (n k : ℕ) → n < law.nodes → k < 7 → NodeWord law k (number c.words (node_place law n k))
  node_words n zero h few = rw (ap (λ (f : NodeFixed). f.h_old) (start.node_fixed n h)) (fits.nodes.each n h).head
  node_words n (suc zero) h few = rw (ap (λ (f : NodeFixed). f.net_old) (start.node_fixed n h)) (fits.nodes.each n h).net
  node_words n (suc (suc zero)) h few = rw (ap (λ (f : NodeFixed). f.lateral) (start.node_fixed n h)) (fits.nodes.each n h).lateral
  node_words n (suc (suc (suc zero))) h few = rw (ap (λ (f : NodeFixed). f.stage) (start.node_fixed n h)) (fits.nodes.each n h).stage
  node_words n (suc (suc (suc (suc zero)))) h few = rw (ap (λ (f : NodeFixed). f.dt) (start.node_fixed n h)) (fits.nodes.each n h).length
  node_words n (suc (suc (suc (suc (suc zero))))) h few = head_at n 0 h (omega arith)
  node_words n (suc (suc (suc (suc (suc (suc zero)))))) h few = head_at n 1 h (omega arith)
  node_words n (suc (suc (suc (suc (suc (suc (suc k))))))) h few = absurd (omega arith)

  ranges_at : (j : ℕ) → IsInRange law j (number c.words j)
  ranges_at j = record {
    first = λ e. rw (e, start.first) (record { from = omega (arith, ints); to = omega (arith, ints) });
    link = λ l k h few e. rw e (link_words l k h few);
    node = λ n k h few e. rw e (node_words n k h few);
  }

  total_at_start : (f : Work → ℕ) → f idle ≡ 0 → total f c.seats ≡ 0
  total_at_start f e = rw start.seats_idle (total_idle f seats e)

  none_at_start : (am : ℕ → ℕ → ℕ) → so_far c.phase am idle ≡ 0
  none_at_start am = rw start.phase refl

  finished_none : finished_sum c.phase (λ _. 1) idle ≡ 0
  finished_none = rw start.phase refl

  count_none : count law c.phase ≡ 0
  count_none = rw start.phase refl

  even_at_start : is_odd c.phase ≡ false
  even_at_start = rw start.phase refl

  idle_seat : (i : ℕ) → seat_of c i ≡ idle
  idle_seat i = rw start.seats_idle (idle_at seats i)

  seat_at_start : (i : ℕ) → SeatKept law c.opened c.phase c.is_open (seat_of c i)
  seat_at_start i = record {
    tag = let e : (seat_of c i).tag ≡ 0 = ap (λ (w : Work). w.tag) (idle_seat i) in omega (arith, e);
    look = let e : (seat_of c i).look ≡ 0 = ap (λ (w : Work). w.look) (idle_seat i) in omega (arith, e);
    item = λ some. let e : (seat_of c i).stage ≡ 0 = ap (λ (w : Work). w.stage) (idle_seat i) in absurd (omega (arith, e, some));
  }

  pub kept_at_start : Kept law c
  kept_at_start = record {
    words = start.words;
    ranges = ranges_at;
    opened_ranges = λ j. rw start.opened (ranges_at j);
    opened_sums = λ n s h few. rw start.opened (start.sums n s h few);
    opened_least = rw start.opened start.least;
    seats = seat_at_start;
    once = λ f.
        let least : min c.index (count law c.phase) ≡ 0 = omega (arith, start.index) in
        total_at_start (so_far c.phase (claims f)) (none_at_start (claims f)) ∙ ap (below f) (sym least);
    few =
        let none = total_at_start looks refl in
        omega (arith, none, start.index);
    done = λ on. absurd (not_both on start.is_open);
    all = λ _. total_at_start (finished_sum c.phase (λ _. 1)) finished_none ∙ sym count_none;
    links = λ odd. absurd (not_both odd even_at_start);
    nodes = λ even on. absurd (not_both on start.is_open);
    trials = λ even off some. absurd (omega (arith, some, start.phase));
    few_resets = λ _. omega (arith, start.resets);
    resets = λ _ r h. absurd (omega (arith, start.resets, h));
  }
