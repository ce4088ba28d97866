-- What holds of the cores of a board, and that one idle seat more changes none of their events.
use Rattle.std.proofs.Common.{◌≡◌, ℕ, ◌+◌, ◌<◌, Bool, true, false, eqb, if◌then◌else◌, pos, List, [], ◌∷◌, ◌++◌}
use Rattle.std.proofs.Common.{length, replicate, slice_set, refl, sym, ap, subst, ◌∙◌, arith}
use Rattle.std.proofs.lemmas.Int.{ints}
use Rattle.std.proofs.lemmas.List.{length-set, length-append, length-replicate, get_or-replicate, get_or_append_left}
use Rattle.std.proofs.lemmas.List.{set-append_left, replicate-append-replicate}
use Rattle.fixed_num.specs.Lists.{number}
use Rattle.phase_law.specs.Law.{Law}
use Rattle.phase_law.specs.Laws.{IsLaw}
use Rattle.phase_law.specs.declared.values.LinkFixed.{LinkFixed}
use Rattle.phase_law.specs.declared.values.NodeFixed.{NodeFixed}
use Rattle.phase_law.specs.Ranges.{LinkFixedInRange, NodeFixedInRange}
use Rattle.trial_model.specs.Fits.{Fits}
use Rattle.trial_model.specs.Start.{resting, no_link, no_node}
use Rattle.phase_machine.specs.declared.acts.Act.{Act}
use Rattle.phase_machine.specs.declared.acts.Act.TheVariants.{Look, Claim, LoadInput, AddFirst, AddSecond}
use Rattle.phase_machine.specs.declared.acts.Act.TheVariants.{AddAreaFirst, AddAreaSecond, OfferTime, PutFlow, Done}
use Rattle.phase_machine.specs.declared.acts.Act.TheVariants.{LoadSums, PutHead, MarkUnsettled, LoadDone, Reset}
use Rattle.phase_machine.specs.declared.acts.Act.TheVariants.{SetFixed, OpenLinks, OpenNodes, Stop}
use Rattle.phase_machine.specs.declared.acts.Event.{Event}
use Rattle.phase_machine.specs.declared.work.Work.{Work}
use Rattle.phase_machine.specs.Places.{done_place, count}
use Rattle.phase_machine.specs.Core.{Core, IsStart, idle, seat_of}
use Rattle.phase_machine.specs.Kept.{Kept}
use Rattle.phase_machine.specs.Steps.{CanWork, CanLead, Can, after, by_lead, by_worker, looked_done, is_all}
use Rattle.phase_machine.specs.Steps.{work_after, words_after}
use Rattle.phase_machine.proofs.Keeps.{keeps}
use Rattle.phase_machine.proofs.Starts.{kept_at_start}
use Rattle.node_board.specs.Reached.{IsReached, starts, makes}

-- ---- a state at rest fits every law
zero_at : (n k : ℕ) → k < n → number (replicate n (pos 0)) k ≡ pos 0
zero_at n k h = get_or-replicate n k (pos 0) (pos 0) h

no_link_in : LinkFixedInRange no_link
no_link_in = record {
  flow = record { within = omega (arith, ints) };
  area = record { from = omega (arith, ints); to = omega (arith, ints) };
  setting = record { from = omega (arith, ints); to = omega (arith, ints) };
  length = record { least = omega (arith, ints); most = omega (arith, ints); even = refl };
}

no_node_in : (law : Law) → NodeFixedInRange law no_node
no_node_in law = record {
  head = record { within = omega (arith, ints) };
  net = record { within = omega (arith, ints) };
  lateral = record { within = omega (arith, ints) };
  stage = record { within = omega (arith, ints) };
  length = record { least = omega (arith, ints); most = omega (arith, ints); even = refl };
}

pub resting_fits : (law : Law) → Fits law (resting law.nodes law.links)
resting_fits law = record {
  heads = record {
    count = length-replicate law.nodes (pos 0);
    each = λ n h. rw (zero_at law.nodes n h) (record { within = omega (arith, ints) });
  };
  flows = record {
    count = length-replicate law.links (pos 0);
    each = λ l h. rw (zero_at law.links l h) (record { within = omega (arith, ints) });
  };
  sums = record {
    inflow_count = length-replicate law.nodes (pos 0);
    outflow_count = length-replicate law.nodes (pos 0);
    area_count = length-replicate law.nodes (pos 0);
    each = λ n h.
        rw (zero_at law.nodes n h)
        (record {
          inflow_in = record { from = omega (arith, ints); to = omega (arith, ints) };
          outflow_in = record { from = omega (arith, ints); to = omega (arith, ints) };
          area_in = record { from = omega (arith, ints); to = omega (arith, ints) };
        });
  };
  read_heads = record {
    count = length-replicate law.nodes (pos 0);
    each = λ n h. rw (zero_at law.nodes n h) (record { within = omega (arith, ints) });
  };
  links = record {
    count = length-replicate law.links no_link;
    each = λ l h.
        subst (λ (f : LinkFixed). LinkFixedInRange f) (sym (get_or-replicate law.links l no_link no_link h)) no_link_in;
  };
  nodes = record {
    count = length-replicate law.nodes no_node;
    each = λ n h.
        subst
        (λ (f : NodeFixed). NodeFixedInRange law f)
        (sym (get_or-replicate law.nodes n no_node no_node h))
        (no_node_in law);
  };
  least = record { from = omega (arith, ints); to = omega (arith, ints) };
}

-- ---- the seats stay as many as they are
looked_seats : (law : Law) (c : Core) (t : Bool) → (looked_done law c t).seats ≡ c.seats
looked_seats law c true = refl
looked_seats law c false = refl

lead_seats : (law : Law) (c : Core) (act : Act) → (by_lead law c act).seats ≡ c.seats
lead_seats law c LoadDone = looked_seats law c (is_all (number c.words done_place) (count law c.phase))
lead_seats law c Reset = refl
lead_seats law c (SetFixed word value) = refl
lead_seats law c OpenLinks = refl
lead_seats law c OpenNodes = refl
lead_seats law c Stop = refl
lead_seats law c Look = refl
lead_seats law c Claim = refl
lead_seats law c LoadInput = refl
lead_seats law c AddFirst = refl
lead_seats law c AddSecond = refl
lead_seats law c AddAreaFirst = refl
lead_seats law c AddAreaSecond = refl
lead_seats law c OfferTime = refl
lead_seats law c PutFlow = refl
lead_seats law c Done = refl
lead_seats law c LoadSums = refl
lead_seats law c PutHead = refl
lead_seats law c MarkUnsettled = refl

pub seats_after : (law : Law) (c : Core) (e : Event) → length (after law c e).seats ≡ length c.seats
unfolding after
seats_after law c e = by_seat (eqb e.seat 0)
  where
    by_seat : (t : Bool)
        → length (if t then by_lead law c e.act else by_worker law c e.seat e.act).seats ≡ length c.seats
    by_seat true = ap length (lead_seats law c e.act)
    by_seat false = length-set c.seats e.seat (work_after law c (seat_of c e.seat) e.act)

pub seats_of_reached : (law : Law) (n : ℕ) (c : Core) → IsReached law n c → length c.seats ≡ n
seats_of_reached law n _ (starts c start) = ap length start.seats_idle ∙ length-replicate n idle
seats_of_reached law n _ (makes c e r can) = seats_after law c e ∙ seats_of_reached law n c r

pub kept_of_reached : (law : Law) (n : ℕ) (c : Core) → IsLaw law → IsReached law n c → Kept law c
kept_of_reached law n _ good (starts c start) = kept_at_start (resting_fits law) start
kept_of_reached law n _ good (makes c e r can) = keeps good c (kept_of_reached law n c good r) e can

-- ---- one idle seat more
abbrev pub with_seat : Core → Core
with_seat c = record c { seats = c.seats ++ idle ∷ [] }

module _ (law : Law) (c : Core) where
  lead_more : (act : Act) → CanLead law c act → CanLead law (with_seat c) act
  lead_more LoadDone h = h
  lead_more Reset h = h
  lead_more (SetFixed word value) h = h
  lead_more OpenLinks h = h
  lead_more OpenNodes h = h
  lead_more Stop h = h
  lead_more Look h = absurd h
  lead_more Claim h = absurd h
  lead_more LoadInput h = absurd h
  lead_more AddFirst h = absurd h
  lead_more AddSecond h = absurd h
  lead_more AddAreaFirst h = absurd h
  lead_more AddAreaSecond h = absurd h
  lead_more OfferTime h = absurd h
  lead_more PutFlow h = absurd h
  lead_more Done h = absurd h
  lead_more LoadSums h = absurd h
  lead_more PutHead h = absurd h
  lead_more MarkUnsettled h = absurd h

  same_seat : (i : ℕ) → i < length c.seats → seat_of (with_seat c) i ≡ seat_of c i
  same_seat i h = get_or_append_left c.seats (idle ∷ []) idle i h

  can_more : (e : Event) → Can law c e → Can law (with_seat c) e
  can_more e can = record {
    seat = omega (arith, can.seat, length-append c.seats (idle ∷ []));
    lead = λ first. lead_more e.act (can.lead first);
    worker = λ later.
        subst (λ (w : Work). CanWork law w e.act) (sym (same_seat e.seat can.seat)) (can.worker later);
  }

  looked_more : (t : Bool) → looked_done law (with_seat c) t ≡ with_seat (looked_done law c t)
  looked_more true = refl
  looked_more false = refl

  by_lead_more : (act : Act) → by_lead law (with_seat c) act ≡ with_seat (by_lead law c act)
  by_lead_more LoadDone = looked_more (is_all (number c.words done_place) (count law c.phase))
  by_lead_more Reset = refl
  by_lead_more (SetFixed word value) = refl
  by_lead_more OpenLinks = refl
  by_lead_more OpenNodes = refl
  by_lead_more Stop = refl
  by_lead_more Look = refl
  by_lead_more Claim = refl
  by_lead_more LoadInput = refl
  by_lead_more AddFirst = refl
  by_lead_more AddSecond = refl
  by_lead_more AddAreaFirst = refl
  by_lead_more AddAreaSecond = refl
  by_lead_more OfferTime = refl
  by_lead_more PutFlow = refl
  by_lead_more Done = refl
  by_lead_more LoadSums = refl
  by_lead_more PutHead = refl
  by_lead_more MarkUnsettled = refl

  same_work : (w : Work) (act : Act) → work_after law (with_seat c) w act ≡ work_after law c w act
  unfolding work_after
  same_work w Look = refl
  same_work w Claim = refl
  same_work w LoadInput = refl
  same_work w LoadSums = refl
  same_work w Done = refl
  same_work w AddFirst = refl
  same_work w AddSecond = refl
  same_work w AddAreaFirst = refl
  same_work w AddAreaSecond = refl
  same_work w OfferTime = refl
  same_work w PutFlow = refl
  same_work w PutHead = refl
  same_work w MarkUnsettled = refl
  same_work w LoadDone = refl
  same_work w Reset = refl
  same_work w (SetFixed word value) = refl
  same_work w OpenLinks = refl
  same_work w OpenNodes = refl
  same_work w Stop = refl

  same_words : (w : Work) (act : Act) → words_after law (with_seat c) w act ≡ words_after law c w act
  unfolding words_after
  same_words w Look = refl
  same_words w Claim = refl
  same_words w LoadInput = refl
  same_words w LoadSums = refl
  same_words w Done = refl
  same_words w AddFirst = refl
  same_words w AddSecond = refl
  same_words w AddAreaFirst = refl
  same_words w AddAreaSecond = refl
  same_words w OfferTime = refl
  same_words w PutFlow = refl
  same_words w PutHead = refl
  same_words w MarkUnsettled = refl
  same_words w LoadDone = refl
  same_words w Reset = refl
  same_words w (SetFixed word value) = refl
  same_words w OpenLinks = refl
  same_words w OpenNodes = refl
  same_words w Stop = refl

  by_worker_more : (i : ℕ) (act : Act) → i < length c.seats
      → by_worker law (with_seat c) i act ≡ with_seat (by_worker law c i act)
  by_worker_more i act h =
      let one = same_seat i h in
      let words = ap (λ (w : Work). words_after law (with_seat c) w act) one ∙ same_words (seat_of c i) act in
      let work = ap (λ (w : Work). work_after law (with_seat c) w act) one ∙ same_work (seat_of c i) act in
      let seats = ap (λ (w : Work). slice_set (c.seats ++ idle ∷ []) i w) work
      ∙ set-append_left c.seats (idle ∷ []) i (work_after law c (seat_of c i) act) h in
      cc (words, seats)

  after_more : (e : Event) → e.seat < length c.seats → after law (with_seat c) e ≡ with_seat (after law c e)
  unfolding after
  after_more e h = by_seat (eqb e.seat 0)
    where
      by_seat : (t : Bool)
          → (if t then by_lead law (with_seat c) e.act else by_worker law (with_seat c) e.seat e.act)
          ≡ with_seat (if t then by_lead law c e.act else by_worker law c e.seat e.act)
      by_seat true = by_lead_more e.act
      by_seat false = by_worker_more e.seat e.act h

start_more : (law : Law) (n : ℕ) (c : Core) → IsStart law (resting law.nodes law.links) n c
    → IsStart law (resting law.nodes law.links) (n + 1) (with_seat c)
start_more law n c start = record {
  phase = start.phase;
  is_open = start.is_open;
  index = start.index;
  resets = start.resets;
  stopped = start.stopped;
  seats_idle =
      ap (λ (xs : List Work). xs ++ idle ∷ []) start.seats_idle ∙ replicate-append-replicate n 1 idle;
  opened = start.opened;
  closed = start.closed;
  words = start.words;
  done = start.done;
  unsettled = start.unsettled;
  first = start.first;
  link_fixed = start.link_fixed;
  flow = start.flow;
  other_flow = start.other_flow;
  node_fixed = start.node_fixed;
  head = start.head;
  other_head = start.other_head;
  sums = start.sums;
  least = start.least;
}

pub reached_more : (law : Law) (n : ℕ) (c : Core) → IsReached law n c → IsReached law (n + 1) (with_seat c)
reached_more law n _ (starts c start) = starts (with_seat c) (start_more law n c start)
reached_more law n _ (makes c e r can) =
    subst
    (λ (d : Core). IsReached law (n + 1) d)
    (after_more law c e can.seat)
    (makes (with_seat c) e (reached_more law n c r) (can_more law c e can))
