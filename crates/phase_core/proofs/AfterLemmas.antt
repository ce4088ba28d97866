-- A step leaves a machine that is ready for the next.
use Rattle.std.proofs.Common.{◌≡◌, ℕ, List, replicate, ◌<◌, ◌≤◌, Bool, true, false, eqb, if◌then◌else◌, ℤ, length, refl, sym, ap, ◌∙◌, arith}
use Rattle.std.proofs.lemmas.Bool.Decides.{nat_tests}
use Rattle.std.proofs.lemmas.List.{length-set, length-replicate}
use Rattle.std.proofs.lemmas.List.FromFn.{length-map-range_with_len}
use Rattle.fixed_num.specs.Lists.{number}
use Rattle.phase_law.specs.Law.{Law}
use Rattle.phase_law.specs.Laws.{IsLaw}
use Rattle.trial_model.specs.declared.nets.Nets.{Nets}
use Rattle.trial_model.specs.Fits.{Fits}
use Rattle.phase_machine.specs.declared.acts.Act.{Act}
use Rattle.phase_machine.specs.declared.acts.Act.TheVariants.{Look, Claim, LoadInput, AddFirst, AddSecond, AddAreaFirst, AddAreaSecond, OfferTime, PutFlow, Done, LoadSums, PutHead, MarkUnsettled, LoadDone, Reset, SetFixed, OpenLinks, OpenNodes, Stop}
use Rattle.phase_machine.specs.declared.acts.Event.{Event}
use Rattle.phase_machine.specs.Places.{word_count, is_odd, written, count, nets_in, done_place}
use Rattle.phase_machine.specs.Core.{Core, IsStart, seat_of, idle}
use Rattle.phase_machine.specs.Steps.{Can, after, by_lead, by_worker, closed_by, looked_done, is_all, work_after}
use Rattle.phase_machine.specs.Kept.{Kept}
use Rattle.phase_machine.proofs.Keeps.{keeps}
use Rattle.phase_machine.proofs.Starts.{kept_at_start}
use Rattle.phase_machine.specs.declared.work.Work.{Work}
use Rattle.phase_machine.specs.Runs.{LinksDone, NodesDone, has_trial}
use Rattle.phase_machine.proofs.Trials.{links_done, nodes_done}
use Rattle.phase_core.specs.Opening.{AllLaid}
use Rattle.phase_core.specs.Ready.{HasItems, IsReady}

-- what a step leaves of the sizes
record HasSize (law : Law) (c : Core) : Type 0 where
  seats : length c.seats ≤ 17
  opened : length c.opened ≡ word_count law
  closed : HasItems law c.closed

nets_size : (law : Law) (words : List ℤ) (b : ℕ) → HasItems law (nets_in law words b)
unfolding nets_in
nets_size law words b = record {
  heads = length-map-range_with_len _ 0 law.nodes;
  flows = length-map-range_with_len _ 0 law.links;
  inflows = length-map-range_with_len _ 0 law.nodes;
  outflows = length-map-range_with_len _ 0 law.nodes;
  areas = length-map-range_with_len _ 0 law.nodes;
  read_heads = length-map-range_with_len _ 0 law.nodes;
  links = length-map-range_with_len _ 0 law.links;
  nodes = length-map-range_with_len _ 0 law.nodes;
}

module _ {law : Law} (c : Core) (words : length c.words ≡ word_count law) (size : HasSize law c) where
  closed_size : HasSize law (closed_by law c)
  closed_size = record { seats = size.seats; opened = size.opened; closed = by_kind (is_odd c.phase) }
    where
      by_kind : (t : Bool) → HasItems law (if t then c.closed else nets_in law c.words (written c.phase))
      by_kind true = size.closed
      by_kind false = nets_size law c.words (written c.phase)

  looked_size : (t : Bool) → HasSize law (looked_done law c t)
  looked_size true = closed_size
  looked_size false = size

  lead_size : (act : Act) → HasSize law (by_lead law c act)
  lead_size LoadDone = looked_size (is_all (number c.words done_place) (count law c.phase))
  lead_size Reset = record { seats = size.seats; opened = size.opened; closed = size.closed }
  lead_size (SetFixed word value) = record { seats = size.seats; opened = size.opened; closed = size.closed }
  lead_size OpenLinks = record { seats = size.seats; opened = words; closed = size.closed }
  lead_size OpenNodes = record { seats = size.seats; opened = size.opened; closed = size.closed }
  lead_size Stop = record { seats = size.seats; opened = size.opened; closed = size.closed }
  lead_size Look = size
  lead_size Claim = size
  lead_size LoadInput = size
  lead_size AddFirst = size
  lead_size AddSecond = size
  lead_size AddAreaFirst = size
  lead_size AddAreaSecond = size
  lead_size OfferTime = size
  lead_size PutFlow = size
  lead_size Done = size
  lead_size LoadSums = size
  lead_size PutHead = size
  lead_size MarkUnsettled = size

  worker_size : (seat : ℕ) (act : Act) → HasSize law (by_worker law c seat act)
  worker_size seat act = record {
    seats = omega (arith, size.seats, length-set c.seats seat (work_after law c (seat_of c seat) act));
    opened = size.opened;
    closed = size.closed;
  }

  size_after : (e : Event) → HasSize law (after law c e)
  unfolding after
  size_after e = by_seat (eqb e.seat 0)
    where
      by_seat : (t : Bool) → HasSize law (if t then by_lead law c e.act else by_worker law c e.seat e.act)
      by_seat true = lead_size e.act
      by_seat false = worker_size e.seat e.act

pub ready_after : (law : Law) (c : Core) (e : Event) → IsReady law c → Can law c e → IsReady law (after law c e)
ready_after law c e ready can =
    let size : HasSize law c = record { seats = ready.seats; opened = ready.opened; closed = ready.closed } in
    let new = size_after c ready.kept.words size e in
    record {
      good = ready.good;
      kept = keeps ready.good c ready.kept e can;
      seats = new.seats;
      opened = new.opened;
      closed = new.closed;
    }

-- the start
items_of : {law : Law} {nets : Nets} → Fits law nets → HasItems law nets
items_of fits = record {
  heads = fits.heads.count;
  flows = fits.flows.count;
  inflows = fits.sums.inflow_count;
  outflows = fits.sums.outflow_count;
  areas = fits.sums.area_count;
  read_heads = fits.read_heads.count;
  links = fits.links.count;
  nodes = fits.nodes.count;
}

pub ready_at_start : (law : Law) (nets : Nets) (seats : ℕ) (c : Core) → IsLaw law → Fits law nets → IsStart law nets seats c
    → seats ≤ 17 → IsReady law c
ready_at_start law nets seats c good fits start few = record {
  good = good;
  kept = kept_at_start fits start;
  seats = let e = ap length start.seats_idle ∙ length-replicate seats idle in omega (arith, e, few);
  opened = ap length start.opened ∙ start.words;
  closed = rw start.closed (items_of fits);
}

-- a core whose words were laid out is one at the start
pub laid_start : (law : Law) (nets : Nets) (seats : ℕ) (words opened : List ℤ) (all : List Work) → AllLaid law nets words
    → all ≡ replicate seats idle → opened ≡ words
    → IsStart law nets seats (record {
      phase = 0;
      is_open = false;
      index = 0;
      words = words;
      seats = all;
      resets = 0;
      stopped = false;
      opened = opened;
      closed = nets;
    })
laid_start law nets seats words opened all laid are_idle same = record {
  phase = refl;
  is_open = refl;
  index = refl;
  resets = refl;
  stopped = refl;
  seats_idle = are_idle;
  opened = same;
  closed = refl;
  words = laid.size;
  done = laid.nodes.links.done;
  unsettled = laid.nodes.links.unsettled;
  first = laid.nodes.links.first;
  link_fixed = laid.nodes.links.fixed;
  flow = laid.nodes.links.flow;
  other_flow = laid.nodes.links.other;
  node_fixed = laid.nodes.fixed;
  head = laid.nodes.head;
  other_head = laid.nodes.other;
  sums = laid.nodes.sums;
  least = laid.least;
}

-- ---- what holds once a phase is closed
pub flows_done : (law : Law) (c : Core) → IsReady law c → (is_odd c.phase ≡ true) × (c.is_open ≡ false) → LinksDone law c
flows_done law c ready h = links_done ready.good c ready.kept h.1 h.0

pub heads_done : (law : Law) (c : Core) → IsReady law c → has_trial c ≡ true → NodesDone law c
heads_done law c ready h = by_open c.is_open refl
  where
    by_phase : c.is_open ≡ false → is_odd c.phase ≡ false → (t : Bool) → eqb c.phase 0 ≡ t → NodesDone law c
    by_phase off even true e = let none : has_trial c ≡ false = rw (off, even, e) refl in let no : true ≡ false = sym h ∙ none in cc
    by_phase off even false e = nodes_done ready.good c ready.kept off even (grind (arith, nat_tests))

    by_kind : c.is_open ≡ false → (t : Bool) → is_odd c.phase ≡ t → NodesDone law c
    by_kind off true odd = let none : has_trial c ≡ false = rw (off, odd) refl in let no : true ≡ false = sym h ∙ none in cc
    by_kind off false even = by_phase off even (eqb c.phase 0) refl

    by_open : (t : Bool) → c.is_open ≡ t → NodesDone law c
    by_open true on = let none : has_trial c ≡ false = rw on refl in let no : true ≡ false = sym h ∙ none in cc
    by_open false off = by_kind off (is_odd c.phase) refl
