-- Each event keeps what holds of a core, so it holds of every core that a list of events reaches.
use Rattle.std.proofs.Common.{◌≡◌, ℕ, ◌+◌, ◌-◌, ◌<◌, ◌≤◌, Bool, true, false, eqb, if◌then◌else◌, ℤ, pos, negsuc, ◌+ℤ◌, List, length, slice_set, refl, sym, ap, subst, ◌∙◌, arith}
use Rattle.std.proofs.lemmas.Bool.Decides.{nat_tests}
use Rattle.std.proofs.lemmas.Bool.{eqb-true}
use Rattle.fixed_num.specs.Lists.{number}
use Rattle.phase_law.specs.Law.{Law}
use Rattle.phase_law.specs.Laws.{IsLaw}
use Rattle.phase_law.specs.declared.values.NodeNext.{NodeNext}
use Rattle.phase_law.specs.declared.values.Share.{Share}
use Rattle.phase_machine.specs.declared.acts.Act.{Act}
use Rattle.phase_machine.specs.declared.acts.Act.TheVariants.{Look, Claim, LoadInput, AddFirst, AddSecond, AddAreaFirst, AddAreaSecond, OfferTime, PutFlow, Done, LoadSums, PutHead, MarkUnsettled, LoadDone, Reset, SetFixed, OpenLinks, OpenNodes, Stop}
use Rattle.phase_machine.specs.declared.acts.Event.{Event}
use Rattle.phase_machine.specs.Places.{done_place, link_place, node_place, is_odd, count, written}
use Rattle.phase_machine.specs.Core.{Core, seat_of}
use Rattle.phase_machine.specs.Items.{input_count, share_at, next_at, Deposit, leaving, reaching, covering}
use Rattle.phase_machine.specs.Steps.{further, CanWork, CanLead, Can, work_after, words_after, by_worker, by_lead, looked_done, is_all, after}
use Rattle.phase_machine.specs.Runs.{Leads, none, makes, refuses}
use Rattle.phase_machine.specs.Kept.{part_of, deposit_at, sum_parts, shares, Kept}
use Rattle.phase_machine.proofs.PlaceLemmas.{written_few, read_within}
use Rattle.phase_machine.proofs.Loaded.{item_link}
use Rattle.phase_machine.proofs.HeldActs.{keeps_load, its_share, keeps_deposit, keeps_offer, keeps_flow, its_next, keeps_head, keeps_mark}
use Rattle.phase_machine.proofs.Claims.{looks_at, keeps_claim, keeps_done}
use Rattle.phase_machine.proofs.LeadActs.{keeps_close, keeps_reset, keeps_set, keeps_open_links, keeps_open_nodes, keeps_stop}

leaving_ok : (node : ℕ) (q : ℤ) → ((leaving node q).node ≡ node) × ((leaving node q).sum < 3)
leaving_ok node (pos q) = (refl, omega arith)
leaving_ok node (negsuc q) = (refl, omega arith)

reaching_ok : (node : ℕ) (q : ℤ) → ((reaching node q).node ≡ node) × ((reaching node q).sum < 3)
reaching_ok node (pos q) = (refl, omega arith)
reaching_ok node (negsuc q) = (refl, omega arith)

module _ {law : Law} (good : IsLaw law) (c : Core) (kept : Kept law c) (i : ℕ) (within : i < length c.seats) where
  -- the tag of an item is the phase
  tag_is : 1 ≤ (seat_of c i).stage → (seat_of c i).tag ≡ c.phase
  tag_is held = ((kept.seats i).item held).tag

  odd_phase : 1 ≤ (seat_of c i).stage → {t : Bool} → is_odd (seat_of c i).tag ≡ t → is_odd c.phase ≡ t
  odd_phase held e = ap is_odd (sym (tag_is held)) ∙ e

  ends_in : 1 ≤ (seat_of c i).stage → is_odd c.phase ≡ true → ((law.ends (seat_of c i).item).0 < law.nodes) × ((law.ends (seat_of c i).item).1 < law.nodes)
  ends_in held odd =
      let ends = good.ends_in (seat_of c i).item (item_link law c.phase (seat_of c i).item odd ((kept.seats i).item held).item) in
      (ends.first, ends.second)

  load_few : (t : Bool) → (if t then 8 else 7) ≤ (if t then 8 else 10)
  load_few true = omega arith
  load_few false = omega arith

  -- a deposit at its stage
  deposits : (stage : ℕ) (d : Deposit) → (seat_of c i).stage ≡ stage → 9 ≤ stage → stage < 13 → is_odd (seat_of c i).tag ≡ true
      → ((share : ℕ → Share) → share_at law (seat_of c i) ≡ share (seat_of c i).item → d ≡ deposit_at law share stage (seat_of c i).item)
      → d.node < law.nodes → d.sum < 3
      → Kept law (record c { words = slice_set c.words (node_place law d.node (7 + d.sum)) (number c.words (node_place law d.node (7 + d.sum)) +ℤ pos d.amount); seats = slice_set c.seats i (record (seat_of c i) { stage = (seat_of c i).stage + 1 }) })
  unfolding sum_parts
  deposits stage d at low high link same node sum =
      let held : 1 ≤ (seat_of c i).stage = omega (arith, at, low) in
      let odd = odd_phase held link in
      let late : 9 ≤ (seat_of c i).stage = omega (arith, at, low) in
      let more : (seat_of c i).stage < 15 = omega (arith, at, high) in
      let e = same (shares law c.opened c.phase) (its_share good c kept i within held odd late more) in
      keeps_deposit good c kept i within held odd late more d
      (λ n s. ap (λ (x : Deposit). part_of x n s) e ∙ ap (λ (k : ℕ). part_of (deposit_at law (shares law c.opened c.phase) k (seat_of c i).item) n s) (sym at))
      (omega (arith, at, high)) node sum

  keeps_worker : (act : Act) → CanWork law (seat_of c i) act → Kept law (by_worker law c i act)
  unfolding work_after words_after
  keeps_worker Look can = looks_at good c kept i within can
  keeps_worker Claim can = keeps_claim good c kept i within can.0 can.1
  keeps_worker LoadInput can =
      let few : input_count (seat_of c i).tag ≤ (if is_odd c.phase then 8 else 10) = rw (tag_is can.0) (load_few (is_odd c.phase)) in
      keeps_load good c kept i within can.0 (omega (arith, can.1, few))
  keeps_worker LoadSums can =
      let held : 1 ≤ (seat_of c i).stage = omega (arith, can.1) in
      let even = odd_phase held can.0 in
      keeps_load good c kept i within held (rw even (omega (arith, can.2)))
  keeps_worker AddFirst can =
      let held : 1 ≤ (seat_of c i).stage = omega (arith, can.1) in
      let ends = ends_in held (odd_phase held can.0) in
      let q = (share_at law (seat_of c i)).q in
      let ok = leaving_ok (law.ends (seat_of c i).item).0 q in
      deposits 9 (leaving (law.ends (seat_of c i).item).0 q) can.1 (omega arith) (omega arith) can.0
      (λ share e. ap (λ (s : Share). leaving (law.ends (seat_of c i).item).0 s.q) e)
      (omega (arith, ok.0, ends.0)) ok.1
  keeps_worker AddSecond can =
      let held : 1 ≤ (seat_of c i).stage = omega (arith, can.1) in
      let ends = ends_in held (odd_phase held can.0) in
      let q = (share_at law (seat_of c i)).q in
      let ok = reaching_ok (law.ends (seat_of c i).item).1 q in
      deposits 10 (reaching (law.ends (seat_of c i).item).1 q) can.1 (omega arith) (omega arith) can.0
      (λ share e. ap (λ (s : Share). reaching (law.ends (seat_of c i).item).1 s.q) e)
      (omega (arith, ok.0, ends.1)) ok.1
  keeps_worker AddAreaFirst can =
      let held : 1 ≤ (seat_of c i).stage = omega (arith, can.1) in
      let ends = ends_in held (odd_phase held can.0) in
      deposits 11 (covering (law.ends (seat_of c i).item).0 (share_at law (seat_of c i)).area1) can.1 (omega arith) (omega arith) can.0
      (λ share e. ap (λ (s : Share). covering (law.ends (seat_of c i).item).0 s.area1) e)
      ends.0 (omega arith)
  keeps_worker AddAreaSecond can =
      let held : 1 ≤ (seat_of c i).stage = omega (arith, can.1) in
      let ends = ends_in held (odd_phase held can.0) in
      deposits 12 (covering (law.ends (seat_of c i).item).1 (share_at law (seat_of c i)).area2) can.1 (omega arith) (omega arith) can.0
      (λ share e. ap (λ (s : Share). covering (law.ends (seat_of c i).item).1 s.area2) e)
      ends.1 (omega arith)
  keeps_worker OfferTime can =
      let held : 1 ≤ (seat_of c i).stage = omega (arith, can.1) in
      let odd = odd_phase held can.0 in
      let late : 9 ≤ (seat_of c i).stage = omega (arith, can.1) in
      let more : (seat_of c i).stage < 15 = omega (arith, can.1) in
      keeps_offer good c kept i within held odd late more can.1 (share_at law (seat_of c i)).time
      (ap (λ (s : Share). s.time) (its_share good c kept i within held odd late more))
  keeps_worker PutFlow can =
      let held : 1 ≤ (seat_of c i).stage = omega (arith, can.1) in
      let odd = odd_phase held can.0 in
      let late : 9 ≤ (seat_of c i).stage = omega (arith, can.1) in
      let more : (seat_of c i).stage < 15 = omega (arith, can.1) in
      subst (λ (p : ℕ). Kept law (record c { words = slice_set c.words (link_place (seat_of c i).item (4 + written p)) (share_at law (seat_of c i)).q; seats = slice_set c.seats i (further (seat_of c i)) }))
      (sym (tag_is held))
      (keeps_flow good c kept i within held odd late more can.1 (share_at law (seat_of c i)).q
      (ap (λ (s : Share). s.q) (its_share good c kept i within held odd late more)))
  keeps_worker PutHead can =
      let held : 1 ≤ (seat_of c i).stage = omega (arith, can.1) in
      let even = odd_phase held can.0 in
      let late : 11 ≤ (seat_of c i).stage = omega (arith, can.1) in
      let more : (seat_of c i).stage < 13 = omega (arith, can.1) in
      subst (λ (p : ℕ). Kept law (record c { words = slice_set c.words (node_place law (seat_of c i).item (5 + written p)) (next_at law (seat_of c i)).head; seats = slice_set c.seats i (further (seat_of c i)) }))
      (sym (tag_is held))
      (keeps_head good c kept i within held even late more can.1 (next_at law (seat_of c i)).head
      (ap (λ (x : NodeNext). x.head) (its_next good c kept i within held even late more)))
  keeps_worker MarkUnsettled can =
      let held : 1 ≤ (seat_of c i).stage = omega (arith, can.0.1) in
      let even = odd_phase held can.0.0 in
      let late : 11 ≤ (seat_of c i).stage = omega (arith, can.0.1) in
      let more : (seat_of c i).stage < 13 = omega (arith, can.0.1) in
      keeps_mark good c kept i within held even late more can.0.1
      (ap (λ (x : NodeNext). x.settled) (sym (its_next good c kept i within held even late more)) ∙ can.1)
  keeps_worker Done can = keeps_done good c kept i within can.0 can.1
  keeps_worker LoadDone can = absurd can
  keeps_worker Reset can = absurd can
  keeps_worker (SetFixed word value) can = absurd can
  keeps_worker OpenLinks can = absurd can
  keeps_worker OpenNodes can = absurd can
  keeps_worker Stop can = absurd can

module _ {law : Law} (good : IsLaw law) (c : Core) (kept : Kept law c) where
  counted : (z : ℤ) (n : ℕ) → is_all z n ≡ true → z ≡ pos n
  counted (pos m) n e = ap pos (eqb-true m n e)
  counted (negsuc m) n e = cc

  keeps_lead : (act : Act) → CanLead law c act → Kept law (by_lead law c act)
  keeps_lead LoadDone can = by_test (is_all (number c.words done_place) (count law c.phase)) refl
    where
      by_test : (t : Bool) → is_all (number c.words done_place) (count law c.phase) ≡ t → Kept law (looked_done law c t)
      by_test true on = keeps_close good c kept can (counted (number c.words done_place) (count law c.phase) on)
      by_test false off = kept
  keeps_lead Reset can = keeps_reset good c kept can.0.0 can.1
  keeps_lead (SetFixed word value) can =
      let place = can.2.0 in
      let at : word - 1 ≡ can.2.0 = omega (arith, can.2.1) in
      let inside = read_within (written_few c.phase) can.2.2 in
      rw at (keeps_set good c kept can.0.0 can.1 can.2.0 value can.2.2 can.2.3 (omega (arith, inside, kept.words)))
  keeps_lead OpenLinks can = keeps_open_links good c kept can.0.0 can.2 can.1
  keeps_lead OpenNodes can = keeps_open_nodes good c kept can.0.0 can.2 can.1
  keeps_lead Stop can = keeps_stop good c kept
  keeps_lead Look can = absurd can
  keeps_lead Claim can = absurd can
  keeps_lead LoadInput can = absurd can
  keeps_lead AddFirst can = absurd can
  keeps_lead AddSecond can = absurd can
  keeps_lead AddAreaFirst can = absurd can
  keeps_lead AddAreaSecond can = absurd can
  keeps_lead OfferTime can = absurd can
  keeps_lead PutFlow can = absurd can
  keeps_lead Done can = absurd can
  keeps_lead LoadSums can = absurd can
  keeps_lead PutHead can = absurd can
  keeps_lead MarkUnsettled can = absurd can

  pub keeps : (e : Event) → Can law c e → Kept law (after law c e)
  unfolding after
  keeps e can = by_seat (eqb e.seat 0) refl
    where
      by_seat : (t : Bool) → eqb e.seat 0 ≡ t → Kept law (if t then by_lead law c e.act else by_worker law c e.seat e.act)
      by_seat true on = keeps_lead e.act (can.lead (eqb-true _ _ on))
      by_seat false off = keeps_worker good c kept e.seat can.seat e.act (can.worker (grind (arith, nat_tests)))

-- so it holds of every core that is reached
pub kept_of : {law : Law} → IsLaw law → (first : Core) → Kept law first → (es : List Event) (c : Core) → Leads law first es c → Kept law c
kept_of good first kept _ _ none = kept
kept_of good first kept _ _ (makes es d e leads can) = keeps good d (kept_of good first kept es d leads) e can
kept_of good first kept _ _ (refuses es d e leads cannot) = kept_of good first kept es d leads
