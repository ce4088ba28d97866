-- A board that was stopped has no open phase, and nothing is left to claim on it; what its claim word can be.
use Rattle.std.proofs.Common.{◌≡◌, ℕ, ◌+◌, ◌-◌, ◌%◌, ◌^◌, ◌<◌, ◌≤◌, Bool, true, false}
use Rattle.std.proofs.Common.{eqb, nat_lt, if◌then◌else◌, refl, sym, ◌∙◌, arith}
use Rattle.std.proofs.lemmas.Bool.Decides.{nat_tests}
use Rattle.fixed_num.specs.Lists.{number}
use Rattle.phase_law.specs.Law.{Law}
use Rattle.phase_law.specs.Laws.{IsLaw}
use Rattle.phase_machine.specs.declared.acts.Act.{Act}
use Rattle.phase_machine.specs.declared.acts.Act.TheVariants.{Look, Claim, LoadInput, AddFirst, AddSecond}
use Rattle.phase_machine.specs.declared.acts.Act.TheVariants.{AddAreaFirst, AddAreaSecond, OfferTime, PutFlow, Done}
use Rattle.phase_machine.specs.declared.acts.Act.TheVariants.{LoadSums, PutHead, MarkUnsettled, LoadDone, Reset}
use Rattle.phase_machine.specs.declared.acts.Act.TheVariants.{SetFixed, OpenLinks, OpenNodes, Stop}
use Rattle.phase_machine.specs.declared.acts.Event.{Event}
use Rattle.phase_machine.specs.Places.{done_place, count}
use Rattle.phase_machine.specs.Core.{Core}
use Rattle.phase_machine.specs.Kept.{Kept}
use Rattle.phase_machine.specs.Steps.{Can, CanLead, after, by_lead, by_worker, looked_done, is_all}
use Rattle.phase_machine.proofs.Progress.{all_given}
use Rattle.node_board.specs.Coding.{claim_word, phase_in, index_in}
use Rattle.node_board.specs.Reached.{IsReached, starts, makes}

-- ---- no phase is open
abbrev StopIsClosed : Core → Type 0
StopIsClosed c = c.stopped ≡ true → c.is_open ≡ false

looked_closed : (law : Law) (c : Core) → StopIsClosed c → (t : Bool) → StopIsClosed (looked_done law c t)
looked_closed law c old true on = refl
looked_closed law c old false on = old on

lead_closed : (law : Law) (c : Core) → StopIsClosed c → (act : Act) → CanLead law c act → StopIsClosed (by_lead law c act)
lead_closed law c old LoadDone can on =
    looked_closed law c old (is_all (number c.words done_place) (count law c.phase)) on
lead_closed law c old Reset can on = can.0.0
lead_closed law c old (SetFixed word value) can on = can.0.0
lead_closed law c old OpenLinks can on = let no : true ≡ false = sym on ∙ can.0.1 in cc
lead_closed law c old OpenNodes can on = let no : true ≡ false = sym on ∙ can.0.1 in cc
lead_closed law c old Stop can on = can.0
lead_closed law c old Look can on = absurd can
lead_closed law c old Claim can on = absurd can
lead_closed law c old LoadInput can on = absurd can
lead_closed law c old AddFirst can on = absurd can
lead_closed law c old AddSecond can on = absurd can
lead_closed law c old AddAreaFirst can on = absurd can
lead_closed law c old AddAreaSecond can on = absurd can
lead_closed law c old OfferTime can on = absurd can
lead_closed law c old PutFlow can on = absurd can
lead_closed law c old Done can on = absurd can
lead_closed law c old LoadSums can on = absurd can
lead_closed law c old PutHead can on = absurd can
lead_closed law c old MarkUnsettled can on = absurd can

after_closed : (law : Law) (c : Core) (e : Event) → StopIsClosed c → Can law c e → StopIsClosed (after law c e)
unfolding after
after_closed law c e old can = by_seat (eqb e.seat 0) refl
  where
    by_seat : (t : Bool) → eqb e.seat 0 ≡ t
        → StopIsClosed (if t then by_lead law c e.act else by_worker law c e.seat e.act)
    by_seat true on = lead_closed law c old e.act (can.lead (grind (arith, nat_tests)))
    by_seat false off = old

pub stop_is_closed : (law : Law) (n : ℕ) (c : Core) → IsReached law n c → c.stopped ≡ true → c.is_open ≡ false
stop_is_closed law n _ (starts c start) on = start.is_open
stop_is_closed law n _ (makes c e r can) on = after_closed law c e (stop_is_closed law n c r) can on

-- ---- nothing is left
pub none_left : (law : Law) (c : Core) → Kept law c → c.is_open ≡ false → nat_lt c.index (count law c.phase) ≡ false
none_left law c kept off =
    let h = all_given c.phase c.index (count law c.phase) c.seats kept.once (kept.all off) in grind (arith, nat_tests, h)

-- ---- the claim word
pub phase_of_claim : (phase index : ℕ) → index < 2 ^ 32 → phase_in (claim_word phase index) ≡ phase
phase_of_claim phase index few = omega (arith, few)

pub index_of_claim : (phase index : ℕ) → index < 2 ^ 32 → index_in (claim_word phase index) ≡ index
index_of_claim phase index few = omega (arith, few)

-- after the stop it names no item
pub none_named : (law : Law) → IsLaw law → (n looks seats : ℕ) → n < 2 ^ 64 → (n + 1) % 2 ^ 64 + looks ≤ seats
    → seats ≤ 1_000_001 → nat_lt (index_in n) (count law (phase_in n)) ≡ false
none_named law good n looks seats small behind few = by_size (nat_lt n (2 ^ 32)) refl
  where
    by_size : (t : Bool) → nat_lt n (2 ^ 32) ≡ t → nat_lt (index_in n) (count law (phase_in n)) ≡ false
    by_size true on =
        let less : n < 2 ^ 32 = grind (arith, nat_tests) in
        let none : phase_in n ≡ 0 = omega (arith, less) in
        rw none (grind (arith, nat_tests))
    by_size false off =
        let more : 2 ^ 32 ≤ n = grind (arith, nat_tests) in
        let last : n ≡ 2 ^ 64 - 1 = omega (arith, more, small, behind, few) in
        rw last (grind (arith, nat_tests, good.few_links))
