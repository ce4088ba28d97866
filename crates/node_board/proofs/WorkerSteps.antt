-- A step of a worker on one word keeps the rule, if words and views show the core after its act.
use Rattle.std.proofs.Common.{◌≡◌, ℕ, ◌+◌, ◌%◌, ◌^◌, ◌<◌, ◌≤◌, ◌⊎◌, inl, inr, true, false, eqb}
use Rattle.std.proofs.Common.{List, length, slice_set, slice_index}
use Rattle.std.proofs.Common.{refl, sym, ap, subst, ◌∙◌, arith}
use Rattle.std.proofs.lemmas.Bool.Decides.{nat_tests}
use Rattle.std.proofs.lemmas.List.{length-set}
use mathlib.Core.Option.{some}
use lib.ListN.{get_elem?}
use Rattle.atomic_table.specs.Table.{State}
use Rattle.atomic_table.proofs.Lists.{at_set}
use Rattle.phase_law.specs.Law.{Law}
use Rattle.phase_law.specs.Laws.{IsLaw}
use Rattle.phase_machine.specs.declared.acts.Act.{Act}
use Rattle.phase_machine.specs.declared.acts.Act.TheVariants.{Look, Claim, LoadInput, AddFirst, AddSecond}
use Rattle.phase_machine.specs.declared.acts.Act.TheVariants.{AddAreaFirst, AddAreaSecond, OfferTime, PutFlow, Done}
use Rattle.phase_machine.specs.declared.acts.Act.TheVariants.{LoadSums, PutHead, MarkUnsettled, LoadDone, Reset}
use Rattle.phase_machine.specs.declared.acts.Act.TheVariants.{SetFixed, OpenLinks, OpenNodes, Stop}
use Rattle.phase_machine.specs.declared.work.Work.{Work}
use Rattle.phase_machine.specs.Core.{Core, seat_of}
use Rattle.phase_machine.specs.Kept.{Kept, looks}
use Rattle.phase_machine.specs.Runs.{total}
use Rattle.phase_machine.specs.Steps.{Can, CanWork, after, by_worker, work_after, words_after}
use Rattle.phase_machine.proofs.Bounds.{running}
use Rattle.node_board.specs.declared.views.Plan.{Plan}
use Rattle.node_board.specs.declared.views.Role.{Role}
use Rattle.node_board.specs.declared.views.Role.TheVariants.{Leads, Works}
use Rattle.node_board.specs.declared.views.View.{View}
use Rattle.node_board.specs.Reached.{IsReached, makes}
use Rattle.node_board.specs.Shows.{Shows, work_in}
use Rattle.node_board.specs.Rule.{LeadKnows, RoleFits, ViewFits, IsRuled}
use Rattle.node_board.proofs.ReachedLemmas.{kept_of_reached}
use Rattle.node_board.proofs.ShowLemmas.{seat_is, seat_in}

-- an act that changes a word is made on an item
pub held : (law : Law) (w : Work) (act : Act) → CanWork law w act
    → (1 ≤ w.stage) ⊎ ((c : Core) → words_after law c w act ≡ c.words)
unfolding words_after
held law w Look can = inr (λ c. refl)
held law w Claim can = inr (λ c. refl)
held law w LoadInput can = inr (λ c. refl)
held law w LoadSums can = inr (λ c. refl)
held law w AddFirst can = inl (omega (arith, can.1))
held law w AddSecond can = inl (omega (arith, can.1))
held law w AddAreaFirst can = inl (omega (arith, can.1))
held law w AddAreaSecond can = inl (omega (arith, can.1))
held law w OfferTime can = inl (omega (arith, can.1))
held law w PutFlow can = inl (omega (arith, can.1))
held law w PutHead can = inl (omega (arith, can.1))
held law w MarkUnsettled can = inl (omega (arith, can.0.1))
held law w Done can = inl can.0
held law w LoadDone can = absurd can
held law w Reset can = absurd can
held law w (SetFixed word value) can = absurd can
held law w OpenLinks can = absurd can
held law w OpenNodes can = absurd can
held law w Stop can = absurd can

module _ {P : Type 0} {law : Law} (good : IsLaw law) {key : P} {s : State Unit (View P)} (r : IsRuled law key s) where
  pub kept : Kept law r.core
  kept = kept_of_reached law (length s.views) r.core good r.reached

  -- a worker's act, from its view
  module _ (i : ℕ) (v : View P) (w : Work) (at : get_elem? s.views i ≡ some v) (works : v.role ≡ Works w) where
    pub works_at : seat_of r.core i ≡ w
    works_at = seat_is r.shows i v at ∙ ap work_in works

    pub later : 1 ≤ i
    later = subst (λ (o : Role). RoleFits i o r.core (length s.views)) works (r.views i v at).role

    pub within : i < length r.core.seats
    within = seat_in r.shows i v at

    closed_same : (act : Act) → CanWork law w act → r.core.is_open ≡ false → words_after law r.core w act ≡ r.core.words
    closed_same act can off =
        elim (held law w act can) [
          | inl begun ↦
              let stage : 1 ≤ (seat_of r.core i).stage = subst (λ (x : Work). 1 ≤ x.stage) (sym works_at) begun in
              let on = running good r.core kept i stage in
              let no : true ≡ false = sym on ∙ off in cc
          | inr same ↦ same r.core
        ]

    is_after : (act : Act) → after law r.core (record { seat = i; act = act }) ≡ by_worker law r.core i act
    unfolding after
    is_after act = let e : eqb i 0 ≡ false = grind (arith, nat_tests, later) in rw e refl

    can_now : (act : Act) → CanWork law w act → Can law r.core (record { seat = i; act = act })
    can_now act can = record {
      seat = within;
      lead = λ first. absurd (omega (arith, first, later));
      worker = λ h. subst (λ (x : Work). CanWork law x act) (sym works_at) can;
    }

    pub reached_after : (act : Act) → CanWork law w act → IsReached law (length s.views) (by_worker law r.core i act)
    reached_after act can =
        subst
        (λ (c : Core). IsReached law (length s.views) c)
        (is_after act)
        (makes r.core (record { seat = i; act = act }) r.reached (can_now act can))

    knows_after : (act : Act) → CanWork law w act → (plan : Plan) → LeadKnows plan r.core (length s.views)
        → LeadKnows plan (by_worker law r.core i act) (length s.views)
    knows_after act can plan old = record {
      splits = old.splits;
      phase = old.phase;
      is_open = old.is_open;
      resets = old.resets;
      stopped = old.stopped;
      opened = old.opened;
      known = λ off.
          old.known off
          ∙ sym (ap (λ (x : Work). words_after law r.core x act) works_at ∙ closed_same act can off);
    }

    role_after : (act : Act) → CanWork law w act → (j : ℕ) (o : Role) → RoleFits j o r.core (length s.views)
        → RoleFits j o (by_worker law r.core i act) (length s.views)
    role_after act can j (Leads plan) fits = (fits.0, knows_after act can plan fits.1)
    role_after act can j (Works x) fits = fits

    -- the rule after the step
    pub worker_keeps : (act : Act) → CanWork law w act → (new : View P) → new.law ≡ v.law → new.number ≡ v.number
        → new.role ≡ Works (work_after law r.core w act) → (words : List ℕ)
        → Shows law words (slice_set s.views i new) (by_worker law r.core i act)
        → (r.core.stopped ≡ true
        → (slice_index words 0 + 1) % 2 ^ 64 + total looks (by_worker law r.core i act).seats ≤ length r.core.seats)
        → IsRuled law key (record { words = words; homes = s.homes; views = slice_set s.views i new })
    worker_keeps act can new same_law same_number role words shows behind =
        let size : length (slice_set s.views i new) ≡ length s.views = length-set s.views i new in
        record {
          core = by_worker law r.core i act;
          reached = subst (λ (n : ℕ). IsReached law n (by_worker law r.core i act)) (sym size) (reached_after act can);
          shows = shows;
          few_seats = omega (arith, size, r.few_seats);
          few_phases = r.few_phases;
          views = λ j u e.
              subst
              (λ (n : ℕ). ViewFits key (by_worker law r.core i act) n j u)
              (sym size)
              (elim (at_set s.views i j new u e) [
                | inl here ↦ subst (λ (x : View P). ViewFits key (by_worker law r.core i act) (length s.views) j x) here.1 (record {
                  law = same_law ∙ (r.views i v at).law;
                  number = same_number ∙ (r.views i v at).number ∙ sym here.0;
                  role = subst (λ (o : Role). RoleFits j o (by_worker law r.core i act) (length s.views)) (sym role)
                      (omega (arith, later, here.0));
                })
                | inr there ↦ let old = r.views j u there.1 in record {
                  law = old.law;
                  number = old.number;
                  role = role_after act can j u.role old.role;
                }
              ]);
          behind = λ stopped.
              let h = behind stopped in
              let e = length-set r.core.seats i (work_after law r.core (seat_of r.core i) act) in
              omega (arith, h, e);
        }
