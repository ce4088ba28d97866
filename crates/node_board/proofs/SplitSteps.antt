-- A seat that is split from the lead keeps the rule.
use Rattle.std.proofs.Common.{◌≡◌, ℕ, zero, suc, ◌+◌, ◌<◌, ◌⊎◌, inl, inr, List, [], ◌∷◌, ◌++◌}
use Rattle.std.proofs.Common.{map, length, slice_set, refl, sym, ap, subst, ◌∙◌, arith}
use Rattle.std.proofs.lemmas.List.{length-set, length-append, map-append, map-set}
use mathlib.Core.Option.{some, some-injective, some-ne-none}
use lib.ListN.{get_elem?}
use Rattle.atomic_table.specs.Table.{State, Splits}
use Rattle.atomic_table.proofs.Lists.{at_set}
use Rattle.phase_law.specs.Law.{Law}
use Rattle.phase_law.specs.Laws.{IsLaw}
use Rattle.phase_machine.specs.declared.work.Work.{Work}
use Rattle.phase_machine.specs.Core.{idle}
use Rattle.phase_machine.specs.Kept.{looks}
use Rattle.phase_machine.proofs.Totals.{total_end}
use Rattle.node_board.specs.declared.views.Plan.{Plan}
use Rattle.node_board.specs.declared.views.Role.{Role}
use Rattle.node_board.specs.declared.views.Role.TheVariants.{Leads, Works}
use Rattle.node_board.specs.declared.views.View.{View}
use Rattle.node_board.specs.Reached.{IsReached}
use Rattle.node_board.specs.Shows.{work_of, work_in}
use Rattle.node_board.specs.Rule.{LeadKnows, RoleFits, ViewFits, IsRuled}
use Rattle.node_board.specs.Plays.{split_role, seats_in, after_split, new_seat}
use Rattle.node_board.proofs.ReachedLemmas.{with_seat, reached_more}
use Rattle.node_board.proofs.LeadSteps.{is_lead, knows, same_seats}

-- an item of a list with one more at its end
at_end : {A : Type 0} (l : List A) (a b : A) (j : ℕ) → get_elem? (l ++ a ∷ []) j ≡ some b
    → (get_elem? l j ≡ some b) ⊎ ((j ≡ length l) × (a ≡ b))
at_end [] a b zero e = inr (refl, some-injective a b e)
at_end [] a b (suc j) e = absurd (some-ne-none b (sym e))
at_end (x ∷ xs) a b zero e = inl e
at_end (x ∷ xs) a b (suc j) e =
    elim (at_end xs a b j e) [
      | inl there ↦ inl there
      | inr here ↦ inr (ap suc here.0, here.1)
    ]

module _ {P : Type 0} {law : Law} (good : IsLaw law) {key : P} {s : State Unit (View P)} (r : IsRuled law key s)
    (i : ℕ) (v : View P) (plan : Plan) (at : get_elem? s.views i ≡ some v) (leads : v.role ≡ Leads plan)
    (few : plan.splits < 1_000_000) where
  abbrev views_after : List (View P)
  views_after = slice_set s.views i (after_split v) ++ new_seat v ∷ []

  size : length (slice_set s.views i (after_split v) ++ new_seat v ∷ []) ≡ length s.views + 1
  size = omega (arith, length-append (slice_set s.views i (after_split v)) (new_seat v ∷ []), length-set s.views i (after_split v))

  still_idle : work_of (after_split v) ≡ idle
  still_idle = ap (λ (o : Role). work_in (split_role o)) leads

  seats_after : map work_of (slice_set s.views i (after_split v) ++ new_seat v ∷ []) ≡ (with_seat r.core).seats
  seats_after =
      map-append work_of (slice_set s.views i (after_split v)) (new_seat v ∷ [])
      ∙ ap (λ (xs : List Work). xs ++ idle ∷ [])
      (map-set work_of s.views i (after_split v)
      ∙ ap (λ (xs : List Work). slice_set xs i (work_of (after_split v))) r.shows.seats
      ∙ ap (λ (w : Work). slice_set r.core.seats i w) still_idle
      ∙ same_seats good r i v plan at leads)

  knows_more : (p : Plan) → LeadKnows p r.core (length s.views)
      → LeadKnows (record p { splits = p.splits + 1 }) (with_seat r.core) (length s.views + 1)
  knows_more p k = record {
    splits = ap (λ (m : ℕ). m + 1) k.splits;
    phase = k.phase;
    is_open = k.is_open;
    resets = k.resets;
    stopped = k.stopped;
    opened = k.opened;
    known = k.known;
  }

  others : (j : ℕ) (o : Role) → ¬ (j ≡ i) → RoleFits j o r.core (length s.views) → RoleFits j o (with_seat r.core) (length s.views + 1)
  others j (Leads other) differ fit = absurd (differ (fit.0 ∙ sym (is_lead good r i v plan at leads)))
  others j (Works w) differ fit = fit

  left_fits : (j : ℕ) → j ≡ i → ViewFits key (with_seat r.core) (length s.views + 1) j (after_split v)
  left_fits j e = record {
    law = (r.views i v at).law;
    number = (r.views i v at).number ∙ sym e;
    role = subst (λ (o : Role). RoleFits j (split_role o) (with_seat r.core) (length s.views + 1)) (sym leads)
        (e ∙ is_lead good r i v plan at leads, knows_more plan (knows good r i v plan at leads));
  }

  number_is : seats_in v.role ≡ length s.views
  number_is = ap (λ (o : Role). seats_in o) leads ∙ (knows good r i v plan at leads).splits

  right_fits : (j : ℕ) → j ≡ length (slice_set s.views i (after_split v)) → ViewFits key (with_seat r.core) (length s.views + 1) j (new_seat v)
  right_fits j e =
      let n = length-set s.views i (after_split v) in
      record {
        law = (r.views i v at).law;
        number = omega (arith, number_is, e, n);
        role = let k = (knows good r i v plan at leads).splits in omega (arith, e, n, k);
      }

  view_fits : (j : ℕ) (u : View P) → get_elem? (slice_set s.views i (after_split v) ++ new_seat v ∷ []) j ≡ some u
      → ViewFits key (with_seat r.core) (length s.views + 1) j u
  view_fits j u e =
      elim (at_end (slice_set s.views i (after_split v)) (new_seat v) u j e) [
        | inr new ↦ subst (λ (x : View P). ViewFits key (with_seat r.core) (length s.views + 1) j x) new.1 (right_fits j new.0)
        | inl old ↦ elim (at_set s.views i j (after_split v) u old) [
          | inl here ↦ subst (λ (x : View P). ViewFits key (with_seat r.core) (length s.views + 1) j x) here.1 (left_fits j here.0)
          | inr there ↦ let fit = r.views j u there.1 in record {
            law = fit.law;
            number = fit.number;
            role = others j u.role there.0 fit.role;
          }
        ]
      ]

  pub split_keeps : IsRuled law key (record {
    words = s.words;
    homes = s.homes;
    views = slice_set s.views i (after_split v) ++ new_seat v ∷ [];
  })
  split_keeps = record {
    core = with_seat r.core;
    reached = subst (λ (n : ℕ). IsReached law n (with_seat r.core)) (sym size) (reached_more law (length s.views) r.core r.reached);
    shows = record {
      size = r.shows.size;
      claim = r.shows.claim;
      word = r.shows.word;
      seats = seats_after;
    };
    few_seats = let k = (knows good r i v plan at leads).splits in omega (arith, size, k, few);
    few_phases = r.few_phases;
    views = λ j u e. subst (λ (n : ℕ). ViewFits key (with_seat r.core) n j u) (sym size) (view_fits j u e);
    behind = λ on.
        omega (arith, r.behind on, total_end looks r.core.seats idle, length-append r.core.seats (idle ∷ []));
  }

pub split_allowed : {P : Type 0} (law : Law) → IsLaw law → (key : P) (i : ℕ) (v : View P) (plan : Plan) → v.role ≡ Leads plan
    → plan.splits < 1_000_000 → Splits {S = Unit {0}} (IsRuled law key) i v (after_split v) (new_seat v)
split_allowed law good key i v plan leads few s r at = split_keeps good r i v plan at leads few
