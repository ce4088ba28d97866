-- The lead's look at the count of done items keeps the rule, and closes the phase where all are done.
use Rattle.std.proofs.Common.{◌≡◌, ℕ, ◌+◌, ◌*◌, ◌^◌, ◌<◌, ◌≤◌, Bool, true, false, eqb, min, if◌then◌else◌}
use Rattle.std.proofs.Common.{ℤ, pos, List, [], length, slice_set, slice_index, refl, sym, ap, subst, ◌∙◌, arith}
use Rattle.std.proofs.lemmas.Bool.Decides.{nat_tests}
use mathlib.Core.Option.{some}
use lib.ListN.{get_elem?}
use Rattle.atomic_table.specs.Table.{State, Allows, Valid, keeps, stepped, carried_after}
use Rattle.atomic_table.specs.Table.{Act as Move}
use Rattle.fixed_num.specs.Lists.{number}
use Rattle.fixed_num.proofs.SumLemmas.{below_most}
use Rattle.phase_law.specs.Law.{Law}
use Rattle.phase_law.specs.Laws.{IsLaw}
use Rattle.phase_machine.specs.declared.acts.Act.{Act}
use Rattle.phase_machine.specs.declared.acts.Act.TheVariants.{Look, Claim, LoadInput, AddFirst, AddSecond}
use Rattle.phase_machine.specs.declared.acts.Act.TheVariants.{AddAreaFirst, AddAreaSecond, OfferTime, PutFlow, Done}
use Rattle.phase_machine.specs.declared.acts.Act.TheVariants.{LoadSums, PutHead, MarkUnsettled, LoadDone, Reset}
use Rattle.phase_machine.specs.declared.acts.Act.TheVariants.{SetFixed, OpenLinks, OpenNodes, Stop}
use Rattle.phase_machine.specs.declared.acts.Event.{Event}
use Rattle.phase_machine.specs.declared.work.Work.{Work}
use Rattle.phase_machine.specs.Places.{done_place, word_count, is_odd, count, written, nets_in}
use Rattle.phase_machine.specs.Core.{Core}
use Rattle.phase_machine.specs.Kept.{Kept, so_far, finished_sum, claims}
use Rattle.phase_machine.specs.Runs.{total}
use Rattle.phase_machine.specs.Steps.{Can, CanLead, after, by_lead, by_worker, closed_by, looked_done, is_all}
use Rattle.phase_machine.proofs.Progress.{claimed_finished}
use Rattle.phase_machine.proofs.Totals.{total_grows}
use Rattle.phase_machine.proofs.Trials.{links_done}
use Rattle.node_board.specs.declared.views.Plan.{Plan}
use Rattle.node_board.specs.declared.views.Role.TheVariants.{Leads}
use Rattle.node_board.specs.declared.views.View.{View}
use Rattle.node_board.specs.Coding.{coded}
use Rattle.node_board.specs.Reached.{IsReached, starts, makes}
use Rattle.node_board.specs.Shows.{Shows}
use Rattle.node_board.specs.Rule.{LeadKnows, IsRuled}
use Rattle.node_board.specs.Plays.{counted, Shuts, IsClosed, DonePlay}
use Rattle.node_board.proofs.CodeLemmas.{done_plain, plain_word}
use Rattle.node_board.proofs.LeadSteps.{knows, same_seats, lead_reached, lead_keeps}
use Rattle.node_board.proofs.ReachedLemmas.{kept_of_reached}
use Rattle.node_board.proofs.ShowLemmas.{show_load}
use Rattle.node_board.proofs.StopLemmas.{stop_is_closed}
use Rattle.node_board.proofs.WorkerSteps.{kept}

-- ---- an open phase has a number
abbrev HasPhase : Core → Type 0
HasPhase c = c.is_open ≡ true → 1 ≤ c.phase

looked_phase : (law : Law) (c : Core) → HasPhase c → (t : Bool) → HasPhase (looked_done law c t)
looked_phase law c old true on = let no : true ≡ false = sym on in cc
looked_phase law c old false on = old on

lead_phase : (law : Law) (c : Core) → HasPhase c → (act : Act) → CanLead law c act → HasPhase (by_lead law c act)
lead_phase law c old LoadDone can on =
    looked_phase law c old (is_all (number c.words done_place) (count law c.phase)) on
lead_phase law c old Reset can on = old on
lead_phase law c old (SetFixed word value) can on = old on
lead_phase law c old OpenLinks can on = omega arith
lead_phase law c old OpenNodes can on = omega arith
lead_phase law c old Stop can on = old on
lead_phase law c old Look can on = absurd can
lead_phase law c old Claim can on = absurd can
lead_phase law c old LoadInput can on = absurd can
lead_phase law c old AddFirst can on = absurd can
lead_phase law c old AddSecond can on = absurd can
lead_phase law c old AddAreaFirst can on = absurd can
lead_phase law c old AddAreaSecond can on = absurd can
lead_phase law c old OfferTime can on = absurd can
lead_phase law c old PutFlow can on = absurd can
lead_phase law c old Done can on = absurd can
lead_phase law c old LoadSums can on = absurd can
lead_phase law c old PutHead can on = absurd can
lead_phase law c old MarkUnsettled can on = absurd can

after_phase : (law : Law) (c : Core) (e : Event) → HasPhase c → Can law c e → HasPhase (after law c e)
unfolding after
after_phase law c e old can = by_seat (eqb e.seat 0) refl
  where
    by_seat : (t : Bool) → eqb e.seat 0 ≡ t
        → HasPhase (if t then by_lead law c e.act else by_worker law c e.seat e.act)
    by_seat true on = lead_phase law c old e.act (can.lead (grind (arith, nat_tests)))
    by_seat false off = old

pub open_phase : (law : Law) (n : ℕ) (c : Core) → IsReached law n c → c.is_open ≡ true → 1 ≤ c.phase
open_phase law n _ (starts c start) on = let no : true ≡ false = sym on ∙ start.is_open in cc
open_phase law n _ (makes c e r can) on = after_phase law c e (open_phase law n c r) can on

-- ---- the count of done items
finished_less : (phase : ℕ) (w : Work) → finished_sum phase (λ _. 1) w ≤ so_far phase (claims (λ _. 1)) w
finished_less phase w = by_tag (eqb w.tag phase) refl
  where
    by_tag : (t : Bool) → eqb w.tag phase ≡ t → finished_sum phase (λ _. 1) w ≤ so_far phase (claims (λ _. 1)) w
    by_tag true on = rw on (omega (arith, claimed_finished (λ _. 1) w.finished))
    by_tag false off = rw off (omega arith)

done_most : (law : Law) (c : Core) → Kept law c → total (finished_sum c.phase (λ _. 1)) c.seats ≤ count law c.phase
done_most law c all =
    let most = all.once (λ _. 1) in
    let less = total_grows (finished_sum c.phase (λ _. 1)) (so_far c.phase (claims (λ _. 1))) c.seats (finished_less c.phase) in
    let ones = below_most (λ _. 1) 1 (min c.index (count law c.phase)) (λ k h. omega arith) in
    omega (arith, most, less, ones)

module _ {P : Type 0} {law : Law} (good : IsLaw law) {key : P} {s : State Unit (View P)} (r : IsRuled law key s)
    (i : ℕ) (v : View P) (plan : Plan) (at : get_elem? s.views i ≡ some v) (leads : v.role ≡ Leads plan)
    (runs : plan.is_open ≡ true) where
  abbrev done : ℕ
  done = total (finished_sum r.core.phase (λ _. 1)) r.core.seats

  on : r.core.is_open ≡ true
  on = sym (knows good r i v plan at leads).is_open ∙ runs

  word_is : number r.core.words done_place ≡ pos (total (finished_sum r.core.phase (λ _. 1)) r.core.seats)
  word_is = (kept good r).done on

  inside : done_place < word_count law
  inside = omega arith

  -- the number that is found
  pub found_is : slice_index s.words (done_place + 1) ≡ total (finished_sum r.core.phase (λ _. 1)) r.core.seats
  found_is =
      r.shows.word done_place inside
      ∙ ap (λ (x : ℤ). coded law done_place x) word_is
      ∙ plain_word law done_place (pos (total (finished_sum r.core.phase (λ _. 1)) r.core.seats)) (done_plain law)

  pub found_most : slice_index s.words (done_place + 1) ≤ count law plan.phase
  found_most =
      let k = (knows good r i v plan at leads).phase in
      let most = done_most law r.core (kept good r) in
      subst (λ (p : ℕ). slice_index s.words (done_place + 1) ≤ count law p) (sym k) (omega (arith, found_is, most))

  -- the core after the look
  is_looked : (t : Bool) → eqb (slice_index s.words (done_place + 1)) (count law plan.phase) ≡ t
      → by_lead law r.core LoadDone ≡ looked_done law r.core t
  is_looked t e =
      let k = (knows good r i v plan at leads).phase in
      ap (λ (b : Bool). looked_done law r.core b)
      (ap (λ (x : ℤ). is_all x (count law r.core.phase)) word_is
      ∙ ap (λ (m : ℕ). eqb m (count law r.core.phase)) (sym found_is)
      ∙ ap (λ (p : ℕ). eqb (slice_index s.words (done_place + 1)) (count law p)) (sym k)
      ∙ e)

  looked_words : (t : Bool) → (looked_done law r.core t).words ≡ r.core.words
  looked_words true = refl
  looked_words false = refl

  looked_seats : (t : Bool) → (looked_done law r.core t).seats ≡ r.core.seats
  looked_seats true = refl
  looked_seats false = refl

  looked_stopped : (t : Bool) → (looked_done law r.core t).stopped ≡ r.core.stopped
  looked_stopped true = refl
  looked_stopped false = refl

  looked_number : (t : Bool) → (looked_done law r.core t).phase ≡ r.core.phase
  looked_number true = refl
  looked_number false = refl

  looked_index : (t : Bool) → (looked_done law r.core t).index ≡ r.core.index
  looked_index true = refl
  looked_index false = refl

  not_stopped : r.core.stopped ≡ true → ⊥
  not_stopped h =
      let off = stop_is_closed law (length s.views) r.core r.reached h in
      let no : true ≡ false = sym on ∙ off in cc

  -- the rule after the look
  look_keeps : (t : Bool) → eqb (slice_index s.words (done_place + 1)) (count law plan.phase) ≡ t → (next : Plan)
      → LeadKnows next (looked_done law r.core t) (length s.views)
      → IsRuled law key
      (stepped s (done_place + 1) (slice_index s.words (done_place + 1)) i []
      (counted (slice_index s.words (done_place + 1)) v next) keeps)
  look_keeps t e next knows_next =
      let new = counted (slice_index s.words (done_place + 1)) v next in
      let is = is_looked t e in
      lead_keeps good r i v plan at leads LoadDone on
      (counted (slice_index s.words (done_place + 1)) v next) refl refl next refl
      (subst (λ (c : Core). LeadKnows next c (length s.views)) (sym is) knows_next)
      (slice_set s.words (done_place + 1) (slice_index s.words (done_place + 1)))
      (subst
      (λ (c : Core). Shows law (slice_set s.words (done_place + 1) (slice_index s.words (done_place + 1)))
      (slice_set s.views i (counted (slice_index s.words (done_place + 1)) v next)) c)
      (sym is)
      (show_load r.shows done_place i (counted (slice_index s.words (done_place + 1)) v next) (looked_done law r.core t) inside
      (kept good r).words (looked_words t) (looked_seats t ∙ sym (same_seats good r i v plan at leads))
      (looked_stopped t) (looked_number t) (looked_index t)))
      (subst (λ (c : Core). c.phase ≤ 2 * 10 ^ 9 + 4) (sym is) (omega (arith, looked_number t, r.few_phases)))
      (λ h. absurd (not_stopped (sym (looked_stopped t) ∙ ap (λ (c : Core). c.stopped) (sym is) ∙ h)))

  -- not all are done: nothing changes
  pub pending_keeps : ¬ (slice_index s.words (done_place + 1) ≡ count law plan.phase)
      → IsRuled law key
      (stepped s (done_place + 1) (slice_index s.words (done_place + 1)) i []
      (counted (slice_index s.words (done_place + 1)) v plan) keeps)
  pending_keeps differ =
      let off : eqb (slice_index s.words (done_place + 1)) (count law plan.phase) ≡ false = grind (arith, nat_tests, differ) in
      look_keeps false off plan (knows good r i v plan at leads)

  -- all are done: the phase is closed
  module _ (all : slice_index s.words (done_place + 1) ≡ count law plan.phase) where
    test : eqb (slice_index s.words (done_place + 1)) (count law plan.phase) ≡ true
    test = grind (arith, nat_tests, all)

    abbrev pub shut_plan : Plan
    shut_plan = record plan { is_open = false; resets = 0; known = r.core.words }

    pub closed_keeps : IsRuled law key
        (stepped s (done_place + 1) (slice_index s.words (done_place + 1)) i []
        (counted (slice_index s.words (done_place + 1)) v (record plan { is_open = false; resets = 0; known = r.core.words })) keeps)
    closed_keeps =
        let k = knows good r i v plan at leads in
        look_keeps true test (record plan { is_open = false; resets = 0; known = r.core.words }) (record {
          splits = k.splits;
          phase = k.phase;
          is_open = refl;
          resets = refl;
          stopped = k.stopped;
          opened = k.opened;
          known = λ _. refl;
        })

    kept_closed : Kept law (closed_by law r.core)
    kept_closed =
        kept_of_reached law (length s.views) (closed_by law r.core) good
        (subst (λ (c : Core). IsReached law (length s.views) c) (is_looked true test) (lead_reached good r i v plan at leads LoadDone on))

    closed_core : IsClosed law r.core.phase r.core.opened r.core.words
    closed_core = record {
      size = (kept good r).words;
      ranges = (kept good r).ranges;
      frozen = λ odd. (kept_closed.links odd).frozen;
      inflows = λ odd. (links_done good (closed_by law r.core) kept_closed refl odd).inflows;
      outflows = λ odd. (links_done good (closed_by law r.core) kept_closed refl odd).outflows;
      areas = λ odd. (links_done good (closed_by law r.core) kept_closed refl odd).areas;
      flows = λ odd. (links_done good (closed_by law r.core) kept_closed refl odd).flows;
      least = λ odd. (links_done good (closed_by law r.core) kept_closed refl odd).least;
      trial = λ even.
          let some_phase = open_phase law (length s.views) r.core r.reached on in
          sym (state_is even) ∙ (kept_closed.trials even refl some_phase).trial;
      unsettled = λ even.
          let some_phase = open_phase law (length s.views) r.core r.reached on in
          (kept_closed.trials even refl some_phase).unsettled (omega arith);
    }
      where
        state_is : is_odd r.core.phase ≡ false → (closed_by law r.core).closed ≡ nets_in law r.core.words (written r.core.phase)
        state_is even = rw even refl

    pub closes : Shuts law plan (record plan { is_open = false; resets = 0; known = r.core.words })
    closes =
        let k = knows good r i v plan at leads in
        record {
          plan = refl;
          closed =
              subst (λ (p : ℕ). IsClosed law p plan.opened r.core.words) (sym k.phase)
              (subst (λ (o : List ℤ). IsClosed law r.core.phase o r.core.words) (sym k.opened) closed_core);
        }

-- what the step of a table asks: a new plan, by what was found
pub done_allowed : {P : Type 0} (law : Law) → IsLaw law → (key : P) (slots i : ℕ) (v : View P) (plan : Plan) → v.role ≡ Leads plan
    → plan.is_open ≡ true
    → Allows {S = Unit {0}} (IsRuled law key) slots i (v, []) (done_place + 1) (λ m. m)
    (λ m me. DonePlay law plan v m me)
done_allowed {P = P} law good key slots i v plan leads runs s r homes at small =
    by_count (eqb (slice_index s.words (done_place + 1)) (count law plan.phase)) refl
  where
    by_count : (t : Bool) → eqb (slice_index s.words (done_place + 1)) (count law plan.phase) ≡ t
        → (w : View P) × (a : Move (Unit {0})) × Valid s.homes [] a
        × IsRuled law key (stepped s (done_place + 1) (slice_index s.words (done_place + 1)) i [] w a)
        × DonePlay law plan v (slice_index s.words (done_place + 1)) (w, carried_after [] a)
    by_count true e =
        let all : slice_index s.words (done_place + 1) ≡ count law plan.phase = grind (arith, nat_tests) in (
          counted (slice_index s.words (done_place + 1)) v (record plan { is_open = false; resets = 0; known = r.core.words }),
          keeps,
          tt,
          closed_keeps good r i v plan at leads runs all,
          record {
            most = found_most good r i v plan at leads runs;
            next = record plan { is_open = false; resets = 0; known = r.core.words };
            view = refl;
            shuts = λ _. closes good r i v plan at leads runs all;
            pending = λ differ. absurd (differ all);
          },
        )
    by_count false e =
        let differ : ¬ (slice_index s.words (done_place + 1) ≡ count law plan.phase) = λ same. let on : eqb (slice_index s.words (done_place + 1)) (count law plan.phase) ≡ true = grind (arith, nat_tests) in cc in (
          counted (slice_index s.words (done_place + 1)) v plan,
          keeps,
          tt,
          pending_keeps good r i v plan at leads runs differ,
          record {
            most = found_most good r i v plan at leads runs;
            next = plan;
            view = refl;
            shuts = λ same. absurd (differ same);
            pending = λ _. refl;
          },
        )
