-- A step of the lead on one word keeps the rule.
use Rattle.std.proofs.Common.{◌≡◌, ℕ, ◌+◌, ◌-◌, ◌*◌, ◌%◌, ◌^◌, ◌<◌, ◌≤◌, inl, inr, Bool, true, false, eqb}
use Rattle.std.proofs.Common.{if◌then◌else◌, ℤ, List, [], length, slice_set, slice_index}
use Rattle.std.proofs.Common.{refl, sym, ap, subst, ◌∙◌, arith}
use Rattle.std.proofs.lemmas.Bool.Decides.{nat_tests}
use Rattle.std.proofs.lemmas.List.{length-set, set-get_or, get_or-set_same}
use mathlib.Core.Option.{some}
use lib.ListN.{get_elem?}
use Rattle.atomic_table.specs.Table.{State, Allows, keeps, stepped}
use Rattle.atomic_table.proofs.Lists.{at_set, set_again}
use Rattle.fixed_num.specs.Lists.{number}
use Rattle.phase_law.specs.Law.{Law}
use Rattle.phase_law.specs.Laws.{IsLaw}
use Rattle.phase_machine.specs.declared.acts.Act.{Act}
use Rattle.phase_machine.specs.declared.acts.Act.TheVariants.{Reset, SetFixed, OpenLinks, OpenNodes, Stop}
use Rattle.phase_machine.specs.declared.work.Work.{Work}
use Rattle.phase_machine.specs.Places.{word_count, is_odd, written, IsRead, IsInRange}
use Rattle.phase_machine.specs.Core.{Core, idle, seat_of}
use Rattle.phase_machine.specs.Kept.{looks}
use Rattle.phase_machine.specs.Runs.{total}
use Rattle.phase_machine.specs.Steps.{Can, CanLead, CanSet, after, by_lead, reset_count, reset_place, reset_value}
use Rattle.phase_machine.proofs.PlaceLemmas.{read_within, written_few}
use Rattle.phase_machine.proofs.Totals.{total_most}
use Rattle.node_board.specs.declared.views.Plan.{Plan}
use Rattle.node_board.specs.declared.views.Role.{Role}
use Rattle.node_board.specs.declared.views.Role.TheVariants.{Leads, Works}
use Rattle.node_board.specs.declared.views.View.{View}
use Rattle.node_board.specs.Coding.{claim_word, coded, stop_word}
use Rattle.node_board.specs.Reached.{IsReached, makes}
use Rattle.node_board.specs.Shows.{Shows, work_in}
use Rattle.node_board.specs.Rule.{LeadKnows, RoleFits, ViewFits, IsRuled}
use Rattle.node_board.specs.Plays.{at_plan, reset_once}
use Rattle.node_board.proofs.ShowLemmas.{seat_is, seat_in, show_word, show_claim}
use Rattle.node_board.proofs.WorkerSteps.{kept}

pub reset_inside : (law : Law) (r phase : ℕ) → r < reset_count law phase → reset_place law r < word_count law
reset_inside law r phase left = let few = reset_most (is_odd phase) in grind (arith, few)
  where
    reset_most : (t : Bool) → (if t then 1 else 3 + 3 * law.nodes) ≤ 3 + 3 * law.nodes
    reset_most true = omega arith
    reset_most false = omega arith

module _ {P : Type 0} {law : Law} (good : IsLaw law) {key : P} {s : State Unit (View P)} (r : IsRuled law key s)
    (i : ℕ) (v : View P) (plan : Plan) (at : get_elem? s.views i ≡ some v) (leads : v.role ≡ Leads plan) where
  fits : (i ≡ 0) × LeadKnows plan r.core (length s.views)
  fits = subst (λ (o : Role). RoleFits i o r.core (length s.views)) leads (r.views i v at).role

  pub is_lead : i ≡ 0
  is_lead = fits.0

  pub knows : LeadKnows plan r.core (length s.views)
  knows = fits.1

  lead_idle : seat_of r.core i ≡ idle
  lead_idle = seat_is r.shows i v at ∙ ap work_in leads

  -- the lead's own seat stays idle
  pub same_seats : slice_set r.core.seats i idle ≡ r.core.seats
  same_seats = ap (λ (w : Work). slice_set r.core.seats i w) (sym lead_idle) ∙ set-get_or r.core.seats i idle

  is_after : (act : Act) → after law r.core (record { seat = i; act = act }) ≡ by_lead law r.core act
  unfolding after
  is_after act = let e : eqb i 0 ≡ true = grind (arith, nat_tests, is_lead) in rw e refl

  can_now : (act : Act) → CanLead law r.core act → Can law r.core (record { seat = i; act = act })
  can_now act can = record {
    seat = seat_in r.shows i v at;
    lead = λ first. can;
    worker = λ h. absurd (omega (arith, h, is_lead));
  }

  pub lead_reached : (act : Act) → CanLead law r.core act → IsReached law (length s.views) (by_lead law r.core act)
  lead_reached act can =
      subst
      (λ (c : Core). IsReached law (length s.views) c)
      (is_after act)
      (makes r.core (record { seat = i; act = act }) r.reached (can_now act can))

  others : (act : Act) (j : ℕ) (o : Role) → ¬ (j ≡ i) → RoleFits j o r.core (length s.views)
      → RoleFits j o (by_lead law r.core act) (length s.views)
  others act j (Leads other) differ fit = absurd (differ (fit.0 ∙ sym is_lead))
  others act j (Works w) differ fit = fit

  -- the rule after the step
  pub lead_keeps : (act : Act) → CanLead law r.core act → (new : View P) → new.law ≡ v.law → new.number ≡ v.number
      → (next : Plan) → new.role ≡ Leads next → LeadKnows next (by_lead law r.core act) (length s.views)
      → (words : List ℕ) → Shows law words (slice_set s.views i new) (by_lead law r.core act)
      → (by_lead law r.core act).phase ≤ 2 * 10 ^ 9 + 4
      → ((by_lead law r.core act).stopped ≡ true
      → (slice_index words 0 + 1) % 2 ^ 64 + total looks (by_lead law r.core act).seats ≤ length (by_lead law r.core act).seats)
      → IsRuled law key (record { words = words; homes = s.homes; views = slice_set s.views i new })
  lead_keeps act can new same_law same_number next role knows_next words shows few behind =
      let size : length (slice_set s.views i new) ≡ length s.views = length-set s.views i new in
      record {
        core = by_lead law r.core act;
        reached = subst (λ (n : ℕ). IsReached law n (by_lead law r.core act)) (sym size) (lead_reached act can);
        shows = shows;
        few_seats = omega (arith, size, r.few_seats);
        few_phases = few;
        views = λ j u e.
            subst
            (λ (n : ℕ). ViewFits key (by_lead law r.core act) n j u)
            (sym size)
            (elim (at_set s.views i j new u e) [
              | inl here ↦ subst (λ (x : View P). ViewFits key (by_lead law r.core act) (length s.views) j x) here.1 (record {
                law = same_law ∙ (r.views i v at).law;
                number = same_number ∙ (r.views i v at).number ∙ sym here.0;
                role = subst (λ (o : Role). RoleFits j o (by_lead law r.core act) (length s.views)) (sym role)
                    (here.0 ∙ is_lead, knows_next);
              })
              | inr there ↦ let old = r.views j u there.1 in record {
                law = old.law;
                number = old.number;
                role = others act j u.role there.0 old.role;
              }
            ]);
        behind = behind;
      }

  resting_not : r.core.stopped ≡ false → (r.core.stopped ≡ true → ⊥)
  resting_not off on = let no : true ≡ false = sym on ∙ off in cc

  -- a reset
  pub reset_keeps : plan.is_open ≡ false → plan.stopped ≡ false → plan.resets < reset_count law plan.phase → (n : ℕ)
      → n ≡ coded law (reset_place law plan.resets) (reset_value law plan.resets)
      → IsRuled law key
      (stepped s (reset_place law plan.resets + 1) n i []
      (at_plan v (reset_once law plan)) keeps)
  reset_keeps off on left n code =
      let k = knows in
      let shut : r.core.is_open ≡ false = sym k.is_open ∙ off in
      let stop : r.core.stopped ≡ false = sym k.stopped ∙ on in
      let same : plan.resets ≡ r.core.resets = k.resets in
      let less : r.core.resets < reset_count law r.core.phase =
      subst (λ (p : ℕ). r.core.resets < reset_count law p) k.phase (subst (λ (m : ℕ). m < reset_count law plan.phase) same left) in
      let place = ap (λ (m : ℕ). reset_place law m) same in
      let value = ap (λ (m : ℕ). reset_value law m) same in
      lead_keeps Reset ((shut, stop), less)
      (at_plan v (reset_once law plan))
      refl refl _ refl
      (record {
        splits = k.splits;
        phase = k.phase;
        is_open = k.is_open;
        resets = ap (λ (m : ℕ). m + 1) same;
        stopped = k.stopped;
        opened = k.opened;
        known = λ _.
            ap (λ (xs : List ℤ). slice_set xs (reset_place law plan.resets) (reset_value law plan.resets)) (k.known shut)
            ∙ ap (λ (p : ℕ). slice_set r.core.words p (reset_value law plan.resets)) place
            ∙ ap (λ (x : ℤ). slice_set r.core.words (reset_place law r.core.resets) x) value;
      })
      (slice_set s.words (reset_place law plan.resets + 1) n)
      (subst
      (λ (p : ℕ). Shows law (slice_set s.words (p + 1) n) (slice_set s.views i (at_plan v (reset_once law plan))) (by_lead law r.core Reset))
      (sym place)
      (show_word r.shows (reset_place law r.core.resets) i n (reset_value law r.core.resets) (at_plan v (reset_once law plan)) (by_lead law r.core Reset)
      (reset_inside law r.core.resets r.core.phase less) (kept good r).words refl (sym same_seats) refl refl refl
      (code ∙ ap (λ (p : ℕ). coded law p (reset_value law plan.resets)) place
      ∙ ap (λ (x : ℤ). coded law (reset_place law r.core.resets) x) value)))
      r.few_phases
      (λ h. absurd (resting_not stop h))

  -- while no phase is open, the lead knows as many numbers as there are words behind the claim word
  pub known_size : plan.is_open ≡ false → length plan.known ≡ word_count law
  known_size off = ap length (knows.known (sym knows.is_open ∙ off)) ∙ (kept good r).words

  -- the storing of a value that the next trial reads
  pub set_keeps : plan.is_open ≡ false → plan.stopped ≡ false → is_odd plan.phase ≡ false → (j : ℕ) (value : ℤ)
      → IsRead law (written plan.phase) j → IsInRange law j value → (n : ℕ) → n ≡ coded law j value
      → IsRuled law key
      (stepped s (j + 1) n i [] (at_plan v (record plan { known = slice_set plan.known j value })) keeps)
  set_keeps off on even j value read range n code =
      let k = knows in
      let shut : r.core.is_open ≡ false = sym k.is_open ∙ off in
      let stop : r.core.stopped ≡ false = sym k.stopped ∙ on in
      let can : CanSet law r.core.phase (j + 1) value =
      (j, refl, subst (λ (p : ℕ). IsRead law (written p) j) k.phase read, range) in
      let within = read_within (written_few plan.phase) read in
      let back : j + 1 - 1 ≡ j = omega arith in
      lead_keeps (SetFixed (j + 1) value) ((shut, stop), ap is_odd (sym k.phase) ∙ even, can)
      (at_plan v (record plan { known = slice_set plan.known j value }))
      refl refl _ refl
      (record {
        splits = k.splits;
        phase = k.phase;
        is_open = k.is_open;
        resets = k.resets;
        stopped = k.stopped;
        opened = k.opened;
        known = λ _.
            ap (λ (xs : List ℤ). slice_set xs j value) (k.known shut)
            ∙ ap (λ (m : ℕ). slice_set r.core.words m value) (sym back);
      })
      (slice_set s.words (j + 1) n)
      (show_word r.shows j i n value _ (by_lead law r.core (SetFixed (j + 1) value)) within (kept good r).words
      (ap (λ (m : ℕ). slice_set r.core.words m value) back)
      (sym same_seats) refl refl refl code)
      r.few_phases
      (λ h. absurd (resting_not stop h))

  -- the opening of links, and of nodes
  pub open_links_keeps : plan.is_open ≡ false → plan.stopped ≡ false → is_odd plan.phase ≡ false
      → plan.resets ≡ reset_count law plan.phase → plan.phase ≤ 2 * 10 ^ 9 + 3 → (n : ℕ) → n ≡ claim_word (plan.phase + 1) 0
      → IsRuled law key
      (stepped s 0 n i []
      (at_plan v (record plan { phase = plan.phase + 1; is_open = true; opened = plan.known })) keeps)
  open_links_keeps off on even reset few n code =
      let k = knows in
      let shut : r.core.is_open ≡ false = sym k.is_open ∙ off in
      let stop : r.core.stopped ≡ false = sym k.stopped ∙ on in
      let all : r.core.resets ≡ reset_count law r.core.phase = sym k.resets ∙ reset ∙ ap (reset_count law) k.phase in
      lead_keeps OpenLinks ((shut, stop), ap is_odd (sym k.phase) ∙ even, all)
      (at_plan v (record plan { phase = plan.phase + 1; is_open = true; opened = plan.known }))
      refl refl _ refl
      (record {
        splits = k.splits;
        phase = ap (λ (m : ℕ). m + 1) k.phase;
        is_open = refl;
        resets = k.resets;
        stopped = k.stopped;
        opened = k.known shut;
        known = λ h. let no : true ≡ false = h in cc;
      })
      (slice_set s.words 0 n)
      (show_claim r.shows i n _ (by_lead law r.core OpenLinks) refl (sym same_seats)
      (λ _. code ∙ ap (λ (p : ℕ). claim_word (p + 1) 0) k.phase))
      (omega (arith, few, k.phase))
      (λ h. absurd (resting_not stop h))

  pub open_nodes_keeps : plan.is_open ≡ false → plan.stopped ≡ false → is_odd plan.phase ≡ true
      → plan.resets ≡ reset_count law plan.phase → plan.phase ≤ 2 * 10 ^ 9 + 3 → (n : ℕ) → n ≡ claim_word (plan.phase + 1) 0
      → IsRuled law key
      (stepped s 0 n i [] (at_plan v (record plan { phase = plan.phase + 1; is_open = true })) keeps)
  open_nodes_keeps off on odd reset few n code =
      let k = knows in
      let shut : r.core.is_open ≡ false = sym k.is_open ∙ off in
      let stop : r.core.stopped ≡ false = sym k.stopped ∙ on in
      let all : r.core.resets ≡ reset_count law r.core.phase = sym k.resets ∙ reset ∙ ap (reset_count law) k.phase in
      lead_keeps OpenNodes ((shut, stop), ap is_odd (sym k.phase) ∙ odd, all)
      (at_plan v (record plan { phase = plan.phase + 1; is_open = true }))
      refl refl _ refl
      (record {
        splits = k.splits;
        phase = ap (λ (m : ℕ). m + 1) k.phase;
        is_open = refl;
        resets = k.resets;
        stopped = k.stopped;
        opened = k.opened;
        known = λ h. let no : true ≡ false = h in cc;
      })
      (slice_set s.words 0 n)
      (show_claim r.shows i n _ (by_lead law r.core OpenNodes) refl (sym same_seats)
      (λ _. code ∙ ap (λ (p : ℕ). claim_word (p + 1) 0) k.phase))
      (omega (arith, few, k.phase))
      (λ h. absurd (resting_not stop h))

  -- the stop
  look_most : (w : Work) → looks w ≤ 1
  look_most w = by_look (eqb w.look 0)
    where
      by_look : (t : Bool) → (if t then 0 else 1) ≤ 1
      by_look true = omega arith
      by_look false = omega arith

  pub stop_keeps : plan.is_open ≡ false → plan.stopped ≡ false
      → IsRuled law key (stepped s 0 stop_word i [] (at_plan v (record plan { stopped = true })) keeps)
  stop_keeps off on =
      let k = knows in
      let shut : r.core.is_open ≡ false = sym k.is_open ∙ off in
      let stop : r.core.stopped ≡ false = sym k.stopped ∙ on in
      lead_keeps Stop (shut, stop)
      (at_plan v (record plan { stopped = true }))
      refl refl _ refl
      (record {
        splits = k.splits;
        phase = k.phase;
        is_open = k.is_open;
        resets = k.resets;
        stopped = refl;
        opened = k.opened;
        known = k.known;
      })
      (slice_set s.words 0 stop_word)
      (show_claim r.shows i stop_word _ (by_lead law r.core Stop) refl (sym same_seats) (λ h. let no : true ≡ false = h in cc))
      r.few_phases
      (λ _.
      let word : slice_index (slice_set s.words 0 stop_word) 0 ≡ stop_word =
      get_or-set_same s.words 0 stop_word 0 (omega (arith, r.shows.size)) in
      let most = total_most looks r.core.seats look_most in
      rw word (omega (arith, most)))

  -- a load of any word while no phase is open
  pub read_keeps : plan.is_open ≡ false → (j : ℕ) → j < word_count law
      → IsRuled law key (stepped s (j + 1) (slice_index s.words (j + 1)) i [] v keeps)
      × (slice_index s.words (j + 1) ≡ coded law j (number plan.known j))
  read_keeps off j within =
      let k = knows in
      let shut : r.core.is_open ≡ false = sym k.is_open ∙ off in (
        same_state (j + 1),
        r.shows.word j within ∙ ap (λ (xs : List ℤ). coded law j (number xs j)) (sym (k.known shut)),
      )
    where
      same_state : (m : ℕ) → IsRuled law key (stepped s m (slice_index s.words m) i [] v keeps)
      same_state m =
          subst
          (λ (ws : List ℕ). IsRuled law key (record { words = ws; homes = s.homes; views = slice_set s.views i v }))
          (sym (set-get_or s.words m 0))
          (subst
          (λ (vs : List (View P)). IsRuled law key (record { words = s.words; homes = s.homes; views = vs }))
          (sym (set_again s.views i v at))
          r)

-- what the steps of a table ask
pub reset_allowed : {P : Type 0} (law : Law) → IsLaw law → (key : P) (slots i : ℕ) (v : View P) (plan : Plan) → v.role ≡ Leads plan
    → plan.is_open ≡ false → plan.stopped ≡ false → plan.resets < reset_count law plan.phase → (n : ℕ)
    → n ≡ coded law (reset_place law plan.resets) (reset_value law plan.resets)
    → Allows {S = Unit {0}} (IsRuled law key) slots i (v, []) (reset_place law plan.resets + 1) (λ m. n)
    (λ m me. me ≡ (at_plan v (reset_once law plan), []))
reset_allowed law good key slots i v plan leads off on left n code s r homes at small =
    (_, keeps, tt, reset_keeps good r i v plan at leads off on left n code, refl)

pub set_allowed : {P : Type 0} (law : Law) → IsLaw law → (key : P) (slots i : ℕ) (v : View P) (plan : Plan) → v.role ≡ Leads plan
    → plan.is_open ≡ false → plan.stopped ≡ false → is_odd plan.phase ≡ false → (j : ℕ) (value : ℤ)
    → IsRead law (written plan.phase) j → IsInRange law j value → (n : ℕ) → n ≡ coded law j value
    → Allows {S = Unit {0}} (IsRuled law key) slots i (v, []) (j + 1) (λ m. n)
    (λ m me. (me ≡ (at_plan v (record plan { known = slice_set plan.known j value }), []))
    × (length plan.known ≡ word_count law))
set_allowed law good key slots i v plan leads off on even j value read range n code s r homes at small = (
  _,
  keeps,
  tt,
  set_keeps good r i v plan at leads off on even j value read range n code,
  (refl, known_size good r i v plan at leads off),
)

pub open_links_allowed : {P : Type 0} (law : Law) → IsLaw law → (key : P) (slots i : ℕ) (v : View P) (plan : Plan)
    → v.role ≡ Leads plan → plan.is_open ≡ false → plan.stopped ≡ false → is_odd plan.phase ≡ false
    → plan.resets ≡ reset_count law plan.phase → plan.phase ≤ 2 * 10 ^ 9 + 3 → (n : ℕ) → n ≡ claim_word (plan.phase + 1) 0
    → Allows {S = Unit {0}} (IsRuled law key) slots i (v, []) 0 (λ m. n)
    (λ m me. me ≡ (at_plan v (record plan { phase = plan.phase + 1; is_open = true; opened = plan.known }), []))
open_links_allowed law good key slots i v plan leads off on even reset few n code s r homes at small =
    (_, keeps, tt, open_links_keeps good r i v plan at leads off on even reset few n code, refl)

pub open_nodes_allowed : {P : Type 0} (law : Law) → IsLaw law → (key : P) (slots i : ℕ) (v : View P) (plan : Plan)
    → v.role ≡ Leads plan → plan.is_open ≡ false → plan.stopped ≡ false → is_odd plan.phase ≡ true
    → plan.resets ≡ reset_count law plan.phase → plan.phase ≤ 2 * 10 ^ 9 + 3 → (n : ℕ) → n ≡ claim_word (plan.phase + 1) 0
    → Allows {S = Unit {0}} (IsRuled law key) slots i (v, []) 0 (λ m. n)
    (λ m me. me ≡ (at_plan v (record plan { phase = plan.phase + 1; is_open = true }), []))
open_nodes_allowed law good key slots i v plan leads off on odd reset few n code s r homes at small =
    (_, keeps, tt, open_nodes_keeps good r i v plan at leads off on odd reset few n code, refl)

pub stop_allowed : {P : Type 0} (law : Law) → IsLaw law → (key : P) (slots i : ℕ) (v : View P) (plan : Plan) → v.role ≡ Leads plan
    → plan.is_open ≡ false → plan.stopped ≡ false
    → Allows {S = Unit {0}} (IsRuled law key) slots i (v, []) 0 (λ m. stop_word)
    (λ m me. me ≡ (at_plan v (record plan { stopped = true }), []))
stop_allowed law good key slots i v plan leads off on s r homes at small =
    (_, keeps, tt, stop_keeps good r i v plan at leads off on, refl)

pub read_allowed : {P : Type 0} (law : Law) → IsLaw law → (key : P) (slots i : ℕ) (v : View P) (plan : Plan) → v.role ≡ Leads plan
    → plan.is_open ≡ false → (j : ℕ) → j < word_count law
    → Allows {S = Unit {0}} (IsRuled law key) slots i (v, []) (j + 1) (λ m. m)
    (λ m me. (me ≡ (v, [])) × (m ≡ coded law j (number plan.known j)))
read_allowed law good key slots i v plan leads off j within s r homes at small =
    let both = read_keeps good r i v plan at leads off j within in (v, keeps, tt, both.0, (refl, both.1))
