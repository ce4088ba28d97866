-- Looks and claims keep the rule.
use Rattle.std.proofs.Common.{◌≡◌, ℕ, ◌+◌, ◌%◌, ◌^◌, ◌<◌, ◌≤◌, Bool, true, false, eqb, nat_lt}
use Rattle.std.proofs.Common.{if◌then◌else◌, [], length, slice_set, slice_index, refl, sym, ap, subst, ◌∙◌, arith}
use Rattle.std.proofs.lemmas.Bool.Decides.{nat_tests}
use Rattle.std.proofs.lemmas.List.{get_or-set_same}
use mathlib.Core.Option.{some}
use lib.ListN.{get_elem?}
use Rattle.atomic_table.specs.Table.{State, Allows, keeps, stepped}
use Rattle.phase_law.specs.Law.{Law}
use Rattle.phase_law.specs.Laws.{IsLaw}
use Rattle.phase_machine.specs.declared.acts.Act.TheVariants.{Look, Claim}
use Rattle.phase_machine.specs.declared.work.Work.{Work}
use Rattle.phase_machine.specs.Places.{count}
use Rattle.phase_machine.specs.Core.{idle, seat_of}
use Rattle.phase_machine.specs.Kept.{looks}
use Rattle.phase_machine.specs.Runs.{total}
use Rattle.phase_machine.specs.Steps.{by_worker, work_after, words_after, claimed}
use Rattle.phase_machine.proofs.Bounds.{count_few}
use Rattle.phase_machine.proofs.Totals.{total_set}
use Rattle.node_board.specs.declared.views.Role.TheVariants.{Works}
use Rattle.node_board.specs.declared.views.View.{View}
use Rattle.node_board.specs.Coding.{claim_word, phase_in, index_in}
use Rattle.node_board.specs.Shows.{Shows, work_of, work_in}
use Rattle.node_board.specs.Rule.{IsRuled}
use Rattle.node_board.specs.Plays.{looked_work, looked, took}
use Rattle.node_board.proofs.ShowLemmas.{show_claim, seats_size}
use Rattle.node_board.proofs.StopLemmas.{stop_is_closed, none_left, phase_of_claim, index_of_claim, none_named}
use Rattle.node_board.proofs.WorkerSteps.{kept, works_at, within, worker_keeps}

module _ {P : Type 0} {law : Law} (good : IsLaw law) {key : P} {s : State Unit (View P)} (r : IsRuled law key s) where
  -- the index fits the claim word, and one more
  index_most : r.core.index + 1 < 2 ^ 32
  index_most =
      let k = kept good r in
      omega (arith, k.few, count_few good r.core k, r.few_seats, seats_size r.shows)

  -- what is left by the word that was found is what is left in the core
  module _ (n : ℕ) (small : n < 2 ^ 64) (found : slice_index s.words 0 ≡ n) where
    stopped_none : r.core.stopped ≡ true
        → (nat_lt (index_in n) (count law (phase_in n)) ≡ false) × (nat_lt r.core.index (count law r.core.phase) ≡ false)
    stopped_none on =
        let off = stop_is_closed law (length s.views) r.core r.reached on in
        let behind = r.behind on in (
          none_named law good n (total looks r.core.seats) (length r.core.seats) small
              (subst (λ (m : ℕ). (m + 1) % 2 ^ 64 + total looks r.core.seats ≤ length r.core.seats) found behind)
              (omega (arith, r.few_seats, seats_size r.shows)),
          none_left law r.core (kept good r) off,
        )

    running_word : r.core.stopped ≡ false → n ≡ claim_word r.core.phase r.core.index
    running_word off = sym found ∙ r.shows.claim off

    phase_is : r.core.stopped ≡ false → phase_in n ≡ r.core.phase
    phase_is off =
        ap phase_in (running_word off)
        ∙ phase_of_claim r.core.phase r.core.index (let h = index_most in omega (arith, h))

    index_is : r.core.stopped ≡ false → index_in n ≡ r.core.index
    index_is off =
        ap index_in (running_word off)
        ∙ index_of_claim r.core.phase r.core.index (let h = index_most in omega (arith, h))

    look_is : (if nat_lt (index_in n) (count law (phase_in n)) then phase_in n else 0)
        ≡ (if nat_lt r.core.index (count law r.core.phase) then r.core.phase else 0)
    look_is = by_stop r.core.stopped refl
      where
        by_stop : (t : Bool) → r.core.stopped ≡ t
            → (if nat_lt (index_in n) (count law (phase_in n)) then phase_in n else 0)
            ≡ (if nat_lt r.core.index (count law r.core.phase) then r.core.phase else 0)
        by_stop true on = let none = stopped_none on in rw (none.0, none.1) refl
        by_stop false off = rw (phase_is off, index_is off) refl

    claim_is : (w : Work) → claimed law (phase_in n) (index_in n) w ≡ claimed law r.core.phase r.core.index w
    claim_is w = by_stop r.core.stopped refl
      where
        by_stop : (t : Bool) → r.core.stopped ≡ t
            → claimed law (phase_in n) (index_in n) w ≡ claimed law r.core.phase r.core.index w
        by_stop true on = let none = stopped_none on in rw (none.0, none.1) refl
        by_stop false off = rw (phase_is off, index_is off) refl

  module _ (i : ℕ) (v : View P) (w : Work) (at : get_elem? s.views i ≡ some v) (works : v.role ≡ Works w)
      (free : w.stage ≡ 0) (small : slice_index s.words 0 < 2 ^ 64) where
    abbrev pub n : ℕ
    n = slice_index s.words 0

    pub work_is : work_of v ≡ w
    work_is = ap work_in works

    looked_is : looked_work law n (work_of v) ≡ work_after law r.core w Look
    unfolding work_after
    looked_is =
        ap (λ (x : Work). looked_work law n x) work_is
        ∙ ap (λ (k : ℕ). record w { look = k }) (look_is n small refl)

    claimed_is : claimed law (phase_in n) (index_in n) (work_of v) ≡ work_after law r.core w Claim
    unfolding work_after
    claimed_is =
        ap (λ (x : Work). claimed law (phase_in n) (index_in n) x) work_is
        ∙ claim_is n small refl w

    some_words : 0 < length s.words
    some_words = omega (arith, r.shows.size)

    -- a look
    look_shows : Shows law (slice_set s.words 0 n) (slice_set s.views i (looked law n v)) (by_worker law r.core i Look)
    unfolding words_after
    look_shows =
        show_claim r.shows i n (looked law n v) (by_worker law r.core i Look)
        refl
        (ap
        (λ (x : Work). slice_set r.core.seats i x)
        (ap (λ (y : Work). work_after law r.core y Look) (works_at good r i v w at works) ∙ sym looked_is))
        (λ off. running_word n small refl off)

    no_look_left : r.core.stopped ≡ true → (y : Work) → looks (work_after law r.core y Look) ≡ 0
    unfolding work_after
    no_look_left on y = let none = stopped_none n small refl on in rw none.1 refl

    look_behind : r.core.stopped ≡ true
        → (slice_index (slice_set s.words 0 n) 0 + 1) % 2 ^ 64 + total looks (by_worker law r.core i Look).seats
        ≤ length r.core.seats
    look_behind on =
        let y = work_after law r.core (seat_of r.core i) Look in
        let sums = total_set looks r.core.seats i (work_after law r.core (seat_of r.core i) Look) idle (within good r i v w at works) in
        let none = no_look_left on (seat_of r.core i) in
        let word : slice_index (slice_set s.words 0 n) 0 ≡ n = get_or-set_same s.words 0 n 0 some_words in
        rw word (omega (arith, sums, none, r.behind on))

    pub look_keeps : IsRuled law key (stepped s 0 n i [] (looked law n v) keeps)
    look_keeps =
        worker_keeps good r i v w at works Look free (looked law n v) refl refl (ap Works looked_is)
        (slice_set s.words 0 n) look_shows look_behind

    -- a claim
    module _ (look : 1 ≤ w.look) where
      claim_shows : Shows law (slice_set s.words 0 ((n + 1) % 2 ^ 64)) (slice_set s.views i (took law n v)) (by_worker law r.core i Claim)
      unfolding words_after
      claim_shows =
          show_claim r.shows i ((n + 1) % 2 ^ 64) (took law n v) (by_worker law r.core i Claim)
          refl
          (ap
          (λ (x : Work). slice_set r.core.seats i x)
          (ap (λ (y : Work). work_after law r.core y Claim) (works_at good r i v w at works) ∙ sym claimed_is))
          (λ off.
          let e = running_word n small refl off in
          let few = index_most in
          omega (arith, e, few, r.few_phases))

      none_taken : r.core.stopped ≡ true → looks (work_after law r.core w Claim) ≡ 0
      unfolding work_after
      none_taken on = let none = stopped_none n small refl on in rw none.1 refl

      one_look : looks w ≡ 1
      one_look = let off : eqb w.look 0 ≡ false = grind (arith, nat_tests) in rw off refl

      claim_behind : r.core.stopped ≡ true
          → (slice_index (slice_set s.words 0 ((n + 1) % 2 ^ 64)) 0 + 1) % 2 ^ 64 + total looks (by_worker law r.core i Claim).seats
          ≤ length r.core.seats
      claim_behind on =
          let here = works_at good r i v w at works in
          let sums = total_set looks r.core.seats i (work_after law r.core (seat_of r.core i) Claim) idle (within good r i v w at works) in
          let none : looks (work_after law r.core (seat_of r.core i) Claim) ≡ 0 =
          ap (λ (y : Work). looks (work_after law r.core y Claim)) here ∙ none_taken on in
          let one : looks (seat_of r.core i) ≡ 1 = ap looks here ∙ one_look in
          let word : slice_index (slice_set s.words 0 ((n + 1) % 2 ^ 64)) 0 ≡ (n + 1) % 2 ^ 64 = get_or-set_same s.words 0 ((n + 1) % 2 ^ 64) 0 some_words in
          rw word (omega (arith, sums, none, one, r.behind on))

      pub claim_keeps : IsRuled law key (stepped s 0 ((n + 1) % 2 ^ 64) i [] (took law n v) keeps)
      claim_keeps =
          worker_keeps good r i v w at works Claim (free, look) (took law n v) refl refl (ap Works claimed_is)
          (slice_set s.words 0 ((n + 1) % 2 ^ 64)) claim_shows claim_behind

-- what the steps of a table ask
pub look_allowed : {P : Type 0} (law : Law) → IsLaw law → (key : P) (slots i : ℕ) (v : View P) (w : Work) → v.role ≡ Works w
    → w.stage ≡ 0
    → Allows {S = Unit {0}} (IsRuled law key) slots i (v, []) 0 (λ m. m) (λ m me. me ≡ (looked law m v, []))
look_allowed law good key slots i v w works free s r homes at small =
    (looked law (slice_index s.words 0) v, keeps, tt, look_keeps good r i v w at works free small, refl)

pub claim_allowed : {P : Type 0} (law : Law) → IsLaw law → (key : P) (slots i : ℕ) (v : View P) (w : Work) → v.role ≡ Works w
    → w.stage ≡ 0 → 1 ≤ w.look
    → Allows {S = Unit {0}} (IsRuled law key) slots i (v, []) 0 (λ m. (m + 1) % 2 ^ 64) (λ m me. me ≡ (took law m v, []))
claim_allowed law good key slots i v w works free look s r homes at small =
    (took law (slice_index s.words 0) v, keeps, tt, claim_keeps good r i v w at works free small look, refl)
