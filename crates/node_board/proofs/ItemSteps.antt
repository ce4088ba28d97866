-- A step on a worker's item keeps the rule.
use Rattle.std.proofs.Common.{◌≡◌, ℕ, ◌+◌, ◌%◌, ◌^◌, ◌<◌, ◌≤◌, true}
use Rattle.std.proofs.Common.{ℤ, [], length, slice_set, slice_index}
use Rattle.std.proofs.Common.{refl, sym, ap, ◌∙◌, arith}
use Rattle.std.proofs.lemmas.List.{get_or-set_other}
use mathlib.Core.Option.{some}
use lib.ListN.{get_elem?}
use Rattle.atomic_table.specs.Table.{State, keeps, stepped}
use Rattle.phase_law.specs.Law.{Law}
use Rattle.phase_law.specs.Laws.{IsLaw}
use Rattle.phase_machine.specs.declared.acts.Act.{Act}
use Rattle.phase_machine.specs.declared.work.Work.{Work}
use Rattle.phase_machine.specs.Places.{word_count}
use Rattle.phase_machine.specs.Core.{idle, seat_of}
use Rattle.phase_machine.specs.Kept.{looks}
use Rattle.phase_machine.specs.Runs.{total}
use Rattle.phase_machine.specs.Steps.{CanWork, by_worker, work_after, words_after, index_after}
use Rattle.phase_machine.proofs.Totals.{total_kept}
use Rattle.node_board.specs.declared.views.Role.TheVariants.{Works}
use Rattle.node_board.specs.declared.views.View.{View}
use Rattle.node_board.specs.Coding.{coded}
use Rattle.node_board.specs.Shows.{Shows}
use Rattle.node_board.specs.Rule.{IsRuled}
use Rattle.node_board.specs.Plays.{at_work}
use Rattle.node_board.proofs.ShowLemmas.{show_word}
use Rattle.node_board.proofs.WorkerSteps.{kept, works_at, within, worker_keeps}

module _ {P : Type 0} {law : Law} (good : IsLaw law) {key : P} {s : State Unit (View P)} (r : IsRuled law key s)
    (i : ℕ) (v : View P) (w : Work) (at : get_elem? s.views i ≡ some v) (works : v.role ≡ Works w) where
  -- an act that stores a value in the word of a place, and leaves looks and index
  pub item_keeps : (act : Act) → CanWork law w act → (new : Work) → new ≡ work_after law r.core w act → looks new ≡ looks w
      → index_after r.core.index act ≡ r.core.index → (j n : ℕ) (value : ℤ) → j < word_count law
      → words_after law r.core w act ≡ slice_set r.core.words j value → n ≡ coded law j value
      → IsRuled law key (stepped s (j + 1) n i [] (at_work v new) keeps)
  item_keeps act can new is same_look same_index j n value inside words code =
      worker_keeps good r i v w at works act can (at_work v new) refl refl (ap Works is) (slice_set s.words (j + 1) n) shows behind
    where
      here : seat_of r.core i ≡ w
      here = works_at good r i v w at works

      work : work_after law r.core (seat_of r.core i) act ≡ new
      work = ap (λ (y : Work). work_after law r.core y act) here ∙ sym is

      shows : Shows law (slice_set s.words (j + 1) n) (slice_set s.views i (at_work v new)) (by_worker law r.core i act)
      shows =
          show_word r.shows j i n value (at_work v new) (by_worker law r.core i act) inside (kept good r).words
          (ap (λ (y : Work). words_after law r.core y act) here ∙ words)
          (ap (λ (y : Work). slice_set r.core.seats i y) work)
          refl refl same_index code

      behind : r.core.stopped ≡ true
          → (slice_index (slice_set s.words (j + 1) n) 0 + 1) % 2 ^ 64 + total looks (by_worker law r.core i act).seats
          ≤ length r.core.seats
      behind on =
          let word : slice_index (slice_set s.words (j + 1) n) 0 ≡ slice_index s.words 0 =
          get_or-set_other s.words (j + 1) 0 n 0 (λ e. omega arith) in
          let sums = total_kept looks r.core.seats i (work_after law r.core (seat_of r.core i) act) idle
          (within good r i v w at works)
          (ap looks work ∙ same_look ∙ ap looks (sym here)) in
          rw word (omega (arith, sums, r.behind on))
