-- The storing of flows and heads keeps the rule.
use Rattle.std.proofs.Common.{◌≡◌, ℕ, ◌+◌, ◌<◌, []}
use Rattle.std.proofs.Common.{refl, arith}
use mathlib.Core.Option.{some}
use lib.ListN.{get_elem?}
use Rattle.atomic_table.specs.Table.{State, Allows, keeps, stepped}
use Rattle.phase_law.specs.Law.{Law}
use Rattle.phase_law.specs.Laws.{IsLaw}
use Rattle.phase_machine.specs.declared.acts.Act.TheVariants.{PutFlow, PutHead}
use Rattle.phase_machine.specs.declared.work.Work.{Work}
use Rattle.phase_machine.specs.Places.{word_count}
use Rattle.phase_machine.specs.Asks.{AsksLink, AsksNode}
use Rattle.phase_machine.specs.Items.{share_at, next_at}
use Rattle.phase_machine.specs.Steps.{CanWork, work_after, words_after, further}
use Rattle.phase_machine.proofs.PlaceLemmas.{written_few}
use Rattle.node_board.specs.declared.views.Role.TheVariants.{Works}
use Rattle.node_board.specs.declared.views.View.{View}
use Rattle.node_board.specs.Coding.{coded}
use Rattle.node_board.specs.Rule.{IsRuled}
use Rattle.node_board.specs.Plays.{at_work}
use Rattle.node_board.specs.Steps.{flow_place, head_place}
use Rattle.node_board.proofs.ItemSteps.{item_keeps}

pub flow_inside : (law : Law) (w : Work) → AsksLink law w → flow_place w < word_count law
flow_inside law w asks = let few = written_few w.tag in omega (arith, few, asks.link)

pub head_inside : (law : Law) (w : Work) → AsksNode law w → head_place law w < word_count law
head_inside law w asks = let few = written_few w.tag in omega (arith, few, asks.node)

module _ {P : Type 0} {law : Law} (good : IsLaw law) {key : P} {s : State Unit (View P)} (r : IsRuled law key s)
    (i : ℕ) (v : View P) (w : Work) (at : get_elem? s.views i ≡ some v) (works : v.role ≡ Works w) where
  pub flow_keeps : CanWork law w PutFlow → AsksLink law w → (n : ℕ) → n ≡ coded law (flow_place w) (share_at law w).q
      → IsRuled law key (stepped s (flow_place w + 1) n i [] (at_work v (further w)) keeps)
  unfolding work_after words_after
  flow_keeps can asks n code =
      item_keeps good r i v w at works PutFlow can (further w) refl refl refl (flow_place w) n (share_at law w).q
      (flow_inside law w asks) refl code

  pub head_keeps : CanWork law w PutHead → AsksNode law w → (n : ℕ) → n ≡ coded law (head_place law w) (next_at law w).head
      → IsRuled law key (stepped s (head_place law w + 1) n i [] (at_work v (further w)) keeps)
  unfolding work_after words_after
  head_keeps can asks n code =
      item_keeps good r i v w at works PutHead can (further w) refl refl refl (head_place law w) n (next_at law w).head
      (head_inside law w asks) refl code

-- what the steps of a table ask
pub flow_allowed : {P : Type 0} (law : Law) → IsLaw law → (key : P) (slots i : ℕ) (v : View P) (w : Work) → v.role ≡ Works w
    → CanWork law w PutFlow → AsksLink law w → (n : ℕ) → n ≡ coded law (flow_place w) (share_at law w).q
    → Allows {S = Unit {0}} (IsRuled law key) slots i (v, []) (flow_place w + 1) (λ m. n)
    (λ m me. me ≡ (at_work v (further w), []))
flow_allowed law good key slots i v w works can asks n code s r homes at small =
    (at_work v (further w), keeps, tt, flow_keeps good r i v w at works can asks n code, refl)

pub head_allowed : {P : Type 0} (law : Law) → IsLaw law → (key : P) (slots i : ℕ) (v : View P) (w : Work) → v.role ≡ Works w
    → CanWork law w PutHead → AsksNode law w → (n : ℕ) → n ≡ coded law (head_place law w) (next_at law w).head
    → Allows {S = Unit {0}} (IsRuled law key) slots i (v, []) (head_place law w + 1) (λ m. n)
    (λ m me. me ≡ (at_work v (further w), []))
head_allowed law good key slots i v w works can asks n code s r homes at small =
    (at_work v (further w), keeps, tt, head_keeps good r i v w at works can asks n code, refl)
