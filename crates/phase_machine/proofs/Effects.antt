-- What one act of an item does to the words, and that the sums over what all seats made keep up with it.
use Rattle.std.proofs.Common.{◌≡◌, ℕ, ◌+◌, ◌<◌, ◌≤◌, ◌⊎◌, inl, inr, ℤ, pos, ◌+ℤ◌, ◌≤ℤ◌, List, length, slice_set, slice_index_or, ◌∙◌, arith}
use Rattle.std.proofs.lemmas.Int.{ints}
use Rattle.fixed_num.specs.Lists.{number}
use Rattle.phase_law.specs.Law.{Law}
use Rattle.phase_law.specs.declared.values.NodeNext.{NodeNext}
use Rattle.phase_law.specs.declared.values.Share.{Share}
use Rattle.phase_machine.specs.declared.work.Work.{Work}
use Rattle.phase_machine.specs.Places.{unsettled_place, link_place, node_place, least_place, written, other, IsRead}
use Rattle.phase_machine.specs.Core.{idle}
use Rattle.phase_machine.specs.Runs.{total}
use Rattle.phase_machine.specs.Kept.{so_far, sum_parts, late, flow_off, head_off, marks, shares, nexts, LinkKept, NodeKept}
use Rattle.phase_machine.proofs.Totals.{total_grows, total_more}
use Rattle.phase_machine.proofs.Progress.{so_far_next, so_far_grows}
use Rattle.phase_machine.proofs.Parts.{less_late, not_late, flow_off_less, flow_off_none, head_off_less, head_off_none}

-- a seat that goes one act further on its item
pub record GoesOn (w new : Work) : Type 0 where
  pub tag : new.tag ≡ w.tag
  pub item : new.item ≡ w.item
  pub finished : new.finished ≡ w.finished
  pub look : new.look ≡ w.look
  pub stage : new.stage ≡ w.stage + 1

-- what the act at stage k of link x does to the words
pub record LinkEffect (law : Law) (share : ℕ → Share) (b : ℕ) (words new : List ℤ) (k x : ℕ) : Type 0 where
  pub frozen : (j : ℕ) → IsRead law (other b) j → number new j ≡ number words j
  pub unsettled : number new unsettled_place ≡ number words unsettled_place
  pub sums : (n s : ℕ) → n < law.nodes → s < 3
      → number new (node_place law n (7 + s)) ≡ number words (node_place law n (7 + s)) +ℤ pos (sum_parts law share n s k x)
  pub least_less : number new (least_place law) ≤ℤ number words (least_place law)
  pub least_one : (number new (least_place law) ≡ number words (least_place law)) ⊎ (number new (least_place law) ≡ (share x).time)
  pub least_here : k ≡ 13 → number new (least_place law) ≤ℤ (share x).time
  pub flows : (l : ℕ) → l < law.links → (number new (link_place l (4 + b)) ≡ number words (link_place l (4 + b))) ⊎ (number new (link_place l (4 + b)) ≡ (share l).q)
  pub flow_here : k ≡ 14 → number new (link_place x (4 + b)) ≡ (share x).q

-- what the act at stage k of node x does to the words
pub record NodeEffect (law : Law) (next : ℕ → NodeNext) (b : ℕ) (words new : List ℤ) (k x : ℕ) : Type 0 where
  pub frozen : (j : ℕ) → IsRead law (other b) j → number new j ≡ number words j
  pub sums : (n s : ℕ) → n < law.nodes → s < 3 → number new (node_place law n (7 + s)) ≡ number words (node_place law n (7 + s))
  pub least : number new (least_place law) ≡ number words (least_place law)
  pub flows : (l : ℕ) → l < law.links → number new (link_place l (4 + b)) ≡ number words (link_place l (4 + b))
  pub unsettled : number new unsettled_place ≡ number words unsettled_place +ℤ pos (marks next k x)
  pub heads : (n : ℕ) → (number new (node_place law n (5 + b)) ≡ number words (node_place law n (5 + b))) ⊎ (number new (node_place law n (5 + b)) ≡ (next n).head)
  pub head_here : k ≡ 11 → number new (node_place law x (5 + b)) ≡ (next x).head

-- the sum over all seats after one act more of seat i
module _ (phase : ℕ) (seats : List Work) (i : ℕ) (new : Work) (within : i < length seats)
    (tag : (slice_index_or seats i idle).tag ≡ phase) (goes : GoesOn (slice_index_or seats i idle) new) where
  pub total_next : (am : ℕ → ℕ → ℕ)
      → total (so_far phase am) (slice_set seats i new)
      ≡ total (so_far phase am) seats + am (slice_index_or seats i idle).stage (slice_index_or seats i idle).item
  total_next am =
      total_more (so_far phase am) seats i (am (slice_index_or seats i idle).stage (slice_index_or seats i idle).item) new idle within
      (so_far_next phase am (slice_index_or seats i idle) new tag goes.tag goes.item goes.finished goes.stage)

  -- amounts that grew no larger, and none for this act, keep a sum at 0
  pub total_nothing : (am bm : ℕ → ℕ → ℕ) → ((k x : ℕ) → am k x ≤ bm k x)
      → am (slice_index_or seats i idle).stage (slice_index_or seats i idle).item ≡ 0 → total (so_far phase bm) seats ≡ 0
      → total (so_far phase am) (slice_set seats i new) ≡ 0
  total_nothing am bm less here none =
      let grown = total_grows (so_far phase am) (so_far phase bm) seats (λ w. so_far_grows phase am bm less w) in
      omega (arith, total_next am, grown, here, none)

  pub link_kept : (law : Law) (opened words after : List ℤ) → (slice_index_or seats i idle).item < law.links → LinkKept law opened words phase seats
      → LinkEffect law (shares law opened phase) (written phase) words after (slice_index_or seats i idle).stage (slice_index_or seats i idle).item
      → LinkKept law opened after phase (slice_set seats i new)
  link_kept law opened words after item old effect =
      let share = shares law opened phase in
      let b = written phase in
      record {
        frozen = λ j read. effect.frozen j read ∙ old.frozen j read;
        unsettled = effect.unsettled ∙ old.unsettled;
        sums = λ n s h few.
            let one = effect.sums n s h few in
            let before = old.sums n s h few in
            let more = total_next (sum_parts law share n s) in
            omega (arith, ints, one, before, more);
        least_most = omega (arith, ints, effect.least_less, old.least_most);
        least_one = elim effect.least_one [
          | inl same ↦ elim old.least_one [
            | inl none ↦ inl (same ∙ none)
            | inr one ↦ inr (one.0, one.1, same ∙ one.2)
          ]
          | inr here ↦ inr ((slice_index_or seats i idle).item, item, here)
        ];
        least_each =
            total_nothing (late share (number after (least_place law))) (late share (number words (least_place law)))
            (less_late share _ _ effect.least_less)
            (not_late share _ _ _ effect.least_here)
            old.least_each;
        flows =
            total_nothing (flow_off law share after b) (flow_off law share words b)
            (flow_off_less law share words after b effect.flows)
            (flow_off_none law share words after b _ _ effect.flow_here)
            old.flows;
      }

  pub node_kept : (law : Law) (opened words after : List ℤ) → NodeKept law opened words phase seats
      → NodeEffect law (nexts law opened phase) (written phase) words after (slice_index_or seats i idle).stage (slice_index_or seats i idle).item
      → NodeKept law opened after phase (slice_set seats i new)
  node_kept law opened words after old effect =
      let next = nexts law opened phase in
      let b = written phase in
      record {
        frozen = λ j read. effect.frozen j read ∙ old.frozen j read;
        sums = λ n s h few. effect.sums n s h few ∙ old.sums n s h few;
        least = effect.least ∙ old.least;
        flows = λ l h. effect.flows l h ∙ old.flows l h;
        unsettled =
            let more = total_next (marks next) in
            omega (arith, ints, effect.unsettled, old.unsettled, more);
        heads =
            total_nothing (head_off law next after b) (head_off law next words b)
            (head_off_less law next words after b effect.heads)
            (head_off_none law next words after b _ _ effect.head_here)
            old.heads;
      }
