-- Deposits, offers, marks and the ends of items keep the rule.
use Rattle.std.proofs.Common.{◌≡◌, ℕ, ◌+◌, ◌%◌, ◌^◌, ◌<◌, ◌≤◌, true, false, nat_lt, min, inl, inr}
use Rattle.std.proofs.Common.{ℤ, pos, ◌+ℤ◌, ◌≤ℤ◌, [], slice_index}
use Rattle.std.proofs.Common.{refl, sym, ap, subst, ◌∙◌, arith}
use Rattle.std.proofs.lemmas.Bool.Decides.{nat_tests}
use Rattle.std.proofs.lemmas.Int.{ints}
use Rattle.std.specs.Int.{int_min}
use Rattle.std.specs.Int.RustNames.{unsigned_abs}
use mathlib.Core.Option.{some}
use lib.ListN.{get_elem?}
use Rattle.atomic_table.specs.Table.{State, Allows, keeps, stepped}
use Rattle.fixed_num.specs.Lists.{number}
use Rattle.phase_law.specs.Law.{Law}
use Rattle.phase_law.specs.Laws.{IsLaw}
use Rattle.phase_machine.specs.declared.acts.Act.{Act}
use Rattle.phase_machine.specs.declared.acts.Act.TheVariants.{OfferTime, MarkUnsettled, Done}
use Rattle.phase_machine.specs.declared.work.Work.{Work}
use Rattle.phase_machine.specs.Places.{done_place, unsettled_place, node_place, least_place, word_count, is_odd, other, written}
use Rattle.phase_machine.specs.Core.{Core, seat_of}
use Rattle.phase_machine.specs.Asks.{AsksLink}
use Rattle.phase_machine.specs.Items.{Deposit, share_at}
use Rattle.trial_model.proofs.RangeLemmas.{SharesFit}
use Rattle.phase_machine.specs.Kept.{Kept, looks, shares}
use Rattle.phase_machine.proofs.Fitting.{fits_in, share_fits}
use Rattle.phase_machine.proofs.PlaceLemmas.{other_few}
use Rattle.phase_machine.specs.Steps.{CanWork, work_after, words_after, index_after, added, deposited, further}
use Rattle.phase_machine.proofs.Bounds.{done_few, unsettled_few, sum_few, running, tag_is}
use Rattle.node_board.specs.declared.views.Role.TheVariants.{Works}
use Rattle.node_board.specs.declared.views.View.{View}
use Rattle.node_board.specs.Coding.{is_plain, coded}
use Rattle.node_board.specs.Rule.{IsRuled}
use Rattle.node_board.specs.Plays.{at_work}
use Rattle.node_board.specs.Steps.{ended}
use Rattle.node_board.proofs.CodeLemmas.{done_plain, unsettled_plain, least_plain, node_kind, plain_word, plain_more, plain_min}
use Rattle.node_board.proofs.ItemSteps.{item_keeps}
use Rattle.node_board.proofs.WorkerSteps.{kept, works_at}

shares_in : {law : Law} → IsLaw law → (c : Core) → Kept law c → SharesFit law (shares law c.opened c.phase)
shares_in {law} good c kept =
    record {
      each = share_fits good c.opened c.phase
          (fits_in law c.opened kept.opened_ranges kept.opened_sums kept.opened_least (other (written c.phase)) (other_few (written c.phase)));
    }

-- the least word of a phase of links is a time
pub least_low : {law : Law} → IsLaw law → (c : Core) → Kept law c → is_odd c.phase ≡ true → pos 0 ≤ℤ number c.words (least_place law)
least_low {law} good c kept odd =
    elim ((kept.links odd).least_one) [
      | inl most ↦ omega (arith, ints, most)
      | inr one ↦ let range = (shares_in good c kept).each one.0 one.1 in omega (arith, ints, one.2, range.time.from)
    ]

module _ {P : Type 0} {law : Law} (good : IsLaw law) {key : P} {s : State Unit (View P)} (r : IsRuled law key s)
    (i : ℕ) (v : View P) (w : Work) (at : get_elem? s.views i ≡ some v) (works : v.role ≡ Works w) where
  here : seat_of r.core i ≡ w
  here = works_at good r i v w at works

  held_here : 1 ≤ w.stage → 1 ≤ (seat_of r.core i).stage
  held_here h = subst (λ (x : Work). 1 ≤ x.stage) (sym here) h

  is_running : 1 ≤ w.stage → r.core.is_open ≡ true
  is_running h = running good r.core (kept good r) i (held_here h)

  same_tag : 1 ≤ w.stage → w.tag ≡ r.core.phase
  same_tag h = ap (λ (x : Work). x.tag) (sym here) ∙ tag_is good r.core (kept good r) i (held_here h)

  -- an amount that is added to a plain word
  amount_keeps : (act : Act) → CanWork law w act → (new : Work) → new ≡ work_after law r.core w act → looks new ≡ looks w
      → index_after r.core.index act ≡ r.core.index → (j k : ℕ) → j < word_count law → is_plain law j ≡ true
      → words_after law r.core w act ≡ added r.core.words j k
      → pos 0 ≤ℤ number r.core.words j → number r.core.words j ≤ℤ pos (10 ^ 18) → k ≤ 10 ^ 18
      → IsRuled law key (stepped s (j + 1) ((slice_index s.words (j + 1) + k) % 2 ^ 64) i [] (at_work v new) keeps)
  amount_keeps act can new is same_look same_index j k inside plain words from to few =
      item_keeps good r i v w at works act can new is same_look same_index j
      ((slice_index s.words (j + 1) + k) % 2 ^ 64)
      (number r.core.words j +ℤ pos k)
      inside words code
    where
      code : (slice_index s.words (j + 1) + k) % 2 ^ 64 ≡ coded law j (number r.core.words j +ℤ pos k)
      code =
          let word = r.shows.word j inside in
          let abs = plain_word law j (number r.core.words j) plain in
          let more = plain_more law j (number r.core.words j) k plain from in
          let small : unsigned_abs (number r.core.words j) ≤ 10 ^ 18 = omega (arith, ints, from, to) in
          let no_carry : (slice_index s.words (j + 1) + k) % 2 ^ 64 ≡ slice_index s.words (j + 1) + k = omega (arith, word, abs, small, few) in
          no_carry ∙ ap (λ (m : ℕ). m + k) word ∙ more

  pub deposit_keeps : (act : Act) → CanWork law w act → is_odd w.tag ≡ true → 1 ≤ w.stage → (d : Deposit)
      → further w ≡ work_after law r.core w act → index_after r.core.index act ≡ r.core.index
      → words_after law r.core w act ≡ deposited law r.core.words d → d.node < law.nodes → d.sum < 3 → d.amount ≤ 10 ^ 13
      → IsRuled law key
      (stepped s (node_place law d.node (7 + d.sum) + 1)
      ((slice_index s.words (node_place law d.node (7 + d.sum) + 1) + d.amount) % 2 ^ 64)
      i [] (at_work v (further w)) keeps)
  deposit_keeps act can odd held d is same_index words node sum amount =
      let k = kept good r in
      let phase : is_odd r.core.phase ≡ true = ap is_odd (sym (same_tag held)) ∙ odd in
      let old = (k.links phase).sums d.node d.sum node sum in
      let few = sum_few good r.core k phase d.node d.sum node sum in
      amount_keeps act can (further w) is refl same_index (node_place law d.node (7 + d.sum)) d.amount
      (omega (arith, node, sum))
      (node_kind law d.node (7 + d.sum) node (omega (arith, sum)) ∙ plain_sum d.sum)
      words
      (omega (arith, ints, old))
      (omega (arith, ints, few))
      (omega (arith, amount))
    where
      plain_sum : (k : ℕ) → nat_lt 6 (7 + k) ≡ true
      plain_sum k = grind (arith, nat_tests)

  pub mark_keeps : CanWork law w MarkUnsettled
      → IsRuled law key
      (stepped s (unsettled_place + 1) ((slice_index s.words (unsettled_place + 1) + 1) % 2 ^ 64) i [] (at_work v (further w)) keeps)
  unfolding work_after words_after
  mark_keeps can =
      let k = kept good r in
      let held : 1 ≤ w.stage = omega (arith, can.0.1) in
      let even : is_odd r.core.phase ≡ false = ap is_odd (sym (same_tag held)) ∙ can.0.0 in
      let old = (k.nodes even (is_running held)).unsettled in
      let few = unsettled_few good r.core k even (is_running held) in
      amount_keeps MarkUnsettled can (further w) refl refl refl unsettled_place 1 (omega arith) (unsettled_plain law) refl
      (omega (arith, ints, old))
      (omega (arith, ints, few))
      (omega arith)

  pub end_keeps : CanWork law w Done
      → IsRuled law key
      (stepped s (done_place + 1) ((slice_index s.words (done_place + 1) + 1) % 2 ^ 64) i [] (at_work v (ended w)) keeps)
  unfolding work_after words_after
  end_keeps can =
      let k = kept good r in
      let on = is_running can.0 in
      let old = k.done on in
      let few = done_few good r.core k on in
      amount_keeps Done can (ended w) refl refl refl done_place 1 (omega arith) (done_plain law) refl
      (omega (arith, ints, old))
      (omega (arith, ints, few))
      (omega arith)

  -- an offer: the least word becomes the lesser of itself and the time
  pub offer_keeps : CanWork law w OfferTime → AsksLink law w → (time : ℕ) → pos time ≡ (share_at law w).time
      → IsRuled law key
      (stepped s (least_place law + 1) (min (slice_index s.words (least_place law + 1)) time) i [] (at_work v (further w)) keeps)
  unfolding work_after words_after
  offer_keeps can asks time is =
      let k = kept good r in
      let held : 1 ≤ w.stage = omega (arith, can.1) in
      let phase : is_odd r.core.phase ≡ true = ap is_odd (sym (same_tag held)) ∙ can.0 in
      let from = least_from held phase in
      let word = r.shows.word (least_place law) (omega arith) in
      let lesser = plain_min law (least_place law) (number r.core.words (least_place law)) (pos time) (least_plain law) from (omega (arith, ints)) in
      item_keeps good r i v w at works OfferTime can (further w) refl refl refl (least_place law)
      (min (slice_index s.words (least_place law + 1)) time)
      (int_min (number r.core.words (least_place law)) (share_at law w).time)
      (omega arith) refl
      (ap (λ (m : ℕ). min m time) word
      ∙ lesser
      ∙ ap (λ (x : ℤ). coded law (least_place law) (int_min (number r.core.words (least_place law)) x)) is)
    where
      least_from : 1 ≤ w.stage → is_odd r.core.phase ≡ true → pos 0 ≤ℤ number r.core.words (least_place law)
      least_from held odd = least_low good r.core (kept good r) odd

-- what the steps of a table ask
pub mark_allowed : {P : Type 0} (law : Law) → IsLaw law → (key : P) (slots i : ℕ) (v : View P) (w : Work) → v.role ≡ Works w
    → CanWork law w MarkUnsettled
    → Allows {S = Unit {0}} (IsRuled law key) slots i (v, []) (unsettled_place + 1) (λ m. (m + 1) % 2 ^ 64)
    (λ m me. me ≡ (at_work v (further w), []))
mark_allowed law good key slots i v w works can s r homes at small =
    (at_work v (further w), keeps, tt, mark_keeps good r i v w at works can, refl)

pub end_allowed : {P : Type 0} (law : Law) → IsLaw law → (key : P) (slots i : ℕ) (v : View P) (w : Work) → v.role ≡ Works w
    → CanWork law w Done
    → Allows {S = Unit {0}} (IsRuled law key) slots i (v, []) (done_place + 1) (λ m. (m + 1) % 2 ^ 64)
    (λ m me. me ≡ (at_work v (ended w), []))
end_allowed law good key slots i v w works can s r homes at small =
    (at_work v (ended w), keeps, tt, end_keeps good r i v w at works can, refl)

pub offer_allowed : {P : Type 0} (law : Law) → IsLaw law → (key : P) (slots i : ℕ) (v : View P) (w : Work) → v.role ≡ Works w
    → CanWork law w OfferTime → AsksLink law w → (time : ℕ) → pos time ≡ (share_at law w).time
    → Allows {S = Unit {0}} (IsRuled law key) slots i (v, []) (least_place law + 1) (λ m. min m time)
    (λ m me. me ≡ (at_work v (further w), []))
offer_allowed law good key slots i v w works can asks time is s r homes at small =
    (at_work v (further w), keeps, tt, offer_keeps good r i v w at works can asks time is, refl)

-- of a deposit
pub deposit_allowed : {P : Type 0} (law : Law) → IsLaw law → (key : P) (slots i : ℕ) (v : View P) (w : Work) → v.role ≡ Works w
    → (act : Act) → CanWork law w act → is_odd w.tag ≡ true → 1 ≤ w.stage → (d : Deposit)
    → ((c : Core) → further w ≡ work_after law c w act) → ((k : ℕ) → index_after k act ≡ k)
    → ((c : Core) → words_after law c w act ≡ deposited law c.words d) → d.node < law.nodes → d.sum < 3 → d.amount ≤ 10 ^ 13
    → Allows {S = Unit {0}} (IsRuled law key) slots i (v, []) (node_place law d.node (7 + d.sum) + 1) (λ m. (m + d.amount) % 2 ^ 64)
    (λ m me. me ≡ (at_work v (further w), []))
deposit_allowed law good key slots i v w works act can odd held d work index words node sum amount s r homes at small = (
  at_work v (further w),
  keeps,
  tt,
  deposit_keeps good r i v w at works act can odd held d (work r.core) (index r.core.index) (words r.core) node sum amount,
  refl,
)
