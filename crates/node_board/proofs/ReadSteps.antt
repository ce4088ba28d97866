-- What the lead reads while no phase is open is what it knows.
use Rattle.std.proofs.Common.{◌≡◌, ℕ, ◌+◌, ◌^◌, ◌<◌, ◌≤◌, true, false, nat_lt, ℤ, pos, ◌≤ℤ◌, List, [], length}
use Rattle.std.proofs.Common.{slice_index, refl, sym, ap, subst, ◌∙◌, arith}
use Rattle.std.proofs.lemmas.Bool.Decides.{nat_tests}
use Rattle.std.proofs.lemmas.Int.{ints}
use Rattle.atomic_table.specs.Table.{Allows, keeps}
use Rattle.fixed_num.specs.Lists.{number}
use Rattle.fixed_num.specs.Ranges.{IsBetween}
use Rattle.phase_law.specs.Law.{Law}
use Rattle.phase_law.specs.Laws.{IsLaw}
use Rattle.phase_machine.specs.Places.{unsettled_place, link_place, node_place, least_place, word_count, IsInRange}
use Rattle.node_board.specs.declared.views.Plan.{Plan}
use Rattle.node_board.specs.declared.views.Role.TheVariants.{Leads}
use Rattle.node_board.specs.declared.views.View.{View}
use Rattle.node_board.specs.Coding.{is_plain, coded, decoded}
use Rattle.node_board.specs.Known.{IsTold, flow, head, sum, least, unsettled, Tells}
use Rattle.node_board.specs.Rule.{IsRuled}
use Rattle.node_board.proofs.CodeLemmas.{unsettled_plain, least_plain, link_signed, node_kind, plain_word, plain_back}
use Rattle.node_board.proofs.CountedLemmas.{IsCounted, shut_counted}
use Rattle.node_board.proofs.LeadSteps.{knows, read_keeps}
use Rattle.node_board.proofs.LoadSteps.{of_link, of_node, of_sum, input_back}
use Rattle.node_board.proofs.WorkerSteps.{kept}

pub told_inside : (law : Law) (j : ℕ) → IsTold law j → j < word_count law
told_inside law _ (flow l b h few) = omega arith
told_inside law _ (head n b h few) = omega arith
told_inside law _ (sum n s h few) = omega arith
told_inside law _ least = omega arith
told_inside law _ unsettled = omega arith

module _ {law : Law} (good : IsLaw law) (words : List ℤ) (ranges : (j : ℕ) → IsInRange law j (number words j))
    (counted : IsCounted law words) where
  sums_low : (j n s : ℕ) → n < law.nodes → s < 3 → j ≡ node_place law n (7 + s) → pos 0 ≤ℤ number words j
  sums_low j n s h few e =
      subst (λ (i : ℕ). pos 0 ≤ℤ number words i) (sym e) (counted.sums n s h few).from

  told_back : (j : ℕ) → IsTold law j → decoded law j (coded law j (number words j)) ≡ number words j
  told_back _ (flow l b h few) =
      input_back law good (link_place l (4 + b)) (number words (link_place l (4 + b))) (of_link l (4 + b) h (omega (arith, few)))
      (ranges (link_place l (4 + b))) (sums_low (link_place l (4 + b)))
  told_back _ (head n b h few) =
      input_back law good (node_place law n (5 + b)) (number words (node_place law n (5 + b)))
      (of_node n (5 + b) h (omega (arith, few))) (ranges (node_place law n (5 + b))) (sums_low (node_place law n (5 + b)))
  told_back _ (sum n s h few) =
      input_back law good (node_place law n (7 + s)) (number words (node_place law n (7 + s))) (of_sum n s h few)
      (ranges (node_place law n (7 + s))) (sums_low (node_place law n (7 + s)))
  told_back _ least =
      plain_back law (least_place law) (number words (least_place law)) (least_plain law) counted.least.from
  told_back _ unsettled =
      plain_back law unsettled_place (number words unsettled_place) (unsettled_plain law) counted.unsettled.from

  small : (j : ℕ) (m : ℕ) → m ≤ 10 ^ 18 → is_plain law j ≡ true → IsBetween (pos 0) (number words j) (pos m)
      → coded law j (number words j) ≤ 10 ^ 18
  small j m few plain range =
      let word = plain_word law j (number words j) plain in
      omega (arith, ints, word, few, range.from, range.to)

  told_room : (j : ℕ) → IsTold law j → is_plain law j ≡ true → coded law j (number words j) ≤ 10 ^ 18
  told_room _ (flow l b h few) plain =
      let no : true ≡ false = sym plain ∙ link_signed law l (4 + b) h (omega (arith, few)) in cc
  told_room _ (head n b h few) plain =
      let off : nat_lt 6 (5 + b) ≡ false = grind (arith, nat_tests, few) in
      let no : true ≡ false = sym plain ∙ node_kind law n (5 + b) h (omega (arith, few)) ∙ off in cc
  told_room _ (sum n s h few) plain =
      small (node_place law n (7 + s)) (10 ^ 17) (omega arith) plain (counted.sums n s h few)
  told_room _ least plain = small (least_place law) 3_600_000 (omega arith) plain counted.least
  told_room _ unsettled plain = small unsettled_place 20_000 (omega arith) plain counted.unsettled

-- what the step of a table asks
pub told_allowed : {P : Type 0} (law : Law) → IsLaw law → (key : P) (slots i : ℕ) (v : View P) (plan : Plan) → v.role ≡ Leads plan
    → plan.is_open ≡ false → (j : ℕ) → IsTold law j
    → Allows {S = Unit {0}} (IsRuled law key) slots i (v, []) (j + 1) (λ m. m)
    (λ m me. (me ≡ (v, [])) × Tells law plan j m)
told_allowed {P} law good key slots i v plan leads off j told s r homes at less =
    let within = told_inside law j told in
    let both = read_keeps good r i v plan at leads off j within in
    let k = knows good r i v plan at leads in
    let shut : r.core.is_open ≡ false = sym k.is_open ∙ off in
    let counted = shut_counted law good (length s.views) r.core r.reached shut in
    let word : slice_index s.words (j + 1) ≡ coded law j (number r.core.words j) = r.shows.word j within in
    let same : number r.core.words j ≡ number plan.known j =
    ap (λ (xs : List ℤ). number xs j) (sym (k.known shut)) in (
      v,
      keeps,
      tt,
      both.0,
      (
        refl,
        record {
          value =
              ap (λ (m : ℕ). decoded law j m) word
              ∙ told_back good r.core.words (kept good r).ranges counted j told
              ∙ same;
          room = λ plain.
              subst (λ (m : ℕ). m ≤ 10 ^ 18) (sym word)
              (told_room good r.core.words (kept good r).ranges counted j told plain);
        },
      ),
    )
