-- The loads of an item keep the rule, and tell numbers that may be asked of the law.
use Rattle.std.proofs.Common.{◌≡◌, ℕ, zero, suc, ◌+◌, ◌-◌, ◌^◌, ◌<◌, ◌≤◌, Bool, true, false, eqb, nat_lt}
use Rattle.std.proofs.Common.{if◌then◌else◌, ℤ, pos, ◌+ℤ◌, ◌≤ℤ◌, [], length, slice_index}
use Rattle.std.proofs.Common.{refl, sym, ap, subst, ◌∙◌, arith}
use Rattle.std.proofs.lemmas.Bool.Decides.{nat_tests}
use Rattle.std.proofs.lemmas.Int.{ints}
use Rattle.std.proofs.lemmas.List.{set-get_or, get_or-set_same}
use mathlib.Core.Option.{some}
use lib.ListN.{get_elem?}
use Rattle.atomic_table.specs.Table.{State, Allows, keeps, stepped}
use Rattle.fixed_num.specs.Lists.{number}
use Rattle.phase_law.specs.Law.{Law}
use Rattle.phase_law.specs.Laws.{IsLaw}
use Rattle.phase_machine.specs.declared.acts.Act.{Act}
use Rattle.phase_machine.specs.declared.work.Work.{Work}
use Rattle.phase_machine.specs.Places.{first_place, link_place, node_place, word_count, is_odd, count, written, other}
use Rattle.phase_machine.specs.Places.{is_first, LinkWord, NodeWord, IsInRange}
use Rattle.phase_machine.specs.Core.{Core, idle, seat_of}
use Rattle.phase_machine.specs.Asks.{AsksLink, AsksNode}
use Rattle.phase_machine.specs.Items.{link_input, node_input, input_place}
use Rattle.phase_machine.specs.Kept.{sum_of, with_links}
use Rattle.phase_machine.specs.Steps.{CanWork, by_worker, work_after, words_after, index_after, loaded_more}
use Rattle.phase_machine.proofs.Bounds.{asks_link, asks_node, running, tag_is, some_phase}
use Rattle.phase_machine.proofs.Fitting.{fits_in}
use Rattle.phase_machine.proofs.Loaded.{links_count, nodes_count}
use Rattle.phase_machine.proofs.PlaceLemmas.{other_few}
use Rattle.trial_model.specs.declared.nets.Nets.{Nets}
use Rattle.trial_model.proofs.RangeLemmas.{with_flows_fit}
use Rattle.node_board.specs.declared.views.Role.TheVariants.{Works}
use Rattle.node_board.specs.declared.views.View.{View}
use Rattle.node_board.specs.Coding.{coded, decoded}
use Rattle.node_board.specs.Rule.{IsRuled}
use Rattle.node_board.specs.Plays.{at_work}
use Rattle.node_board.specs.Steps.{AskedWhenLoaded}
use Rattle.node_board.proofs.CodeLemmas.{first_plain, link_signed, node_kind, plain_back, signed_back}
use Rattle.node_board.proofs.ItemSteps.{item_keeps}
use Rattle.node_board.proofs.ReachedLemmas.{kept_of_reached}
use Rattle.node_board.proofs.WorkerSteps.{kept, works_at, within, reached_after}

-- ---- the places that items load
pub data Input (law : Law) : ℕ → Type 0 where
  of_link : (l k : ℕ) → l < law.links → k < 6 → Input law (link_place l k)
  of_node : (n k : ℕ) → n < law.nodes → k < 7 → Input law (node_place law n k)
  of_first : Input law first_place
  of_sum : (n s : ℕ) → n < law.nodes → s < 3 → Input law (node_place law n (7 + s))

input_inside : (law : Law) (j : ℕ) → Input law j → j < word_count law
input_inside law _ (of_link l k h few) = omega arith
input_inside law _ (of_node n k h few) = omega arith
input_inside law _ of_first = omega arith
input_inside law _ (of_sum n s h few) = omega arith

pub link_low : (k : ℕ) (v : ℤ) → k < 6 → LinkWord k v → pos 0 ≤ℤ (v +ℤ pos (2 ^ 63))
link_low zero v few range = omega (arith, ints, range.within)
link_low (suc zero) v few range = omega (arith, ints, range.from)
link_low (suc (suc zero)) v few range = omega (arith, ints, range.from)
link_low (suc (suc (suc zero))) v few range = omega (arith, ints, range.least)
link_low (suc (suc (suc (suc zero)))) v few range = omega (arith, ints, range.within)
link_low (suc (suc (suc (suc (suc zero))))) v few range = omega (arith, ints, range.within)
link_low (suc (suc (suc (suc (suc (suc k)))))) v few range = absurd (omega arith)

pub node_low : (law : Law) → IsLaw law → (k : ℕ) (v : ℤ) → k < 7 → NodeWord law k v → pos 0 ≤ℤ (v +ℤ pos (2 ^ 63))
node_low law good zero v few range = omega (arith, ints, range.within, good.limit_most)
node_low law good (suc zero) v few range = omega (arith, ints, range.within)
node_low law good (suc (suc zero)) v few range = omega (arith, ints, range.within)
node_low law good (suc (suc (suc zero))) v few range = omega (arith, ints, range.within, good.limit_most)
node_low law good (suc (suc (suc (suc zero)))) v few range = omega (arith, ints, range.least)
node_low law good (suc (suc (suc (suc (suc zero))))) v few range = omega (arith, ints, range.within, good.limit_most)
node_low law good (suc (suc (suc (suc (suc (suc zero)))))) v few range = omega (arith, ints, range.within, good.limit_most)
node_low law good (suc (suc (suc (suc (suc (suc (suc k))))))) v few range = absurd (omega arith)

-- what is loaded from a word is the machine's number
pub input_back : (law : Law) → IsLaw law → (j : ℕ) (v : ℤ) → Input law j → IsInRange law j v
    → ((n s : ℕ) → n < law.nodes → s < 3 → j ≡ node_place law n (7 + s) → pos 0 ≤ℤ v)
    → decoded law j (coded law j v) ≡ v
input_back law good _ v (of_link l k h few) range sums =
    signed_back law (link_place l k) v (link_signed law l k h few) (link_low k v few (range.link l k h few refl))
input_back law good _ v (of_node n k h few) range sums =
    signed_back law (node_place law n k) v
    (node_kind law n k h (omega (arith, few)) ∙ (let off : nat_lt 6 k ≡ false = grind (arith, nat_tests) in off))
    (node_low law good k v few (range.node n k h few refl))
input_back law good _ v of_first range sums = plain_back law first_place v (first_plain law) (range.first refl).from
input_back law good _ v (of_sum n s h few) range sums =
    plain_back law (node_place law n (7 + s)) v
    (node_kind law n (7 + s) h (omega (arith, few)) ∙ (let on : nat_lt 6 (7 + s) ≡ true = grind (arith, nat_tests) in on))
    (sums n s h few refl)

link_input_is : (law : Law) → IsLaw law → (b l k : ℕ) → b < 2 → l < law.links → k < 8 → Input law (link_input law b l k)
link_input_is law good b l k few within less = by_small (nat_lt k 4) refl
  where
    by_far : (t : Bool) → eqb k 6 ≡ t
        → Input law (if t then node_place law (law.ends l).1 (5 + b) else link_place l (4 + b))
    by_far true e = of_node (law.ends l).1 (5 + b) (good.ends_in l within).second (omega (arith, few))
    by_far false e = of_link l (4 + b) within (omega (arith, few))

    by_near : (t : Bool) → eqb k 5 ≡ t
        → Input law (if t then node_place law (law.ends l).0 (5 + b)
        else if eqb k 6 then node_place law (law.ends l).1 (5 + b) else link_place l (4 + b))
    by_near true e = of_node (law.ends l).0 (5 + b) (good.ends_in l within).first (omega (arith, few))
    by_near false e = by_far (eqb k 6) refl

    by_first : (t : Bool) → eqb k 4 ≡ t
        → Input law (if t then first_place else if eqb k 5 then node_place law (law.ends l).0 (5 + b)
        else if eqb k 6 then node_place law (law.ends l).1 (5 + b) else link_place l (4 + b))
    by_first true e = of_first
    by_first false e = by_near (eqb k 5) refl

    by_small : (t : Bool) → nat_lt k 4 ≡ t
        → Input law (if t then link_place l k else if eqb k 4 then first_place
        else if eqb k 5 then node_place law (law.ends l).0 (5 + b)
        else if eqb k 6 then node_place law (law.ends l).1 (5 + b) else link_place l (4 + b))
    by_small true e = let h : k < 4 = grind (arith, nat_tests) in of_link l k within (omega (arith, h))
    by_small false e = by_first (eqb k 4) refl

node_input_is : (law : Law) (b n k : ℕ) → b < 2 → n < law.nodes → k < 10 → Input law (node_input law b n k)
node_input_is law b n k few within less = by_small (nat_lt k 5) refl
  where
    by_head : ¬ (k < 5) → ¬ (k ≡ 5) → (t : Bool) → eqb k 6 ≡ t
        → Input law (if t then node_place law n (5 + b) else node_place law n k)
    by_head a c true e = of_node n (5 + b) within (omega (arith, few))
    by_head a c false e =
        let differ : ¬ (k ≡ 6) = λ h. let on : eqb k 6 ≡ true = grind (arith, nat_tests) in cc in
        let from : 7 ≤ k = grind (arith, a, c, differ) in
        let is : 7 + (k - 7) ≡ k = omega (arith, from) in
        subst (λ (m : ℕ). Input law (node_place law n m)) is (of_sum n (k - 7) within (omega (arith, from, less)))

    by_first : ¬ (k < 5) → (t : Bool) → eqb k 5 ≡ t
        → Input law (if t then first_place else if eqb k 6 then node_place law n (5 + b) else node_place law n k)
    by_first a true e = of_first
    by_first a false e = by_head a (λ h. let on : eqb k 5 ≡ true = grind (arith, nat_tests) in cc) (eqb k 6) refl

    by_small : (t : Bool) → nat_lt k 5 ≡ t
        → Input law (if t then node_place law n k else if eqb k 5 then first_place
        else if eqb k 6 then node_place law n (5 + b) else node_place law n k)
    by_small true e = let h : k < 5 = grind (arith, nat_tests) in of_node n k within (omega (arith, h))
    by_small false e = by_first (λ h. let on : nat_lt k 5 ≡ true = grind (arith, nat_tests) in cc) (eqb k 5) refl

-- ---- the step
module _ {P : Type 0} {law : Law} (good : IsLaw law) {key : P} {s : State Unit (View P)} (r : IsRuled law key s)
    (i : ℕ) (v : View P) (w : Work) (at : get_elem? s.views i ≡ some v) (works : v.role ≡ Works w) (begun : 1 ≤ w.stage) where
  abbrev pub load_place : ℕ
  load_place = input_place law w (w.stage - 1)

  here_is : seat_of r.core i ≡ w
  here_is = works_at good r i v w at works

  begun_here : 1 ≤ (seat_of r.core i).stage
  begun_here = subst (λ (x : Work). 1 ≤ x.stage) (sym here_is) begun

  tag_here : w.tag ≡ r.core.phase
  tag_here = ap (λ (x : Work). x.tag) (sym here_is) ∙ tag_is good r.core (kept good r) i begun_here

  item_here : w.item < count law r.core.phase
  item_here = subst (λ (x : Work). x.item < count law r.core.phase) here_is (((kept good r).seats i).item begun_here).item

  link_here : is_odd w.tag ≡ true → w.item < law.links
  link_here odd =
      subst (λ (m : ℕ). w.item < m) (links_count law r.core.phase (ap is_odd (sym tag_here) ∙ odd)) item_here

  node_here : is_odd w.tag ≡ false → w.item < law.nodes
  node_here even =
      subst
      (λ (m : ℕ). w.item < m)
      (nodes_count law r.core.phase (ap is_odd (sym tag_here) ∙ even) (some_phase good r.core (kept good r) i begun_here))
      item_here

  place_is : (is_odd w.tag ≡ true → w.stage ≤ 8) → w.stage ≤ 10 → Input law load_place
  place_is links most = by_kind (is_odd w.tag) refl
    where
      by_kind : (t : Bool) → is_odd w.tag ≡ t → Input law load_place
      by_kind true odd =
          rw odd (link_input_is law good (other (written w.tag)) w.item (w.stage - 1) (other_few (written w.tag)) (link_here odd)
          (let h = links odd in omega (arith, h, begun)))
      by_kind false even =
          rw even (node_input_is law (other (written w.tag)) w.item (w.stage - 1) (other_few (written w.tag)) (node_here even)
          (omega (arith, most, begun)))

  -- no sum is below 0 while the phase of an item is open
  sums_low : (n k : ℕ) → n < law.nodes → k < 3 → pos 0 ≤ℤ number r.core.words (node_place law n (7 + k))
  sums_low n k h few = by_kind (is_odd r.core.phase) refl
    where
      by_sum : (t : Nets) (m : ℕ) → m < 3 → pos 0 ≤ℤ number t.inflows n → pos 0 ≤ℤ number t.outflows n → pos 0 ≤ℤ number t.areas n
          → pos 0 ≤ℤ sum_of t n m
      by_sum t zero less a b c = a
      by_sum t (suc zero) less a b c = b
      by_sum t (suc (suc zero)) less a b c = c
      by_sum t (suc (suc (suc m))) less a b c = absurd (omega arith)

      by_kind : (t : Bool) → is_odd r.core.phase ≡ t → pos 0 ≤ℤ number r.core.words (node_place law n (7 + k))
      by_kind true odd = let is = ((kept good r).links odd).sums n k h few in omega (arith, ints, is)
      by_kind false even =
          let all = kept good r in
          let on = running good r.core all i begun_here in
          let is = (all.nodes even on).sums n k h few in
          let fits = fits_in law r.core.opened all.opened_ranges all.opened_sums all.opened_least (other (written r.core.phase)) (other_few (written r.core.phase)) in
          let range = (with_flows_fit good fits (is_first (number r.core.opened first_place))).sums.each n h in
          subst (λ (x : ℤ). pos 0 ≤ℤ x) (sym is)
          (by_sum (with_links law r.core.opened r.core.phase) k few range.inflow_in.from range.outflow_in.from range.area_in.from)

  -- a load
  module _ (act : Act) (can : CanWork law w act)
      (same_work : (c : Core) → work_after law c w act ≡ loaded_more w (number c.words (input_place law w (w.stage - 1))))
      (same_words : (c : Core) → words_after law c w act ≡ c.words) (same_index : (k : ℕ) → index_after k act ≡ k)
      (links : is_odd w.tag ≡ true → w.stage ≤ 8) (most : w.stage ≤ 10) where
    abbrev pub found : ℕ
    found = slice_index s.words (input_place law w (w.stage - 1) + 1)

    inside : input_place law w (w.stage - 1) < word_count law
    inside = input_inside law (input_place law w (w.stage - 1)) (place_is links most)

    value_is : decoded law (input_place law w (w.stage - 1)) found ≡ number r.core.words (input_place law w (w.stage - 1))
    value_is =
        ap (λ (m : ℕ). decoded law (input_place law w (w.stage - 1)) m) (r.shows.word (input_place law w (w.stage - 1)) inside)
        ∙ input_back law good (input_place law w (w.stage - 1)) (number r.core.words (input_place law w (w.stage - 1)))
        (place_is links most)
        ((kept good r).ranges (input_place law w (w.stage - 1)))
        (λ n k h few e. subst (λ (j : ℕ). pos 0 ≤ℤ number r.core.words j) (sym e) (sums_low n k h few))

    new_is : loaded_more w (decoded law (input_place law w (w.stage - 1)) found) ≡ work_after law r.core w act
    new_is = ap (λ (x : ℤ). loaded_more w x) value_is ∙ sym (same_work r.core)

    pub load_keeps : IsRuled law key
        (stepped s (input_place law w (w.stage - 1) + 1) found i []
        (at_work v (loaded_more w (decoded law (input_place law w (w.stage - 1)) found))) keeps)
    load_keeps =
        item_keeps good r i v w at works act can (loaded_more w (decoded law (input_place law w (w.stage - 1)) found)) new_is refl
        (same_index r.core.index)
        (input_place law w (w.stage - 1)) found (number r.core.words (input_place law w (w.stage - 1))) inside
        (same_words r.core ∙ sym (set-get_or r.core.words (input_place law w (w.stage - 1)) (pos 0)))
        (r.shows.word (input_place law w (w.stage - 1)) inside)

    new_seat : seat_of (by_worker law r.core i act) i ≡ loaded_more w (decoded law (input_place law w (w.stage - 1)) found)
    new_seat =
        get_or-set_same r.core.seats i (work_after law r.core (seat_of r.core i) act) idle (within good r i v w at works)
        ∙ ap (λ (y : Work). work_after law r.core y act) here_is
        ∙ sym new_is

    pub load_asks : AskedWhenLoaded law (loaded_more w (decoded law (input_place law w (w.stage - 1)) found))
    load_asks =
        let kept_after = kept_of_reached law (length s.views) (by_worker law r.core i act) good (reached_after good r i v w at works act can) in
        record {
          link = λ odd late.
              subst (λ (x : Work). AsksLink law x) new_seat
              (asks_link good (by_worker law r.core i act) kept_after i
              (subst (λ (x : Work). 1 ≤ x.stage) (sym new_seat) (omega arith))
              (subst (λ (x : Work). is_odd x.tag ≡ true) (sym new_seat) odd)
              (subst (λ (x : Work). 9 ≤ x.stage) (sym new_seat) late));
          node = λ even late.
              subst (λ (x : Work). AsksNode law x) new_seat
              (asks_node good (by_worker law r.core i act) kept_after i
              (subst (λ (x : Work). 1 ≤ x.stage) (sym new_seat) (omega arith))
              (subst (λ (x : Work). is_odd x.tag ≡ false) (sym new_seat) even)
              (subst (λ (x : Work). 11 ≤ x.stage) (sym new_seat) late));
        }

-- what the steps of a table ask
pub load_allowed : {P : Type 0} (law : Law) → IsLaw law → (key : P) (slots i : ℕ) (v : View P) (w : Work) → v.role ≡ Works w
    → 1 ≤ w.stage → (act : Act) → CanWork law w act
    → ((c : Core) → work_after law c w act ≡ loaded_more w (number c.words (input_place law w (w.stage - 1))))
    → ((c : Core) → words_after law c w act ≡ c.words) → ((k : ℕ) → index_after k act ≡ k)
    → (is_odd w.tag ≡ true → w.stage ≤ 8) → w.stage ≤ 10
    → Allows {S = Unit {0}} (IsRuled law key) slots i (v, []) (input_place law w (w.stage - 1) + 1) (λ m. m)
    (λ m me. (me ≡ (at_work v (loaded_more w (decoded law (input_place law w (w.stage - 1)) m)), []))
    × AskedWhenLoaded law (loaded_more w (decoded law (input_place law w (w.stage - 1)) m)))
load_allowed law good key slots i v w works begun act can work words index links most s r homes at small = (
  at_work v (loaded_more w (decoded law (input_place law w (w.stage - 1)) (slice_index s.words (input_place law w (w.stage - 1) + 1)))),
  keeps,
  tt,
  load_keeps good r i v w at works begun act can work words index links most,
  (refl, load_asks good r i v w at works begun act can work words index links most),
)
