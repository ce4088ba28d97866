-- What the openings of phases leave of the words that the lead knows.
use Rattle.std.proofs.Common.{◌≡◌, ℕ, zero, suc, ◌+◌, ◌*◌, ◌%◌, ◌<◌, ◌≤◌, Bool, true, false, nat_lt, if◌then◌else◌, ℤ, pos, List}
use Rattle.std.proofs.Common.{[], length, slice_set, refl, sym, ap, subst, ◌∙◌, add-one, arith}
use Rattle.std.proofs.lemmas.Bool.Decides.{nat_tests}
use Rattle.std.proofs.lemmas.Int.{ints}
use Rattle.std.specs.Int.RustNames.{unsigned_abs}
use Rattle.fixed_num.specs.Lists.{number, list_of}
use Rattle.fixed_num.specs.Ranges.{IsBetween}
use Rattle.fixed_num.specs.Sums.{below}
use Rattle.phase_law.specs.Law.{Law}
use Rattle.phase_law.specs.declared.values.LinkFixed.{LinkFixed}
use Rattle.phase_law.specs.declared.values.NodeFixed.{NodeFixed}
use Rattle.trial_model.specs.declared.nets.Nets.{Nets}
use Rattle.trial_model.specs.Start.{no_link, no_node}
use Rattle.trial_model.specs.Trial.{with_flows, trial, unsettled_in, next_in, unsettled_part}
use Rattle.trial_model.proofs.FlowLemmas.{list_same}
use Rattle.trial_model.proofs.LoopLemmas.{number_same, number_other}
use Rattle.phase_machine.specs.Kept.{with_links}
use Rattle.phase_machine.specs.Places.{first_place, link_place, node_place, word_count, is_odd, is_first}
use Rattle.phase_machine.specs.Places.{written, other, link_fixed_in, node_fixed_in, nets_in, IsRead, IsInRange}
use Rattle.phase_machine.specs.Places.{first, link_fixed, flow, node_fixed, head}
use Rattle.phase_machine.specs.Steps.{reset_count, reset_place, reset_value}
use Rattle.phase_machine.proofs.LeadActs.{written_next}
use Rattle.phase_machine.proofs.PlaceLemmas.{written_few}
use Rattle.phase_machine.proofs.Resets.{ResetView, of_done, of_unsettled, of_sum, of_least, reset_view, reset_unread, few_of}
use Rattle.node_board.specs.declared.views.Plan.{Plan}
use Rattle.node_board.specs.Coding.{is_plain, coded, decoded}
use Rattle.node_board.specs.declared.views.View.{View}
use Rattle.node_board.specs.Known.{state_in, at_known, with_first, reset_words, all_reset, begun_links, begun_nodes}
use Rattle.node_board.specs.Known.{links_opened, nodes_opened, CanReset}
use Rattle.node_board.specs.Plays.{at_plan, trial_of, unsettled_of}
use Rattle.node_board.specs.Seen.{plan_of}
use Rattle.node_board.specs.Steps.{Rests}
use Rattle.node_board.proofs.CodeLemmas.{done_plain, unsettled_plain, least_plain, node_kind, plain_word}

-- ---- resets
reset_plain : (law : Law) (r : ℕ) → ResetView law r → is_plain law (reset_place law r) ≡ true
reset_plain law r (of_done e p v) = ap (is_plain law) p ∙ done_plain law
reset_plain law r (of_unsettled e p v) = ap (is_plain law) p ∙ unsettled_plain law
reset_plain law r (of_sum n s h few e p v) =
    let on : nat_lt 6 (7 + s) ≡ true = grind (arith, nat_tests) in
    ap (is_plain law) p ∙ node_kind law n (7 + s) h (omega (arith, few)) ∙ on
reset_plain law r (of_least e p v) = ap (is_plain law) p ∙ least_plain law

pub can_reset : (law : Law) (plan : Plan) (r word code : ℕ) → Rests plan → plan.resets ≡ r → r < reset_count law plan.phase
    → word ≡ reset_place law r + 1 → pos code ≡ reset_value law r → CanReset law word code plan
can_reset law plan r word code rests next left at is =
    let most = few_of law plan.phase in
    let plain = reset_plain law r (reset_view law r (omega (arith, left, most))) in
    let here : code ≡ coded law (reset_place law r) (reset_value law r) =
    ap unsigned_abs is ∙ sym (plain_word law (reset_place law r) (reset_value law r) plain) in
    record {
      rests = rests;
      left = subst (λ (m : ℕ). m < reset_count law plan.phase) (sym next) left;
      word_is = at ∙ ap (λ (m : ℕ). reset_place law m + 1) (sym next);
      code_is = subst (λ (m : ℕ). code ≡ coded law (reset_place law m) (reset_value law m)) (sym next) here;
    }

-- resets change no word that a trial reads
unread : (law : Law) (b j r : ℕ) → b < 2 → IsRead law b j → r ≤ 3 + 3 * law.nodes → (words : List ℤ)
    → number (reset_words law r words) j ≡ number words j
unread law b j zero few read most words = refl
unread law b j (suc r) few read most words =
    number_other (reset_words law r words) (reset_place law r) j (reset_value law r)
    (reset_unread (reset_view law r (omega (arith, most))) few read)
    ∙ unread law b j r few read (omega (arith, most)) words

-- ---- whether the next trial is the first of its step
pub first_range : (law : Law) (b : Bool) → IsInRange law 2 (if b then pos 1 else pos 0)
first_range law b = record {
  first = λ e. within b;
  link = λ l k h few e. absurd (omega (arith, e));
  node = λ n k h few e. absurd (omega (arith, e));
}
  where
    within : (b : Bool) → IsBetween (pos 0) (if b then pos 1 else pos 0) (pos 1)
    within true = record { from = omega (arith, ints); to = omega (arith, ints) }
    within false = record { from = omega (arith, ints); to = omega (arith, ints) }

pub first_coded : (law : Law) (b : Bool) (code : ℕ) → code ≡ (if b then 1 else 0)
    → code ≡ coded law 2 (if b then pos 1 else pos 0)
first_coded law true code e = e
first_coded law false code e = e

pub first_decoded : (law : Law) (b : Bool) (code : ℕ) → code ≡ (if b then 1 else 0)
    → decoded law 2 code ≡ (if b then pos 1 else pos 0)
first_decoded law true code e = ap pos e
first_decoded law false code e = ap pos e

is_first_of : (b : Bool) → is_first (if b then pos 1 else pos 0) ≡ b
is_first_of true = refl
is_first_of false = refl

-- ---- the buffers
-- an even phase wrote the buffer that the next one reads
read_next : (p : ℕ) → is_odd p ≡ false → other (written (p + 1)) ≡ written p
read_next p even =
    let half : p % 2 ≡ 0 = grind (arith, nat_tests) in
    omega (arith, half)

-- ---- the trial of a state
module _ (law : Law) (a b : List ℤ) (buffer : ℕ)
    (same : (j : ℕ) → IsRead law buffer j → ¬ (j ≡ first_place) → number a j ≡ number b j) where
  same_link : (l : ℕ) → l < law.links → link_fixed_in a l ≡ link_fixed_in b l
  same_link l h =
      let e0 = same (link_place l 0) (link_fixed l 0 h (omega arith)) (λ e. omega (arith, e)) in
      let e1 = same (link_place l 1) (link_fixed l 1 h (omega arith)) (λ e. omega (arith, e)) in
      let e2 = same (link_place l 2) (link_fixed l 2 h (omega arith)) (λ e. omega (arith, e)) in
      let e3 = same (link_place l 3) (link_fixed l 3 h (omega arith)) (λ e. omega (arith, e)) in
      rw (e0, e1, e2, e3) refl

  same_node : (n : ℕ) → n < law.nodes → node_fixed_in law a n ≡ node_fixed_in law b n
  same_node n h =
      let e0 = same (node_place law n 0) (node_fixed n 0 h (omega arith)) (λ e. omega (arith, e)) in
      let e1 = same (node_place law n 1) (node_fixed n 1 h (omega arith)) (λ e. omega (arith, e)) in
      let e2 = same (node_place law n 2) (node_fixed n 2 h (omega arith)) (λ e. omega (arith, e)) in
      let e3 = same (node_place law n 3) (node_fixed n 3 h (omega arith)) (λ e. omega (arith, e)) in
      let e4 = same (node_place law n 4) (node_fixed n 4 h (omega arith)) (λ e. omega (arith, e)) in
      rw (e0, e1, e2, e3, e4) refl

  same_heads : list_of (λ n. number a (node_place law n (5 + buffer))) law.nodes
      ≡ list_of (λ n. number b (node_place law n (5 + buffer))) law.nodes
  same_heads =
      list_same (λ n. number a (node_place law n (5 + buffer))) (λ n. number b (node_place law n (5 + buffer))) (pos 0)
      law.nodes (λ n h. same (node_place law n (5 + buffer)) (head n h) (λ e. omega (arith, e)))

  same_last : list_of (λ l. number a (link_place l (4 + buffer))) law.links
      ≡ list_of (λ l. number b (link_place l (4 + buffer))) law.links
  same_last =
      list_same (λ l. number a (link_place l (4 + buffer))) (λ l. number b (link_place l (4 + buffer))) (pos 0)
      law.links (λ l h. same (link_place l (4 + buffer)) (flow l h) (λ e. omega (arith, e)))

  -- the trial's links, from what a trial reads of a state
  flows_from : (begun : Bool) → (heads flows : List ℤ) → List LinkFixed → List NodeFixed → Nets
  flows_from begun heads flows links nodes =
      with_flows law
      (record {
        heads = heads;
        flows = flows;
        inflows = [];
        outflows = [];
        areas = [];
        read_heads = [];
        links = links;
        nodes = nodes;
        least = pos 0;
      })
      begun

  pub same_flows : (begun : Bool) → with_flows law (nets_in law a buffer) begun ≡ with_flows law (nets_in law b buffer) begun
  unfolding nets_in with_flows flows_from
  same_flows begun =
      let heads : (words : List ℤ) → List ℤ = λ words. list_of (λ n. number words (node_place law n (5 + buffer))) law.nodes in
      let flows : (words : List ℤ) → List ℤ = λ words. list_of (λ l. number words (link_place l (4 + buffer))) law.links in
      let links : (words : List ℤ) → List LinkFixed = λ words. list_of (link_fixed_in words) law.links in
      let nodes : (words : List ℤ) → List NodeFixed = λ words. list_of (node_fixed_in law words) law.nodes in
      ap (λ (x : List ℤ). flows_from begun x (flows a) (links a) (nodes a)) same_heads
      ∙ ap (λ (x : List ℤ). flows_from begun (heads b) x (links a) (nodes a)) same_last
      ∙ ap (λ (x : List LinkFixed). flows_from begun (heads b) (flows b) x (nodes a))
      (list_same (link_fixed_in a) (link_fixed_in b) no_link law.links same_link)
      ∙ ap (λ (x : List NodeFixed). flows_from begun (heads b) (flows b) (links b) x)
      (list_same (node_fixed_in law a) (node_fixed_in law b) no_node law.nodes same_node)

-- a trial whose links are the same, and which is the first as well, is the same
same_trial : (law : Law) (s t : Nets) (f g : Bool) → with_flows law s f ≡ with_flows law t g → f ≡ g
    → trial law s f ≡ trial law t g
unfolding trial
same_trial law s t f g links is =
    ap (λ (x : Nets). record x { heads = list_of (λ n. (next_in law x f n).head) law.nodes }) links
    ∙ ap (λ (x : Bool). record (with_flows law t g) { heads = list_of (λ n. (next_in law (with_flows law t g) x n).head) law.nodes }) is

same_unsettled : (law : Law) (s t : Nets) (f g : Bool) → with_flows law s f ≡ with_flows law t g → f ≡ g
    → unsettled_in law s f ≡ unsettled_in law t g
unfolding unsettled_in
same_unsettled law s t f g links is =
    ap (λ (x : Nets). below (λ n. unsettled_part (next_in law x f n).settled) law.nodes) links
    ∙ ap (λ (x : Bool). below (λ n. unsettled_part (next_in law (with_flows law t g) x n).settled) law.nodes) is

-- ---- the opening of a phase of links
module _ (law : Law) (begun : Bool) (plan : Plan) (even : is_odd plan.phase ≡ false)
    (size : length plan.known ≡ word_count law) where
  words_then : List ℤ
  words_then = reset_words law (reset_count law plan.phase) (with_first begun plan.known)

  first_then : is_first (number (reset_words law (reset_count law plan.phase) (with_first begun plan.known)) first_place) ≡ begun
  first_then =
      ap is_first
      (unread law (written plan.phase) first_place (reset_count law plan.phase) (written_few plan.phase) first
      (few_of law plan.phase) (with_first begun plan.known)
      ∙ number_same plan.known first_place (if begun then pos 1 else pos 0) (omega (arith, size)))
      ∙ is_first_of begun

  read_then : (j : ℕ) → IsRead law (written plan.phase) j → ¬ (j ≡ first_place)
      → number (reset_words law (reset_count law plan.phase) (with_first begun plan.known)) j ≡ number plan.known j
  read_then j read differ =
      unread law (written plan.phase) j (reset_count law plan.phase) (written_few plan.phase) read (few_of law plan.phase)
      (with_first begun plan.known)
      ∙ number_other plan.known first_place j (if begun then pos 1 else pos 0) differ

  -- the flows, the trial and its count are those of the state that stood there
  pub opened_flows : with_links law (links_opened law begun plan).opened (links_opened law begun plan).phase
      ≡ with_flows law (state_in law plan) begun
  opened_flows =
      ap (λ (b : ℕ). with_flows law (nets_in law (links_opened law begun plan).opened b)
      (is_first (number (links_opened law begun plan).opened first_place))) (read_next plan.phase even)
      ∙ ap (λ (f : Bool). with_flows law (nets_in law (links_opened law begun plan).opened (written plan.phase)) f) first_then
      ∙ same_flows law (links_opened law begun plan).opened plan.known (written plan.phase) read_then begun

  pub opened_trial : trial_of law (links_opened law begun plan).opened (links_opened law begun plan).phase
      ≡ trial law (state_in law plan) begun
  opened_trial =
      same_trial law (nets_in law (links_opened law begun plan).opened (other (written (links_opened law begun plan).phase)))
      (state_in law plan) (is_first (number (links_opened law begun plan).opened first_place)) begun opened_flows first_then

  pub opened_unsettled : unsettled_of law (links_opened law begun plan).opened (links_opened law begun plan).phase
      ≡ unsettled_in law (state_in law plan) begun
  opened_unsettled =
      same_unsettled law (nets_in law (links_opened law begun plan).opened (other (written (links_opened law begun plan).phase)))
      (state_in law plan) (is_first (number (links_opened law begun plan).opened first_place)) begun opened_flows first_then

-- ---- the opening of a phase of nodes
module _ (law : Law) (opened : List ℤ) (phase : ℕ) (odd : is_odd phase ≡ true) where
  pub trial_next : trial_of law opened (phase + 1) ≡ trial_of law opened phase
  trial_next =
      ap (λ (b : ℕ). trial law (nets_in law opened (other b)) (is_first (number opened first_place))) (written_next phase odd)

  pub unsettled_next : unsettled_of law opened (phase + 1) ≡ unsettled_of law opened phase
  unsettled_next =
      ap (λ (b : ℕ). unsettled_in law (nets_in law opened (other b)) (is_first (number opened first_place)))
      (written_next phase odd)

-- one reset more
pub reset_more : (law : Law) (r : ℕ) (words : List ℤ)
    → slice_set (reset_words law r words) (reset_place law r) (reset_value law r) ≡ reset_words law (r + 1) words
reset_more law r words = rw (add-one r) refl

-- the views of the lead along an opening
module _ {P : Type 0} (law : Law) where
  pub links_view : (begun : Bool) (v v1 v2 v3 : View P) → v1 ≡ at_known v (with_first begun (plan_of v).known)
      → v2 ≡ at_plan v1 (all_reset law (plan_of v1)) → v3 ≡ at_plan v2 (begun_links (plan_of v2))
      → v3 ≡ at_plan v (links_opened law begun (plan_of v))
  links_view begun v v1 v2 v3 e1 e2 e3 =
      e3
      ∙ ap (λ (x : View P). at_plan x (begun_links (plan_of x))) e2
      ∙ ap (λ (x : View P). at_plan x (begun_links (all_reset law (plan_of x)))) e1

  pub nodes_view : (v v1 v2 : View P) → v1 ≡ at_plan v (all_reset law (plan_of v)) → v2 ≡ at_plan v1 (begun_nodes (plan_of v1))
      → v2 ≡ at_plan v (nodes_opened law (plan_of v))
  nodes_view v v1 v2 e1 e2 = e2 ∙ ap (λ (x : View P). at_plan x (begun_nodes (plan_of x))) e1
