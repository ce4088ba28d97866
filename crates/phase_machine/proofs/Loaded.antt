-- What a seat has loaded is what the trial opened, so the law says of it what the trial says.
use Rattle.std.proofs.Common.{◌≡◌, ℕ, zero, suc, ◌+◌, ◌-◌, ◌<◌, ◌≤◌, Bool, true, false, eqb, if◌then◌else◌, ℤ, pos, List, [], ◌∷◌, ◌++◌, length, refl, sym, ap, ◌∙◌, arith, ◌⊎◌, inl, inr}
use Rattle.std.proofs.lemmas.Bool.Decides.{nat_tests}
use Rattle.fixed_num.specs.Lists.{number, list_of}
use Rattle.phase_law.specs.Law.{Law}
use Rattle.phase_law.specs.Laws.{IsLaw}
use Rattle.phase_law.specs.declared.values.LinkFixed.{LinkFixed}
use Rattle.phase_law.specs.declared.values.NodeFixed.{NodeFixed}
use Rattle.trial_model.specs.Fits.{link_fixed_at, node_fixed_at}
use Rattle.trial_model.specs.Start.{no_link, no_node}
use Rattle.trial_model.specs.Trial.{with_flows}
use Rattle.trial_model.proofs.RangeLemmas.{listed}
use Rattle.phase_machine.specs.declared.work.Work.{Work}
use Rattle.phase_machine.specs.Places.{link_place, node_place, is_odd, count, written, other, is_first, link_fixed_in, node_fixed_in, nets_in, IsRead, first, link_fixed, flow, node_fixed, head}
use Rattle.phase_machine.specs.Items.{link_input, node_input, share_at, next_at}
use Rattle.phase_machine.specs.Steps.{further, loaded_more}
use Rattle.phase_machine.proofs.PlaceLemmas.{equal_or_not}
use Rattle.phase_machine.specs.Kept.{shares, with_links, nexts, sum_of, loads_at, input_of, HasItem}

-- ---- lists that grow at their end
pub number_end : (xs : List ℤ) (v : ℤ) → number (xs ++ v ∷ []) (length xs) ≡ v
number_end [] v = refl
number_end (x ∷ xs) v = number_end xs v

pub number_before : (xs : List ℤ) (v : ℤ) (k : ℕ) → k < length xs → number (xs ++ v ∷ []) k ≡ number xs k
number_before [] v k h = absurd (omega arith)
number_before (x ∷ xs) v zero h = refl
number_before (x ∷ xs) v (suc k) h = number_before xs v k (omega arith)

pub length_end : {A : Type 0} (xs : List A) (v : A) → length (xs ++ v ∷ []) ≡ length xs + 1
length_end [] v = refl
length_end (x ∷ xs) v = omega (arith, length_end xs v)

-- ---- inputs are words that a trial reads
pub link_input_read : {law : Law} → IsLaw law → (b l k : ℕ) → l < law.links → k < 8 → IsRead law b (link_input law b l k)
link_input_read good b l zero h few = link_fixed l 0 h (omega arith)
link_input_read good b l (suc zero) h few = link_fixed l 1 h (omega arith)
link_input_read good b l (suc (suc zero)) h few = link_fixed l 2 h (omega arith)
link_input_read good b l (suc (suc (suc zero))) h few = link_fixed l 3 h (omega arith)
link_input_read good b l (suc (suc (suc (suc zero)))) h few = first
link_input_read good b l (suc (suc (suc (suc (suc zero))))) h few = head _ (good.ends_in l h).first
link_input_read good b l (suc (suc (suc (suc (suc (suc zero)))))) h few = head _ (good.ends_in l h).second
link_input_read good b l (suc (suc (suc (suc (suc (suc (suc zero))))))) h few = flow l h
link_input_read good b l (suc (suc (suc (suc (suc (suc (suc (suc k)))))))) h few = absurd (omega arith)

pub node_input_read : {law : Law} (b n k : ℕ) → n < law.nodes → k < 7 → IsRead law b (node_input law b n k)
node_input_read b n zero h few = node_fixed n 0 h (omega arith)
node_input_read b n (suc zero) h few = node_fixed n 1 h (omega arith)
node_input_read b n (suc (suc zero)) h few = node_fixed n 2 h (omega arith)
node_input_read b n (suc (suc (suc zero))) h few = node_fixed n 3 h (omega arith)
node_input_read b n (suc (suc (suc (suc zero)))) h few = node_fixed n 4 h (omega arith)
node_input_read b n (suc (suc (suc (suc (suc zero))))) h few = first
node_input_read b n (suc (suc (suc (suc (suc (suc zero)))))) h few = head n h
node_input_read b n (suc (suc (suc (suc (suc (suc (suc k))))))) h few = absurd (omega arith)

-- ---- the law's answers
same_fixed : (a b c d e f g h : ℤ) → a ≡ e → b ≡ f → c ≡ g → d ≡ h
    → ◌≡◌ {A = LinkFixed} (record { q_old = a; a_old = b; setting = c; dt = d }) (record { q_old = e; a_old = f; setting = g; dt = h })
same_fixed a b c d e f g h e1 e2 e3 e4 = cc

same_node : (a b c d e f g h i j : ℤ) → a ≡ f → b ≡ g → c ≡ h → d ≡ i → e ≡ j
    → ◌≡◌ {A = NodeFixed} (record { h_old = a; net_old = b; lateral = c; stage = d; dt = e }) (record { h_old = f; net_old = g; lateral = h; stage = i; dt = j })
same_node a b c d e f g h i j e1 e2 e3 e4 e5 = cc

same_share : (law : Law) (l : ℕ) (f g : LinkFixed) (x y : Bool) (a b c d e h : ℤ) → f ≡ g → x ≡ y → a ≡ d → b ≡ e → c ≡ h
    → law.share l f x a b c ≡ law.share l g y d e h
same_share law l f g x y a b c d e h e1 e2 e3 e4 e5 = cc

same_next : (law : Law) (n : ℕ) (f g : NodeFixed) (x y : Bool) (a b c d e h i j : ℤ) → f ≡ g → x ≡ y → a ≡ e → b ≡ h → c ≡ i → d ≡ j
    → law.next n f x a b c d ≡ law.next n g y e h i j
same_next law n f g x y a b c d e h i j e1 e2 e3 e4 e5 e6 = cc

-- how many items a phase has
pub links_count : (law : Law) (phase : ℕ) → is_odd phase ≡ true → count law phase ≡ law.links
links_count law phase odd = rw odd refl

pub nodes_count : (law : Law) (phase : ℕ) → is_odd phase ≡ false → 1 ≤ phase → count law phase ≡ law.nodes
nodes_count law phase even some =
    let off : eqb phase 0 ≡ false = grind (arith, nat_tests) in
    rw (even, off) refl

pub item_link : (law : Law) (phase l : ℕ) → is_odd phase ≡ true → l < count law phase → l < law.links
item_link law phase l odd h = omega (arith, h, links_count law phase odd)

module _ {law : Law} (good : IsLaw law) (opened : List ℤ) (phase : ℕ) (on : Bool) (w : Work) (has : HasItem law opened phase on w) where
  at_link : is_odd phase ≡ true → 9 ≤ w.stage → (k : ℕ) → k < 8
      → number w.loaded k ≡ number opened (link_input law (other (written phase)) w.item k)
  at_link odd late k few =
      let all : loads_at phase w.stage ≡ 8 = rw odd (omega arith) in
      has.loaded k (omega arith) ∙ rw odd refl

  -- a link that has its inputs has the share of the trial
  pub share_is : is_odd phase ≡ true → 9 ≤ w.stage → share_at law w ≡ shares law opened phase w.item
  unfolding share_at nets_in
  share_is odd late =
      let b = other (written phase) in
      let l = w.item in
      let x = at_link odd late in
      let within : l < law.links = item_link law phase l odd has.item in
      let ends = good.ends_in l within in
      let fixed : link_fixed_at (list_of (link_fixed_in opened) law.links) l ≡ link_fixed_in opened l =
      listed (link_fixed_in opened) law.links l no_link within in
      let near = listed (λ n. number opened (node_place law n (5 + b))) law.nodes (law.ends l).0 (pos 0) ends.first in
      let far = listed (λ n. number opened (node_place law n (5 + b))) law.nodes (law.ends l).1 (pos 0) ends.second in
      let last = listed (λ m. number opened (link_place m (4 + b))) law.links l (pos 0) within in
      same_share law l _ _ _ _ _ _ _ _ _ _
      (same_fixed _ _ _ _ _ _ _ _ (x 0 (omega arith)) (x 1 (omega arith)) (x 2 (omega arith)) (x 3 (omega arith)) ∙ sym fixed)
      (ap is_first (x 4 (omega arith)))
      (x 5 (omega arith) ∙ sym near)
      (x 6 (omega arith) ∙ sym far)
      (x 7 (omega arith) ∙ sym last)

  at_node : is_odd phase ≡ false → 11 ≤ w.stage → (k : ℕ) → k < 10 → number w.loaded k ≡ input_of law opened phase w.item k
  at_node even late k few =
      let all : loads_at phase w.stage ≡ 10 = rw even (omega arith) in
      has.loaded k (omega arith)

  at_inputs : is_odd phase ≡ false → 11 ≤ w.stage → (k : ℕ) → k < 7
      → number w.loaded k ≡ number opened (node_input law (other (written phase)) w.item k)
  at_inputs even late zero few = at_node even late 0 (omega arith) ∙ rw even refl
  at_inputs even late (suc zero) few = at_node even late 1 (omega arith) ∙ rw even refl
  at_inputs even late (suc (suc zero)) few = at_node even late 2 (omega arith) ∙ rw even refl
  at_inputs even late (suc (suc (suc zero))) few = at_node even late 3 (omega arith) ∙ rw even refl
  at_inputs even late (suc (suc (suc (suc zero)))) few = at_node even late 4 (omega arith) ∙ rw even refl
  at_inputs even late (suc (suc (suc (suc (suc zero))))) few = at_node even late 5 (omega arith) ∙ rw even refl
  at_inputs even late (suc (suc (suc (suc (suc (suc zero)))))) few = at_node even late 6 (omega arith) ∙ rw even refl
  at_inputs even late (suc (suc (suc (suc (suc (suc (suc k))))))) few = absurd (omega arith)

  at_sums : is_odd phase ≡ false → 11 ≤ w.stage → (number w.loaded 7 ≡ sum_of (with_links law opened phase) w.item 0)
      × (number w.loaded 8 ≡ sum_of (with_links law opened phase) w.item 1) × (number w.loaded 9 ≡ sum_of (with_links law opened phase) w.item 2)
  at_sums even late = (
    at_node even late 7 (omega arith) ∙ rw even refl,
    at_node even late 8 (omega arith) ∙ rw even refl,
    at_node even late 9 (omega arith) ∙ rw even refl,
  )

  -- a node that has its inputs and sums has the next head of the trial
  pub next_is : is_odd phase ≡ false → 1 ≤ phase → 11 ≤ w.stage → w.item < law.nodes → next_at law w ≡ nexts law opened phase w.item
  unfolding next_at nets_in with_flows
  next_is even some late within =
      let b = other (written phase) in
      let n = w.item in
      let x = at_inputs even late in
      let s = at_sums even late in
      let fixed : node_fixed_at (list_of (node_fixed_in law opened) law.nodes) n ≡ node_fixed_in law opened n =
      listed (node_fixed_in law opened) law.nodes n no_node within in
      let last = listed (λ m. number opened (node_place law m (5 + b))) law.nodes n (pos 0) within in
      same_next law n _ _ _ _ _ _ _ _ _ _ _ _
      (same_node _ _ _ _ _ _ _ _ _ _ (x 0 (omega arith)) (x 1 (omega arith)) (x 2 (omega arith)) (x 3 (omega arith)) (x 4 (omega arith)) ∙ sym fixed)
      (ap is_first (x 5 (omega arith)))
      s.0
      s.1
      s.2
      (x 6 (omega arith) ∙ sym last)

  pub at_link_loads : is_odd phase ≡ true → 9 ≤ w.stage → (k : ℕ) → k < 8
      → number w.loaded k ≡ number opened (link_input law (other (written phase)) w.item k)
  at_link_loads = at_link

  pub at_node_loads : is_odd phase ≡ false → 11 ≤ w.stage
      → ((k : ℕ) → k < 7 → number w.loaded k ≡ number opened (node_input law (other (written phase)) w.item k))
      × (number w.loaded 7 ≡ sum_of (with_links law opened phase) w.item 0)
      × (number w.loaded 8 ≡ sum_of (with_links law opened phase) w.item 1)
      × (number w.loaded 9 ≡ sum_of (with_links law opened phase) w.item 2)
  at_node_loads even late =
      let s = at_sums even late in
      (at_inputs even late, s.0, s.1, s.2)

-- ---- one act more
bounds : (b : Bool) → (if b then 8 else 10) + 1 ≤ (if b then 15 else 13)
bounds true = omega arith
bounds false = omega arith

module _ {law : Law} (opened : List ℤ) (phase : ℕ) (on : Bool) (w : Work) (has : HasItem law opened phase on w) where
  -- that loads what the trial opened
  pub has_loaded : (v : ℤ) → 1 ≤ w.stage → w.stage ≤ (if is_odd phase then 8 else 10) → v ≡ input_of law opened phase w.item (w.stage - 1)
      → HasItem law opened phase on (loaded_more w v)
  has_loaded v some few e =
      let most : (if is_odd phase then 8 else 10) + 1 ≤ (if is_odd phase then 15 else 13) = bounds (is_odd phase) in
      let before : loads_at phase w.stage ≡ w.stage - 1 = omega (arith, few) in
      let old : length w.loaded ≡ w.stage - 1 = has.loads ∙ before in
      let new : loads_at phase (w.stage + 1) ≡ w.stage = omega (arith, few) in
      record {
        tag = has.tag;
        is_open = has.is_open;
        item = has.item;
        most = omega (arith, few, most);
        loads = length_end w.loaded v ∙ omega (arith, old, new, some);
        loaded = λ k h. at_load v e old before k (equal_or_not k (w.stage - 1)) (omega (arith, h, new, some));
      }
    where
      at_load : (v : ℤ) → v ≡ input_of law opened phase w.item (w.stage - 1) → length w.loaded ≡ w.stage - 1 → loads_at phase w.stage ≡ w.stage - 1
          → (k : ℕ) → (k ≡ w.stage - 1) ⊎ (¬ (k ≡ w.stage - 1)) → k ≤ w.stage - 1
          → number (w.loaded ++ v ∷ []) k ≡ input_of law opened phase w.item k
      at_load v e old before k (inl last) h =
          let here : k ≡ length w.loaded = last ∙ sym old in
          ap (number (w.loaded ++ v ∷ [])) here ∙ number_end w.loaded v ∙ e ∙ ap (input_of law opened phase w.item) (sym last)
      at_load v e old before k (inr other) h =
          let less : k < w.stage - 1 = omega (arith, other, h) in
          number_before w.loaded v k (omega (arith, less, old)) ∙ has.loaded k (omega (arith, less, before))

  -- that loads nothing
  pub has_further : (if is_odd phase then 8 else 10) < w.stage → w.stage < (if is_odd phase then 15 else 13)
      → HasItem law opened phase on (further w)
  has_further late few =
      let same : loads_at phase (w.stage + 1) ≡ loads_at phase w.stage = omega (arith, late) in
      record {
        tag = has.tag;
        is_open = has.is_open;
        item = has.item;
        most = omega (arith, few);
        loads = has.loads ∙ sym same;
        loaded = λ k h. has.loaded k (omega (arith, h, same));
      }
