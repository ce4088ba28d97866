-- What stands in the words once all items of a phase are done.
use Rattle.std.proofs.Common.{◌≡◌, ℕ, zero, suc, ◌+◌, ◌<◌, ◌≤◌, inl, inr, ℤ, pos, ◌≤ℤ◌, List, sym, ap, ◌∙◌, arith}
use Rattle.std.proofs.Math.Nat.{eq-or-lt_of_le}
use Rattle.std.proofs.lemmas.Int.{ints}
use Rattle.fixed_num.specs.Lists.{number, list_of}
use Rattle.fixed_num.specs.Sums.{below}
use Rattle.fixed_num.proofs.SumLemmas.{below_same}
use Rattle.phase_law.specs.Law.{Law}
use Rattle.phase_law.specs.declared.values.LinkFixed.{LinkFixed}
use Rattle.phase_law.specs.declared.values.NodeFixed.{NodeFixed}
use Rattle.trial_model.specs.declared.nets.Nets.{Nets}
use Rattle.trial_model.specs.Trial.{inflow_of, outflow_of, area_of, with_flows, trial, unsettled_in, unsettled_part, IsLeast}
use Rattle.trial_model.proofs.RangeLemmas.{listed}
use Rattle.trial_model.proofs.FlowLemmas.{list_same}
use Rattle.trial_model.proofs.LeastLemmas.{is_least}
use Rattle.phase_machine.specs.declared.work.Work.{Work}
use Rattle.phase_machine.specs.Places.{unsettled_place, first_place, link_place, node_place, least_place, is_first, written, other, link_fixed_in, node_fixed_in, nets_in, link_fixed, node_fixed, head}
use Rattle.phase_machine.specs.Runs.{total}
use Rattle.phase_machine.specs.Kept.{so_far, sum_parts, late, flow_off, head_off, marks, shares, with_links, nexts, sum_of, LinkKept, NodeKept}
use Rattle.phase_machine.proofs.Parts.{all_in, all_out, all_area, late_within, flow_on, head_on, one_mark}

-- a sum of nothing has no term but 0
pub none_of : (f : ℕ → ℕ) (n : ℕ) → below f n ≡ 0 → (k : ℕ) → k < n → f k ≡ 0
none_of f zero e k h = absurd (omega arith)
none_of f (suc n) e k h =
    let within : k ≤ n = omega arith in
    elim (eq-or-lt_of_le within) [
      | inl same ↦ ap f same ∙ omega (arith, e)
      | inr less ↦ none_of f n (omega (arith, e)) k less
    ]

-- numbers have one least number
no_more : (most : ℤ) (f : ℕ → ℤ) (n : ℕ) (a b : ℤ) → IsLeast most f n a → IsLeast most f n b → a ≤ℤ b
no_more most f n a b x y =
    elim y.one [
      | inl e ↦ omega (arith, ints, x.within, e)
      | inr one ↦ omega (arith, ints, x.each one.0 one.1, one.2)
    ]

pub least_unique : (most : ℤ) (f : ℕ → ℤ) (n : ℕ) (a b : ℤ) → IsLeast most f n a → IsLeast most f n b → a ≡ b
least_unique most f n a b x y = omega (arith, ints, no_more most f n a b x y, no_more most f n b a y x)

-- ---- a link phase
module _ {law : Law} {opened words : List ℤ} {phase : ℕ} {seats : List Work} (old : LinkKept law opened words phase seats)
    (made : (am : ℕ → ℕ → ℕ) → total (so_far phase am) seats ≡ below (λ x. below (λ k. am k x) 15) law.links) where
  inflows_are : (n : ℕ) → n < law.nodes → number words (node_place law n 7) ≡ pos (inflow_of law (λ l. (shares law opened phase l).q) n)
  inflows_are n h = old.sums n 0 h (omega arith) ∙ ap pos (made (sum_parts law (shares law opened phase) n 0) ∙ all_in law (shares law opened phase) n)

  outflows_are : (n : ℕ) → n < law.nodes → number words (node_place law n 8) ≡ pos (outflow_of law (λ l. (shares law opened phase l).q) n)
  outflows_are n h = old.sums n 1 h (omega arith) ∙ ap pos (made (sum_parts law (shares law opened phase) n 1) ∙ all_out law (shares law opened phase) n)

  areas_are : (n : ℕ) → n < law.nodes → number words (node_place law n 9) ≡ pos (area_of law (shares law opened phase) n)
  areas_are n h = old.sums n 2 h (omega arith) ∙ ap pos (made (sum_parts law (shares law opened phase) n 2) ∙ all_area law (shares law opened phase) n)

  pub flows_are : (l : ℕ) → l < law.links → number words (link_place l (4 + written phase)) ≡ (shares law opened phase l).q
  flows_are l h =
      let none = sym (made (flow_off law (shares law opened phase) words (written phase))) ∙ old.flows in
      flow_on law (shares law opened phase) words words (written phase) l h (none_of _ law.links none l h)

  pub least_is : number words (least_place law) ≡ (with_links law opened phase).least
  unfolding with_flows
  least_is =
      let share = shares law opened phase in
      let none = sym (made (late share (number words (least_place law)))) ∙ old.least_each in
      least_unique (pos 3_600_000) (λ l. (share l).time) law.links _ _
      (record {
        within = old.least_most;
        each = λ l h. late_within share (number words (least_place law)) l (none_of _ law.links none l h);
        one = old.least_one;
      })
      (is_least (pos 3_600_000) (λ l. (share l).time) law.links)

  pub inflow_list : list_of (λ n. number words (node_place law n 7)) law.nodes ≡ (with_links law opened phase).inflows
  unfolding with_flows
  inflow_list =
      list_same (λ n. number words (node_place law n 7)) (λ n. pos (inflow_of law (λ l. (shares law opened phase l).q) n)) (pos 0) law.nodes inflows_are

  pub outflow_list : list_of (λ n. number words (node_place law n 8)) law.nodes ≡ (with_links law opened phase).outflows
  unfolding with_flows
  outflow_list =
      list_same (λ n. number words (node_place law n 8)) (λ n. pos (outflow_of law (λ l. (shares law opened phase l).q) n)) (pos 0) law.nodes outflows_are

  pub area_list : list_of (λ n. number words (node_place law n 9)) law.nodes ≡ (with_links law opened phase).areas
  unfolding with_flows
  area_list = list_same (λ n. number words (node_place law n 9)) (λ n. pos (area_of law (shares law opened phase) n)) (pos 0) law.nodes areas_are

  pub flow_list : list_of (λ l. number words (link_place l (4 + written phase))) law.links ≡ (with_links law opened phase).flows
  unfolding with_flows
  flow_list =
      list_same (λ l. number words (link_place l (4 + written phase))) (λ l. (shares law opened phase l).q) (pos 0) law.links flows_are

  pub sums_are : (n s : ℕ) → n < law.nodes → s < 3 → number words (node_place law n (7 + s)) ≡ sum_of (with_links law opened phase) n s
  unfolding with_flows
  sums_are n zero h few = inflows_are n h ∙ sym (listed (λ n. pos (inflow_of law (λ l. (shares law opened phase l).q) n)) law.nodes n (pos 0) h)
  sums_are n (suc zero) h few = outflows_are n h ∙ sym (listed (λ n. pos (outflow_of law (λ l. (shares law opened phase l).q) n)) law.nodes n (pos 0) h)
  sums_are n (suc (suc zero)) h few = areas_are n h ∙ sym (listed (λ n. pos (area_of law (shares law opened phase) n)) law.nodes n (pos 0) h)
  sums_are n (suc (suc (suc s))) h few = absurd (omega arith)

-- ---- a node phase
same_fixed : (a b c d e f g h : ℤ) → a ≡ e → b ≡ f → c ≡ g → d ≡ h
    → ◌≡◌ {A = LinkFixed} (record { q_old = a; a_old = b; setting = c; dt = d }) (record { q_old = e; a_old = f; setting = g; dt = h })
same_fixed a b c d e f g h e1 e2 e3 e4 = cc

same_node : (a b c d e f g h i j : ℤ) → a ≡ f → b ≡ g → c ≡ h → d ≡ i → e ≡ j
    → ◌≡◌ {A = NodeFixed} (record { h_old = a; net_old = b; lateral = c; stage = d; dt = e }) (record { h_old = f; net_old = g; lateral = h; stage = i; dt = j })
same_node a b c d e f g h i j e1 e2 e3 e4 e5 = cc

same_nets : (h f i o a r h2 f2 i2 o2 a2 r2 : List ℤ) (l l2 : List LinkFixed) (n n2 : List NodeFixed) (m m2 : ℤ)
    → h ≡ h2 → f ≡ f2 → i ≡ i2 → o ≡ o2 → a ≡ a2 → r ≡ r2 → l ≡ l2 → n ≡ n2 → m ≡ m2
    → ◌≡◌ {A = Nets} (record { heads = h; flows = f; inflows = i; outflows = o; areas = a; read_heads = r; links = l; nodes = n; least = m })
    (record { heads = h2; flows = f2; inflows = i2; outflows = o2; areas = a2; read_heads = r2; links = l2; nodes = n2; least = m2 })
same_nets h f i o a r h2 f2 i2 o2 a2 r2 l l2 n n2 m m2 e1 e2 e3 e4 e5 e6 e7 e8 e9 = cc

no_link : LinkFixed
no_link = record { q_old = pos 0; a_old = pos 0; setting = pos 0; dt = pos 0 }

no_node : NodeFixed
no_node = record { h_old = pos 0; net_old = pos 0; lateral = pos 0; stage = pos 0; dt = pos 0 }

module _ {law : Law} {opened words : List ℤ} {phase : ℕ} {seats : List Work} (old : NodeKept law opened words phase seats)
    (made : (am : ℕ → ℕ → ℕ) → total (so_far phase am) seats ≡ below (λ x. below (λ k. am k x) 15) law.nodes) where
  heads_are : (n : ℕ) → n < law.nodes → number words (node_place law n (5 + written phase)) ≡ (nexts law opened phase n).head
  heads_are n h =
      let none = sym (made (head_off law (nexts law opened phase) words (written phase))) ∙ old.heads in
      head_on law (nexts law opened phase) words words (written phase) n (none_of _ law.nodes none n h)

  node_sum : (n s : ℕ) → n < law.nodes → s < 3 → number words (node_place law n (7 + s)) ≡ sum_of (with_links law opened phase) n s
  node_sum = old.sums

  pub unsettled_is : number words unsettled_place ≡ pos (unsettled_in law (nets_in law opened (other (written phase))) (is_first (number opened first_place)))
  unfolding unsettled_in
  unsettled_is =
      old.unsettled
      ∙ ap pos (made (marks (nexts law opened phase))
      ∙ below_same (λ n. below (λ k. marks (nexts law opened phase) k n) 15) (λ n. unsettled_part (nexts law opened phase n).settled) law.nodes
      (λ n h. one_mark (nexts law opened phase) n))

  -- the words hold the trial of what was opened
  pub trial_is : nets_in law words (written phase) ≡ trial law (nets_in law opened (other (written phase))) (is_first (number opened first_place))
  unfolding nets_in trial with_flows
  trial_is =
      let b = other (written phase) in
      let share = shares law opened phase in
      same_nets _ _ _ _ _ _ _ _ _ _ _ _ _ _ _ _ _ _
      (list_same (λ n. number words (node_place law n (5 + written phase))) (λ n. (nexts law opened phase n).head) (pos 0) law.nodes heads_are)
      (list_same (λ l. number words (link_place l (4 + written phase))) (λ l. (share l).q) (pos 0) law.links old.flows)
      (list_same (λ n. number words (node_place law n 7)) (λ n. pos (inflow_of law (λ l. (share l).q) n)) (pos 0) law.nodes
      (λ n h. node_sum n 0 h (omega arith) ∙ listed (λ n. pos (inflow_of law (λ l. (share l).q) n)) law.nodes n (pos 0) h))
      (list_same (λ n. number words (node_place law n 8)) (λ n. pos (outflow_of law (λ l. (share l).q) n)) (pos 0) law.nodes
      (λ n h. node_sum n 1 h (omega arith) ∙ listed (λ n. pos (outflow_of law (λ l. (share l).q) n)) law.nodes n (pos 0) h))
      (list_same (λ n. number words (node_place law n 9)) (λ n. pos (area_of law share n)) (pos 0) law.nodes
      (λ n h. node_sum n 2 h (omega arith) ∙ listed (λ n. pos (area_of law share n)) law.nodes n (pos 0) h))
      (list_same (λ n. number words (node_place law n (5 + other (written phase)))) (λ n. number opened (node_place law n (5 + b))) (pos 0) law.nodes
      (λ n h. old.frozen _ (head n h)))
      (list_same (link_fixed_in words) (link_fixed_in opened) no_link law.links
      (λ l h. same_fixed _ _ _ _ _ _ _ _ (old.frozen _ (link_fixed l 0 h (omega arith))) (old.frozen _ (link_fixed l 1 h (omega arith)))
      (old.frozen _ (link_fixed l 2 h (omega arith))) (old.frozen _ (link_fixed l 3 h (omega arith)))))
      (list_same (node_fixed_in law words) (node_fixed_in law opened) no_node law.nodes
      (λ n h. same_node _ _ _ _ _ _ _ _ _ _ (old.frozen _ (node_fixed n 0 h (omega arith))) (old.frozen _ (node_fixed n 1 h (omega arith)))
      (old.frozen _ (node_fixed n 2 h (omega arith))) (old.frozen _ (node_fixed n 3 h (omega arith))) (old.frozen _ (node_fixed n 4 h (omega arith)))))
      old.least
