-- What the lead reads, by the state that it knows.
use Rattle.std.proofs.Common.{◌≡◌, ℕ, ◌+◌, ◌-◌, ◌^◌, ◌<◌, true, false, nat_lt, pos, ◌-ℤ◌, refl, sym, ap, subst, ◌∙◌, arith}
use Rattle.std.proofs.lemmas.Bool.Decides.{nat_tests}
use Rattle.fixed_num.specs.Lists.{number}
use Rattle.phase_law.specs.Law.{Law}
use Rattle.trial_model.proofs.RangeLemmas.{listed}
use Rattle.phase_machine.specs.Places.{link_place, node_place, least_place, written, nets_in}
use Rattle.phase_machine.proofs.PlaceLemmas.{written_few}
use Rattle.node_board.specs.declared.views.Plan.{Plan}
use Rattle.node_board.specs.Coding.{is_plain, decoded}
use Rattle.node_board.specs.Known.{state_in, IsTold, flow, head, sum, least, Tells}
use Rattle.node_board.proofs.CodeLemmas.{link_signed, node_kind, least_plain}

-- a number that may be below 0, and an amount
signed_read : (law : Law) (plan : Plan) (place found : ℕ) → is_plain law place ≡ false → Tells law plan place found
    → pos found -ℤ pos (2 ^ 63) ≡ number plan.known place
signed_read law plan place found signed tells =
    let is : decoded law place found ≡ pos found -ℤ pos (2 ^ 63) = rw signed refl in sym is ∙ tells.value

plain_read : (law : Law) (plan : Plan) (place found : ℕ) → is_plain law place ≡ true → Tells law plan place found
    → pos found ≡ number plan.known place
plain_read law plan place found plain tells =
    let is : decoded law place found ≡ pos found = rw plain refl in sym is ∙ tells.value

module _ (law : Law) (plan : Plan) (word : ℕ) where
  -- ---- flows
  module _ (l : ℕ) (h : l < law.links) (at : word ≡ link_place l (4 + written plan.phase) + 1) where
    flow_at : word - 1 ≡ link_place l (4 + written plan.phase)
    flow_at = omega (arith, at)

    pub told_flow : IsTold law (word - 1)
    told_flow = subst (λ (j : ℕ). IsTold law j) (sym flow_at) (flow l (written plan.phase) h (written_few plan.phase))

    pub read_flow_is : (found : ℕ) → Tells law plan (word - 1) found
        → pos found -ℤ pos (2 ^ 63) ≡ number (state_in law plan).flows l
    unfolding nets_in
    read_flow_is found tells =
        let few = written_few plan.phase in
        signed_read law plan (word - 1) found (ap (is_plain law) flow_at ∙ link_signed law l (4 + written plan.phase) h (omega (arith, few))) tells
        ∙ ap (λ (j : ℕ). number plan.known j) flow_at
        ∙ sym (listed (λ k. number plan.known (link_place k (4 + written plan.phase))) law.links l (pos 0) h)

  -- ---- heads
  module _ (n : ℕ) (h : n < law.nodes) (at : word ≡ node_place law n (5 + written plan.phase) + 1) where
    head_at : word - 1 ≡ node_place law n (5 + written plan.phase)
    head_at = omega (arith, at)

    pub told_head : IsTold law (word - 1)
    told_head = subst (λ (j : ℕ). IsTold law j) (sym head_at) (head n (written plan.phase) h (written_few plan.phase))

    pub read_head_is : (found : ℕ) → Tells law plan (word - 1) found
        → pos found -ℤ pos (2 ^ 63) ≡ number (state_in law plan).heads n
    unfolding nets_in
    read_head_is found tells =
        let few = written_few plan.phase in
        let off : nat_lt 6 (5 + written plan.phase) ≡ false = grind (arith, nat_tests, few) in
        signed_read law plan (word - 1) found
        (ap (is_plain law) head_at ∙ node_kind law n (5 + written plan.phase) h (omega (arith, few)) ∙ off) tells
        ∙ ap (λ (j : ℕ). number plan.known j) head_at
        ∙ sym (listed (λ k. number plan.known (node_place law k (5 + written plan.phase))) law.nodes n (pos 0) h)

  -- ---- sums
  module _ (n s : ℕ) (h : n < law.nodes) (few : s < 3) (at : word ≡ node_place law n (7 + s) + 1) where
    sum_at : word - 1 ≡ node_place law n (7 + s)
    sum_at = omega (arith, at)

    pub told_sum : IsTold law (word - 1)
    told_sum = subst (λ (j : ℕ). IsTold law j) (sym sum_at) (sum n s h few)

  -- ---- the least time
  module _ (at : word ≡ least_place law + 1) where
    least_at : word - 1 ≡ least_place law
    least_at = omega (arith, at)

    pub least_word_plain : is_plain law (word - 1) ≡ true
    least_word_plain = ap (is_plain law) least_at ∙ least_plain law

    pub told_least : IsTold law (word - 1)
    told_least = subst (λ (j : ℕ). IsTold law j) (sym least_at) least

    pub read_least_is : (found : ℕ) → Tells law plan (word - 1) found → pos found ≡ (state_in law plan).least
    unfolding nets_in
    read_least_is found tells =
        plain_read law plan (word - 1) found least_word_plain tells ∙ ap (λ (j : ℕ). number plan.known j) least_at

-- ---- the sums of the state
module _ (law : Law) (plan : Plan) (n : ℕ) (h : n < law.nodes) where
  pub inflow_known : number plan.known (node_place law n 7) ≡ number (state_in law plan).inflows n
  unfolding nets_in
  inflow_known = sym (listed (λ k. number plan.known (node_place law k 7)) law.nodes n (pos 0) h)

  pub outflow_known : number plan.known (node_place law n 8) ≡ number (state_in law plan).outflows n
  unfolding nets_in
  outflow_known = sym (listed (λ k. number plan.known (node_place law k 8)) law.nodes n (pos 0) h)

  pub area_known : number plan.known (node_place law n 9) ≡ number (state_in law plan).areas n
  unfolding nets_in
  area_known = sym (listed (λ k. number plan.known (node_place law k 9)) law.nodes n (pos 0) h)
