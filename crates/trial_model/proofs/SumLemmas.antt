-- The sums of a trial: the parts of each link make them, and what all nodes get is what all nodes give.
use Rattle.std.proofs.Common.{◌≡◌, ℕ, ◌<◌, ℤ, ap, ◌∙◌, arith}
use Rattle.std.specs.Int.RustNames.{unsigned_abs}
use Rattle.phase_law.specs.Law.{Law}
use Rattle.phase_law.specs.Laws.{IsLaw}
use Rattle.fixed_num.specs.Sums.{below, at}
use Rattle.phase_law.specs.declared.values.Share.{Share}
use Rattle.fixed_num.proofs.SumLemmas.{below_same, below_plus, below_swap, at_once}
use Rattle.trial_model.specs.Flow.{forward, backward}
use Rattle.trial_model.specs.Parts.{in_part, out_part, area_part}
use Rattle.trial_model.specs.Trial.{over_begins, over_ends, inflow_of, outflow_of, area_of}

-- the parts of all links add up to the sums of a node
pub in_parts : (law : Law) (share : ℕ → Share) (n : ℕ)
    → below (λ k. in_part (law.ends k) (share k) n) law.links ≡ inflow_of law (λ l. (share l).q) n
in_parts law share n =
    let split = below_plus (λ k. at (law.ends k).0 (backward (share k).q) n) (λ k. at (law.ends k).1 (forward (share k).q) n) law.links in
    omega (arith, split)

pub out_parts : (law : Law) (share : ℕ → Share) (n : ℕ)
    → below (λ k. out_part (law.ends k) (share k) n) law.links ≡ outflow_of law (λ l. (share l).q) n
out_parts law share n =
    below_plus (λ k. at (law.ends k).0 (forward (share k).q) n) (λ k. at (law.ends k).1 (backward (share k).q) n) law.links

pub area_parts : (law : Law) (share : ℕ → Share) (n : ℕ)
    → below (λ k. area_part (law.ends k) (share k) n) law.links ≡ area_of law share n
area_parts law share n =
    below_plus
    (λ k. at (law.ends k).0 (unsigned_abs (share k).area1) n)
    (λ k. at (law.ends k).1 (unsigned_abs (share k).area2) n)
    law.links

-- flows that agree on all links have the same sums
pub inflow_same : (law : Law) (f g : ℕ → ℤ) (n : ℕ) → ((l : ℕ) → l < law.links → f l ≡ g l) → inflow_of law f n ≡ inflow_of law g n
inflow_same law f g n same =
    let ends : over_ends law (λ l. forward (f l)) n ≡ over_ends law (λ l. forward (g l)) n =
    below_same
    (λ l. at (law.ends l).1 (forward (f l)) n)
    (λ l. at (law.ends l).1 (forward (g l)) n)
    law.links
    (λ l h. ap (λ (q : ℤ). at (law.ends l).1 (forward q) n) (same l h)) in
    let begins : over_begins law (λ l. backward (f l)) n ≡ over_begins law (λ l. backward (g l)) n =
    below_same
    (λ l. at (law.ends l).0 (backward (f l)) n)
    (λ l. at (law.ends l).0 (backward (g l)) n)
    law.links
    (λ l h. ap (λ (q : ℤ). at (law.ends l).0 (backward q) n) (same l h)) in
    omega (arith, ends, begins)

pub outflow_same : (law : Law) (f g : ℕ → ℤ) (n : ℕ) → ((l : ℕ) → l < law.links → f l ≡ g l) → outflow_of law f n ≡ outflow_of law g n
outflow_same law f g n same =
    let begins : over_begins law (λ l. forward (f l)) n ≡ over_begins law (λ l. forward (g l)) n =
    below_same
    (λ l. at (law.ends l).0 (forward (f l)) n)
    (λ l. at (law.ends l).0 (forward (g l)) n)
    law.links
    (λ l h. ap (λ (q : ℤ). at (law.ends l).0 (forward q) n) (same l h)) in
    let ends : over_ends law (λ l. backward (f l)) n ≡ over_ends law (λ l. backward (g l)) n =
    below_same
    (λ l. at (law.ends l).1 (backward (f l)) n)
    (λ l. at (law.ends l).1 (backward (g l)) n)
    law.links
    (λ l h. ap (λ (q : ℤ). at (law.ends l).1 (backward q) n) (same l h)) in
    omega (arith, ends, begins)

-- an amount of each link that stands at one of its ends is counted once over all nodes
pub each_once : (end f : ℕ → ℕ) (links nodes : ℕ) → ((l : ℕ) → l < links → end l < nodes)
    → below (λ n. below (λ l. at (end l) (f l) n) links) nodes ≡ below f links
each_once end f links nodes within =
    below_swap (λ n l. at (end l) (f l) n) nodes links
    ∙ below_same (λ l. below (at (end l) (f l)) nodes) f links (λ l h. at_once (end l) (f l) nodes (within l h))

-- over all nodes the inflows from links are as much as the outflows to links
pub all_in_all_out : (law : Law) (flow : ℕ → ℤ) → IsLaw law
    → below (inflow_of law flow) law.nodes ≡ below (outflow_of law flow) law.nodes
all_in_all_out law flow good =
    let first = λ (l : ℕ) (h : l < law.links). (good.ends_in l h).first in
    let second = λ (l : ℕ) (h : l < law.links). (good.ends_in l h).second in
    let ahead : ℕ → ℕ = λ l. forward (flow l) in
    let back : ℕ → ℕ = λ l. backward (flow l) in
    let ins = below_plus (over_ends law ahead) (over_begins law back) law.nodes in
    let outs = below_plus (over_begins law ahead) (over_ends law back) law.nodes in
    let e1 = each_once (λ l. (law.ends l).1) ahead law.links law.nodes second in
    let e2 = each_once (λ l. (law.ends l).0) back law.links law.nodes first in
    let e3 = each_once (λ l. (law.ends l).0) ahead law.links law.nodes first in
    let e4 = each_once (λ l. (law.ends l).1) back law.links law.nodes second in
    omega (arith, ins, outs, e1, e2, e3, e4)
