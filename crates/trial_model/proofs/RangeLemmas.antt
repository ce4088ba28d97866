-- Ranges: shares, sums of shares, and the state after the links' half of a trial.
use Rattle.std.proofs.Common.{◌≡◌, ℕ, ◌+◌, ◌*◌, ◌^◌, ◌<◌, ◌≤◌, ℤ, pos, negsuc, Bool, List, length, slice_index_or, sym, ap, subst, ◌∙◌, arith, mul-le-mul_left}
use Rattle.std.specs.Int.RustNames.{unsigned_abs}
use Rattle.std.proofs.lemmas.Int.{ints}
use Rattle.std.proofs.lemmas.Bool.Decides.{nat_tests}
use Rattle.std.proofs.lemmas.List.FromFn.{get_or-map-range_with_len, length-map-range_with_len, fill_by_all}
use Rattle.phase_law.specs.Law.{Law}
use Rattle.phase_law.specs.Laws.{IsLaw}
use Rattle.fixed_num.specs.Lists.{number, list_of}
use Rattle.fixed_num.specs.Ranges.{IsFlow}
use Rattle.phase_law.specs.Ranges.{ShareInRange, SumsInRange}
use Rattle.fixed_num.specs.Sums.{below}
use Rattle.phase_law.specs.declared.values.Share.{Share}
use Rattle.phase_law.specs.declared.values.LinkFixed.{LinkFixed}
use Rattle.fixed_num.proofs.SignedSums.{least_between}
use Rattle.fixed_num.proofs.SumLemmas.{below_most}
use Rattle.trial_model.specs.declared.nets.Nets.{Nets}
use Rattle.trial_model.specs.Fits.{Fits, HeadsFit, FlowsFit, LinksFit}
use Rattle.trial_model.specs.Flow.{forward, backward}
use Rattle.trial_model.specs.Parts.{both_ends, in_part, out_part, area_part, HasRoom}
use Rattle.trial_model.specs.Trial.{share_of, share_in, inflow_of, outflow_of, area_of, with_flows}
use Rattle.trial_model.proofs.LoopLemmas.{SumsMade}
use Rattle.trial_model.proofs.SumLemmas.{in_parts, out_parts, area_parts}

-- the shares of all links are in range
pub record SharesFit (law : Law) (share : ℕ → Share) : Type 0 where
  pub each : (k : ℕ) → k < law.links → ShareInRange (share k)

pub share_fine : {law : Law} → IsLaw law → {links : List LinkFixed} → LinksFit law links → {heads : List ℤ} → HeadsFit law heads
    → (flows : List ℤ) (first : Bool) (l : ℕ) → l < law.links → IsFlow (number flows l)
    → ShareInRange (share_of law links heads flows first l)
share_fine good links heads flows first l h last =
    let ends = good.ends_in l h in
    good.share_in l _ first _ _ _ h (links.each l h) (heads.each _ ends.first) (heads.each _ ends.second) last

pub shares_fit : {law : Law} → IsLaw law → {links : List LinkFixed} → LinksFit law links → {heads : List ℤ} → HeadsFit law heads
    → {flows : List ℤ} → FlowsFit law flows → (first : Bool) → SharesFit law (share_of law links heads flows first)
shares_fit good links heads {flows} fit first = record {
  each = λ k h. share_fine good links heads flows first k h (fit.each k h);
}

-- the ends of a link are places of lists with an item for each node
pub first_within : {law : Law} → IsLaw law → (link : ℕ) → link < law.links → {ends : ℕ × ℕ} → ends ≡ law.ends link
    → (list : List ℤ) → length list ≡ law.nodes → ends.0 < length list
first_within good link h {ends} e list count =
    let first = (good.ends_in link h).first in
    let same = ap (λ (x : ℕ × ℕ). x.0) e in
    omega (arith, first, same)

pub second_within : {law : Law} → IsLaw law → (link : ℕ) → link < law.links → {ends : ℕ × ℕ} → ends ≡ law.ends link
    → (list : List ℤ) → length list ≡ law.nodes → ends.1 < length list
second_within good link h {ends} e list count =
    let second = (good.ends_in link h).second in
    let same = ap (λ (x : ℕ × ℕ). x.1) e in
    omega (arith, second, same)

-- a flow goes one way alone
pub flow_split : (q : ℤ) → forward q + backward q ≡ unsigned_abs q
flow_split (pos n) = omega arith
flow_split (negsuc n) = omega arith

both_most : (ends : ℕ × ℕ) (near far n : ℕ) → both_ends ends near far n ≤ near + far
both_most ends near far n = grind (arith, nat_tests)

both_apart : (ends : ℕ × ℕ) (near far n m : ℕ) → ¬ (ends.0 ≡ ends.1) → near ≤ m → far ≤ m → both_ends ends near far n ≤ m
both_apart ends near far n m differ h1 h2 = grind (arith, nat_tests)

module _ {law : Law} (good : IsLaw law) {share : ℕ → Share} (fit : SharesFit law share) where
  pub in_most : (k n : ℕ) → k < law.links → in_part (law.ends k) (share k) n ≤ 10 ^ 12
  in_most k n h =
      let q = (share k).q in
      omega (arith, both_most (law.ends k) (backward q) (forward q) n, flow_split q, (fit.each k h).flow.within)

  pub out_most : (k n : ℕ) → k < law.links → out_part (law.ends k) (share k) n ≤ 10 ^ 12
  out_most k n h =
      let q = (share k).q in
      omega (arith, both_most (law.ends k) (forward q) (backward q) n, flow_split q, (fit.each k h).flow.within)

  pub area_most : (k n : ℕ) → k < law.links → area_part (law.ends k) (share k) n ≤ 5 * 10 ^ 12
  area_most k n h =
      let s = fit.each k h in
      let first : unsigned_abs (share k).area1 ≤ 5 * 10 ^ 12 = omega (arith, ints, s.area1.from, s.area1.to) in
      let second : unsigned_abs (share k).area2 ≤ 5 * 10 ^ 12 = omega (arith, ints, s.area2.from, s.area2.to) in
      both_apart (law.ends k) _ _ n (5 * 10 ^ 12) (good.ends_in k h).differ first second

-- a sum over few links of parts of at most m
pub parts_most : (part : ℕ → ℕ → ℕ) (m links n : ℕ) → links ≤ 20_000 → ((k n : ℕ) → k < links → part k n ≤ m)
    → below (λ k. part k n) links ≤ m * 20_000
parts_most part m links n few most =
    let all = below_most (λ k. part k n) m links (λ k h. most k n h) in
    omega (arith, all, mul-le-mul_left m few)

-- so the loop over links has room
pub sums_room : {part : ℕ → ℕ → ℕ} {sums : List ℤ} {link : ℕ} → SumsMade part sums link → (m most : ℕ) → link ≤ 20_000
    → ((k n : ℕ) → k < link → part k n ≤ m) → m * 20_000 ≤ most → HasRoom sums most
sums_room {part} {sums} {link} s m most few parts h = record {
  least = λ n. rw (s.each n) (omega (arith, ints));
  most_of = λ n. rw (s.each n) (omega (arith, ints, parts_most part m link n few parts));
}

-- an item of a list that is given by a function
pub listed : {A : Type 0} (f : ℕ → A) (count n : ℕ) (default : A) → n < count → slice_index_or (list_of f count) n default ≡ f n
listed f count n default h = get_or-map-range_with_len f 0 count n n default h (omega arith)

-- the links' half of a trial leaves a state that fits
pub with_flows_fit : {law : Law} → IsLaw law → {s : Nets} → Fits law s → (first : Bool) → Fits law (with_flows law s first)
unfolding with_flows
with_flows_fit {law} good {s} fits first =
    let share = share_in law s first in
    let shares = shares_fit good fits.links fits.heads fits.flows first in
    record {
      heads = fits.heads;
      flows = record {
        count = length-map-range_with_len (λ l. (share l).q) 0 law.links;
        each = λ l h. subst (λ q. IsFlow q) (sym (listed (λ l. (share l).q) law.links l (pos 0) h)) (shares.each l h).flow;
      };
      sums = record {
        inflow_count = length-map-range_with_len (λ n. pos (inflow_of law (λ l. (share l).q) n)) 0 law.nodes;
        outflow_count = length-map-range_with_len (λ n. pos (outflow_of law (λ l. (share l).q) n)) 0 law.nodes;
        area_count = length-map-range_with_len (λ n. pos (area_of law share n)) 0 law.nodes;
        each = λ n h.
            let ins = listed (λ n. pos (inflow_of law (λ l. (share l).q) n)) law.nodes n (pos 0) h in
            let outs = listed (λ n. pos (outflow_of law (λ l. (share l).q) n)) law.nodes n (pos 0) h in
            let areas = listed (λ n. pos (area_of law share n)) law.nodes n (pos 0) h in
            let in_top = parts_most (λ k. in_part (law.ends k) (share k)) (10 ^ 12) law.links n good.few_links (in_most good shares) in
            let out_top = parts_most (λ k. out_part (law.ends k) (share k)) (10 ^ 12) law.links n good.few_links (out_most good shares) in
            let area_top = parts_most (λ k. area_part (law.ends k) (share k)) (5 * 10 ^ 12) law.links n good.few_links (area_most good shares) in
            sums_in _ _ _ ins outs areas
            (subst (λ (x : ℕ). x ≤ 2 * 10 ^ 16) (in_parts law share n) in_top)
            (subst (λ (x : ℕ). x ≤ 2 * 10 ^ 16) (out_parts law share n) out_top)
            (subst (λ (x : ℕ). x ≤ 10 ^ 17) (area_parts law share n) area_top);
      };
      read_heads = fits.heads;
      links = fits.links;
      nodes = fits.nodes;
      least =
          least_between (pos 0) (pos 3_600_000) (λ l. (share l).time) law.links (omega (arith, ints))
          (λ l h. (shares.each l h).time.from);
    }
  where
    sums_in : {x y z : ℤ} (inflow outflow area : ℕ) → x ≡ pos inflow → y ≡ pos outflow → z ≡ pos area → inflow ≤ 2 * 10 ^ 16
        → outflow ≤ 2 * 10 ^ 16 → area ≤ 10 ^ 17 → SumsInRange x y z
    sums_in inflow outflow area e1 e2 e3 h1 h2 h3 = record {
      inflow_in = record { from = omega (arith, ints); to = omega (arith, ints) };
      outflow_in = record { from = omega (arith, ints); to = omega (arith, ints) };
      area_in = record { from = omega (arith, ints); to = omega (arith, ints) };
    }

-- the sums of all links as a list
pub sums_done : {part : ℕ → ℕ → ℕ} {sums : List ℤ} {link : ℕ} → SumsMade part sums link → (f : ℕ → ℕ) (links nodes : ℕ)
    → link ≡ links → length sums ≡ nodes → ((n : ℕ) → below (λ k. part k n) links ≡ f n) → sums ≡ list_of (λ n. pos (f n)) nodes
sums_done {part} {sums} {link} s f links nodes all count same =
    fill_by_all (λ n. pos (f n)) sums nodes (pos 0) count
    (λ n h. s.each n ∙ ap (λ (m : ℕ). pos (below (λ k. part k n) m)) all ∙ ap pos (same n))

-- a part of equal ends and an equal share
pub part_same : (part : ℕ × ℕ → Share → ℕ → ℕ) {a b : ℕ × ℕ} {s t : Share} → a ≡ b → s ≡ t → (n : ℕ) → part a s n ≡ part b t n
part_same part e f n = cc
