-- What a step did at one node: its ranges, and its floods in a list.
use Rattle.std.proofs.Common.{◌≡◌, ℕ, ◌+◌, ◌*◌, ◌^◌, ◌<◌, ◌≤◌, Bool, true, false, List, length, slice_set, ℤ, pos, ◌+ℤ◌}
use Rattle.std.proofs.Common.{◌-ℤ◌, ◌≤ℤ◌, unsigned_abs, refl, sym, subst, ◌∙◌, inl, inr, arith}
use Rattle.std.proofs.Math.Nat.{eq-or-lt_of_le}
use Rattle.std.proofs.lemmas.Bool.{cases_lt}
use Rattle.std.proofs.lemmas.Int.{ints}
use Rattle.std.proofs.lemmas.List.{get_or_past}
use Rattle.std.proofs.lemmas.List.FromFn.{length-map-range_with_len, get_or-map-range_with_len, fill_by_all}
use Rattle.fixed_num.specs.Ranges.{IsBetween, IsWithin}
use Rattle.fixed_num.proofs.Bounds.{within_up, within_add, within_mul, between_up}
use Rattle.link_eval.specs.Good.{IsGood}
use Rattle.link_eval.specs.Hydraulics.{law_of, node_law_at}
use Rattle.link_eval.specs.declared.hydraulics.Hydraulics.{Hydraulics}
use Rattle.node_update.specs.NodeLaws.{IsNodeLaw, is_outfall_rule}
use Rattle.node_update.specs.NodeUpdate.{IsNodeFixed, net_of, gain_of, flood_of, volume_of}
use Rattle.node_update.specs.declared.node_law.NodeLaw.{NodeLaw}
use Rattle.node_update.proofs.GainLemmas.{half_within, inflow_between, outflow_between}
use Rattle.node_update.proofs.UpdateLemmas.{flood_between, flood_most, dry_flood, volume_within}
use Rattle.phase_law.specs.Ranges.{SumsInRange}
use Rattle.phase_law.specs.declared.values.NodeFixed.{NodeFixed}
use Rattle.trial_model.specs.Fits.{Fits, HeadsFit}
use Rattle.fixed_num.specs.Lists.{number}
use Rattle.trial_model.specs.declared.nets.Nets.{Nets}
use Rattle.trial_model.proofs.LoopLemmas.{number_same, number_other}
use Rattle.link_eval.specs.LawGood.{fixed_in, head_in}
use Rattle.continuity.specs.Account.{gain_at, flood_at, floods_of}
use Rattle.continuity.specs.StepOf.{IsBelowTops, IsStepOf}
use Rattle.continuity.proofs.LawLemmas.{node_law_in}

-- ---- the gain
net_small : (lateral i o : ℤ) → unsigned_abs lateral ≤ 10 ^ 12 → IsBetween (pos 0) i (pos (2 * 10 ^ 16)) → IsBetween (pos 0) o (pos (2 * 10 ^ 16))
    → IsWithin (20_001 * 10 ^ 12) (lateral +ℤ i -ℤ o)
net_small lateral i o h p q = let a = p.from in let b = p.to in let c = q.from in let d = q.to in record { within = omega (arith, ints) }

pub gain_small : {fixed : NodeFixed} {i o a : ℤ} → IsNodeFixed fixed → SumsInRange i o a → IsWithin (95 * 10 ^ 21) (gain_of fixed i o)
unfolding gain_of net_of
gain_small {fixed} {i} {o} f s =
    let net = net_small fixed.lateral i o f.lateral.within (inflow_between s) (outflow_between s) in
    within_up (within_mul (half_within f.length) (within_add f.net net)) tt

-- ---- the flood
no_more : {flood gain : ℤ} {m : ℕ} → pos 0 ≤ℤ flood → flood ≤ℤ pos (unsigned_abs gain) → IsWithin m gain → IsWithin m flood
no_more {flood} {gain} {m} h k p = record { within = omega (arith, ints, p.within) }

none_within : {flood : ℤ} {m : ℕ} → flood ≡ pos 0 → IsWithin m flood
none_within {flood} {m} e = rw e (record { within = omega (arith, ints) })

by_kind : (outfall : Bool) {law : NodeLaw} {fixed : NodeFixed} {i o a : ℤ} (last : ℤ) → is_outfall_rule law.rule ≡ outfall → IsNodeLaw law → IsNodeFixed fixed → SumsInRange i o a
    → (is_outfall_rule law.rule ≡ false → fixed.h_old ≤ℤ law.top) → IsWithin (95 * 10 ^ 21) (flood_of law fixed i o a last)
by_kind false {law} {fixed} last e l f s below = no_more (flood_between last l f s).from (flood_most fixed last l s (below e)) (gain_small f s)
by_kind true {law} {fixed} {i} {o} {a} last e l f s below = none_within (dry_flood law fixed i o a last e)

-- ---- all that a step did at a node
module _ (h : Hydraulics) (good : IsGood h) (n : ℕ) (inside : n < (law_of h).nodes) where
  pub gain_in : {after : Nets} → Fits (law_of h) after → IsWithin (95 * 10 ^ 21) (gain_at after n)
  gain_in fits = gain_small (fixed_in h (fits.nodes.each n inside)) (fits.sums.each n inside)

  pub volume_in : (nets : Nets) → HeadsFit (law_of h) nets.heads → IsWithin (10 ^ 21) (volume_of (node_law_at h n) (number nets.heads n))
  volume_in nets fits = volume_within (node_law_in h good n inside) (head_in h (fits.each n inside))

  pub flood_in : {before after : Nets} {ms : ℤ} → Fits (law_of h) after → IsStepOf h before after ms → IsBelowTops h before → IsWithin (95 * 10 ^ 21) (flood_at h after n)
  flood_in {before} {after} fits step tops =
      by_kind (is_outfall_rule (node_law_at h n).rule) (number after.read_heads n) refl (node_law_in h good n inside) (fixed_in h (fits.nodes.each n inside)) (fits.sums.each n inside)
      (λ e. subst (λ (z : ℤ). z ≤ℤ (node_law_at h n).top) (sym (step.each n inside).head) (tops.each n inside e))

  pub flood_positive : {after : Nets} → Fits (law_of h) after → IsBetween (pos 0) (flood_at h after n) (pos (10 ^ 25))
  flood_positive {after} fits = flood_between (number after.read_heads n) (node_law_in h good n inside) (fixed_in h (fits.nodes.each n inside)) (fits.sums.each n inside)

-- ---- the list of floods
pub flood_is : (h : Hydraulics) (after : Nets) (n : ℕ) → n < (law_of h).nodes → number (floods_of h after) n ≡ flood_at h after n
unfolding floods_of
flood_is h after n inside = get_or-map-range_with_len (flood_at h after) 0 (law_of h).nodes n n (pos 0) inside (omega arith)

pub floods_length : (h : Hydraulics) (after : Nets) → length (floods_of h after) ≡ (law_of h).nodes
unfolding floods_of
floods_length h after = length-map-range_with_len (flood_at h after) 0 (law_of h).nodes

none_between : (m : ℕ) → IsBetween (pos 0) (pos 0) (pos m)
none_between m = record { from = omega (arith, ints); to = omega (arith, ints) }

pub floods_in : (h : Hydraulics) → IsGood h → (after : Nets) → Fits (law_of h) after → (n : ℕ) → IsBetween (pos 0) (number (floods_of h after) n) (pos (10 ^ 28))
floods_in h good after fits n = elim (cases_lt n (law_of h).nodes) [
  | inl inside ↦ rw (flood_is h after n inside) (between_up (flood_positive h good n inside fits) tt tt)
  | inr past ↦ rw (get_or_past (floods_of h after) n (pos 0) (omega (arith, past, floods_length h after))) (none_between (10 ^ 28))
]

-- the floods of the first nodes are in their places
pub record FloodsMade (h : Hydraulics) (after : Nets) (floods : List ℤ) (node : ℕ) : Type 0 where
  pub made : (k : ℕ) → k < node → number floods k ≡ flood_at h after k

pub floods_more : {h : Hydraulics} {after : Nets} {floods : List ℤ} {node : ℕ} → FloodsMade h after floods node → (flood : ℤ) → node < length floods
    → flood ≡ flood_at h after node → FloodsMade h after (slice_set floods node flood) (node + 1)
floods_more {h} {after} {floods} {node} f flood within e = record {
  made = λ k below.
      let few : k ≤ node = omega arith in
      elim (eq-or-lt_of_le few) [
        | inl same ↦ rw same (number_same floods node flood within ∙ e)
        | inr less ↦ number_other floods node k flood (λ s. omega arith) ∙ f.made k less
      ];
}

pub floods_made : {h : Hydraulics} {after : Nets} {floods : List ℤ} → FloodsMade h after floods (law_of h).nodes → length floods ≡ (law_of h).nodes → floods ≡ floods_of h after
unfolding floods_of
floods_made {h} {after} {floods} f count = fill_by_all (flood_at h after) floods (law_of h).nodes (pos 0) count f.made
