-- The walk over the subcatchments that adds their flows at their outlets.
use Rattle.std.proofs.Common.{◌≡◌, ℕ, ◌+◌, ◌*◌, ◌^◌, ◌<◌, ◌≤◌, eqb, true, false, List, [], length, set}
use Rattle.std.proofs.Common.{ℤ, pos, ◌+ℤ◌, refl, sym, ap, ◌∙◌, subst, arith, inl, inr}
use Rattle.std.proofs.lemmas.Bool.{cases_eq}
use Rattle.std.proofs.lemmas.Bool.Decides.{nat_tests}
use Rattle.std.proofs.lemmas.Int.{ints}
use Rattle.std.proofs.lemmas.List.{length-set, get_or-set_same, get_or-set_other}
use Rattle.fixed_num.specs.Lists.{number}
use Rattle.fixed_num.specs.Ranges.{IsBetween, IsWithin}
use Rattle.fixed_num.specs.Sums.{sum_below}
use Rattle.fixed_num.proofs.SignedSums.{sum_next}
use Rattle.std.specs.List.{All}
use Rattle.net_types.specs.Sound.{SubNames}
use Rattle.net_types.specs.declared.project.Project.{Project}
use Rattle.runoff.specs.declared.states.SubState.{SubState}
use Rattle.runoff_states.specs.RunoffStates.{sub_at}
use Rattle.runoff_states.specs.RunoffTimes.{flow_to}

-- where the walk stands after k subcatchments
pub record Walked (part : ℕ → ℕ → ℤ) (old new : List ℤ) (k : ℕ) : Type 0 where
  pub count : length new ≡ length old
  pub each : (n : ℕ) → n < length old → number new n ≡ number old n +ℤ sum_below (part n) k
  pub range : (n : ℕ) → n < length old → IsWithin (10 ^ 12 * (k + 1)) (number new n)

pub walked_none : (part : ℕ → ℕ → ℤ) (flows : List ℤ)
    → ((n : ℕ) → n < length flows → IsWithin (10 ^ 12) (number flows n)) → Walked part flows flows 0
walked_none part flows small = record {
  count = refl;
  each = λ n inside. omega (arith, ints);
  range = λ n inside. record { within = omega (arith, (small n inside).within) };
}

range_here : (k : ℕ) {a b : ℤ} → IsWithin (10 ^ 12 * (k + 1)) a → IsBetween (pos 0) b (pos 1_000_000_000_000)
    → IsWithin (10 ^ 12 * (k + 1 + 1)) (a +ℤ b)
range_here k {a} {b} p q = record { within = omega (arith, ints, p.within, q.from, q.to) }

range_up : (k : ℕ) {a : ℤ} → IsWithin (10 ^ 12 * (k + 1)) a → IsWithin (10 ^ 12 * (k + 1 + 1)) a
range_up k {a} p = record { within = omega (arith, p.within) }

-- one subcatchment more, whose flow goes to a place
pub walked_more : {part : ℕ → ℕ → ℤ} {old new : List ℤ} {k : ℕ} → Walked part old new k → (place : ℕ) (flow : ℤ)
    → place < length old → part place k ≡ flow → ((n : ℕ) → (n ≡ place → ⊥) → part n k ≡ pos 0)
    → IsBetween (pos 0) flow (pos 1_000_000_000_000)
    → Walked part old (set new place (number new place +ℤ flow)) (k + 1)
walked_more {part} {old} {new} {k} w place flow inside here elsewhere range =
    let room : place < length new = omega (arith, w.count) in
    let sum = number new place +ℤ flow in
    let same = get_or-set_same new place sum (pos 0) room in
    let at_place : number (set new place sum) place ≡ number old place +ℤ sum_below (part place) (k + 1) =
    same ∙ omega (arith, ints, w.each place inside, sum_next (part place) k, here) in
    record {
      count = length-set new place sum ∙ w.count;
      each = λ n within. elim (cases_eq n place) [
        | inl e ↦
            subst (λ (j : ℕ). number (set new place sum) j ≡ number old j +ℤ sum_below (part j) (k + 1)) (sym e) at_place
        | inr other ↦
            get_or-set_other new place n sum (pos 0) other
            ∙ omega (arith, ints, w.each n within, sum_next (part n) k, elsewhere n other)
      ];
      range = λ n within. elim (cases_eq n place) [
        | inl e ↦
            subst (λ (j : ℕ). IsWithin (10 ^ 12 * (k + 1 + 1)) (number (set new place sum) j)) (sym e)
            (subst (IsWithin (10 ^ 12 * (k + 1 + 1))) (sym same) (range_here k (w.range place inside) range))
        | inr other ↦
            subst (IsWithin (10 ^ 12 * (k + 1 + 1))) (sym (get_or-set_other new place n sum (pos 0) other))
            (range_up k (w.range n within))
      ];
    }

pub place_fits : {part : ℕ → ℕ → ℤ} {old new : List ℤ} {k : ℕ} → Walked part old new k → k ≤ 20_000 → (n : ℕ)
    → n < length old → IsWithin (10 ^ 17) (number new n)
place_fits w few n inside = record { within = omega (arith, (w.range n inside).within) }

-- what a subcatchment adds at its outlet, and elsewhere
pub flow_here : (project : Project) (state : SubState) (node k : ℕ) → node ≡ (sub_at project.subs k).outlet
    → flow_to project node state k ≡ state.flow
flow_here project state node k e =
    let same : eqb (sub_at project.subs k).outlet node ≡ true = grind (arith, nat_tests) in rw same refl

pub flow_elsewhere : (project : Project) (state : SubState) (node k n : ℕ) → node ≡ (sub_at project.subs k).outlet
    → (n ≡ node → ⊥) → flow_to project n state k ≡ pos 0
flow_elsewhere project state node k n e other =
    let differs : eqb (sub_at project.subs k).outlet n ≡ false = grind (arith, nat_tests) in rw differs refl

-- the walk at its end
pub walked_all : {part : ℕ → ℕ → ℤ} {old new : List ℤ} {k : ℕ} → Walked part old new k → (count : ℕ) → k ≡ count
    → (n : ℕ) → n < length old → number new n ≡ number old n +ℤ sum_below (part n) count
walked_all {part} {old} w count e n inside =
    w.each n inside ∙ ap (λ (j : ℕ). number old n +ℤ sum_below (part n) j) e

-- a subcatchment's outlet is a node of its project
pub outlet_inside : (project : Project) (k node : ℕ) → All (SubNames project) project.subs → k < length project.subs
    → node ≡ (sub_at project.subs k).outlet → node < length project.nodes
outlet_inside project k node names h e = let there = (names k (sub_at [] 0) h).outlet in omega (arith, there, e)
