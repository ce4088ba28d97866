-- The walk over the lines of inflow: what becomes of the place of each node.
use Rattle.std.proofs.Common.{◌≡◌, ℕ, zero, suc, ◌+◌, ◌*◌, ◌^◌, ◌<◌, ◌≤◌, ◌==◌, eqb, Bool, true, false, List, []}
use Rattle.std.proofs.Common.{◌∷◌, length, take, get_or, set, cond, ℤ, pos, ◌+ℤ◌}
use Rattle.std.proofs.Common.{None, refl, sym, ap, ◌∙◌, subst, arith, inl, inr, neg_ℤ}
use Rattle.std.proofs.lemmas.Bool.{cases_eq}
use Rattle.std.proofs.lemmas.List.{length-set, get_or-set_same, get_or-set_other, take_all}
use Rattle.std.proofs.lemmas.List.FromFn.{fill_by_all}
use Rattle.std.proofs.Math.Nat.{eq-or-lt_of_le}
use Rattle.calendar_steps.specs.declared.point.CalendarPoint.{CalendarPoint}
use Rattle.fixed_num.specs.Lists.{list_of}
use Rattle.fixed_num.specs.Ranges.{cut_of}
use Rattle.net_types.specs.declared.inflows.DryFlow.{DryFlow}
use Rattle.net_types.specs.declared.inflows.Inflow.{Inflow}
use Rattle.net_types.specs.declared.project.Project.{Project}
use Rattle.std.specs.List.{All}
use Rattle.net_types.specs.Sound.{InflowNames, DryFlowNames}
use Rattle.time_series.specs.Inflows.{dry_amount, dry_at, flow_of, inflow_amount, inflow_at}
use Rattle.time_series.specs.LateralFlow.{gross_lateral, lateral_at, run_point}
use Rattle.time_series.specs.Walk.{Adds, AreCut, AreSmall, AreZero}
use Rattle.std.proofs.lemmas.Bool.Decides.{nat_tests}
use Rattle.std.proofs.lemmas.Int.{ints}
use Rattle.fixed_num.specs.Lists.{number}
use Rattle.fixed_num.specs.Ranges.{IsWithin}
use Rattle.fixed_num.specs.Sums.{sum_over}
use Rattle.time_series.proofs.SumLemmas.{sum_more}

-- where a walk stands after k lines: each place has grown by what these add at its node, and is not far from 0
pub record Walked {A : Type 0} (part : ℕ → A → ℤ) (items : List A) (most : ℕ) (old new : List ℤ) (k : ℕ) : Type 0 where
  pub count : length new ≡ length old
  pub each : (n : ℕ) → n < length old → number new n ≡ number old n +ℤ sum_over (part n) (take k items)
  pub range : (n : ℕ) → n < length old → IsWithin (most + 10 ^ 30 * k) (number new n)

-- a line that adds an amount at its own node, and nothing at others
pub record AddsAt {A : Type 0} (part : ℕ → A → ℤ) (item : A) (place : ℕ) (amount : ℤ) : Type 0 where
  pub here : part place item ≡ amount
  pub elsewhere : (n : ℕ) → (n ≡ place → ⊥) → part n item ≡ pos 0
  pub range : IsWithin (10 ^ 30) amount

walked_here : {A : Type 0} {part : ℕ → A → ℤ} {items : List A} {most : ℕ} {old new : List ℤ} {k : ℕ}
    → Walked part items most old new k → (d : A) (place : ℕ) (amount : ℤ)
    → k < length items → AddsAt part (get_or items k d) place amount → place < length old
    → number (set new place (number new place +ℤ amount)) place ≡ number old place +ℤ sum_over (part place)
    (take (k + 1) items)
walked_here {A} {part} {items} {most} {old} {new} {k} w d place amount h adds inside =
    let room : place < length new = omega (arith, w.count) in
    let is = w.each place inside in
    let more = sum_more (part place) items k d h in
    get_or-set_same new place (number new place +ℤ amount) (pos 0) room ∙ omega (arith, ints, is, more, adds.here)

walked_elsewhere : {A : Type 0} {part : ℕ → A → ℤ} {items : List A} {most : ℕ} {old new : List ℤ} {k : ℕ}
    → Walked part items most old new k → (d : A) (place : ℕ) (amount : ℤ)
    → k < length items → AddsAt part (get_or items k d) place amount → (n : ℕ) → n < length old → (n ≡ place → ⊥)
    → number (set new place (number new place +ℤ amount)) n ≡ number old n +ℤ sum_over (part n) (take (k + 1) items)
walked_elsewhere {A} {part} {items} {most} {old} {new} {k} w d place amount h adds n inside other =
    let is = w.each n inside in
    let more = sum_more (part n) items k d h in
    let none = adds.elsewhere n other in
    get_or-set_other new place n (number new place +ℤ amount) (pos 0) other ∙ omega (arith, ints, is, more, none)

range_here : (m k : ℕ) {a b : ℤ} → IsWithin (m + 10 ^ 30 * k) a → IsWithin (10 ^ 30) b
    → IsWithin (m + 10 ^ 30 * (k + 1)) (a +ℤ b)
range_here m k {a} {b} p q = record { within = omega (arith, ints, p.within, q.within) }

range_up : (m k : ℕ) {a : ℤ} → IsWithin (m + 10 ^ 30 * k) a → IsWithin (m + 10 ^ 30 * (k + 1)) a
range_up m k {a} p = record { within = omega (arith, p.within) }

-- one line more
pub walked_more : {A : Type 0} {part : ℕ → A → ℤ} {items : List A} {most : ℕ} {old new : List ℤ} {k : ℕ}
    → Walked part items most old new k → (d : A) (place : ℕ) (amount : ℤ)
    → k < length items → AddsAt part (get_or items k d) place amount → place < length old
    → Walked part items most old (set new place (number new place +ℤ amount)) (k + 1)
walked_more {A} {part} {items} {most} {old} {new} {k} w d place amount h adds inside =
    let room : place < length new = omega (arith, w.count) in
    let sum = number new place +ℤ amount in
    record {
      count = length-set new place sum ∙ w.count;
      each = λ n within. elim (cases_eq n place) [
        | inl e ↦
            subst (λ (j : ℕ). number (set new place sum) j ≡ number old j +ℤ sum_over (part j) (take (k + 1) items))
            (sym e)
            (walked_here w d place amount h adds inside)
        | inr other ↦ walked_elsewhere w d place amount h adds n within other
      ];
      range = λ n within. elim (cases_eq n place) [
        | inl e ↦
            subst (λ (j : ℕ). IsWithin (most + 10 ^ 30 * (k + 1)) (number (set new place sum) j)) (sym e)
            (subst (IsWithin (most + 10 ^ 30 * (k + 1))) (sym (get_or-set_same new place sum (pos 0) room))
            (range_here most k (w.range place inside) adds.range))
        | inr other ↦
            subst (IsWithin (most + 10 ^ 30 * (k + 1))) (sym (get_or-set_other new place n sum (pos 0) other))
            (range_up most k (w.range n within))
      ];
    }

-- before the first line, and after the last
pub walked_none : {A : Type 0} (part : ℕ → A → ℤ) (items : List A) (most : ℕ) (flows : List ℤ) → AreSmall most flows
    → Walked part items most flows flows 0
walked_none part items most flows small = record {
  count = refl;
  each = λ n inside. omega (arith, ints);
  range = λ n inside. let p = small.each n inside in record { within = omega (arith, p.within) };
}

pub walked_all : {A : Type 0} {part : ℕ → A → ℤ} {items : List A} {most : ℕ} {old new : List ℤ} {k : ℕ}
    → Walked part items most old new k → length items ≤ k
    → Adds (λ n. sum_over (part n) items) old new
walked_all {A} {part} {items} {most} {old} {new} {k} w all = record {
  count = w.count;
  each = λ n inside.
      w.each n inside ∙ ap (λ (xs : List A). number old n +ℤ sum_over (part n) xs) (take_all k items all);
}

pub walked_small : {A : Type 0} {part : ℕ → A → ℤ} {items : List A} {old new : List ℤ} {k : ℕ} (most : ℕ)
    → Walked part items most old new k → most + 10 ^ 30 * k ≤ 10 ^ 35 → AreSmall (10 ^ 35) new
walked_small most w h = record {
  each = λ n inside. let p = w.range n (omega (arith, w.count)) in
      record { within = omega (arith, p.within) };
}

-- the number of a place fits its type
pub place_fits : {A : Type 0} {part : ℕ → A → ℤ} {items : List A} {most : ℕ} {old new : List ℤ} {k : ℕ}
    → Walked part items most old new k → (n : ℕ) → n < length old
    → most ≤ 10 ^ 35 → k ≤ 20_000 → IsWithin (2 * 10 ^ 35) (number new n)
place_fits w n inside small few = let p = w.range n inside in record { within = omega (arith, p.within) }

-- the same of the list that the lines are a copy of
pub walked_through : {A : Type 0} {part : ℕ → A → ℤ} {items lines : List A} {most : ℕ} {old new : List ℤ} {k : ℕ}
    → Walked part items most old new k → length items ≤ k → items ≡ lines
    → Adds (λ n. sum_over (part n) lines) old new
walked_through {A} {part} {items} {lines} {most} {old} {new} {k} w all same =
    subst (λ (xs : List A). Adds (λ n. sum_over (part n) xs) old new) same (walked_all w all)

-- ---- what the lines add at a node
pub inflow_adds : (project : Project) (moment : ℤ) (point : CalendarPoint) (inflow : Inflow) (flow : ℤ)
    → flow ≡ flow_of project.options.units (inflow_amount project moment point inflow)
    → IsWithin (10 ^ 30) flow → AddsAt (λ n. inflow_at project moment point n) inflow inflow.node flow
inflow_adds project moment point inflow flow e p = record {
  here = let same : eqb inflow.node inflow.node ≡ true = grind (arith, nat_tests) in rw same (sym e);
  elsewhere = λ n other. let differs : eqb inflow.node n ≡ false = grind (arith, nat_tests) in rw differs refl;
  range = p;
}

pub dry_adds : (project : Project) (point : CalendarPoint) (dry : DryFlow) (flow : ℤ)
    → flow ≡ flow_of project.options.units (dry_amount project.patterns point dry)
    → IsWithin (10 ^ 30) flow → AddsAt (λ n. dry_at project point n) dry dry.node flow
dry_adds project point dry flow e p = record {
  here = let same : eqb dry.node dry.node ≡ true = grind (arith, nat_tests) in rw same (sym e);
  elsewhere = λ n other. let differs : eqb dry.node n ≡ false = grind (arith, nat_tests) in rw differs refl;
  range = p;
}

-- what an inflow is read as past the end of its list
abbrev pub no_inflow : Inflow
no_inflow = record { node = 0; series = None; scale6 = pos 0; base6 = pos 0; pattern = None }

-- a line's node has a place
pub inflow_inside : (project : Project) (items : List Inflow) (old : List ℤ) (k : ℕ) (d : Inflow)
    → items ≡ project.inflows → k < length items
    → All (InflowNames project) project.inflows → length old ≡ length project.nodes
    → (get_or items k d).node < length old
inflow_inside project items old k d same h each places =
    let all : All (InflowNames project) items = subst (All (InflowNames project)) (sym same) each in
    let name = (all k d h).node in
    omega (arith, name, places)

pub dry_inside : (project : Project) (items : List DryFlow) (old : List ℤ) (k : ℕ) (d : DryFlow) → items ≡ project.dry
    → k < length items
    → All (DryFlowNames project) project.dry → length old ≡ length project.nodes → (get_or items k d).node < length old
dry_inside project items old k d same h each places =
    let all : All (DryFlowNames project) items = subst (All (DryFlowNames project)) (sym same) each in
    let name = (all k d h).node in
    omega (arith, name, places)

-- ---- the whole sum
pub gross_is : (project : Project) (node : ℕ) (moment : ℤ) (point : CalendarPoint) (direct dry : ℤ)
    → point ≡ run_point project moment
    → direct ≡ sum_over (inflow_at project moment point node) project.inflows
    → dry ≡ sum_over (dry_at project point node) project.dry
    → direct +ℤ dry ≡ gross_lateral project node moment
unfolding gross_lateral
gross_is project node moment point direct dry at e f =
    rw (e, f) (ap (λ (p : CalendarPoint). sum_over (inflow_at project moment p node) project.inflows +ℤ sum_over
    (dry_at project p node) project.dry) at)

-- ---- the four steps of the walk
pub laterals_are : (project : Project) (moment : ℤ) (point : CalendarPoint) (start cleared direct all cut : List ℤ)
    → point ≡ run_point project moment
    → length start ≡ length project.nodes → length cleared ≡ length start → AreZero cleared
    → Adds (λ n. sum_over (inflow_at project moment point n) project.inflows) cleared direct
    → Adds (λ n. sum_over (dry_at project point n) project.dry) direct all → AreCut all cut
    → cut ≡ list_of (λ n. lateral_at project n moment) (length project.nodes)
laterals_are project moment point start cleared direct all cut at places same none first second last =
    fill_by_all (λ n. lateral_at project n moment) cut (length project.nodes) (pos 0)
    (omega (arith, places, same, first.count, second.count, last.count))
    (λ n inside.
    let z = none.each n (omega (arith, places, same)) in
    let a = first.each n (omega (arith, places, same)) in
    let b = second.each n (omega (arith, places, same, first.count)) in
    let c = last.each n (omega (arith, places, same, first.count, second.count)) in
    let gross = gross_is project n moment point (sum_over (inflow_at project moment point n) project.inflows)
    (sum_over (dry_at project point n) project.dry) at refl refl in
    let sum : number all n ≡ gross_lateral project n moment = omega (arith, ints, z, a, b, gross) in
    c ∙ ap (λ (v : ℤ). cut_of v (neg_ℤ (pos (10 ^ 12))) (pos (10 ^ 12))) sum)
