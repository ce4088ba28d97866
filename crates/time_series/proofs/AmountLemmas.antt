-- What a line of inflow adds: units and ranges.
use Rattle.std.proofs.Common.{◌≡◌, ℕ, zero, suc, ◌+◌, ◌*◌, ◌/◌, ◌^◌, ◌<◌, ◌≤◌, Bool, List, length, take, get_or, ℤ}
use Rattle.std.proofs.Common.{pos, ◌+ℤ◌, ◌*ℤ◌}
use Rattle.std.proofs.Common.{add-one, refl, sym, ap, ◌∙◌, subst, arith, T, ltb}
use Rattle.std.specs.List.{fold}
use Rattle.std.proofs.lemmas.List.{take_all}
use Rattle.std.proofs.lemmas.List.Sums.{fold_more}
use Rattle.calendar_steps.specs.declared.point.CalendarPoint.{CalendarPoint}
use Rattle.net_types.specs.declared.inflows.DryFlow.{DryFlow}
use Rattle.net_types.specs.declared.tables.Pattern.{Pattern}
use Rattle.net_types.specs.Records.{pattern_at}
use Rattle.std.proofs.lemmas.Int.{ints}
use Rattle.fixed_num.specs.Ranges.{IsWithin, IsRaw, IsCoefficient, IsBetween}
use Rattle.fixed_num.specs.Rounding.{quo_of}
use Rattle.fixed_num.proofs.Bounds.{within_mul, within_add, within_number, within_up, within_between, within_quo_by}
use Rattle.inp_values.specs.Units.{flow_num, flow_den, unit_for}
use Rattle.inp_values.specs.declared.quantities.Quantity.TheVariants.{Flow}
use Rattle.net_types.specs.declared.options.FlowUnits.{FlowUnits}
use Rattle.time_series.specs.Inflows.{beside_weekends, dry_amount, has_weekends, times6}

pub num_of : (units : FlowUnits) → (unit_for units Flow).num ≡ flow_num units
unfolding unit_for
num_of units = refl

pub den_of : (units : FlowUnits) → (unit_for units Flow).den ≡ flow_den units
unfolding unit_for
den_of units = refl

pub number_within : {n m : ℕ} → n ≤ m → IsWithin m (pos n)
number_within h = record { within = omega (arith, ints, h) }

pub divisor_within : {d : ℕ} → d ≤ 10 ^ 8 → IsWithin (10 ^ 14) (pos d *ℤ pos 1_000_000)
divisor_within {d} h = record { within = omega (arith, ints, h) }

-- an amount times the numerator of its unit, and that by the denominator
pub product_within : {amount : ℤ} {n : ℕ} → IsWithin (10 ^ 25) amount → n ≤ 10 ^ 11
    → IsWithin (10 ^ 36) (amount *ℤ pos n)
product_within {amount} {n} a h = let p = within_mul a (within_number n) in
    record { within = omega (arith, p.within, h) }

pub quotient_within : {a : ℤ} {d : ℕ} → IsWithin (10 ^ 36) a → 0 < d
    → IsWithin (10 ^ 30) (quo_of a (pos d *ℤ pos 1_000_000))
quotient_within {a} {d} p h =
    within_up (within_quo_by {m = 10 ^ 36} {b = pos d *ℤ pos 1_000_000} 1_000_000 p (omega (arith, ints, h)) tt) tt

-- a coefficient is no further from 0 than a raw value
pub coefficient_raw : {f : ℤ} → IsCoefficient f → IsRaw f
coefficient_raw {f} h = within_up (within_between h) tt

-- ---- an amount times a factor
pub times6-within : {m n : ℕ} (amount factor6 : ℤ) → IsWithin m amount → IsWithin n factor6
    → IsWithin ((2 * (m * n) + 1_000_000) / 2_000_000) (times6 amount factor6)
unfolding times6
times6-within {m} {n} amount factor6 a f = within_quo_by {m = m * n} {b = pos 1_000_000} 1_000_000 (within_mul a f)
    (omega (arith, ints)) tt

pub scaled_within : {scale6 value6 : ℤ} → IsRaw scale6 → IsRaw value6 → IsWithin (10 ^ 24) (times6 scale6 value6)
scaled_within {scale6} {value6} a f = within_up (times6-within scale6 value6 a f) tt

-- the base of a dry weather flow after so many factors
abbrev pub grown : ℕ → ℕ
grown zero = 10 ^ 15
grown (suc k) = grown k * 100

grown_next : (m : ℕ) → (2 * (m * 100_000_000) + 1_000_000) / 2_000_000 ≤ m * 100
grown_next m = omega arith

pub changed_within : {m : ℕ} {amount factor6 : ℤ} → IsWithin m amount → IsCoefficient factor6
    → IsWithin (m * 100) (times6 amount factor6)
changed_within {m} {amount} {factor6} a f =
    let p = times6-within amount factor6 a (within_between f) in
    record { within = omega (arith, p.within, grown_next m) }

pub grown_small : (k : ℕ) → k ≤ 4 → grown k ≤ 10 ^ 23
grown_small zero h = omega arith
grown_small (suc zero) h = omega arith
grown_small (suc (suc zero)) h = omega arith
grown_small (suc (suc (suc zero))) h = omega arith
grown_small (suc (suc (suc (suc zero)))) h = omega arith
grown_small (suc (suc (suc (suc (suc k))))) h = absurd (omega arith)

pub grown_smaller : (k : ℕ) → k < 4 → grown k ≤ 10 ^ 21
grown_smaller zero h = omega arith
grown_smaller (suc zero) h = omega arith
grown_smaller (suc (suc zero)) h = omega arith
grown_smaller (suc (suc (suc zero))) h = omega arith
grown_smaller (suc (suc (suc (suc k)))) h = absurd (omega arith)

-- ---- the base of a line changed by its first factors
abbrev step : List Pattern → CalendarPoint → Bool → ℤ → ℕ → ℤ
step patterns point beside amount k = times6 amount (beside_weekends beside (pattern_at patterns k) point)

pub record Changed (patterns : List Pattern) (point : CalendarPoint) (beside : Bool) (base : ℤ) (numbers : List ℕ)
    (amount : ℤ) (k : ℕ) : Type 0 where
  pub value : amount ≡ fold (λ amount j. times6 amount (beside_weekends beside (pattern_at patterns j) point)) base
      (take k numbers)
  pub range : IsWithin (grown k) amount

pub changed_more : {patterns : List Pattern} {point : CalendarPoint} {beside : Bool} {base : ℤ} {numbers : List ℕ}
    {amount : ℤ} {k : ℕ}
    → Changed patterns point beside base numbers amount k → (next factor6 : ℤ) → k < length numbers
    → factor6 ≡ beside_weekends beside (pattern_at patterns (get_or numbers k 0)) point → IsCoefficient factor6
    → next ≡ times6 amount factor6
    → Changed patterns point beside base numbers next (k + 1)
changed_more {patterns} {point} {beside} {base} {numbers} {amount} {k} h next factor6 inside is within e = record {
  value =
      e ∙ ap (λ (a : ℤ). times6 a factor6) h.value
      ∙ ap (λ (f : ℤ). times6 (fold (step patterns point beside) base (take k numbers)) f) is
      ∙ sym (fold_more (step patterns point beside) base numbers k 0 inside);
  range = rw add-one (subst (IsWithin (grown k * 100)) (sym e) (changed_within h.range within));
}

pub changed_all : {patterns : List Pattern} {point : CalendarPoint} {beside : Bool} {numbers : List ℕ} {amount : ℤ}
    {k : ℕ} (dry : DryFlow)
    → Changed patterns point beside dry.base6 numbers amount k → length numbers ≤ k → numbers ≡ dry.patterns
    → beside ≡ has_weekends patterns numbers
    → amount ≡ dry_amount patterns point dry
changed_all {patterns} {point} {beside} {numbers} {amount} {k} dry h all same e =
    h.value
    ∙ ap (λ (xs : List ℕ). fold (step patterns point beside) dry.base6 xs) (take_all k numbers all ∙ same)
    ∙ ap (λ (b : Bool). fold (step patterns point b) dry.base6 dry.patterns) (e ∙ ap (has_weekends patterns) same)

pub changed_small : {patterns : List Pattern} {point : CalendarPoint} {beside : Bool} {base : ℤ} {numbers : List ℕ}
    {amount : ℤ} {k : ℕ}
    → Changed patterns point beside base numbers amount k → k < 4 → IsWithin (10 ^ 21) amount
changed_small {k = k} h few = record { within = omega (arith, h.range.within, grown_smaller k few) }

pub changed_most : {patterns : List Pattern} {point : CalendarPoint} {beside : Bool} {base : ℤ} {numbers : List ℕ}
    {amount : ℤ} {k : ℕ}
    → Changed patterns point beside base numbers amount k → k ≤ 4 → IsWithin (10 ^ 23) amount
changed_most {k = k} h few = record { within = omega (arith, h.range.within, grown_small k few) }
