-- The ranges of the values of items.
use Rattle.std.proofs.Common.{◌^◌, ◌*◌, ◌*ℤ◌, ◌∷◌, [], ℕ, ℤ, pos, Bool, true, false, cond, List}
use Rattle.std.proofs.Common.{sym, subst, arith}
use Rattle.std.specs.List.{All, AllZip}
use Rattle.std.proofs.lemmas.Int.{ints}
use Rattle.std.proofs.lemmas.List.Elements.{All-nil, All-cons}
use Rattle.net_types.specs.declared.options.FlowUnits.{FlowUnits}
use Rattle.fixed_num.specs.Rounding.{quo_of}
use Rattle.fixed_num.specs.Ranges.{IsBetween, IsCoefficient, IsConduitLength, IsDepth, IsElevation, IsFlow}
use Rattle.fixed_num.specs.Ranges.{IsFlowLimit, IsNodeArea, IsRawAmount, IsRoughness}
use Rattle.fixed_num.proofs.Bounds.{between_mul, between_quo_by, between_up, le_number, within_both, within_minus}
use Rattle.fixed_num.proofs.Bounds.{within_number}
use Rattle.inp_values.specs.declared.quantities.Quantity.TheVariants as quantity
use Rattle.inp_values.specs.Units.{is_us, unit_for}
use Rattle.inp_forms.specs.declared.item.Value.{Value}
use Rattle.inp_forms.specs.declared.item.Value.TheVariants.{Amount}
use Rattle.inp_forms.specs.declared.item.What.TheVariants as what
use Rattle.inp_forms.specs.Context.{Context}
use Rattle.inp_forms.specs.Getters.{amount_of}
use Rattle.inp_forms.specs.Meaning.{IsItemOr, IsWeirAmount, IsWholeAmount}
use Rattle.inp_forms.specs.Values.{metric_coefficient}
use Rattle.inp_forms.proofs.PlaceLemmas.{IsFrom, IsInRange, amount_or_in, least_or_in, or_means}

-- what holds of the record of each line holds of all records
pub all_zipped : {L R : Type 0} (Is : L → R → Type 0) (P : R → Type 0) → ((line : L) (r : R) → Is line r → P r)
    → (lines : List L) (rs : List R) → AllZip Is lines rs → All P rs
all_zipped Is P each [] [] z = All-nil P
all_zipped Is P each [] (r ∷ rs) z = absurd z
all_zipped Is P each (line ∷ lines) [] z = absurd z
all_zipped Is P each (line ∷ lines) (r ∷ rs) z = All-cons P r rs (each line r z.0) (all_zipped Is P each lines rs z.1)

-- the ranges of quantities, which the units of measure have no part in
module _ (known : Context) (value : ℤ) where
  pub elevation_in : IsInRange known quantity.Elevation value → IsElevation value
  unfolding unit_for
  elevation_in range = within_both range (within_minus (10 ^ 10)) (within_number (10 ^ 10))

  pub depth_in : IsInRange known quantity.Depth value → IsDepth value
  unfolding unit_for
  depth_in range = range

  pub area_in : IsInRange known quantity.NodeArea value → IsNodeArea value
  unfolding unit_for
  area_in range = range

  pub length_in : IsInRange known quantity.ConduitLength value → IsConduitLength value
  unfolding unit_for
  length_in range = range

  pub roughness_in : IsInRange known quantity.Roughness value → IsRoughness value
  unfolding unit_for
  roughness_in range = range

  pub coefficient_in : IsInRange known quantity.Coefficient value → IsCoefficient value
  unfolding unit_for
  coefficient_in range = range

  pub flow_in : IsInRange known quantity.Flow value → IsFlow value
  unfolding unit_for
  flow_in range = within_both range (within_minus (10 ^ 12)) (within_number (10 ^ 12))

  pub flow_limit_in : IsFrom known (pos 0) quantity.Flow value → IsFlowLimit value
  unfolding unit_for
  flow_limit_in range = range

  pub raw_amount_in : IsFrom known (pos 0) quantity.Raw value → IsRawAmount value
  unfolding unit_for
  raw_amount_in range = range

-- items that are 0 where they are missing
module _ (known : Context) (tokens : List (List ℕ)) (place : ℕ) (value : Value) where
  pub depth_or : IsItemOr known (Amount (pos 0)) (what.Number quantity.Depth) tokens place value
      → IsDepth (amount_of value)
  unfolding unit_for
  depth_or is = depth_in known (amount_of value) (amount_or_in known quantity.Depth (pos 0) tokens place value is
      (record { from = le_number tt; to = le_number tt }))

  pub area_or : IsItemOr known (Amount (pos 0)) (what.Number quantity.NodeArea) tokens place value
      → IsNodeArea (amount_of value)
  unfolding unit_for
  area_or is = area_in known (amount_of value) (amount_or_in known quantity.NodeArea (pos 0) tokens place value is
      (record { from = le_number tt; to = le_number tt }))

  pub flow_or : IsItemOr known (Amount (pos 0)) (what.Number quantity.Flow) tokens place value
      → IsFlow (amount_of value)
  unfolding unit_for
  flow_or is = flow_in known (amount_of value) (amount_or_in known quantity.Flow (pos 0) tokens place value is
      (record { from = le_number tt; to = le_number tt }))

  pub flow_limit_or : IsItemOr known (Amount (pos 0)) (what.AtLeast (pos 0) quantity.Flow) tokens place value
      → IsFlowLimit (amount_of value)
  unfolding unit_for
  flow_limit_or is = flow_limit_in known (amount_of value) (least_or_in known (pos 0) quantity.Flow
      (pos 0) tokens place value is (record { from = le_number tt; to = le_number tt }))

  pub contractions_or : IsItemOr known (Amount (pos 0)) (what.Whole 0 2) tokens place value
      → IsBetween (pos 0) (amount_of value) (pos 2)
  contractions_or is = or_means known (Amount (pos 0)) (what.Whole 0 2) tokens place value (λ v. IsBetween (pos 0)
      (amount_of v) (pos 2)) is
      (λ text whole. few text whole)
      (record { from = le_number tt; to = le_number tt }) where
        few : (text : List ℕ) → IsWholeAmount 0 2 text value → IsBetween (pos 0) (amount_of value) (pos 2)
        few text whole = subst (λ v. IsBetween (pos 0) (amount_of v) (pos 2)) (sym whole.value_is)
            (record { from = omega (arith, ints); to = omega (arith, ints, whole.to) })

-- the metric coefficient of a weir
metric_in : (units : FlowUnits) (c : ℤ) → IsCoefficient c → IsCoefficient (metric_coefficient units c)
unfolding metric_coefficient
metric_in units c range = go (is_us units) where
  go : (b : Bool) → IsCoefficient (cond b (quo_of (c *ℤ pos 552_087) (pos 1_000_000)) c)
  go true = between_up (between_quo_by {j = 0 * 552_087} {m = 10 ^ 8 * 552_087} {x = c *ℤ pos 552_087} {y = pos
      1_000_000} 1_000_000
      (between_mul {j = 0} {k = 552_087} {m = 10 ^ 8} {n = 552_087} {x = c} {y = pos 552_087} range
      (record { from = le_number tt; to = le_number tt })) (le_number tt) tt) tt tt
  go false = range

pub weir_in : (known : Context) (text : List ℕ) (value : Value) → IsWeirAmount known text value
    → IsCoefficient (amount_of value)
weir_in known text value is = subst (λ v. IsCoefficient (amount_of v)) (sym is.value_is)
    (metric_in known.units is.coefficient (coefficient_in known is.coefficient is.stored.range))
