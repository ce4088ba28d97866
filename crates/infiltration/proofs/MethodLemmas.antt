-- The method of an infiltration in range, and the state of a method in a state that is of the method.
use Rattle.std.proofs.Common.{◌≡◌, ℤ, pos, sym, subst}
use Rattle.net_types.specs.Ranges.{InfilInRange}
use Rattle.net_types.specs.declared.hydrology.Infil.{Infil}
use Rattle.net_types.specs.declared.hydrology.Infil.TheVariants.{Horton as HortonBy, Number as NumberBy}
use Rattle.infiltration.specs.CurveNumber.{IsCurveNumber, IsCurveState}
use Rattle.infiltration.specs.Horton.{IsHortonState}
use Rattle.infiltration.specs.Infiltration.{IsStateBy, horton_in, method_of, number_in}
use Rattle.infiltration.specs.declared.curve_number.CurveNumber.{CurveNumber}
use Rattle.infiltration.specs.declared.horton.HortonCurve.{HortonCurve}
use Rattle.infiltration.specs.declared.method.Method.{Method}
use Rattle.infiltration.specs.declared.method.Method.TheVariants.{Horton as HortonOf, Number as NumberOf}
use Rattle.infiltration.specs.declared.states.InfilState.{InfilState}
use Rattle.infiltration.specs.declared.states.InfilState.TheVariants.{Horton as HortonAt, Number as NumberAt}

pub horton_state : (most : ℤ) (curve : HortonCurve) (state : InfilState) → IsStateBy most (HortonOf curve) state → IsHortonState most curve (horton_in state)
horton_state most curve (HortonAt s) h = h
horton_state most curve (NumberAt s) h = absurd h

pub number_state : (most : ℤ) (curve : CurveNumber) (state : InfilState) → IsStateBy most (NumberOf curve) state → IsCurveState most curve.cn6 (number_in state)
number_state most curve (HortonAt s) h = absurd h
number_state most curve (NumberAt s) h = h

-- the curve number of a method
abbrev NumberIn : Method → Type 0
NumberIn (HortonOf curve) = Unit
NumberIn (NumberOf curve) = IsCurveNumber curve.cn6

number_there : (infil : Infil) → InfilInRange infil → NumberIn (method_of infil)
number_there (HortonBy max min decay6 dry volume) h = tt
number_there (NumberBy cn6 dry) h = h.number_in

pub number_in_range : (infil : Infil) (curve : CurveNumber) → InfilInRange infil → method_of infil ≡ NumberOf curve → IsCurveNumber curve.cn6
number_in_range infil curve h e = subst NumberIn e (number_there infil h)
