-- Infiltration of a subcatchment by the method of its project: the state at the start, what a step takes, and the state
-- after it.
use Rattle.std.specs.Prelude.{◌^◌, ⊤, ℤ, pos, ◌+ℤ◌, ◌*ℤ◌}
use Rattle.fixed_num.specs.Ranges.{IsBetween, IsDryingTime}
use Rattle.net_types.specs.declared.hydrology.Infil.{Infil}
use Rattle.net_types.specs.declared.hydrology.Infil.TheVariants.{Horton as HortonBy, Number as NumberBy}
use Rattle.infiltration.specs.CurveNumber.{AreCurveNumbersUpTo, IsCurveNumber, IsCurveState, number_after}
use Rattle.infiltration.specs.CurveNumber.{number_opening, number_start, number_taken_of}
use Rattle.infiltration.specs.Horton.{IsHortonCurve, IsHortonState, horton_after}
use Rattle.infiltration.specs.Horton.{horton_opening, horton_start, horton_taken_of}
use Rattle.infiltration.specs.declared.method.Method.{Method}
use Rattle.infiltration.specs.declared.method.Method.TheVariants.{Horton as HortonOf, Number as NumberOf}
use Rattle.infiltration.specs.declared.states.CurveState.{CurveState}
use Rattle.infiltration.specs.declared.states.HortonState.{HortonState}
use Rattle.infiltration.specs.declared.states.InfilState.{InfilState}
use Rattle.infiltration.specs.declared.states.InfilState.TheVariants.{Horton as HortonAt, Number as NumberAt}

-- the method of an infiltration, with its numbers gathered
abbrev pub method_of : Infil → Method
method_of (HortonBy max min decay6 dry volume) =
    HortonOf (record { max = max; min = min; decay6 = decay6; dry = dry; volume = volume })
method_of (NumberBy cn6 dry) = NumberOf (record { cn6 = cn6; dry = dry })

-- the state of the method in a state; one of the other method has none, and counts as one of zeros
abbrev pub horton_in : InfilState → HortonState
horton_in (HortonAt state) = state
horton_in (NumberAt state) = horton_start

abbrev pub number_in : InfilState → CurveState
number_in (HortonAt state) = record { room = pos 0; event_room = pos 0; rain = pos 0; taken = pos 0; dry = pos 0 }
number_in (NumberAt state) = state

-- the state at the start of a run without a hotstart
unfoldable pub start_by : Method → InfilState
start_by (HortonOf curve) = HortonAt horton_start
start_by (NumberOf curve) = NumberAt (number_start curve.cn6)

abbrev pub start_of : Infil → InfilState
start_of infil = start_by (method_of infil)

-- a state of a hotstart as a run begins with it: brought into the ranges of the infiltration
unfoldable pub opening_by : Method → InfilState → InfilState
opening_by (HortonOf curve) state = HortonAt (horton_opening curve (horton_in state))
opening_by (NumberOf curve) state = NumberAt (number_opening curve.cn6 (number_in state))

abbrev pub opening_of : Infil → InfilState → InfilState
opening_of infil = opening_by (method_of infil)

-- what the soil takes in a step of `ms`, of rain in it and the water that is available
unfoldable pub taken_by : Method → InfilState → (rain available ms : ℤ) → ℤ
taken_by (HortonOf curve) state rain available ms = horton_taken_of curve (horton_in state) available ms
taken_by (NumberOf curve) state rain available ms = number_taken_of (number_in state) rain available

abbrev pub taken_of : Infil → InfilState → (rain available ms : ℤ) → ℤ
taken_of infil = taken_by (method_of infil)

-- the state after the step
unfoldable pub state_by : Method → InfilState → (rain available ms : ℤ) → InfilState
state_by (HortonOf curve) state rain available ms = HortonAt (horton_after curve (horton_in state) available ms)
state_by (NumberOf curve) state rain available ms =
    NumberAt (number_after curve.cn6 curve.dry (number_in state) rain available ms)

abbrev pub state_after : Infil → InfilState → (rain available ms : ℤ) → InfilState
state_after infil = state_by (method_of infil)

-- the numbers of a method lie in their ranges; a least rate is at most the greatest
abbrev pub IsMethod : Method → Type 0
IsMethod (HortonOf curve) = IsHortonCurve curve
IsMethod (NumberOf curve) = IsCurveNumber curve.cn6 × IsDryingTime curve.dry

abbrev pub IsInfil : Infil → Type 0
IsInfil infil = IsMethod (method_of infil)

-- a state is of the infiltration's method
abbrev pub IsStateOf : Method → InfilState → Type 0
IsStateOf (HortonOf curve) (HortonAt state) = ⊤
IsStateOf (HortonOf curve) (NumberAt state) = ⊥
IsStateOf (NumberOf curve) (HortonAt state) = ⊥
IsStateOf (NumberOf curve) (NumberAt state) = ⊤

abbrev pub IsOfMethod : Infil → InfilState → Type 0
IsOfMethod infil = IsStateOf (method_of infil)

-- the numbers of a state are up to `most`
abbrev pub HasNumbersUpTo : (most : ℤ) → InfilState → Type 0
HasNumbersUpTo most (HortonAt state) = IsBetween (pos 0) state.above most
HasNumbersUpTo most (NumberAt state) = AreCurveNumbersUpTo most state

-- a state of the infiltration's method whose numbers are up to `most`, and in which no more is taken than can be
abbrev pub IsStateBy : (most : ℤ) → Method → InfilState → Type 0
IsStateBy most (HortonOf curve) (HortonAt state) = IsHortonState most curve state
IsStateBy most (HortonOf curve) (NumberAt state) = ⊥
IsStateBy most (NumberOf curve) (HortonAt state) = ⊥
IsStateBy most (NumberOf curve) (NumberAt state) = IsCurveState most curve.cn6 state

abbrev pub IsStateUpTo : (most : ℤ) → Infil → InfilState → Type 0
IsStateUpTo most infil = IsStateBy most (method_of infil)

-- a state that a step may begin with
abbrev pub IsInfilState : Infil → InfilState → Type 0
IsInfilState = IsStateUpTo (pos (10 ^ 16))

-- whatever bounds the numbers of a state, over a step they grow by at most 2,778 a millisecond: as fast as the fastest
-- rain
abbrev pub GrowsSlowly : Infil → (ms : ℤ) → (before after : InfilState) → Type 0
GrowsSlowly infil ms before after =
    (most : ℤ) → IsStateUpTo most infil before → IsStateUpTo (most +ℤ pos 2_778 *ℤ ms) infil after
