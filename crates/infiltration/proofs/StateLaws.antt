-- States of infiltration stay in their ranges: at the start, from a hotstart, and over a step.
use Rattle.std.proofs.Common.{◌≡◌, ◌*◌, ◌^◌, ℤ, pos, ◌+ℤ◌, ◌*ℤ◌, ◌≤ℤ◌, subst, arith}
use Rattle.std.proofs.lemmas.Int.{ints}
use Rattle.fixed_num.specs.Ranges.{IsBetween}
use Rattle.infiltration.specs.CurveNumber.{IsCurveNumber}
use Rattle.infiltration.specs.Depths.{IsRunoffStep}
use Rattle.infiltration.specs.Infiltration.{HasNumbersUpTo, IsMethod, IsStateBy, IsStateOf, opening_by, start_by, state_by}
use Rattle.infiltration.specs.declared.curve_number.CurveNumber.{CurveNumber}
use Rattle.infiltration.specs.declared.horton.HortonCurve.{HortonCurve}
use Rattle.infiltration.specs.declared.method.Method.{Method}
use Rattle.infiltration.specs.declared.method.Method.TheVariants.{Horton as HortonOf, Number as NumberOf}
use Rattle.infiltration.specs.declared.states.InfilState.{InfilState}
use Rattle.infiltration.specs.declared.states.InfilState.TheVariants.{Horton as HortonAt, Number as NumberAt}
use Rattle.infiltration.proofs.CurveStates.{curve_growth, opened, started}
use Rattle.infiltration.proofs.HortonLemmas.{horton_growth, horton_opened}

pub start_state : (curve : CurveNumber) → IsCurveNumber curve.cn6 → IsStateBy (pos 0) (NumberOf curve) (start_by (NumberOf curve))
unfolding start_by
start_state curve h = started curve.cn6 h

pub opened_horton : (most : ℤ) (curve : HortonCurve) (s : InfilState) → IsStateOf (HortonOf curve) s → HasNumbersUpTo most s → IsStateBy most (HortonOf curve) (opening_by (HortonOf curve) s)
unfolding opening_by
opened_horton most curve (HortonAt s) o h = horton_opened most curve s h
opened_horton most curve (NumberAt s) o h = absurd o

pub opened_number : (most : ℤ) (curve : CurveNumber) (s : InfilState) → IsCurveNumber curve.cn6 → IsStateOf (NumberOf curve) s → HasNumbersUpTo most s → IsStateBy most (NumberOf curve) (opening_by (NumberOf curve) s)
unfolding opening_by
opened_number most curve (HortonAt s) n o h = absurd o
opened_number most curve (NumberAt s) n o h = opened most curve.cn6 s n h

-- the numbers of a state grow by at most what the fastest rain brings
pub growth : (most : ℤ) (m : Method) (s : InfilState) (rain available ms : ℤ) → IsMethod m → IsStateBy most m s → IsBetween (pos 0) rain available → IsRunoffStep ms → rain ≤ℤ (pos 2_778 *ℤ ms)
    → IsStateBy (most +ℤ pos 2_778 *ℤ ms) m (state_by m s rain available ms)
unfolding state_by
growth most (HortonOf curve) (HortonAt s) rain available ms h k r t slow = horton_growth most curve s available ms h k t
growth most (HortonOf curve) (NumberAt s) rain available ms h k r t slow = absurd k
growth most (NumberOf curve) (HortonAt s) rain available ms h k r t slow = absurd k
growth most (NumberOf curve) (NumberAt s) rain available ms h k r t slow = curve_growth most curve.cn6 curve.dry s rain available ms h.0 k r slow t
