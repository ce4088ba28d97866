use Rattle.std.proofs.Common.{◌≡◌, map, take}
use Rattle.inp_series.specs.declared.curves.CurveState.{CurveState}
use Rattle.inp_series.proofs.curves.curve_kinds.Given as goal

abbrev pub invariant-loop-state : goal.invariant-loop-state
invariant-loop-state l = l.kinds ≡ map (λ (state : CurveState). state.kind) (take l.state-index l.state-items)
