use Rattle.std.proofs.Common.{FitsSigned, pos, rules}
use Rattle.std.specs.Int.{w64}
use Rattle.std.proofs.lemmas.Int.{to_z-of_z}
use Rattle.fixed_num.proofs.Bounds.{within_sub, within_between, within_number, fits64}
use Rattle.runoff.specs.Subareas.{pervious_of}
use Rattle.runoff.proofs.subareas.pervious.Goals as goal

pub returns-clause-value : goal.returns-clause-value
unfolding pervious_of
returns-clause-value c =
    let area = fits64 (within_between c.requires.area_in) tt in
    let imperv = within_between c.requires.imperv_in in
    let rest = within_sub (within_number 1_000_000) imperv in
    let storage : FitsSigned w64 c.subareas_in-areas.result.s_perv = search rules in
    let n6 : FitsSigned w64 c.subareas_in-areas.result.n_perv6 = search rules in
    let a = c.subareas_in-areas.ensures.value in
    let p = simp (to_z-of_z, area, fits64 imperv tt, fits64 rest tt) at c.part.ensures.value in
    simp (to_z-of_z, fits64 (within_between c.part.ensures.range) tt, storage, n6) (cc (a, p))
