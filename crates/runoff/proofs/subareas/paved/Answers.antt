use Rattle.std.proofs.Common.{FitsSigned, rules}
use Rattle.std.specs.Int.{w64}
use Rattle.std.proofs.lemmas.Int.{to_z-of_z}
use Rattle.fixed_num.proofs.Bounds.{within_sub, within_between, fits64}
use Rattle.runoff.specs.Subareas.{paved_of}
use Rattle.runoff.proofs.subareas.paved.Goals as goal

pub returns-clause-value : goal.returns-clause-value
unfolding paved_of
returns-clause-value c =
    let area = within_between c.requires.area_in in
    let pervious = within_between c.pervious.ensures.area in
    let bare = within_between c.bare.ensures.area in
    let rest = within_sub area pervious in
    let storage : FitsSigned w64 c.subareas_in-areas.result.s_imperv = search rules in
    let n6 : FitsSigned w64 c.subareas_in-areas.result.n_imperv6 = search rules in
    let a = c.subareas_in-areas.ensures.value in
    let p = c.pervious.ensures.value in
    let b = c.bare.ensures.value in
    simp (
      to_z-of_z,
      fits64 area tt,
      fits64 pervious tt,
      fits64 bare tt,
      fits64 rest tt,
      fits64 (within_sub rest bare) tt,
      storage,
      n6,
    ) (cc (a, p, b))
