use Rattle.std.proofs.Common.{◌≡◌, ◌*◌, ◌^◌, pos}
use Rattle.std.proofs.lemmas.Int.{to_z-of_z}
use Rattle.fixed_num.proofs.Bounds.{within_add, within_sub, within_number, within_between, fits64}
use Rattle.orifice_weir.specs.WeirFlow.{crest_of}
use Rattle.orifice_weir.proofs.weir.crest.Goals as goal

pub returns-clause-value : goal.returns-clause-value
unfolding crest_of
returns-clause-value c =
    let crest = c.requires.weir.crest in
    let raised = within_between c.part.ensures.range in
    let rest = within_sub (within_number 1_000_000) (within_between c.requires.setting) in
    let p = simp (
      to_z-of_z,
      fits64 (within_between c.requires.weir.full) tt,
      c.ranges.setting,
      fits64 rest tt,
    ) at c.part.ensures.value in
    simp (to_z-of_z, fits64 crest tt, fits64 raised tt, fits64 (within_add crest raised) tt) (cc p)
