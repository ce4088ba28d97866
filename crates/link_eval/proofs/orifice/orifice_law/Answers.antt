use Rattle.std.proofs.lemmas.Int.{to_z-of_z}
use Rattle.fixed_num.proofs.Bounds.{within_add, within_between, within_up, fits64}
use Rattle.link_eval.proofs.orifice.orifice_law.Goals as goal

pub returns-clause-value : goal.returns-clause-value
returns-clause-value c =
    let near = c.requires.ends.near in
    let offset = within_between c.requires.range.offset_in in
    let full = within_between c.requires.given.full_in in
    let ends = c.short_link.ensures in
    simp (to_z-of_z, c.ranges.offset, c.ranges.cd6, fits64 near tt, fits64 full tt, fits64 (within_add near offset) tt) (cc ends)

pub returns-clause-good : goal.returns-clause-good
returns-clause-good c =
    let near = c.requires.ends.near in
    let offset = within_between c.requires.range.offset_in in
    let full = within_between c.requires.given.full_in in
    simp (to_z-of_z, c.ranges.offset, c.ranges.cd6, fits64 near tt, fits64 full tt, fits64 (within_add near offset) tt)
    (record {
      sill = within_up (within_add near offset) tt;
      full = c.requires.given.full_in;
      coefficient = c.requires.range.cd_in;
    })
