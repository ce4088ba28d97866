use Rattle.std.proofs.Common.{rules}
use Rattle.std.proofs.lemmas.Int.{to_z-of_z}
use Rattle.fixed_num.proofs.Bounds.{within_add, within_between, fits64}
use Rattle.project_check.proofs.ends.add_link.Goals as goal

pub returns : goal.returns
returns c n =
    let full = within_between c.conduit_height-full.ensures.range in
    let near = within_between c.first_offset.ensures.range in
    let far = within_between c.second_offset.ensures.range in
    let first = simp (to_z-of_z, fits64 full tt, fits64 near tt, fits64 (within_add near full) tt) at (c.add_end.ensures n) in
    let second = simp (to_z-of_z, fits64 full tt, fits64 far tt, fits64 (within_add far full) tt) at (c.add_end-2.ensures n) in
    rw (first, c.first_offset.ensures.value, c.second_offset.ensures.value, c.conduit_height-full.ensures.value) at second
