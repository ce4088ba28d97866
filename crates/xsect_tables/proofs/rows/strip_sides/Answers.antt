use Rattle.std.proofs.Common.{◌*◌, ◌^◌, FitsSigned}
use Rattle.std.specs.Int.{w64}
use Rattle.std.proofs.lemmas.Int.{to_z-of_z}
use Rattle.fixed_num.specs.Ranges.{IsWithin}
use Rattle.fixed_num.proofs.Bounds.{within_between, within_sub, fits64}
use Rattle.xsect_tables.specs.SectionTable.{strip_sides as sides_of_strip}
use Rattle.xsect_tables.proofs.rows.strip_sides.Goals as goal
use Rattle.xsect_tables.proofs.rows.strip_sides.Goals.{After-width_at-wide}

low : (c : After-width_at-wide) → IsWithin (10 ^ 9) c.grid_height-low.result
low c = within_between c.grid_height-low.ensures.range

high : (c : After-width_at-wide) → IsWithin (10 ^ 9) c.grid_height-high.result
high c = within_between c.grid_height-high.ensures.range

narrow : (c : After-width_at-wide) → IsWithin (3 * 10 ^ 11) c.width_at-narrow.result
narrow c = within_between c.width_at-narrow.ensures.range

wide : (c : After-width_at-wide) → IsWithin (3 * 10 ^ 11) c.width_at-wide.result
wide c = within_between c.width_at-wide.ensures.range

pub width_at-narrow-requires-clause-depth : goal.width_at-narrow-requires-clause-depth
width_at-narrow-requires-clause-depth c =
    let full = fits64 (within_between c.requires.range.full_in) tt in
    let small = within_between c.grid_height-low.ensures.range in
    simp (to_z-of_z, fits64 small tt) (simp (to_z-of_z, full) at c.grid_height-low.ensures.within)

pub width_at-wide-requires-clause-depth : goal.width_at-wide-requires-clause-depth
width_at-wide-requires-clause-depth c =
    let full = fits64 (within_between c.requires.range.full_in) tt in
    let small = within_between c.grid_height-high.ensures.range in
    simp (to_z-of_z, fits64 small tt) (simp (to_z-of_z, full) at c.grid_height-high.ensures.within)

pub sides-requires-clause-rise : goal.sides-requires-clause-rise
sides-requires-clause-rise c = let rise = within_sub (high c) (low c) in simp (to_z-of_z, fits64 (low c) tt, fits64 (high c) tt, fits64 rise tt) rise

pub sides-requires-clause-spread : goal.sides-requires-clause-spread
sides-requires-clause-spread c = let spread = within_sub (wide c) (narrow c) in simp (to_z-of_z, fits64 (wide c) tt, fits64 (narrow c) tt, fits64 spread tt) spread

pub returns-clause-value : goal.returns-clause-value
unfolding sides_of_strip
returns-clause-value c =
    let full : FitsSigned w64 c.args.section.now.full = fits64 (within_between c.requires.range.full_in) tt in
    let low_within = within_between c.grid_height-low.ensures.range in
    let high_within = within_between c.grid_height-high.ensures.range in
    let narrow_within = within_between c.width_at-narrow.ensures.range in
    let wide_within = within_between c.width_at-wide.ensures.range in
    let l = simp (to_z-of_z, full) at c.grid_height-low.ensures.value in
    let h = simp (to_z-of_z, full) at c.grid_height-high.ensures.value in
    let n = simp (to_z-of_z, fits64 low_within tt) at c.width_at-narrow.ensures.value in
    let w = simp (to_z-of_z, fits64 high_within tt) at c.width_at-wide.ensures.value in
    let value = simp (to_z-of_z, fits64 low_within tt, fits64 high_within tt, fits64 narrow_within tt, fits64 wide_within tt, fits64 (within_sub high_within low_within) tt, fits64 (within_sub wide_within narrow_within) tt) at c.sides.ensures.value in
    simp (to_z-of_z, fits64 (within_between c.sides.ensures.range) tt) (cc (l, h, n, w, value))
