use Rattle.std.proofs.Common.{◌≡◌, FitsSigned, arith}
use Rattle.std.specs.Int.{w64}
use Rattle.std.proofs.lemmas.Int.{to_z-of_z}
use Rattle.fixed_num.proofs.Bounds.{within_between, fits64}
use Rattle.xsect_tables.specs.SectionTable.{grid_width as width_of_grid}
use Rattle.xsect_tables.proofs.RowLemmas.{filled_none, filled_more, filled_all}
use Rattle.xsect_tables.proofs.rows.widths.Goals as goal
use Rattle.xsect_tables.proofs.rows.widths.Goals.{After-width_at}

pub loop-i-init : goal.loop-i-init
loop-i-init c = filled_none _

value : (c : After-width_at) → c.width_at.result ≡ width_of_grid c.args.section.now c.loop-i.i
unfolding width_of_grid
value c =
    let full : FitsSigned w64 c.args.section.now.full = fits64 (within_between c.requires.full_in) tt in
    let h = simp (to_z-of_z, full) at c.grid_height.ensures.value in
    let w = simp (to_z-of_z, fits64 (within_between c.grid_height.ensures.range) tt) at c.width_at.ensures.value in
    cc (h, w)

pub width_at-requires-clause-depth : goal.width_at-requires-clause-depth
width_at-requires-clause-depth c =
    let full = fits64 (within_between c.requires.full_in) tt in
    let small = within_between c.grid_height.ensures.range in
    simp (to_z-of_z, fits64 small tt) (simp (to_z-of_z, full) at c.grid_height.ensures.within)

pub loop-i-preserved : goal.loop-i-preserved
loop-i-preserved c = simp (to_z-of_z, fits64 (within_between c.width_at.ensures.range) tt) (filled_more _ _ c.loop-i.i _ (omega arith) c.loop-i.invariant (value c))

pub returns : goal.returns
returns c = filled_all _ _ c.loop-i.i (omega arith) c.loop-i.invariant
