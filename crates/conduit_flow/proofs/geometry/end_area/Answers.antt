use Rattle.std.proofs.Common.{◌≡◌, ◌*◌, ◌^◌, pos, FitsSigned, rules}
use Rattle.std.specs.Int.{w64}
use Rattle.std.proofs.lemmas.Int.{to_z-of_z}
use Rattle.fixed_num.specs.Ranges.{IsBetween}
use Rattle.fixed_num.proofs.Bounds.{within_add, within_between, fits64}
use Rattle.conduit_flow.specs.Geometry.{end_area_of}
use Rattle.conduit_flow.proofs.RangeLemmas.{end_area-between}
use Rattle.conduit_flow.proofs.geometry.end_area.Goals as goal
use Rattle.conduit_flow.proofs.geometry.end_area.Goals.{After-narrow_end_area}

narrow : (c : After-narrow_end_area) → c.narrow_end_area.result ≡ end_area_of c.args.width c.args.middle_width c.args.length c.args.barrels
unfolding end_area_of
narrow c =
    let both = within_add (within_between c.requires.width) (within_between c.requires.middle) in
    simp (to_z-of_z, c.ranges.width, c.ranges.middle_width, c.ranges.length, c.ranges.barrels, fits64 both tt) at c.narrow_end_area.ensures

pub returns-then-widths-le-NARROW-clause-value : goal.returns-then-widths-le-NARROW-clause-value
returns-then-widths-le-NARROW-clause-value c =
    let fits : FitsSigned w64 c.narrow_end_area.result = search rules in
    simp (to_z-of_z, fits) (narrow c)

pub returns-then-widths-le-NARROW-clause-range : goal.returns-then-widths-le-NARROW-clause-range
returns-then-widths-le-NARROW-clause-range c =
    let fits : FitsSigned w64 c.narrow_end_area.result = search rules in
    simp (to_z-of_z, fits) (rw (narrow c) (end_area-between c.requires.width c.requires.middle c.requires.length c.requires.barrels))
