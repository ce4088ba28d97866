use Rattle.std.proofs.Common.{◌≡◌, ◌^◌, FitsSigned, ap, pos, rules, subst, arith}
use Rattle.std.specs.Int.{w64, int_min}
use Rattle.std.proofs.lemmas.Int.{to_z-of_z}
use Rattle.fixed_num.specs.Ranges.{IsBetween}
use Rattle.fixed_num.proofs.Bounds.{between_min, between_up, within_between, fits64}
use Rattle.xsect_tables.specs.LookUps.{area_of, radius_of}
use Rattle.xsect_tables.specs.SectionTable.{IsTable, entry, full_area}
use Rattle.xsect_tables.proofs.TableLemmas.{area_wet}
use Rattle.xsect_tables.proofs.table.Table.radius_at.Goals as goal
use Rattle.xsect_tables.proofs.table.Table.radius_at.Goals.{After-min-least}

full : (c : After-min-least) → IsBetween (pos 0) (entry c.self.inside.areas 200) (pos (10 ^ 18))
full c = c.self.invariant.rows.areas.each 200 (omega arith)

least : (c : After-min-least) → c.min-least.result ≡ int_min c.args.area (entry c.self.inside.areas 200)
least c = simp (to_z-of_z, c.ranges.area, fits64 (within_between (full c)) tt) at c.min-least.ensures.value

least_is : (c : After-min-least) → c.min-least.result ≡ int_min (area_of c.args.self.now c.args.y) (full_area c.args.self.now)
least_is c =
    let l = least c in
    let area = c.requires.area in
    let whole : entry c.self.inside.areas 200 ≡ full_area c.args.self.now = ap full_area c.self.view_is in
    cc (l, area, whole)

pub ratio-requires-clause-area : goal.ratio-requires-clause-area
ratio-requires-clause-area c =
    let d = (goal.at.ratio-requires-clause-area c).After-min-least in
    let fits : FitsSigned w64 c.min-least.result = search rules in
    simp (to_z-of_z, fits) (rw (least d) (between_min c.requires.range (between_up (full d) tt tt)))

pub ratio-requires-clause-wet : goal.ratio-requires-clause-wet
ratio-requires-clause-wet c =
    let d = (goal.at.ratio-requires-clause-wet c).After-min-least in
    let fits : FitsSigned w64 c.min-least.result = search rules in
    let perimeter_fits : FitsSigned w64 c.perimeter_at.result = search rules in
    let p = simp (to_z-of_z, c.ranges.y) at c.perimeter_at.ensures.value in
    simp (to_z-of_z, fits, perimeter_fits) (rw (least_is d, p) (area_wet c.args.y (subst IsTable c.self.view_is c.self.invariant.rows)))

pub returns-clause-value : goal.returns-clause-value
unfolding radius_of
returns-clause-value c =
    let d = (goal.at.returns-clause-value c).After-min-least in
    let fits : FitsSigned w64 c.min-least.result = search rules in
    let perimeter_fits : FitsSigned w64 c.perimeter_at.result = search rules in
    let result : FitsSigned w64 c.ratio.result = search rules in
    let p = simp (to_z-of_z, c.ranges.y) at c.perimeter_at.ensures.value in
    let l = least_is d in
    let r = simp (to_z-of_z, fits, perimeter_fits) at c.ratio.ensures.value in
    simp (to_z-of_z, result) (cc (r, l, p))
