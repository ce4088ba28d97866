use Rattle.std.proofs.Common.{ℤ, pos, ◌*ℤ◌, int_lt, FitsSigned, rules, sym, ap, ◌∙◌, refl}
use Rattle.std.specs.Int.{w64, w128}
use Rattle.std.proofs.lemmas.Int.{to_z-of_z}
use Rattle.fixed_num.proofs.Bounds.{fits_wider, fits_product}
use Rattle.xsect_tables.specs.NormalFlow.{is_subcritical as subcritical_at}
use Rattle.xsect_tables.proofs.FirstLemmas.{not_second, third, not_above, above, from_one}
use Rattle.xsect_tables.proofs.table.Table.is_subcritical.Goals as goal

pub returns-then-i-eq0 : goal.returns-then-i-eq0
unfolding subcritical_at
returns-then-i-eq0 c = rw c.if-i-eq0.true refl

pub returns-then-area-le0 : goal.returns-then-area-le0
unfolding subcritical_at
returns-then-area-le0 c =
    let area : FitsSigned w64 c.grid_area-area.result = search rules in
    let test = simp (to_z-of_z, area) at c.if-area-le0.true in
    not_second _ _ (ap (λ (z : ℤ). int_lt (pos 0) z) (sym c.grid_area-area.ensures.value) ∙ not_above c.grid_area-area.result (pos 0) test)

pub returns : goal.returns
unfolding subcritical_at
returns c =
    let area : FitsSigned w64 c.grid_area-area.result = search rules in
    let height : FitsSigned w64 c.grid_height.result = search rules in
    let width : FitsSigned w64 c.width-width.result = search rules in
    let wave : FitsSigned w64 c.celerity.result = search rules in
    let speed : FitsSigned w128 c.quo.result = search rules in
    let test = simp (to_z-of_z, area) at c.if-area-le0.false in
    let a = c.grid_area-area.ensures.value in
    let h = c.grid_height.ensures.value in
    let w = simp (to_z-of_z, height) at c.width-width.ensures.value in
    let flow : FitsSigned w128 (c.args.q *ℤ pos 1_000_000) = search (rules, fits_product) in
    let q = simp (to_z-of_z, c.ranges.q, fits_wider _ c.ranges.q, area, fits_wider _ area, flow) at c.quo.ensures.value in
    let v = simp (to_z-of_z, area, width) at c.celerity.ensures.value in
    simp (to_z-of_z, speed, wave, fits_wider _ wave)
    (third (from_one c.args.i c.if-i-eq0.false) (ap (λ (z : ℤ). int_lt (pos 0) z) (sym a) ∙ above c.grid_area-area.result (pos 0) test) (cc (a, h, w, q, v)))
