use Rattle.std.proofs.Common.{◌∙◌, FitsSigned, rules, ap, sym}
use Rattle.std.specs.Int.{w64}
use Rattle.std.proofs.lemmas.Int.{to_z-of_z}
use Rattle.net_types.specs.declared.network.Shape.{Shape}
use Rattle.xsect_tables.specs.Sections.{width_at as section_width, shape_width}
use Rattle.xsect_tables.proofs.rows.width_at.Goals as goal

pub returns-in-RectOpen-clause-value : goal.returns-in-RectOpen-clause-value
unfolding section_width
returns-in-RectOpen-clause-value c =
    let fits : FitsSigned w64 c.in-RectOpen.width = search rules in
    to_z-of_z w64 _ fits ∙ sym (ap (λ (s : Shape). shape_width s c.args.section.now.full c.args.y) c.in-RectOpen.is)

pub returns-in-RectClosed-clause-value : goal.returns-in-RectClosed-clause-value
unfolding section_width
returns-in-RectClosed-clause-value c =
    let fits : FitsSigned w64 c.in-RectClosed.width = search rules in
    to_z-of_z w64 _ fits ∙ sym (ap (λ (s : Shape). shape_width s c.args.section.now.full c.args.y) c.in-RectClosed.is)

pub returns-in-Trapezoidal-clause-value : goal.returns-in-Trapezoidal-clause-value
unfolding section_width
returns-in-Trapezoidal-clause-value c =
    let bottom : FitsSigned w64 c.in-Trapezoidal.bottom = search rules in
    let left : FitsSigned w64 c.in-Trapezoidal.left6 = search rules in
    let right : FitsSigned w64 c.in-Trapezoidal.right6 = search rules in
    let fits : FitsSigned w64 c.trapezoid_width.result = search rules in
    let value = simp (to_z-of_z, bottom, left, right, c.ranges.y) at c.trapezoid_width.ensures.value in
    simp (to_z-of_z, fits) (value ∙ sym (ap (λ (s : Shape). shape_width s c.args.section.now.full c.args.y) c.in-Trapezoidal.is))

pub returns-in-Triangular-clause-value : goal.returns-in-Triangular-clause-value
unfolding section_width
returns-in-Triangular-clause-value c =
    let top : FitsSigned w64 c.in-Triangular.top = search rules in
    let full : FitsSigned w64 c.args.section.now.full = search rules in
    let fits : FitsSigned w64 c.triangle_width.result = search rules in
    let value = simp (to_z-of_z, top, full, c.ranges.y) at c.triangle_width.ensures.value in
    simp (to_z-of_z, fits) (value ∙ sym (ap (λ (s : Shape). shape_width s c.args.section.now.full c.args.y) c.in-Triangular.is))

pub returns-in-Circular-clause-value : goal.returns-in-Circular-clause-value
unfolding section_width
returns-in-Circular-clause-value c =
    let full : FitsSigned w64 c.args.section.now.full = search rules in
    let fits : FitsSigned w64 c.circle_width.result = search rules in
    let value = simp (to_z-of_z, full, c.ranges.y) at c.circle_width.ensures.value in
    simp (to_z-of_z, fits) (value ∙ sym (ap (λ (s : Shape). shape_width s c.args.section.now.full c.args.y) c.in-Circular.is))
