use Rattle.std.proofs.Common.{◌^◌, ℤ, pos, ◌≤ℤ◌, FitsSigned, sym, subst, ◌∙◌, arith}
use Rattle.std.specs.Int.{w64}
use Rattle.std.proofs.lemmas.Int.{ints, to_z-of_z}
use Rattle.fixed_num.proofs.Bounds.{within_between, fits64, fits128}
use Rattle.xsect_tables.proofs.PlainLemmas.{plain_area}
use Rattle.xsect_tables.proofs.rows.has_plain_area.Goals as goal

pub returns : goal.returns
returns c =
    let full : FitsSigned w64 c.args.section.now.full = fits64 (within_between c.requires.full_in) tt in
    let test = simp (to_z-of_z, full) at c.if-section-gt-LOW.false in
    let low : c.args.section.now.full ≤ℤ pos 10_000_000 = grind (arith, ints, test) in
    simp (to_z-of_z, fits128 (within_between c.strip_area.ensures.range) tt)
    (λ h. let wide : pos 1_000_000 ≤ℤ c.strip_area.result = grind (arith, ints, h) in
    plain_area c.args.section.now 100 200 c.requires (omega arith) (omega arith) (sym c.is_narrow.ensures ∙ c.if-not-is_narrow.false) low
    (subst (λ (z : ℤ). pos 1_000_000 ≤ℤ z) c.strip_area.ensures.value wide))
