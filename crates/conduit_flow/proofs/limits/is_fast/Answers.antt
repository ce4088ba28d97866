use Rattle.std.proofs.Common.{◌≡◌, pos, int_le, FitsSigned, Bool, true, ◌&&◌, ap, ◌∙◌, rules}
use Rattle.std.specs.Int.{w128}
use Rattle.std.proofs.lemmas.Int.{to_z-of_z}
use Rattle.fixed_num.proofs.Bounds.{within_mul, within_number, within_between, fits128, fits_wider}
use Rattle.xsect_tables.proofs.FirstLemmas.{above}
use Rattle.xsect_tables.specs.NormalFlow.{celerity_of}
use Rattle.conduit_flow.specs.Limits.{is_fast as fast_of}
use Rattle.conduit_flow.proofs.limits.is_fast.Goals as goal

second : {a x b : Bool} → a ≡ true → x ≡ b → x ≡ (a && b)
second e f = rw e f

pub returns : goal.returns
unfolding fast_of
returns c =
    let test = simp (to_z-of_z, c.ranges.area) at c.if-area-le0.false in
    let some = above c.args.area (pos 0) test in
    let product = fits128 (within_mul c.requires.q (within_number 1_000_000)) tt in
    let quotient : FitsSigned w128 c.quo.result = search rules in
    let q = simp (to_z-of_z, c.ranges.q, product, c.ranges.area, fits_wider _ c.ranges.area) at c.quo.ensures.value in
    let reached = simp (to_z-of_z, c.ranges.area, c.ranges.width, quotient) at c.reaches_celerity.ensures in
    second some (reached ∙ ap (int_le (celerity_of c.args.area c.args.width)) q)
