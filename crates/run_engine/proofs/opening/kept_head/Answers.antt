use Rattle.std.proofs.Common.{rules, ◌≡◌, ◌∙◌, false, sym, ap, ℤ, FitsSigned, w64}
use Rattle.std.specs.Int.{int_min}
use Rattle.std.proofs.lemmas.Int.{to_z-of_z}
use Rattle.fixed_num.specs.Ranges.{cut_of}
use Rattle.node_update.specs.NodeLaws.{is_outfall_rule}
use Rattle.run_engine.proofs.opening.kept_head.Goals as goal

pub returns : goal.returns
unfolding cut_of
returns c =
    let least : FitsSigned w64 c.min.result = search rules in
    let most : FitsSigned w64 c.max.result = search rules in
    let invert : FitsSigned w64 c.args.law.now.invert = search rules in
    let top : FitsSigned w64 c.args.law.now.top = search rules in
    let high = simp (to_z-of_z, c.ranges.head, invert) at c.max.ensures.value in
    let low = simp (to_z-of_z, most, top) at c.min.ensures.value in
    let other : is_outfall_rule c.args.law.now.rule ≡ false = sym c.is_outfall.ensures ∙ c.if-is_outfall.false in
    rw other (to_z-of_z w64 _ least ∙ low ∙ ap (λ (z : ℤ). int_min z c.args.law.now.top) high)
