use Rattle.std.proofs.Common.{rules, arith, ap, ◌∙◌, ◌<◌, length, FitsSigned, w64}
use Rattle.std.proofs.lemmas.Int.{to_z-of_z}
use Rattle.run_engine.proofs.FillLemmas.{filled_all, filled_more}
use Rattle.run_engine.proofs.opening.open_heads.Goals as goal

pub loop-n-preserved : goal.loop-n-preserved
loop-n-preserved c =
    let fits : FitsSigned w64 c.open_head.result = search rules in
    let room : c.loop-n.n < length c.loop-n.heads = omega (arith, c.loop-n.invariant.count, c.requires.heads, c.loop-n-test.true, ap length c.as_slice.ensures) in
    filled_more c.loop-n.invariant _ room (to_z-of_z w64 _ fits ∙ c.open_head.ensures)

pub returns : goal.returns
returns c = filled_all c.loop-n.invariant _ c.requires.heads (omega (arith, c.loop-n-test.false, ap length c.as_slice.ensures))
