use Rattle.std.proofs.Common.{FitsSigned, rules}
use Rattle.std.specs.Int.{w64}
use Rattle.std.proofs.lemmas.Int.{to_z-of_z}
use Rattle.infiltration.specs.Horton.{horton_opening}
use Rattle.infiltration.proofs.horton.HortonCurve.opening.Goals as goal

pub returns-then-self-gt0 : goal.returns-then-self-gt0
unfolding horton_opening
returns-then-self-gt0 c =
    let volume : FitsSigned w64 c.args.self.now.volume = search rules in
    let above : FitsSigned w64 c.args.state.above = search rules in
    let fits : FitsSigned w64 c.min.result = search rules in
    let test = simp (to_z-of_z, volume) at c.if-self-gt0.true in
    let m = simp (to_z-of_z, volume, above) at c.min.ensures.value in
    simp (to_z-of_z, fits, test) (cc m)

pub returns : goal.returns
unfolding horton_opening
returns c =
    let volume : FitsSigned w64 c.args.self.now.volume = search rules in
    let test = simp (to_z-of_z, volume) at c.if-self-gt0.false in
    simp test
