use Rattle.std.proofs.Common.{refl, sym}
use Rattle.inp_lists.proofs.HoldingLemmas.{ok_then, place_known}
use Rattle.inp_lists.proofs.walk.place_of.Goals as goal

pub returns-in-Some : goal.returns-in-Some
returns-in-Some g c = λ lines holds are over. (let two = place_known (g.C.Chain.form c.args.chain.now) c.args.held.now lines c.args.name.now c.in-Some.number holds (sym c.in-Some.ensures) in (two.0, two.1, refl))

pub returns-in-None : goal.returns-in-None
returns-in-None g c = ok_then c.define.result _ _ c.define.ensures (λ place all lines holds are over. all (sym c.in-None.ensures) lines holds are over)
