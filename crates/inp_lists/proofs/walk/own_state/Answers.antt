use Rattle.std.proofs.Common.{◌∙◌, sym}
use Rattle.inp_lists.proofs.HoldingLemmas.{state_missing, state_there}
use Rattle.inp_lists.proofs.walk.own_state.Goals as goal

pub returns-in-Some : goal.returns-in-Some
returns-in-Some g c = λ lines holds are. c.state_at.ensures ∙ state_there (g.C.Chain.form c.args.chain.now) c.args.held.now lines c.args.name.now c.in-Some.number c.no_lines.result holds (sym c.in-Some.ensures)

pub returns-in-None : goal.returns-in-None
returns-in-None g c = λ lines holds are. c.no_lines-in-None.ensures ∙ state_missing (g.C.Chain.form c.args.chain.now) c.args.held.now lines c.args.name.now holds are (sym c.in-None.ensures)
