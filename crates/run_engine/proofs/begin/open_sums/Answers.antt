use Rattle.std.proofs.Common.{ap, subst, sym}
use Rattle.summaries.specs.Figures.{AreFigures}
use Rattle.run_engine.specs.Kept.{AreSumsOf}
use Rattle.run_engine.specs.States.{RunState}
use Rattle.run_engine.proofs.StateLemmas.{state_none}
use Rattle.run_engine.proofs.SumsLemmas.{new_sums}
use Rattle.run_engine.proofs.begin.open_sums.Goals as goal

pub add_state-requires-clause-sums : goal.add_state-requires-clause-sums
add_state-requires-clause-sums c =
    let made = c.in_ok-sums.ensures in
    subst (AreSumsOf c.args.start.now 0) (sym made.value) (new_sums c.args.start.now (subst AreFigures made.value made.figures))

pub add_state-requires-clause-moment : goal.add_state-requires-clause-moment
add_state-requires-clause-moment c = sym (ap (λ (s : RunState). s.moment) (state_none c.args.start.now))
