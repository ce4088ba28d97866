use Rattle.std.proofs.Common.{[], ◌∙◌, arith}
use Rattle.runoff_states.specs.RunoffStates.{state_at}
use Rattle.run_engine.specs.Hot.{sub_in}
use Rattle.run_engine.proofs.FillLemmas.{filled_all, mapped}
use Rattle.run_engine.proofs.HotLemmas.{no_hot_sub}
use Rattle.run_engine.proofs.hot.keep_subs.Goals as goal

pub returns : goal.returns
returns c =
    filled_all c.loop-place.invariant _ c.requires (omega (arith, c.loop-place-test.false))
    ∙ mapped sub_in c.args.states.now (state_at [] 0) no_hot_sub
