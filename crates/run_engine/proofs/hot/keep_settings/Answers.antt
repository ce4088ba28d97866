use Rattle.std.proofs.Common.{◌∙◌, arith, pos}
use Rattle.phase_law.specs.declared.values.LinkFixed.{LinkFixed}
use Rattle.trial_model.specs.Start.{no_link}
use Rattle.run_engine.proofs.FillLemmas.{filled_all, mapped}
use Rattle.run_engine.proofs.hot.keep_settings.Goals as goal

pub returns : goal.returns
returns c =
    filled_all c.loop-l.invariant _ c.requires (omega (arith, c.loop-l-test.false))
    ∙ mapped (λ (link : LinkFixed). link.setting) c.args.links.now no_link (pos 0)
