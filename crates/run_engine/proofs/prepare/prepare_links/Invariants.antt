use Rattle.fixed_num.specs.Lists.{number}
use Rattle.trial_model.specs.Start.{no_link}
use Rattle.run_engine.specs.States.{link_start}
use Rattle.run_engine.proofs.FillLemmas.{Filled}
use Rattle.run_engine.proofs.prepare.prepare_links.Given as goal

abbrev pub invariant-loop-link : goal.invariant-loop-link
invariant-loop-link l =
    Filled (λ k. link_start l.law.hydraulics l.heads l.flows (number l.settings k) l.dt k) no_link l.initial.links l.links l.link
