use Rattle.std.proofs.Common.{sym, subst}
use Rattle.std.proofs.lemmas.Int.{to_z-of_z}
use Rattle.continuity.specs.StepOf.{IsBelowTops}
use Rattle.link_eval.specs.Good.{IsGood}
use Rattle.link_eval.specs.Hydraulics.{hydraulics_of}
use Rattle.run_engine.proofs.StepLemmas.{end_is, next_is, next_tops}
use Rattle.run_engine.proofs.step.make_step.Goals as goal

pub returns-clause-nets : goal.returns-clause-nets
returns-clause-nets c =
    let ready = simp (to_z-of_z, c.ranges.dt, c.ranges.finish) at c.prepare.ensures.nets in
    next_is c.args.start.now c.args.finish c.args.dt c.args.nets.now c.args.law.now.hydraulics _ _ _ c.requires.law ready c.step_alone.ensures.value c.step_alone.ensures.nets

pub returns-clause-end : goal.returns-clause-end
returns-clause-end c =
    let ready = simp (to_z-of_z, c.ranges.dt, c.ranges.finish) at c.prepare.ensures.nets in
    end_is c.args.start.now c.args.finish c.args.dt c.args.nets.now c.args.law.now.hydraulics _ c.step_alone.new.nets _ c.requires.law ready c.step_alone.ensures.value

pub returns-clause-tops : goal.returns-clause-tops
returns-clause-tops c =
    let good = subst IsGood c.requires.law c.args.law.now.good in
    subst (IsBelowTops (hydraulics_of c.args.start.now.project)) (sym (returns-clause-nets c)) (next_tops c.args.start.now c.args.finish c.args.dt c.args.nets.now good c.requires.tops)
