-- A hotstart that isn't good is reported.
use Rattle.std.proofs.Common.{subst}
use Rattle.swmm_top.proofs.LeavesLemmas.{leaves_report}
use Rattle.swmm_top.specs.Answers.{Leaves}
use Rattle.swmm_top.specs.Outcome.{begun}
use Rattle.swmm_top.specs.declared.status.Status.TheVariants.{Refused}
use Rattle.swmm_top.proofs.run.run_read.Goals as goal

pub returns-in-Err-clause-outcome : goal.returns-in-Err-clause-outcome
returns-in-Err-clause-outcome g c =
    subst
    (λ r. Leaves (begun c.args.keeps c.args.project r) (g.W.Sink.held c.args.rpt.now) (g.W.Sink.held c.put_hot_refusal.new.to)
    (g.K.Sink.held c.args.hot_out.now) (g.K.Sink.held c.args.hot_out.now) c.ended.result) c.in-Err.ensures
    (leaves_report Refused _ _ _ _ _ _ c.put_hot_refusal.ensures.bytes c.ended.ensures.done c.ended.ensures.failed)
