-- After a failure a front of the text was put, and so a front of each text that begins with it.
use Rattle.report_port.proofs.StandLemmas.{ends_stopped, part_stopped}
use Rattle.report_port.proofs.report.Report.end.Goals as goal

pub returns-then-self-clause-part : goal.returns-then-self-clause-part
returns-then-self-clause-part g c part rest is none =
    let stands = c.flush_parts.ensures.stands _ _ _ c.args.self.now.stands in
    part_stopped _ _ _ _ _ _ _ is (stands.stopped c.if-self.true)

pub returns-then-self-clause-bytes : goal.returns-then-self-clause-bytes
returns-then-self-clause-bytes g c =
    let stands = c.flush_parts.ensures.stands _ _ _ c.args.self.now.stands in
    ends_stopped _ _ _ _ _ (stands.stopped c.if-self.true)
