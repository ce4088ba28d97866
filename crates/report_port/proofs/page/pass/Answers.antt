use Rattle.report_port.proofs.PageLemmas.{page_was_put, passes_after}
use Rattle.report_port.proofs.page.pass.Goals as goal

pub returns-in-Ok-clause-bytes : goal.returns-in-Ok-clause-bytes
returns-in-Ok-clause-bytes g c =
    let same = rw c.if-takes.false at c.takes.ensures in
    let put = page_was_put _ _ _ _ c.in-Ok.ensures.emptied c.in-Ok.ensures.bytes in
    passes_after _ _ _ _ _ _ _ (rw same at put) c.pass_on.ensures.bytes
