use Rattle.std.proofs.Common.{arith}
use Rattle.hotstart.proofs.WriteLemmas.{links_more, links_fault, links_all}
use Rattle.hotstart.proofs.write.put_links.Goals as goal

pub loop-link-preserved : goal.loop-link-preserved
loop-link-preserved g c =
    links_more _ _ _ _ _ _ c.args.flows.now c.args.settings.now c.loop-link.link c.loop-link-test.true c.requires c.loop-link.invariant
    c.in-Ok.ensures.bytes c.in-Ok.ensures.cause.kept

pub returns-in-Err-clause-bytes : goal.returns-in-Err-clause-bytes
returns-in-Err-clause-bytes g c =
    links_fault _ _ _ c.args.flows.now c.args.settings.now c.loop-link.link c.loop-link-test.true c.requires c.loop-link.invariant.front c.in-Err.ensures.bytes

pub returns-clause-bytes : goal.returns-clause-bytes
returns-clause-bytes g c = links_all _ _ c.args.flows.now c.args.settings.now c.loop-link.link (omega arith) c.requires c.loop-link.invariant.front
