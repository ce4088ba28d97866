use Rattle.project_check.specs.ProjectFaults.{link_faults}
use Rattle.std.proofs.Common.{◌++◌, take, flat_map}
use Rattle.project_check.proofs.CutLemmas.{cut_room, faults_none, faults_more}
use Rattle.project_check.proofs.links.check_links.Goals as goal

pub loop-link-init : goal.loop-link-init
loop-link-init c = faults_none link_faults c.args.faults.now c.args.links.now c.requires.room

pub check_link-requires-clause-room : goal.check_link-requires-clause-room
check_link-requires-clause-room c = cut_room c.loop-link.faults (c.args.faults.now ++ flat_map link_faults (take c.loop-link.link-index c.args.links.now)) c.loop-link.invariant

pub loop-link-preserved : goal.loop-link-preserved
loop-link-preserved c =
    faults_more link_faults c.args.faults.now c.args.links.now c.loop-link.link-index c.link-item.result c.loop-link.faults c.check_link.new.faults
    c.loop-link-test.true c.link-item.is c.loop-link.invariant c.in_ok-check_link.ensures
