use Rattle.project_check.specs.ProjectFaults.{sub_faults}
use Rattle.std.proofs.Common.{◌++◌, take, flat_map}
use Rattle.project_check.proofs.CutLemmas.{cut_room, faults_none, faults_more}
use Rattle.project_check.proofs.subs.check_subs.Goals as goal

pub loop-sub-init : goal.loop-sub-init
loop-sub-init c = faults_none sub_faults c.args.faults.now c.args.subs.now c.requires.room

pub check_sub-requires : goal.check_sub-requires
check_sub-requires c = record { room = cut_room c.loop-sub.faults (c.args.faults.now ++ flat_map sub_faults (take c.loop-sub.sub-index c.args.subs.now)) c.loop-sub.invariant }

pub loop-sub-preserved : goal.loop-sub-preserved
loop-sub-preserved c =
    faults_more sub_faults c.args.faults.now c.args.subs.now c.loop-sub.sub-index c.sub-item.result c.loop-sub.faults c.check_sub.new.faults
    c.loop-sub-test.true c.sub-item.is c.loop-sub.invariant c.in_ok-check_sub.ensures
