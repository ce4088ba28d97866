use Rattle.std.proofs.Common.{◌≡◌, ◌++◌, ◌<◌, length, take, ap, sym, ◌∙◌, arith}
use Rattle.std.specs.List.{range_with_len}
use Rattle.std.proofs.lemmas.List.{get_or_default}
use Rattle.net_types.specs.declared.network.Node.{Node}
use Rattle.net_types.specs.Records.{no_node, node_at}
use Rattle.project_check.specs.Ends.{ends_of, node_ends_at}
use Rattle.project_check.specs.Objects.{node_fault}
use Rattle.project_check.specs.ProjectFaults.{fault_if, node_faults}
use Rattle.project_check.proofs.CutLemmas.{cut_room, faults_none, faults_more, faults_all, number_is, numbers_are}
use Rattle.project_check.proofs.nodes.check_nodes.Goals as goal

pub loop-n-init : goal.loop-n-init
loop-n-init c = record {
  room = c.requires.room;
  made = λ project nodes each. faults_none (node_faults project) c.args.faults.now (range_with_len 0 (length c.args.nodes.now)) c.requires.room;
}

pub loop-n-preserved : goal.loop-n-preserved
loop-n-preserved c =
    let n = c.loop-n.n in
    let count = length c.args.nodes.now in
    record {
      room = cut_room c.check_node.new.faults _ c.in_ok-check_node.ensures;
      made = λ project nodes each.
          let node : c.index-nodes-n.result ≡ node_at project.nodes n =
          c.index-nodes-n.is ∙ (get_or_default c.args.nodes.now n c.index-nodes-n.result no_node c.loop-n-test.true ∙ ap (λ l. node_at l n) (sym nodes)) in
          let here = each n c.loop-n-test.true in
          faults_more (node_faults project) c.args.faults.now (range_with_len 0 count) n n c.loop-n.faults c.check_node.new.faults
          (omega (arith, numbers_are count)) (number_is count n c.loop-n-test.true) (c.loop-n.invariant.made project nodes each) (rw (node, here) at c.in_ok-check_node.ensures);
    }

pub returns : goal.returns
returns c project nodes each =
    let count = length c.args.nodes.now in
    faults_all (node_faults project) c.args.faults.now (range_with_len 0 count) c.loop-n.n c.loop-n.faults (omega (arith, numbers_are count)) (c.loop-n.invariant.made project nodes each)
