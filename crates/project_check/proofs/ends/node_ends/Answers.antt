use Rattle.std.proofs.Common.{◌*◌, ◌^◌, ◌∙◌, length, ap, sym, subst, pos}
use Rattle.fixed_num.specs.Ranges.{IsBetween}
use Rattle.project_check.specs.declared.ends.NodeEnds.{NodeEnds}
use Rattle.project_check.specs.Ends.{node_ends_at}
use Rattle.project_check.proofs.EndsLemmas.{highest_in, written_whole}
use Rattle.project_check.proofs.ends.node_ends.Goals as goal

pub returns-clause-tops : goal.returns-clause-tops
returns-clause-tops c n =
    let whole = written_whole c.in_ok-list.list c.add_links.new.ends (c.add_links.auto.ends ∙ ap length c.as_mut_slice-ends.ensures.value) in
    rw whole
    (rw (c.add_links.ensures n, c.as_slice-2.ensures) (highest_in n c.args.project.now.links c.requires.ranges.links))
