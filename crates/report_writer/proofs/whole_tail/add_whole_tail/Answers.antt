-- The parts are added in their order.
use Rattle.report_port.proofs.Chain.{◌⨾◌}
use Rattle.report_writer.specs.WholeTail.{whole_tail_of}
use Rattle.report_writer.proofs.whole_tail.add_whole_tail.Goals as goal

pub returns : goal.returns
unfolding whole_tail_of
returns g c = c.add_continuity.ensures ⨾ c.add_nodes.ensures ⨾ c.add_floods.ensures ⨾ c.add_outfalls.ensures ⨾ c.add_links.ensures ⨾ c.add_subs.ensures ⨾ c.add_runoff.ensures ⨾ c.add_counts.ensures
