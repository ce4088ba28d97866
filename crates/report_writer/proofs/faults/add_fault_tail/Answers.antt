-- The parts are added in their order.
use Rattle.report_port.proofs.Chain.{◌⨾◌}
use Rattle.report_writer.proofs.faults.add_fault_tail.Goals as goal

pub returns : goal.returns
returns g c = (c.add.ensures ⨾ (simp c.fault_words.ensures at c.add-2.ensures)) ⨾ (c.add_after_blank.ensures ⨾ c.add-3.ensures)
