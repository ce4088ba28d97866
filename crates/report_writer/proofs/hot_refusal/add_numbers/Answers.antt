-- The parts are added in their order.
use Rattle.report_port.proofs.Chain.{◌⨾◌, no_more}
use Rattle.report_writer.proofs.hot_refusal.add_numbers.Goals as goal

pub returns : goal.returns
returns g c = c.add.ensures ⨾ c.add-2.ensures ⨾ c.add-3.ensures ⨾ c.add_number.ensures ⨾ c.add-4.ensures ⨾ c.add_number-2.ensures ⨾ c.add-5.ensures ⨾ no_more
