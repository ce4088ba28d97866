-- Where no step was made since the last line, there is none.
use Rattle.std.proofs.Common.{◌∙◌, sym}
use Rattle.report_port.proofs.Chain.{no_more}
use Rattle.run_engine.proofs.output.add_last_line.Goals as goal

pub returns-then-is_empty : goal.returns-then-is_empty
returns-then-is_empty g c = rw (sym c.is_empty.ensures ∙ c.if-is_empty.true) no_more

pub returns : goal.returns
returns g c = rw (sym c.is_empty.ensures ∙ c.if-is_empty.false) (simp c.total.ensures.value at c.add_step_line.ensures)
