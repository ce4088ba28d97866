-- Each fault of a file has its line.
use Rattle.report_writer.specs.HotRefusal.{hot_refusal_report}
use Rattle.report_writer.proofs.hot_refusal.add_hot_refusal.Goals as goal

pub returns-in-Kind : goal.returns-in-Kind
unfolding hot_refusal_report
returns-in-Kind g c = rw c.in-Kind.is c.add_numbers-in-Kind.ensures

pub returns-in-BadValue : goal.returns-in-BadValue
unfolding hot_refusal_report
returns-in-BadValue g c = rw c.in-BadValue.is c.add_place-in-BadValue.ensures

pub returns-in-GoesOn : goal.returns-in-GoesOn
unfolding hot_refusal_report
returns-in-GoesOn g c = rw c.in-GoesOn.is c.add_place-in-GoesOn.ensures
