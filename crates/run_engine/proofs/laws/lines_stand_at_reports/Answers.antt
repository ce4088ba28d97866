use Rattle.run_engine.proofs.LineLaws.{line_law}
use Rattle.run_engine.proofs.laws.lines_stand_at_reports.Goals as goal

pub returns : goal.returns
returns c = line_law
