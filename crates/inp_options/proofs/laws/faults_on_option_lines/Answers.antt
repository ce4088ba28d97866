use Rattle.inp_options.proofs.LineLemmas.{on_option_lines}
use Rattle.inp_options.proofs.laws.faults_on_option_lines.Goals as goal

pub returns : goal.returns
returns c = on_option_lines
