use Rattle.inp_lines.proofs.MergeLemmas.{merged_sections}
use Rattle.inp_lines.proofs.laws.merges_in_line_order.Goals as goal

pub returns : goal.returns
returns c = merged_sections
