use Rattle.inp_lines.specs.Sections.{section_of_key}
use Rattle.inp_lines.proofs.section.section_of_key.Goals as goal

pub returns : goal.returns
unfolding section_of_key
returns c = c.find_section.ensures
