use Rattle.std.proofs.Common.{◌≡◌, map, drop}
use Rattle.inp_lines.specs.Sections.{first_section}
use Rattle.inp_lines.proofs.section.find_section.Given as goal

abbrev pub invariant-loop-name : goal.invariant-loop-name
invariant-loop-name l = first_section (map (λ entry. (entry.0.now, entry.1)) (drop l.name-index l.table)) l.key ≡ first_section (map (λ entry. (entry.0.now, entry.1)) l.table) l.key
