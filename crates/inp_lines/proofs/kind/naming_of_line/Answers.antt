use Rattle.std.proofs.Common.{◌∙◌, ap, sym, option_map}
use Rattle.inp_lines.specs.Names.{naming_of}
use Rattle.inp_lines.proofs.kind.naming_of_line.Goals as goal

pub returns-in-Some : goal.returns-in-Some
returns-in-Some g c = λ held more same count.
    c.naming_at.ensures held more same count ∙ ap (λ o. naming_of held o) (ap (λ r. option_map (λ n. n.now) r) (sym c.in-Some.is) ∙ c.name.ensures)
