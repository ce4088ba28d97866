use Rattle.std.proofs.Common.{◌∙◌, ap}
use Rattle.inp_lines.proofs.NameLemmas.{naming_is}
use Rattle.inp_lines.specs.Names.{naming_by}
use Rattle.inp_lines.specs.Numbers.{numbers_of}
use Rattle.inp_lines.proofs.names.naming_at.Goals as goal

pub returns : goal.returns
returns c = λ held more same count. c.naming_with.ensures ∙ (ap (λ b. naming_by b c.args.count) c.is_known.ensures ∙ naming_is (numbers_of c.args.names.now) held more c.args.count c.args.name.now same count)
