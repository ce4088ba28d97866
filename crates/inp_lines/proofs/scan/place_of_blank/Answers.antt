use Rattle.std.proofs.Common.{◌∙◌, ap, length}
use Rattle.std.specs.Option.{unwrap_or}
use Rattle.inp_lines.specs.Tokens.{is_blank}
use Rattle.inp_lines.proofs.ScanLemmas.{place_is}
use Rattle.inp_lines.proofs.scan.place_of_blank.Goals as goal

pub returns-clause-place : goal.returns-clause-place
returns-clause-place c = c.unwrap_or.ensures ∙ (ap (λ found. unwrap_or found (length c.args.text.now)) c.find_blank.ensures ∙ place_is is_blank c.args.text.now)
