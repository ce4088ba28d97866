use Rattle.std.proofs.Common.{◌∙◌, ap, length}
use Rattle.std.specs.Bool.{◌==◌}
use Rattle.std.specs.Option.{unwrap_or}
use Rattle.inp_lines.proofs.ScanLemmas.{place_is}
use Rattle.inp_lines.proofs.scan.place_of.Goals as goal

pub returns-clause-place : goal.returns-clause-place
returns-clause-place c = c.unwrap_or.ensures ∙ (ap (λ found. unwrap_or found (length c.args.text.now)) c.find_byte.ensures ∙ place_is (λ other. other == c.args.byte) c.args.text.now)
