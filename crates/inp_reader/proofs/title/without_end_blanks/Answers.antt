use Rattle.std.proofs.Common.{◌∙◌, not, sym}
use Rattle.inp_lines.specs.Tokens.{is_blank}
use Rattle.inp_reader.proofs.TitleLemmas.{end_kept}
use Rattle.inp_reader.proofs.title.without_end_blanks.Goals as goal

pub returns-in-Some : goal.returns-in-Some
returns-in-Some c = end_kept (λ byte. not (is_blank byte)) c.args.text.now c.in-Some.blanks (sym c.find_last_word.ensures ∙ c.in-Some.is)
