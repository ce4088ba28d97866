use Rattle.std.proofs.Common.{◌∙◌, ap, refl, Some}
use Rattle.std.specs.Option.{option_map}
use Rattle.inp_lines.specs.Sections.{named_section, section_of_key, key_of, behind_bracket}
use Rattle.inp_lines.specs.Tokens.{without_blanks, before_comment}
use Rattle.inp_lines.proofs.SectionLemmas.{bracket_same, bracket_there, bracket_missing}
use Rattle.inp_lines.proofs.section.section_of.Goals as goal

pub returns-in-Some-clause-section : goal.returns-in-Some-clause-section
unfolding named_section
returns-in-Some-clause-section c =
    let text = c.without_blanks.ensures ∙ ap without_blanks c.before_comment.ensures in
    ap Some (c.section_of_key.ensures ∙ ap section_of_key c.key_of.ensures)
    ∙ ap (λ found. option_map (λ bytes. section_of_key (key_of bytes)) found) (c.in-Some.ensures ∙ ap behind_bracket text)

pub returns-in-Some-clause-bracket : goal.returns-in-Some-clause-bracket
returns-in-Some-clause-bracket c =
    let text = c.without_blanks.ensures ∙ ap without_blanks c.before_comment.ensures in
    ((λ _. (bracket_same c.args.line.now).0 (bracket_there (without_blanks (before_comment c.args.line.now)) _ (c.in-Some.ensures ∙ ap behind_bracket text))), (λ _. refl))

pub returns-in-None-clause-section : goal.returns-in-None-clause-section
unfolding named_section
returns-in-None-clause-section c =
    let text = c.without_blanks.ensures ∙ ap without_blanks c.before_comment.ensures in
    ap (λ found. option_map (λ bytes. section_of_key (key_of bytes)) found) (c.in-None.ensures ∙ ap behind_bracket text)

pub returns-in-None-clause-bracket : goal.returns-in-None-clause-bracket
returns-in-None-clause-bracket c =
    let text = c.without_blanks.ensures ∙ ap without_blanks c.before_comment.ensures in
    ((λ no. cc), (λ is. absurd (bracket_missing (without_blanks (before_comment c.args.line.now)) (c.in-None.ensures ∙ ap behind_bracket text) ((bracket_same c.args.line.now).1 is))))
