use Rattle.std.proofs.Common.{◌≡◌, ◌∙◌, ap, sym, map, take}
use Rattle.std.specs.Char.{to_ascii_lowercase}
use Rattle.std.specs.Str.{bytes_eq}
use Rattle.std.proofs.lemmas.Slice.Eq.{bytes_eq-Decides}
use Rattle.std.proofs.lemmas.Bool.Decides.{same_from_decides}
use Rattle.inp_lines.proofs.section.is_key_of.Goals as goal

pub returns : goal.returns
returns c =
    let lower = map to_ascii_lowercase in
    let same = ap lower c.first_four.ensures in
    let key = lower c.args.key.now in
    let name = lower (take 4 c.args.name.now) in
    let test = c.eq_ignore_ascii_case.ensures.test in
    same_from_decides {P = key ≡ name} _ (bytes_eq key name) ((λ yes. test.0 yes ∙ same), (λ is. test.1 (is ∙ sym same))) (bytes_eq-Decides key name)
