use Rattle.std.proofs.Common.{◌<◌, ◌≤◌, length, subst, List, ℕ}
use Rattle.inp_reader.proofs.TitleLemmas.{title_added, title_full, title_same}
use Rattle.inp_reader.proofs.title.add_title.Goals as goal

pub returns-in_ok-push-in-Title-clause-title : goal.returns-in_ok-push-in-Title-clause-title
returns-in_ok-push-in-Title-clause-title c =
    title_added c.args.line.now c.args.title.now c.push.new.self c.in_ok-title_text-in-Title.field-0 c.in-Title.is
    (subst (λ (l : List (List ℕ)). length l < 3) c.as_slice.ensures c.if-as_slice-lt3.true) c.in_ok-title_text-in-Title.ensures c.in_ok-push-in-Title.ensures.ok

pub returns-else-as_slice-lt3-clause-title : goal.returns-else-as_slice-lt3-clause-title
returns-else-as_slice-lt3-clause-title c = title_full c.args.line.now c.args.title.now c.requires (subst (λ (l : List (List ℕ)). 3 ≤ length l) c.as_slice.ensures c.if-as_slice-lt3.false)

pub returns-in_default : goal.returns-in_default
returns-in_default c = record { title = title_same c.args.line.now c.args.title.now c.in_default.not-Title c.requires; short = c.requires }
