-- What clap finds is what the definition says.
use Rattle.std.proofs.Common.{ap, ◌∙◌}
use Rattle.clap.specs.Faults.{is_simple_and_free}
use Rattle.clap.specs.Simple.{is_simple}
use Rattle.command_words.proofs.Bridge.{err_gives, ok_gives}
use Rattle.command_words.proofs.Rules.{line_is_simple}
use Rattle.command_words.proofs.line.find.Goals as goal

pub returns-in-Ok : goal.returns-in-Ok
returns-in-Ok c =
    let app = c.in_ok-command_line.ensures in
    ok_gives _ _ _ app c.requires (c.in-Ok.ensures.kinds (ap is_simple_and_free app ∙ line_is_simple))
    (c.in-Ok.ensures.matches (ap is_simple app)).0

pub returns : goal.returns
returns c =
    let app = c.in_ok-command_line.ensures in
    let kinds = c.in-Err.ensures.kinds (ap is_simple_and_free app ∙ line_is_simple) in
    err_gives _ _ _ app c.requires (λ memory. c.in_default.not-OutOfMemory (c.kind.ensures ∙ memory)) kinds
