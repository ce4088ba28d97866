-- The command of what clap finds is that of the words.
use Rattle.std.proofs.Common.{◌∙◌, sym, ap, option_map}
use Rattle.std.proofs.lemmas.Result.{IfOk-weaker}
use Rattle.clap.specs.Walk.{rows_of, texts}
use Rattle.clap.specs.Words.{found_of}
use Rattle.clap.specs.declared.parser.matches.ArgMatches.{ArgMatches}
use Rattle.command_words.proofs.ValueLemmas.{command_found, no_command}
use Rattle.command_words.proofs.read.read_texts.Goals as goal

pub returns-in-Some : goal.returns-in-Some
returns-in-Some c =
    let is = sym (ap (option_map (λ (m : ArgMatches). rows_of (found_of m))) c.in-Some.is) ∙ c.in_ok-matches.ensures in
    IfOk-weaker c.command_by_values.result _ _
    (λ command by. by ∙ command_found (texts c.args.words.now) (found_of c.in-Some.matches) c.requires is) c.command_by_values.ensures

pub returns-in-None : goal.returns-in-None
returns-in-None c =
    no_command (texts c.args.words.now) c.requires
    (sym (ap (option_map (λ (m : ArgMatches). rows_of (found_of m))) c.in-None.is) ∙ c.in_ok-matches.ensures)
