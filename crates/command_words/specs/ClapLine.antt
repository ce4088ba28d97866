-- Words of the contracts within this crate: the form of the words as a command of clap.
use Rattle.std.specs.Prelude.{ℕ, true, List, [], ◌∷◌, ◌++◌, map, fold, Some, None, codes}
use Rattle.clap.specs.Words.{App, Row, Rule, new_app, new_rule, with_rule}
use Rattle.clap.specs.Simple.{on_top}
use Rattle.clap.specs.declared.builder.value_parser.Reading.TheVariants as reading
use Rattle.clap.specs.declared.parser.matches.ValueSource.TheVariants.{CommandLine}
use Rattle.command_words.specs.Words.{Given, options, places}

-- a place that a word must take
abbrev pub place_rule : List ℕ → Rule
place_rule id = record (new_rule id) { required = true }

-- an option that takes one value
abbrev pub option_rule : List ℕ → Rule
option_rule name = record (new_rule name) { long = Some name }

-- the words begin with no program's name, and there are no flags for help and version
abbrev pub bare_app : App
bare_app = on_top (λ s. record s { no_binary_name = true; disable_help_flag = true; disable_version_flag = true })
    (new_app (codes "swmm5_fx"))

abbrev pub line_app : App
line_app = fold with_rule bare_app (map place_rule places ++ map option_rule options)

-- what clap finds for a name that is given
abbrev pub row : Given → Row
row g = record {
  id = g.0;
  values = g.1 ∷ [];
  count = None;
  source = Some CommandLine;
  reading = reading.AsWritten;
}
