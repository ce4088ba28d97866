-- Words of the contracts within this crate: the options as the code holds them.
use Rattle.std.specs.Option.{option_map}
use Rattle.command_words.specs.declared.modes.Options.{Options}
use Rattle.command_words.specs.CommandWords.{Values}

-- the values of the options, as the bytes themselves
abbrev pub values_of : Options → Values
values_of options = record {
  threads = option_map (λ text. text.now) options.threads;
  hot_in = option_map (λ text. text.now) options.hot_in;
  hot_out = option_map (λ text. text.now) options.hot_out;
}
