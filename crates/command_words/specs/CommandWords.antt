-- The commands, and the words that they are read from (source: this project's profile).
--
--     run INP RPT [--threads N] [--hot-in F] [--hot-out F]
--     check INP RPT
--     demo N RPT [--threads N]
use Rattle.std.specs.Prelude.{ℕ, ◌==◌, ◌&&◌, Bool, true, false, not, if◌then◌else◌, List, [], ◌∷◌}
use Rattle.std.specs.Prelude.{length, nat_le, Option, Some, None, is_some, codes}
use Rattle.std.specs.Char.{is_ascii_digit}
use Rattle.std.specs.List.{list_all}
use Rattle.std.specs.Option.{option_map, option_map_or, option_and_then}
use Rattle.std.specs.Str.{bytes_eq, is_utf8}
use Rattle.std.specs.Str.Parse.{digits_value}
use Rattle.command_words.specs.declared.command.Command.{Command}
use Rattle.command_words.specs.declared.command.Task.TheVariants.{Run, Check, Demo}
use Rattle.command_words.specs.Words.{Given, given_by, value_of}

-- the values of the options, where they are given
pub record Values : Type 0 where
  pub threads : Option (List ℕ)
  pub hot_in : Option (List ℕ)
  pub hot_out : Option (List ℕ)

-- a file's name isn't empty, and isn't `-` (45) alone
abbrev pub is_name : List ℕ → Bool
is_name [] = false
is_name (b ∷ []) = not (b == 45)
is_name (b ∷ c ∷ rest) = true

abbrev pub is_name_if_given : Option (List ℕ) → Bool
is_name_if_given name = option_map_or is_name name true

-- the number that a text is: one to `most` digits, with a value from `low` to `high`
abbrev pub number_in : ℕ → ℕ → ℕ → List ℕ → Option ℕ
number_in most low high text =
    let value = digits_value 10 text in
    if (nat_le 1 (length text) && nat_le (length text) most)
    && (list_all is_ascii_digit text && (nat_le low value && nat_le value high))
    then Some value else None

-- the number of workers, where one is given; it is one or two digits with a value from 1 to 16
abbrev pub workers_of : Option (List ℕ) → Option (Option ℕ)
workers_of None = Some None
workers_of (Some text) = option_map (λ number. Some number) (number_in 2 1 16 text)

abbrev pub has_no_hotstart : Values → Bool
has_no_hotstart values = not (is_some values.hot_in) && not (is_some values.hot_out)

-- `run INP RPT`: any of the options
abbrev pub run_of : List ℕ → List ℕ → Values → Option Command
run_of inp rpt values =
    if (is_name inp && is_name rpt) && (is_name_if_given values.hot_in && is_name_if_given values.hot_out)
    then option_map (λ threads.
    record { task = Run inp values.hot_in values.hot_out; rpt = rpt; threads = threads }) (workers_of values.threads)
    else None

-- `check INP RPT`: no option
abbrev pub check_of : List ℕ → List ℕ → Values → Option Command
check_of inp rpt values =
    if (is_name inp && is_name rpt) && (not (is_some values.threads) && has_no_hotstart values)
    then Some (record { task = Check inp; rpt = rpt; threads = None })
    else None

-- `demo N RPT`: `--threads` alone; N is one to ten digits with a value below 2^32
abbrev pub demo_of : List ℕ → List ℕ → Values → Option Command
demo_of digits rpt values =
    if is_name rpt && has_no_hotstart values
    then option_and_then (λ number. option_map (λ threads.
    record { task = Demo number; rpt = rpt; threads = threads }) (workers_of values.threads))
    (number_in 10 0 4294967295 digits)
    else None

-- the command of a mode, the words at the two places after it and the values of the options
abbrev pub command_with : List ℕ → List ℕ → List ℕ → Values → Option Command
command_with mode first second values =
    if bytes_eq mode (codes "run") then run_of first second values
    else (if bytes_eq mode (codes "check") then check_of first second values
    else (if bytes_eq mode (codes "demo") then demo_of first second values
    else None))

abbrev pub command_of_values : Option (List ℕ) → Option (List ℕ) → Option (List ℕ) → Values → Option Command
command_of_values (Some mode) (Some first) (Some second) values = command_with mode first second values
command_of_values _ _ _ values = None

-- the command by the value of each place and option
abbrev pub command_by : (List ℕ → Option (List ℕ)) → Option Command
command_by value =
    command_of_values (value (codes "mode")) (value (codes "first")) (value (codes "second"))
    (record {
      threads = value (codes "threads");
      hot_in = value (codes "hot-in");
      hot_out = value (codes "hot-out");
    })

abbrev pub command_of_given : List Given → Option Command
command_of_given gs = command_by (λ name. value_of name gs)

-- the command that words are, all of them text in UTF-8
unfoldable pub command_of : List (List ℕ) → Option Command
command_of words = if list_all is_utf8 words then option_and_then command_of_given (given_by words) else None
