-- YES and NO (User's Manual, section [OPTIONS]).
use Rattle.std.specs.Prelude.{ℕ, Bool, true, false, if◌then◌else◌, List, codes}
use Rattle.std.specs.declared.option.Option.{Option}
use Rattle.std.specs.declared.option.Option.TheVariants.{None, Some}
use Rattle.inp_values.specs.Words.{same_word}

-- what the two words say, and nothing for every other text
abbrev pub switch_of : List ℕ → Option Bool
switch_of text =
    if same_word text (codes "YES") then Some true
    else (if same_word text (codes "NO") then Some false else None)
