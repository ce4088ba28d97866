-- The form of the words: which word is the value of which place or option (source: this project's profile, as clap
-- reads a command with three required places and three options that take one value each).
use Rattle.std.specs.Prelude.{ℕ, ◌==◌, ◌&&◌, Bool, true, not, if◌then◌else◌, List, [], ◌∷◌}
use Rattle.std.specs.Prelude.{◌++◌, Option, Some, None, codes}
use Rattle.std.specs.List.{find, list_all, list_any, before_first, after_first}
use Rattle.std.specs.Option.{option_map, option_and_then}
use Rattle.std.specs.Str.{bytes_eq}

-- the places, in their order
abbrev pub places : List (List ℕ)
places = codes "mode" ∷ codes "first" ∷ codes "second" ∷ []

-- the options, each of which takes one value
abbrev pub options : List (List ℕ)
options = codes "threads" ∷ codes "hot-in" ∷ codes "hot-out" ∷ []

abbrev pub is_option : List ℕ → Bool
is_option name = list_any (λ option. bytes_eq option name) options

-- what a word looks like: `--`; `--name` or `--name=value`; another that begins with a dash (45) and goes on; any other
pub data Word : Type 0 where
  end : Word
  option : List ℕ → Option (List ℕ) → Word
  dashed : Word
  plain : Word

-- two dashes and this: the name goes to the first `=` (61), the value is what follows it
abbrev pub long_word : List ℕ → Word
long_word [] = end
long_word (b ∷ bs) =
    option (before_first (λ x. x == 61) (b ∷ bs))
    (if list_any (λ x. x == 61) (b ∷ bs) then Some (after_first (λ x. x == 61) (b ∷ bs)) else None)

abbrev pub word_of : List ℕ → Word
word_of [] = plain
word_of (b ∷ []) = plain
word_of (b ∷ c ∷ rest) = if b == 45 then (if c == 45 then long_word rest else dashed) else plain

-- the name of a place or an option, and its value
abbrev pub Given : Type 0
Given = List ℕ × List ℕ

abbrev pub with_given : List ℕ → List ℕ → Option (List Given) → Option (List Given)
with_given name value = option_map (λ rest. (name, value) ∷ rest)

-- after `--` each word takes the next of the places that are left
abbrev pub placed : List (List ℕ) → List (List ℕ) → Option (List Given)
placed [] left = Some []
placed (word ∷ words) [] = None
placed (word ∷ words) (place ∷ left) = with_given place word (placed words left)

-- what the words after one give, by the option that waits for its value, if any, and the places that are left
abbrev pub After : Type 0
After = Option (List ℕ) → List (List ℕ) → Option (List Given)

-- the word is the value of the option that waits for one
abbrev pub as_value : List ℕ → Word → List ℕ → List (List ℕ) → After → Option (List Given)
as_value name plain word left after = with_given name word (after None left)
as_value name _ word left after = None

-- the word takes the next place
abbrev pub in_place : List ℕ → List (List ℕ) → After → Option (List Given)
in_place word [] after = None
in_place word (place ∷ left) after = with_given place word (after None left)

-- the word names an option, with its value or without
abbrev pub by_option : List ℕ → Option (List ℕ) → List (List ℕ) → After → Option (List Given)
by_option name (Some value) left after = with_given name value (after None left)
by_option name None left after = after (Some name) left

abbrev pub by_word : Word → List ℕ → List (List ℕ) → List (List ℕ) → After → Option (List Given)
by_word end word words left after = placed words left
by_word (option name value) word words left after = if is_option name then by_option name value left after else None
by_word dashed word words left after = None
by_word plain word words left after = in_place word left after

-- what the words give, in their order, where an option waits for its value or none does, and these places are left
unfoldable pub given : List (List ℕ) → After
given [] None left = Some []
given [] (Some name) left = None
given (word ∷ words) None left = by_word (word_of word) word words left (given words)
given (word ∷ words) (Some name) left = as_value name (word_of word) word left (given words)

abbrev pub has : List ℕ → List Given → Bool
has name = list_any (λ g. bytes_eq g.0 name)

-- no name stands a second time, among these or those before them
abbrev pub are_new : List Given → List Given → Bool
are_new before [] = true
are_new before (g ∷ rest) = not (has g.0 before) && are_new (before ++ g ∷ []) rest

abbrev pub has_places : List Given → Bool
has_places gs = list_all (λ place. has place gs) places

-- what the words give, where each place has a word and nothing is given twice
abbrev pub given_by : List (List ℕ) → Option (List Given)
given_by words =
    option_and_then (λ gs. if are_new [] gs && has_places gs then Some gs else None) (given words None places)

-- the value of a name
abbrev pub value_of : List ℕ → List Given → Option (List ℕ)
value_of name gs = option_map (λ g. g.1) (find (λ g. bytes_eq g.0 name) gs)
