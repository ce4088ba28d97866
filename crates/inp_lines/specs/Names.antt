use Rattle.std.specs.Prelude.{◌≡◌, ℕ, Bool, List, [], ◌∷◌, ◌++◌, ◌||◌, cond, nat_le, nat_lt, ◌+◌, false}
use Rattle.std.specs.Prelude.{length, bytes_eq, Option, option_to_list, flat_map, Some, None}
use Rattle.std.specs.List.{list_any, position_from}
use Rattle.fixed_num.specs.declared.constants.TheConstants.{RECORD_LIMIT}
use Rattle.inp_lines.specs.declared.line.Line.{Line}
use Rattle.inp_lines.specs.declared.names.Naming.{Naming}
use Rattle.inp_lines.specs.declared.names.Naming.TheVariants as naming

-- Whether a name is among the names defined so far. Source: this project's profile.
abbrev pub is_repeat : List (List ℕ) → List ℕ → Bool
is_repeat held name = list_any (bytes_eq name) held

-- The names defined after one more: a repeated name adds nothing, nor does a name past the limit.
-- Source: this project's profile.
unfoldable pub with_first : List (List ℕ) → List ℕ → List (List ℕ)
with_first held name = cond (is_repeat held name || nat_le RECORD_LIMIT (length held)) held (held ++ name ∷ [])

-- The names defined after a line that may give a name. Source: this project's profile.
abbrev pub with_name : List (List ℕ) → Option (List ℕ) → List (List ℕ)
with_name held None = held
with_name held (Some name) = with_first held name

unfoldable pub firsts_after : List (List ℕ) → List (List ℕ) → List (List ℕ)
firsts_after held [] = held
firsts_after held (name ∷ names) = firsts_after (with_first held name) names

-- The names that a list of names defines, each once, in the order of its first place.
-- Source: this project's profile.
abbrev pub firsts : List (List ℕ) → List (List ℕ)
firsts names = firsts_after [] names

-- The names that lines give, in order, repeated ones too. Source: this project's profile.
abbrev pub names_of : (Line → Option (List ℕ)) → List Line → List (List ℕ)
names_of name_of lines = flat_map (λ line. option_to_list (name_of line)) lines

-- The names that lines define. Source: this project's profile.
abbrev pub defined : (Line → Option (List ℕ)) → List Line → List (List ℕ)
defined name_of lines = firsts (names_of name_of lines)

-- The number of a name: its place among the names. Source: this project's profile.
abbrev pub number_in : List (List ℕ) → List ℕ → Option ℕ
number_in names name = position_from (bytes_eq name) 0 names

-- How a name stands: known, or new where there are `count` names. Source: this project's profile.
abbrev pub naming_by : Bool → ℕ → Naming
naming_by known count = cond known naming.Repeated (cond (nat_le RECORD_LIMIT count) naming.OverLimit naming.First)

-- How a name stands to the names defined so far. Source: this project's profile.
abbrev pub naming_among : List (List ℕ) → List ℕ → Naming
naming_among held name = naming_by (is_repeat held name) (length held)

-- How the name that a line gives stands to the names that the lines before it define.
-- A line without a name is as one with a new name. Source: this project's profile.
abbrev pub naming_of : List (List ℕ) → Option (List ℕ) → Naming
naming_of held None = naming.First
naming_of held (Some name) = naming_among held name

-- What defining a name does: where a list of names was numbered, as many as were counted, the list that `next`
-- makes of it is numbered then, as many as are counted then. Source: this project's profile.
abbrev pub Defines : (old new : List ℕ → Option ℕ) → (count more : ℕ) → (List (List ℕ) → List (List ℕ)) → Type 0
Defines old new count more next = (held : List (List ℕ)) → old ≡ number_in held → length held ≡ count
    → (new ≡ number_in (next held)) × (length (next held) ≡ more)

-- How a name stands to the first so many of the names that are numbered. Source: this project's profile.
abbrev pub StandsTo : (List ℕ → Option ℕ) → ℕ → Naming → (List (List ℕ) → Naming) → Type 0
StandsTo numbers count found standing = (held more : List (List ℕ)) → numbers ≡ number_in (held ++ more)
    → length held ≡ count → found ≡ standing held

-- Whether a number is below a bound. Source: this project's profile.
abbrev pub is_below : Option ℕ → ℕ → Bool
is_below None bound = false
is_below (Some number) bound = nat_lt number bound

-- The count of names after a line that may give a name, by how the name stands. Source: this project's profile.
abbrev pub count_with : Naming → ℕ → ℕ
count_with naming.First count = cond (nat_lt count RECORD_LIMIT) (count + 1) count
count_with naming.Repeated count = count
count_with naming.OverLimit count = count

abbrev pub count_after : Option (List ℕ) → Naming → ℕ → ℕ
count_after None standing count = count
count_after (Some name) standing count = count_with standing count
