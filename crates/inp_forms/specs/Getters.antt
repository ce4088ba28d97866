-- The values of a line by their places, of the sort that a form has there.
use Rattle.std.specs.Prelude.{ℕ, ℤ, pos, Bool, true, false, List, get_or, Option, Some, None}
use Rattle.inp_forms.specs.declared.item.Value.{Value}
use Rattle.inp_forms.specs.declared.item.Value.TheVariants.{Nothing, Amount, Index, Choice, Switch}
use Rattle.inp_forms.specs.declared.words.Keyword.{Keyword}
use Rattle.inp_forms.specs.declared.words.Keyword.TheVariants as keyword

abbrev pub amount_of : Value → ℤ
amount_of Nothing = pos 0
amount_of (Amount amount) = amount
amount_of (Index index) = pos 0
amount_of (Choice found) = pos 0
amount_of (Switch on) = pos 0

abbrev pub index_or_nothing : Value → Option ℕ
index_or_nothing Nothing = None
index_or_nothing (Amount amount) = None
index_or_nothing (Index index) = Some index
index_or_nothing (Choice found) = None
index_or_nothing (Switch on) = None

abbrev pub index_of : Value → ℕ
index_of Nothing = 0
index_of (Amount amount) = 0
index_of (Index index) = index
index_of (Choice found) = 0
index_of (Switch on) = 0

abbrev pub choice_of : Value → Option Keyword
choice_of Nothing = None
choice_of (Amount amount) = None
choice_of (Index index) = None
choice_of (Choice found) = Some found
choice_of (Switch on) = None

abbrev pub is_on_word : Keyword → Bool
is_on_word keyword.On = true
is_on_word _ = false

abbrev pub on_of : Value → Bool
on_of Nothing = false
on_of (Amount amount) = false
on_of (Index index) = false
on_of (Choice found) = is_on_word found
on_of (Switch on) = on

abbrev pub value_at : List Value → ℕ → Value
value_at values place = get_or values place Nothing

-- a number as it is stored
abbrev pub amount_at : List Value → ℕ → ℤ
amount_at values place = amount_of (value_at values place)

-- the number of an object
abbrev pub index_at : List Value → ℕ → ℕ
index_at values place = index_of (value_at values place)

-- the number of an object that there may be
abbrev pub index_or_none : List Value → ℕ → Option ℕ
index_or_none values place = index_or_nothing (value_at values place)

-- YES, or ON
abbrev pub is_on : List Value → ℕ → Bool
is_on values place = on_of (value_at values place)

-- a keyword
abbrev pub choice_at : List Value → ℕ → Option Keyword
choice_at values place = choice_of (value_at values place)
