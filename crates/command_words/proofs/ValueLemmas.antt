-- The command of the rows that clap finds.
use Rattle.std.proofs.Common.{◌≡◌, ◌∙◌, Bool, true, false, refl, sym, ap, List, [], ◌∷◌, map, find, Option, Some, None, unwrap_or, if◌then◌else◌, option_map, option_and_then, bytes_eq, is_some, slice_get, true≢false}
use Rattle.std.specs.List.{list_all}
use Rattle.std.specs.Str.{is_utf8}
use Rattle.clap.specs.Matches.{first_value}
use Rattle.clap.specs.Walk.{Row, Text, first_of, rows_of}
use Rattle.clap.specs.declared.parser.matches.Found.{Found}
use Rattle.clap.proofs.WalkLemmas.{first_value-rows}
use Rattle.command_words.specs.ClapLine.{row}
use Rattle.command_words.specs.CommandWords.{command_by, command_of, command_of_given}
use Rattle.command_words.specs.Words.{Given, given_by, value_of}

value-rows : (name : Text) (gs : List Given) → first_of name (map row gs) ≡ value_of name gs
value-rows name [] = refl
value-rows name (g ∷ gs) = go (bytes_eq g.0 name) (value-rows name gs)
  where
    go : (b : Bool) → first_of name (map row gs) ≡ value_of name gs
        → option_and_then (λ (r : Row). slice_get r.values 0) (if b then Some (row g) else find (λ r. bytes_eq r.id name) (map row gs))
        ≡ option_map (λ (h : Given). h.1) (if b then Some g else find (λ h. bytes_eq h.0 name) gs)
    go true next = refl
    go false next = next

by_rows : (f : Found) (gs : List Given) → rows_of f ≡ map row gs → command_by (first_value f) ≡ command_of_given gs
by_rows f gs is i = command_by (λ name. (first_value-rows f name ∙ ap (first_of name) is ∙ value-rows name gs) i)

by_given : (f : Found) (o : Option (List Given)) → Some (rows_of f) ≡ option_map (map row) o → command_by (first_value f) ≡ option_and_then command_of_given o
by_given f None is = absurd (true≢false (ap is_some is))
by_given f (Some gs) is = by_rows f gs (ap (λ o. unwrap_or o []) is)

-- where clap finds rows, their command is that of the words
pub command_found : (words : List Text) (f : Found) → list_all is_utf8 words ≡ true → Some (rows_of f) ≡ option_map (map row) (given_by words)
    → command_by (first_value f) ≡ command_of words
unfolding command_of
command_found words f u is =
    by_given f (given_by words) is ∙ sym (ap (λ b. if b then option_and_then command_of_given (given_by words) else None) u)

none_given : (o : Option (List Given)) → None ≡ option_map (map row) o → None ≡ option_and_then command_of_given o
none_given None is = refl
none_given (Some gs) is = absurd (true≢false (sym (ap is_some is)))

-- where it finds none, the words are no command
pub no_command : (words : List Text) → list_all is_utf8 words ≡ true → None ≡ option_map (map row) (given_by words) → None ≡ command_of words
unfolding command_of
no_command words u is =
    none_given (given_by words) is ∙ sym (ap (λ b. if b then option_and_then command_of_given (given_by words) else None) u)
