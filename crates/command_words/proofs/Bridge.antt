-- From clap's clauses to the definition: the words are accepted just where they are, and with the same rows.
use Rattle.std.proofs.Common.{◌≡◌, ◌∙◌, ◌⊎◌, true, false, refl, sym, ap, List, [], ◌∷◌, map, Option, Some, None, option_map, inl, inr}
use Rattle.std.proofs.lemmas.Bool.{and_parts}
use Rattle.std.specs.List.{list_all}
use Rattle.std.specs.Str.{is_utf8}
use Rattle.clap.specs.Faults.{fault_of}
use Rattle.clap.specs.Kinds.{IsAmong, Kinds}
use Rattle.clap.specs.Simple.{App, matches_of}
use Rattle.clap.specs.Walk.{Row, Text, nothing_held}
use Rattle.clap.specs.declared.error.kind.ErrorKind.{ErrorKind}
use Rattle.clap.specs.declared.error.kind.ErrorKind.TheVariants.{OutOfMemory}
use Rattle.clap.proofs.FaultLemmas.{leaf_fault}
use Rattle.command_words.specs.ClapLine.{line_app, row}
use Rattle.command_words.specs.Words.{given, given_by, places, word_of}
use Rattle.command_words.proofs.Looks.{looks}
use Rattle.command_words.proofs.Rules.{at_first, built_app}
use Rattle.command_words.proofs.States.{as_accepted, outcome-none, outcome_of_all, pass}
use Rattle.command_words.proofs.Turns.{Goes, GoesWaiting, idle_turn, waiting_turn, waits_at_end}
use Rattle.command_words.proofs.States.{at_end}
use Rattle.clap.specs.Walk as clap

-- each state of the walk comes to what the definition says
goes_on : (xs : List Text) → list_all is_utf8 xs ≡ true → Goes xs × GoesWaiting xs
unfolding given
goes_on [] u = (
  λ done last k left known at. at_end done last known clap.idle k false,
  λ done name k left finds at. waits_at_end done name finds (clap.option name) k false ∙ sym (outcome-none done None),
)
goes_on (x ∷ xs) u =
    let parts = and_parts (is_utf8 x) (list_all is_utf8 xs) u in
    let rest = goes_on xs parts.1 in
    let look = looks x parts.0 in (
      λ done last k left known at. idle_turn x xs (word_of x) look rest.0 rest.1 done last k left known at,
      λ done name k left finds at. waiting_turn x xs (word_of x) look rest.0 done name k left finds at,
    )

-- the rows that clap finds where it finds no fault
abbrev found_by : App → List Text → Option (List Row)
found_by app words = pass (fault_of app words) (Some (matches_of app words))

bridge : (words : List Text) → list_all is_utf8 words ≡ true → found_by line_app words ≡ option_map (map row) (given_by words)
bridge words u =
    ap (λ f. pass f (Some (matches_of line_app words))) (leaf_fault built_app nothing_held words refl)
    ∙ as_accepted words ∙ (goes_on words u).0 [] None 1 places tt at_first ∙ outcome_of_all (given words None places)

pub ok_gives : (app : App) (words : List Text) (found : List Row) → app ≡ line_app → list_all is_utf8 words ≡ true → fault_of app words ≡ []
    → found ≡ matches_of app words → Some found ≡ option_map (map row) (given_by words)
ok_gives app words found is u none rows =
    ap Some rows ∙ sym (ap (λ f. pass f (Some (matches_of app words))) none) ∙ ap (λ a. found_by a words) is ∙ bridge words u

some_fault : (kinds : Kinds) (k : ErrorKind) (o : Option (List Row)) → IsAmong k kinds → pass kinds o ≡ None
some_fault [] k o among = absurd among
some_fault (x ∷ xs) k o among = refl

pub err_gives : (app : App) (words : List Text) (k : ErrorKind) → app ≡ line_app → list_all is_utf8 words ≡ true → (k ≡ OutOfMemory → ⊥)
    → (k ≡ OutOfMemory) ⊎ IsAmong k (fault_of app words) → None ≡ option_map (map row) (given_by words)
err_gives app words k is u other (inl memory) = absurd (other memory)
err_gives app words k is u other (inr among) =
    sym (some_fault (fault_of app words) k (Some (matches_of app words)) among) ∙ ap (λ a. found_by a words) is ∙ bridge words u
