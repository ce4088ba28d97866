-- One word of each look, where no option waits for its value and where one does.
use Rattle.std.proofs.Common.{◌≡◌, ◌∙◌, ◌+◌, ◌&&◌, ◌||◌, ℕ, Bool, true, false, min, refl, sym, ap, ap₂, List, [], ◌∷◌, Option, Some, None, if◌then◌else◌, bytes_eq, length, nat_lt, suc}
use Rattle.std.specs.Option.{option_map_or}
use Rattle.clap.specs.Faults.{bundle_fault, bundle_step_fault, flag_word_fault, flags_fault, long_fault, other_fault, positional_fault, settle_fault, step_fault, use_fault, word_fault}
use Rattle.clap.specs.Kinds.{Kinds, or_else}
use Rattle.clap.specs.Lexer.{long_of, short_of, usize_max}
use Rattle.clap.specs.Walk as clap
use Rattle.clap.specs.Walk.{Held, Row, Rule, Step, Text, Waiting, Walk, after_flag, after_step, arg_by_id, is_pending, long_met, long_or_other, option_word, pushed, settled, settled_rows, short_or_plain, subcommand_met, subcommand_or_other, to_positional, used, word_met}
use Rattle.clap.specs.declared.error.kind.ErrorKind.TheVariants as kind
use Rattle.command_words.specs.Words as words
use Rattle.command_words.specs.Words.{Given, Word, as_value, by_option, by_word, given, is_option, placed}
use Rattle.command_words.proofs.Looks.{HasFlag, Looks, two_dashes}
use Rattle.command_words.proofs.Rules.{AtPlaces, FindsOption, finds_option, no_option, option_is_known, option_named, place_at, rules, shape}
use Rattle.command_words.proofs.States.{IsKnownLast, accepted, after, at_end, at_fault, at_last, at_turn, before, closed, held, outcome, outcome-none, pass, pass-or, pending, rows, settle_then, use_then, walk_at}

-- no word is a subcommand
no_subcommand : (waiting : Waiting) (x : Text) → subcommand_met [] waiting x ≡ None
no_subcommand clap.idle x = refl
no_subcommand (clap.option name) x = refl
no_subcommand clap.positional x = refl

module _ (waiting : Waiting) (x : Text) (h : Held) (dashes : Bool) (long : Option (Text × Option Text)) (is_end : bytes_eq x two_dashes ≡ dashes) (is_long : long_of x ≡ long) where
  met : (k : ℕ) → word_met rules [] false waiting k x h ≡ (if dashes then (h, clap.trailing k) else long_or_other rules waiting x long h)
  met k =
      ap (λ o. subcommand_or_other rules o waiting k x h) (no_subcommand waiting x)
      ∙ ap₂ (λ (b : Bool) (l : Option (Text × Option Text)). if b then (h, clap.trailing k) else long_or_other rules waiting x l h) is_end is_long

  fault : word_fault shape [] false waiting x h ≡ (if dashes then [] else flag_word_fault rules false long x h)
  fault =
      ap (λ o. other_fault shape o x h) (no_subcommand waiting x)
      ∙ ap₂ (λ (b : Bool) (l : Option (Text × Option Text)). if b then [] else flag_word_fault rules false l x h) is_end is_long

module _ (waiting : Waiting) (x : Text) (h : Held) (is_end : bytes_eq x two_dashes ≡ false) (is_long : long_of x ≡ None) where
  plain_met : (k : ℕ) → short_of x ≡ None → word_met rules [] false waiting k x h ≡ clap.plain_word rules waiting x h
  plain_met k is_short = met waiting x h false None is_end is_long k ∙ ap (λ o. short_or_plain rules waiting x o h) is_short

  plain_fault : short_of x ≡ None → word_fault shape [] false waiting x h ≡ []
  plain_fault is_short =
      fault waiting x h false None is_end is_long ∙ ap (λ o. option_map_or (λ flags. bundle_fault rules false flags h) o []) is_short

  -- no rule has a short name, so a flag of one dash is unknown
  dash_fault : h.skip ≡ 0 → HasFlag x → word_fault shape [] false waiting x h ≡ kind.UnknownArgument ∷ []
  unfolding flags_fault
  dash_fault none flag =
      fault waiting x h false None is_end is_long ∙ ap (λ o. option_map_or (λ flags. bundle_fault rules false flags h) o []) flag.short
      ∙ ap (λ n. flags_fault rules false (suc (length flag.rest)) (flag.byte ∷ flag.rest) n (record h { skip = 0 })) none
      ∙ ap (λ o. bundle_step_fault rules false o (flag.byte ∷ flag.rest) 0 (record h { skip = 0 }) (flags_fault rules false (length flag.rest))) flag.first

-- ---- places

-- a word takes the next place
to_place : (done : List Given) (last : Option Given) → IsKnownLast last → (k : ℕ) (place : Text) (left : List Text) → AtPlaces k (place ∷ left)
    → (t : Bool) (x : Text) (xs : List Text) (rest : Option (List Given))
    → accepted (walk_at (rows (after done last)) (pending (Some (place, x))) clap.idle (min (k + 1) usize_max) (t || false)) xs
    ≡ outcome (after done last) (before (Some (place, x)) rest)
    → pass (step_fault shape k (held (rows done) (pending last)) clap.value)
    (accepted (after_step rules x (walk_at (rows done) (pending last) clap.idle k t) (held (rows done) (pending last)) clap.value) xs)
    ≡ outcome done (before last (before (Some (place, x)) rest))
to_place done last known k place left at t x xs rest next =
    let h = held (rows done) (pending last) in
    ap (λ o. pass (option_map_or (λ a. positional_fault rules false a h) o (kind.UnknownArgument ∷ []))
    (accepted (to_positional rules o x (walk_at (rows done) (pending last) clap.idle k t) h) xs)) at.0
    ∙ go (is_pending (place_at place k) (pending last))
    ∙ settle_then done last known (before (Some (place, x)) rest) (λ found. accepted (walk_at found (Some (place, x ∷ [])) clap.idle (min (k + 1) usize_max) (t || false)) xs) next
  where
    go : (b : Bool) → pass (if b && false then [] else settle_fault rules false (held (rows done) (pending last)))
        (accepted (record {
          held = pushed place x (if b && false then held (rows done) (pending last) else settled rules (held (rows done) (pending last)));
          waiting = clap.idle;
          position = min (k + 1) usize_max;
          is_trailing = t || false;
          stopped = None;
        }) xs)
        ≡ pass (settle_fault rules false (held (rows done) (pending last)))
        (accepted (walk_at (settled_rows rules (pending last) (rows done)) (Some (place, x ∷ [])) clap.idle (min (k + 1) usize_max) (t || false)) xs)
    go true = refl
    go false = refl

-- no place is left
no_place : (found : List Row) (waits : Option (Text × List Text)) (waiting : Waiting) (k : ℕ) → AtPlaces k [] → (t : Bool) (x : Text) (xs : List Text)
    → pass (step_fault shape k (held found waits) clap.value) (accepted (after_step rules x (walk_at found waits waiting k t) (held found waits) clap.value) xs)
    ≡ None
no_place found waits waiting k at t x xs =
    ap (λ o. pass (option_map_or (λ a. positional_fault rules false a (held found waits)) o (kind.UnknownArgument ∷ []))
    (accepted (to_positional rules o x (walk_at found waits waiting k t) (held found waits)) xs)) at

-- the words after `--`
trails : (xs : List Text) (done : List Given) (last : Option Given) (k : ℕ) (left : List Text) → IsKnownLast last → AtPlaces k left
    → accepted (walk_at (rows done) (pending last) clap.idle k true) xs ≡ outcome done (before last (placed xs left))
trails [] done last k left known at = at_end done last known clap.idle k true
trails (x ∷ xs) done last k [] known at =
    at_turn (rows done) (pending last) clap.idle k true x xs [] (held (rows done) (pending last)) clap.value refl refl
    ∙ no_place (rows done) (pending last) clap.idle k at true x xs ∙ sym (outcome-none done last)
trails (x ∷ xs) done last k (place ∷ left) known at =
    at_turn (rows done) (pending last) clap.idle k true x xs [] (held (rows done) (pending last)) clap.value refl refl
    ∙ to_place done last known k place left at true x xs (placed xs left) (trails xs (after done last) (Some (place, x)) (min (k + 1) usize_max) left at.1 at.2)

-- ---- no option waits

-- from a state between two words on
abbrev pub Goes : List Text → Type 0
Goes xs = (done : List Given) (last : Option Given) (k : ℕ) (left : List Text) → IsKnownLast last → AtPlaces k left
    → accepted (walk_at (rows done) (pending last) clap.idle k false) xs ≡ outcome done (before last (given xs None left))

-- the same, where an option waits for its value
abbrev pub GoesWaiting : List Text → Type 0
GoesWaiting xs = (done : List Given) (name : Text) (k : ℕ) (left : List Text) → FindsOption name → AtPlaces k left
    → accepted (walk_at (rows done) (Some (name, [])) (clap.option name) k false) xs ≡ outcome done (given xs (Some name) left)

module _ (x : Text) (xs : List Text) (goes : Goes xs) (goes_waiting : GoesWaiting xs) (done : List Given) (last : Option Given) (k : ℕ) (left : List Text) (known : IsKnownLast last) (at : AtPlaces k left) where
  -- the state's own words
  abbrev h : Held
  h = held (rows done) (pending last)

  known_option : (name : Text) (value : Option Text) → bytes_eq x two_dashes ≡ false → long_of x ≡ Some (name, value) → FindsOption name
      → accepted (walk_at (rows done) (pending last) clap.idle k false) (x ∷ xs) ≡ outcome done (before last (by_option name value left (given xs)))
  known_option name (Some value) is_end is_long finds =
      at_turn (rows done) (pending last) clap.idle k false x xs (or_else (settle_fault rules false h) (use_fault false (option_named name) (value ∷ []) (settled rules h).rows))
      (held (used (option_named name) (value ∷ []) (settled rules h).rows) None) (clap.next clap.idle)
      (fault clap.idle x h false (Some (name, Some value)) is_end is_long ∙ ap (λ o. long_fault rules false o (Some value) h) finds.by_long)
      (met clap.idle x h false (Some (name, Some value)) is_end is_long k
      ∙ ap (λ o. after_flag rules clap.idle x (long_met rules o (Some value) h).0 (long_met rules o (Some value) h).1) finds.by_long)
      ∙ pass-or (settle_fault rules false h) (use_fault false (option_named name) (value ∷ []) (settled rules h).rows) _
      ∙ settle_then done last known (before (Some (name, value)) (given xs None left))
      (λ found. pass (use_fault false (option_named name) (value ∷ []) found) (accepted (walk_at (used (option_named name) (value ∷ []) found) None clap.idle k false) xs))
      (use_then (after done last) (name, value) (Some name) None false (given xs None left) (λ found. accepted (walk_at found None clap.idle k false) xs)
      (goes (after (after done last) (Some (name, value))) None k left tt at))
  known_option name None is_end is_long finds =
      at_turn (rows done) (pending last) clap.idle k false x xs (settle_fault rules false h)
      (held (settled rules h).rows (Some (name, []))) (clap.next (clap.option name))
      (fault clap.idle x h false (Some (name, None)) is_end is_long ∙ ap (λ o. long_fault rules false o None h) finds.by_long)
      (met clap.idle x h false (Some (name, None)) is_end is_long k
      ∙ ap (λ o. after_flag rules clap.idle x (long_met rules o None h).0 (long_met rules o None h).1) finds.by_long)
      ∙ settle_then done last known (given xs (Some name) left)
      (λ found. accepted (walk_at found (Some (name, [])) (clap.option name) k false) xs)
      (goes_waiting (after done last) name k left finds at)

  any_option : (name : Text) (value : Option Text) → bytes_eq x two_dashes ≡ false → long_of x ≡ Some (name, value) → (b : Bool) → is_option name ≡ b
      → accepted (walk_at (rows done) (pending last) clap.idle k false) (x ∷ xs)
      ≡ outcome done (before last (if b then by_option name value left (given xs) else None))
  any_option name value is_end is_long true is = known_option name value is_end is_long (finds_option name is)
  any_option name value is_end is_long false is =
      at_fault (rows done) (pending last) clap.idle k false x xs kind.UnknownArgument []
      (fault clap.idle x h false (Some (name, value)) is_end is_long ∙ ap (λ o. long_fault rules false o value h) (no_option name is))
      ∙ sym (outcome-none done last)

  plain_step : bytes_eq x two_dashes ≡ false → long_of x ≡ None → short_of x ≡ None
      → accepted (walk_at (rows done) (pending last) clap.idle k false) (x ∷ xs)
      ≡ pass (step_fault shape k h clap.value) (accepted (after_step rules x (walk_at (rows done) (pending last) clap.idle k false) h clap.value) xs)
  plain_step is_end is_long is_short =
      at_turn (rows done) (pending last) clap.idle k false x xs [] h clap.value (plain_fault clap.idle x h is_end is_long is_short)
      (plain_met clap.idle x h is_end is_long k is_short)

-- a word at a place, where places are left or not
plain_turn : (x : Text) (xs : List Text) → Goes xs → GoesWaiting xs → (done : List Given) (last : Option Given) (k : ℕ) (left : List Text) → IsKnownLast last → AtPlaces k left
    → bytes_eq x two_dashes ≡ false → long_of x ≡ None → short_of x ≡ None
    → accepted (walk_at (rows done) (pending last) clap.idle k false) (x ∷ xs) ≡ outcome done (before last (words.in_place x left (given xs)))
plain_turn x xs goes goes_waiting done last k [] known at is_end is_long is_short =
    plain_step x xs goes goes_waiting done last k [] known at is_end is_long is_short
    ∙ no_place (rows done) (pending last) clap.idle k at false x xs ∙ sym (outcome-none done last)
plain_turn x xs goes goes_waiting done last k (place ∷ left) known at is_end is_long is_short =
    plain_step x xs goes goes_waiting done last k (place ∷ left) known at is_end is_long is_short
    ∙ to_place done last known k place left at false x xs (given xs None left) (goes (after done last) (Some (place, x)) (min (k + 1) usize_max) left at.1 at.2)

pub idle_turn : (x : Text) (xs : List Text) (word : Word) → Looks x word → Goes xs → GoesWaiting xs
    → (done : List Given) (last : Option Given) (k : ℕ) (left : List Text) → IsKnownLast last → AtPlaces k left
    → accepted (walk_at (rows done) (pending last) clap.idle k false) (x ∷ xs) ≡ outcome done (before last (by_word word x xs left (given xs)))
idle_turn x xs words.end look goes goes_waiting done last k left known at =
    at_turn (rows done) (pending last) clap.idle k false x xs [] (held (rows done) (pending last)) (clap.trailing k)
    (fault clap.idle x (held (rows done) (pending last)) true (long_of x) look refl) (met clap.idle x (held (rows done) (pending last)) true (long_of x) look refl k)
    ∙ trails xs done last k left known at
idle_turn x xs (words.option name value) look goes goes_waiting done last k left known at =
    any_option x xs goes goes_waiting done last k left known at name value look.0 look.1 (is_option name) refl
idle_turn x xs words.dashed look goes goes_waiting done last k left known at =
    at_fault (rows done) (pending last) clap.idle k false x xs kind.UnknownArgument []
    (dash_fault clap.idle x (held (rows done) (pending last)) look.0 look.1 refl look.2) ∙ sym (outcome-none done last)
idle_turn x xs words.plain look goes goes_waiting done last k left known at =
    plain_turn x xs goes goes_waiting done last k left known at look.0 look.1 look.2

-- ---- an option waits for its value

module _ (done : List Given) (name : Text) (finds : FindsOption name) where
  -- to settle it without a value is a fault
  no_value : settle_fault rules false (held (rows done) (Some (name, []))) ≡ kind.InvalidValue ∷ []
  no_value = ap (λ (o : Option Rule). option_map_or (λ a. use_fault false a [] (rows done)) o []) finds.by_id

  pub waits_at_end : (waiting : Waiting) (k : ℕ) (t : Bool) → accepted (walk_at (rows done) (Some (name, [])) waiting k t) [] ≡ None
  waits_at_end waiting k t =
      at_last (walk_at (rows done) (Some (name, [])) waiting k t)
      ∙ ap (λ f. pass f (closed (settled_rows rules (Some (name, [])) (rows done)))) no_value

  -- after `--` no value comes
  waits_on : (xs : List Text) (k : ℕ) (left : List Text) → AtPlaces k left → accepted (walk_at (rows done) (Some (name, [])) (clap.option name) k true) xs ≡ None
  waits_on [] k left at = waits_at_end (clap.option name) k true
  waits_on (x ∷ xs) k [] at =
      at_turn (rows done) (Some (name, [])) (clap.option name) k true x xs [] (held (rows done) (Some (name, []))) clap.value refl refl
      ∙ no_place (rows done) (Some (name, [])) (clap.option name) k at true x xs
  waits_on (x ∷ xs) k (place ∷ left) at =
      at_turn (rows done) (Some (name, [])) (clap.option name) k true x xs [] (held (rows done) (Some (name, []))) clap.value refl refl
      ∙ ap (λ o. pass (option_map_or (λ a. positional_fault rules false a (held (rows done) (Some (name, [])))) o (kind.UnknownArgument ∷ []))
      (accepted (to_positional rules o x (walk_at (rows done) (Some (name, [])) (clap.option name) k true) (held (rows done) (Some (name, [])))) xs)) at.0
      ∙ go (is_pending (place_at place k) (Some (name, []))) _
    where
      go : (b : Bool) (o : Option (List Row)) → pass (if b && false then [] else settle_fault rules false (held (rows done) (Some (name, [])))) o ≡ None
      go true o = ap (λ f. pass f o) no_value
      go false o = ap (λ f. pass f o) no_value

  option_fails : (x : Text) (other : Text) (value : Option Text) → bytes_eq x two_dashes ≡ false → long_of x ≡ Some (other, value) → (b : Bool) → is_option other ≡ b
      → (f : _) × (fs : Kinds) × (word_fault shape [] false (clap.option name) x (held (rows done) (Some (name, []))) ≡ f ∷ fs)
  option_fails x other value is_end is_long false is = (
    kind.UnknownArgument,
    [],
    fault (clap.option name) x (held (rows done) (Some (name, []))) false (Some (other, value)) is_end is_long
        ∙ ap (λ o. long_fault rules false o value (held (rows done) (Some (name, [])))) (no_option other is),
  )
  option_fails x other (Some value) is_end is_long true is = (
    kind.InvalidValue,
    [],
    fault (clap.option name) x (held (rows done) (Some (name, []))) false (Some (other, Some value)) is_end is_long
        ∙ ap (λ o. long_fault rules false o (Some value) (held (rows done) (Some (name, [])))) (finds_option other is).by_long
        ∙ ap (λ f. or_else f (use_fault false (option_named other) (value ∷ []) (settled rules (held (rows done) (Some (name, [])))).rows)) no_value,
  )
  option_fails x other None is_end is_long true is = (
    kind.InvalidValue,
    [],
    fault (clap.option name) x (held (rows done) (Some (name, []))) false (Some (other, None)) is_end is_long
        ∙ ap (λ o. long_fault rules false o None (held (rows done) (Some (name, [])))) (finds_option other is).by_long ∙ no_value,
  )

  -- the word is its value
  value_met : (x : Text) (k : ℕ) → bytes_eq x two_dashes ≡ false → long_of x ≡ None → short_of x ≡ None
      → word_met rules [] false (clap.option name) k x (held (rows done) (Some (name, []))) ≡ (held (rows done) (Some (name, x ∷ [])), clap.next clap.idle)
  value_met x k is_end is_long is_short =
      let h = held (rows done) (Some (name, [])) in
      plain_met (clap.option name) x h is_end is_long k is_short
      ∙ ap (λ o. ((option_word o name x h).0, clap.next (option_word o name x h).1)) finds.by_id
      ∙ ap (λ b. (pushed name x h, clap.next (if nat_lt (if b then 1 else 0) 1 then clap.option name else clap.idle))) finds.itself

pub waiting_turn : (x : Text) (xs : List Text) (word : Word) → Looks x word → Goes xs
    → (done : List Given) (name : Text) (k : ℕ) (left : List Text) → FindsOption name → AtPlaces k left
    → accepted (walk_at (rows done) (Some (name, [])) (clap.option name) k false) (x ∷ xs) ≡ outcome done (as_value name word x left (given xs))
waiting_turn x xs words.end look goes done name k left finds at =
    let h = held (rows done) (Some (name, [])) in
    at_turn (rows done) (Some (name, [])) (clap.option name) k false x xs [] h (clap.trailing k)
    (fault (clap.option name) x h true (long_of x) look refl) (met (clap.option name) x h true (long_of x) look refl k)
    ∙ waits_on done name finds xs k left at ∙ sym (outcome-none done None)
waiting_turn x xs (words.option other value) look goes done name k left finds at =
    let said = option_fails done name finds x other value look.0 look.1 (is_option other) refl in
    at_fault (rows done) (Some (name, [])) (clap.option name) k false x xs said.0 said.1 said.2 ∙ sym (outcome-none done None)
waiting_turn x xs words.dashed look goes done name k left finds at =
    at_fault (rows done) (Some (name, [])) (clap.option name) k false x xs kind.UnknownArgument []
    (dash_fault (clap.option name) x (held (rows done) (Some (name, []))) look.0 look.1 refl look.2) ∙ sym (outcome-none done None)
waiting_turn x xs words.plain look goes done name k left finds at =
    at_turn (rows done) (Some (name, [])) (clap.option name) k false x xs [] (held (rows done) (Some (name, x ∷ []))) (clap.next clap.idle)
    (plain_fault (clap.option name) x (held (rows done) (Some (name, []))) look.0 look.1 look.2)
    (value_met done name finds x k look.0 look.1 look.2)
    ∙ goes done (Some (name, x)) k left (option_is_known name finds) at
