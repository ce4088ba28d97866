-- A parse as clap defines it, from any state of its walk over the words, and what a state comes to.
use Rattle.std.proofs.Common.{◌≡◌, ◌∙◌, ◌&&◌, ◌||◌, ℕ, Bool, true, false, not, refl, sym, ap, ap₂, true≢false, List, [], ◌∷◌, ◌++◌, map, fold, find, Option, Some, None, if◌then◌else◌, option_map, option_and_then, append_assoc, append-nil, bytes_eq, codes}
use Rattle.std.proofs.lemmas.List.{map-append}
use Rattle.std.specs.Option.{option_map_or}
use Rattle.clap.specs.Facts.{explicit_source}
use Rattle.clap.specs.Faults.{check_fault, defaults_fault, default_fault, given_default_fault, level_fault, settle_fault, step_fault, turn_fault, use_fault, walk_fault, word_fault}
use Rattle.clap.specs.Kinds.{Kinds, check_kinds, or_else}
use Rattle.clap.specs.Takes.{is_given}
use Rattle.clap.specs.Walk.{finished, idle, nothing_held, rows_after, settled, walk, walk_from}
use Rattle.clap.specs.Walk.{Held, Row, Rule, Step, Text, Waiting, Walk, after_step, at_row, default_rows, has_row, is_empty, more_values, reading_by, settled_rows, used, used_by_id, walked, with_default, with_values, word_met}
use Rattle.clap.specs.declared.builder.value_parser.Reading.TheVariants as reading
use Rattle.clap.specs.declared.parser.matches.ValueSource.TheVariants.{CommandLine}
use Rattle.clap.specs.declared.error.kind.ErrorKind.TheVariants as kind
use Rattle.command_words.specs.ClapLine.{row}
use Rattle.command_words.specs.Words.{Given, are_new, has, has_places}
use Rattle.command_words.proofs.Rules.{IsKnown, rule, rules, shape}

abbrev pub rows : List Given → List Row
rows = map row

-- ---- what stands between two words

abbrev pub held : List Row → Option (Text × List Text) → Held
held found waits = record { rows = found; pending = waits; skip = 0 }

abbrev pub walk_at : List Row → Option (Text × List Text) → Waiting → ℕ → Bool → Walk
walk_at found waits waiting k is_trailing =
    record { held = held found waits; waiting = waiting; position = k; is_trailing = is_trailing; stopped = None }

-- the name and value that were read last, which clap checks with the next word
abbrev pub pending : Option Given → Option (Text × List Text)
pending last = option_map (λ g. (g.0, g.1 ∷ [])) last

abbrev pub IsKnownLast : Option Given → Type 0
IsKnownLast None = Unit {0}
IsKnownLast (Some g) = IsKnown g.0

abbrev pub after : List Given → Option Given → List Given
after done None = done
after done (Some g) = done ++ g ∷ []

abbrev pub before : Option Given → Option (List Given) → Option (List Given)
before None rest = rest
before (Some g) rest = option_map (λ gs. g ∷ gs) rest

-- ---- what is accepted

-- this, where there is no fault
abbrev pub pass : {A : Type 0} → Kinds → Option A → Option A
pass [] o = o
pass (k ∷ ks) o = None

pub pass-or : {A : Type 0} (a b : Kinds) (o : Option A) → pass (or_else a b) o ≡ pass a (pass b o)
pass-or [] b o = refl
pass-or (k ∷ ks) b o = refl

-- the rows at the end, once the last value is settled
pub closed : List Row → Option (List Row)
closed found =
    pass (defaults_fault found rules)
    (pass (check_fault shape (fold with_default found rules) false) (Some (fold with_default found rules)))

-- the rows that a walk ends with, where nothing from here on is a fault
pub accepted : Walk → List Text → Option (List Row)
accepted w words =
    pass (walk_fault shape [] w words)
    (pass (settle_fault rules false (fold (walked rules []) w words).held)
    (closed (settled_rows rules (fold (walked rules []) w words).held.pending (fold (walked rules []) w words).held.rows)))

-- one more word
accepted-cons : (w : Walk) (x : Text) (xs : List Text) → accepted w (x ∷ xs) ≡ pass (turn_fault shape [] w x) (accepted (walked rules [] w x) xs)
unfolding accepted walk_fault
accepted-cons w x xs = pass-or (turn_fault shape [] w x) (walk_fault shape [] (walked rules [] w x) xs) _

module _ (found : List Row) (waits : Option (Text × List Text)) (waiting : Waiting) (k : ℕ) (is_trailing : Bool) (x : Text) (xs : List Text) where
  turn : accepted (walk_at found waits waiting k is_trailing) (x ∷ xs)
      ≡ pass (word_fault shape [] is_trailing waiting x (held found waits))
      (pass (step_fault shape k (word_met rules [] is_trailing waiting k x (held found waits)).0 (word_met rules [] is_trailing waiting k x (held found waits)).1)
      (accepted (after_step rules x (walk_at found waits waiting k is_trailing) (word_met rules [] is_trailing waiting k x (held found waits)).0
      (word_met rules [] is_trailing waiting k x (held found waits)).1) xs))
  unfolding walked
  turn = accepted-cons (walk_at found waits waiting k is_trailing) x xs
      ∙ pass-or (word_fault shape [] is_trailing waiting x (held found waits))
      (step_fault shape k (word_met rules [] is_trailing waiting k x (held found waits)).0 (word_met rules [] is_trailing waiting k x (held found waits)).1)
      (accepted (after_step rules x (walk_at found waits waiting k is_trailing) (word_met rules [] is_trailing waiting k x (held found waits)).0
      (word_met rules [] is_trailing waiting k x (held found waits)).1) xs)

  -- a word that is no fault of its own takes a step
  pub at_turn : (f : Kinds) (h : Held) (step : Step) → word_fault shape [] is_trailing waiting x (held found waits) ≡ f
      → word_met rules [] is_trailing waiting k x (held found waits) ≡ (h, step)
      → accepted (walk_at found waits waiting k is_trailing) (x ∷ xs)
      ≡ pass f (pass (step_fault shape k h step) (accepted (after_step rules x (walk_at found waits waiting k is_trailing) h step) xs))
  at_turn f h step said met =
      turn ∙ ap₂ (λ (g : Kinds) (m : Held × Step). pass g (pass (step_fault shape k m.0 m.1)
      (accepted (after_step rules x (walk_at found waits waiting k is_trailing) m.0 m.1) xs))) said met

  pub at_fault : (a : _) (f : Kinds) → word_fault shape [] is_trailing waiting x (held found waits) ≡ a ∷ f
      → accepted (walk_at found waits waiting k is_trailing) (x ∷ xs) ≡ None
  at_fault a f said = turn ∙ ap (λ g. pass g (pass (step_fault shape k (word_met rules [] is_trailing waiting k x (held found waits)).0 (word_met rules [] is_trailing waiting k x (held found waits)).1)
      (accepted (after_step rules x (walk_at found waits waiting k is_trailing) (word_met rules [] is_trailing waiting k x (held found waits)).0
      (word_met rules [] is_trailing waiting k x (held found waits)).1) xs))) said

-- ---- what a state comes to

-- what was given so far, and the rest: the rows, where nothing is given twice and each place has a word
pub outcome : List Given → Option (List Given) → Option (List Row)
outcome done rest =
    option_and_then (λ gs. if are_new done gs && has_places (done ++ gs) then Some (rows (done ++ gs)) else None) rest

pub outcome-none : (done : List Given) (last : Option Given) → outcome done (before last None) ≡ None
unfolding outcome
outcome-none done None = refl
outcome-none done (Some g) = refl

-- a name that is new
outcome-new : (done : List Given) (g : Given) (rest : Option (List Given)) → has g.0 done ≡ false
    → outcome (done ++ g ∷ []) rest ≡ outcome done (before (Some g) rest)
unfolding outcome
outcome-new done g None new = refl
outcome-new done g (Some gs) new =
    ap (λ xs. if are_new (done ++ g ∷ []) gs && has_places xs then Some (rows xs) else None) (append_assoc done (g ∷ []) gs)
    ∙ ap (λ b. if (not b && are_new (done ++ g ∷ []) gs) && has_places (done ++ g ∷ gs) then Some (rows (done ++ g ∷ gs)) else None) (sym new)

-- a name that isn't
outcome-again : (done : List Given) (g : Given) (rest : Option (List Given)) → has g.0 done ≡ true
    → outcome done (before (Some g) rest) ≡ None
unfolding outcome
outcome-again done g None old = refl
outcome-again done g (Some gs) old =
    ap (λ b. if (not b && are_new (done ++ g ∷ []) gs) && has_places (done ++ g ∷ gs) then Some (rows (done ++ g ∷ gs)) else None) old

-- ---- the rows of what was given

has_row-rows : (name : Text) (gs : List Given) → has_row name (rows gs) ≡ has name gs
has_row-rows name [] = refl
has_row-rows name (g ∷ gs) = ap (λ b. bytes_eq g.0 name || b) (has_row-rows name gs)

at_row-new : (name : Text) (change : Row → List Row) (missing : List Row) (gs : List Given) → has name gs ≡ false
    → at_row name change missing (rows gs) ≡ rows gs ++ missing
at_row-new name change missing [] new = refl
at_row-new name change missing (g ∷ gs) new = go (bytes_eq g.0 name) new (at_row-new name change missing gs)
  where
    go : (b : Bool) → (b || has name gs) ≡ false → (has name gs ≡ false → at_row name change missing (rows gs) ≡ rows gs ++ missing)
        → (if b then change (row g) ++ rows gs else row g ∷ at_row name change missing (rows gs)) ≡ row g ∷ (rows gs ++ missing)
    go true new next = absurd (true≢false new)
    go false new next = ap (λ rs. row g ∷ rs) (next new)

-- a new name's row stands last
used-new : (done : List Given) (g : Given) (long : Option Text) (index : Option ℕ) (required : Bool) → has g.0 done ≡ false
    → used (rule g.0 long index required) (g.1 ∷ []) (rows done) ≡ rows (done ++ g ∷ [])
used-new done g long index required new =
    ap (with_values g.0 reading.AsWritten CommandLine (g.1 ∷ [])) (at_row-new g.0 (λ _. []) [] done new ∙ append-nil (rows done))
    ∙ at_row-new g.0 (more_values CommandLine (g.1 ∷ [])) (row g ∷ []) done new ∙ sym (map-append row done (g ∷ []))

-- a name and its value are used, and then the rest
pub use_then : (done : List Given) (g : Given) (long : Option Text) (index : Option ℕ) (required : Bool) (rest : Option (List Given))
    (z : List Row → Option (List Row)) → z (rows (done ++ g ∷ [])) ≡ outcome (done ++ g ∷ []) rest
    → pass (use_fault false (rule g.0 long index required) (g.1 ∷ []) (rows done)) (z (used (rule g.0 long index required) (g.1 ∷ []) (rows done)))
    ≡ outcome done (before (Some g) rest)
use_then done g long index required rest z next = go (has g.0 done) refl
  where
    go : (b : Bool) → has g.0 done ≡ b
        → pass (use_fault false (rule g.0 long index required) (g.1 ∷ []) (rows done)) (z (used (rule g.0 long index required) (g.1 ∷ []) (rows done)))
        ≡ outcome done (before (Some g) rest)
    go true old =
        ap (λ b. pass (or_else (if b && not false then kind.ArgumentConflict ∷ [] else []) []) (z (used (rule g.0 long index required) (g.1 ∷ []) (rows done))))
        (has_row-rows g.0 done ∙ old)
        ∙ sym (outcome-again done g rest old)
    go false new =
        ap₂ (λ (b : Bool) (found : List Row). pass (or_else (if b && not false then kind.ArgumentConflict ∷ [] else []) []) (z found))
        (has_row-rows g.0 done ∙ new) (used-new done g long index required new)
        ∙ next ∙ outcome-new done g rest new

-- what was read last is settled, and then the rest
pub settle_then : (done : List Given) (last : Option Given) → IsKnownLast last → (rest : Option (List Given)) (z : List Row → Option (List Row))
    → z (rows (after done last)) ≡ outcome (after done last) rest
    → pass (settle_fault rules false (held (rows done) (pending last))) (z (settled_rows rules (pending last) (rows done)))
    ≡ outcome done (before last rest)
settle_then done None known rest z next = next
settle_then done (Some g) known rest z next =
    ap (λ (o : Option Rule). pass (option_map_or (λ a. use_fault false a (g.1 ∷ []) (rows done)) o []) (z (used_by_id o (g.1 ∷ []) (rows done)))) known.found
    ∙ use_then done g known.long known.index known.required rest z next

-- ---- the end

abbrev HasNoDefaults : List Rule → Type 0
HasNoDefaults [] = Unit {0}
HasNoDefaults (a ∷ rest) = (a.defaults ≡ []) × HasNoDefaults rest

default_is : (found : List Row) (a : Rule) → a.defaults ≡ [] → with_default found a ≡ found
default_is found a none = ap (λ ds. if has_row a.id found then found else default_rows a.id (reading_by a) ds found) none ∙ go (has_row a.id found)
  where
    go : (b : Bool) → (if b then found else found) ≡ found
    go true = refl
    go false = refl

defaults_are : (found : List Row) (xs : List Rule) → HasNoDefaults xs → fold with_default found xs ≡ found
defaults_are found [] none = refl
defaults_are found (a ∷ rest) none = ap (λ rs. fold with_default rs rest) (default_is found a none.0) ∙ defaults_are found rest none.1

no_default_fault : (found : List Row) (a : Rule) → a.defaults ≡ [] → default_fault found a ≡ []
no_default_fault found a none =
    ap (λ ds. if has_row a.id found || is_empty ds then [] else given_default_fault a ds) none ∙ go (has_row a.id found)
  where
    go : (b : Bool) → (if b || true then [] else given_default_fault a []) ≡ []
    go true = refl
    go false = refl

no_defaults_fault : (found : List Row) (xs : List Rule) → HasNoDefaults xs → defaults_fault found xs ≡ []
unfolding defaults_fault
no_defaults_fault found [] none = refl
no_defaults_fault found (a ∷ rest) none =
    ap₂ (λ (f : Kinds) (rs : List Row). or_else f (defaults_fault rs rest)) (no_default_fault found a none.0) (default_is found a none.0)
    ∙ no_defaults_fault found rest none.1

without_defaults : HasNoDefaults rules
without_defaults = (refl, (refl, (refl, (refl, (refl, (refl, tt))))))

is_given-rows : (name : Text) (gs : List Given) → is_given name (rows gs) ≡ has name gs
is_given-rows name [] = refl
is_given-rows name (g ∷ gs) = go (bytes_eq g.0 name) (is_given-rows name gs)
  where
    go : (b : Bool) → is_given name (rows gs) ≡ has name gs
        → option_map_or (λ r. explicit_source r.source) (if b then Some (row g) else find (λ r. bytes_eq r.id name) (rows gs)) false ≡ (b || has name gs)
    go true next = refl
    go false next = next

-- a missing place is the only fault at the end
missing : (a b c : Bool) (found : List Row)
    → pass (check_kinds false false (not a || (not b || (not c || false)))) (Some found)
    ≡ (if a && (b && (c && true)) then Some found else None)
missing true true true found = refl
missing true true false found = refl
missing true false c found = refl
missing false b c found = refl

closed_rows : (gs : List Given) → closed (rows gs) ≡ (if has_places gs then Some (rows gs) else None)
unfolding closed
closed_rows gs =
    ap₂ (λ (f : Kinds) (rs : List Row). pass f (pass (check_fault shape rs false) (Some rs)))
    (no_defaults_fault (rows gs) rules without_defaults) (defaults_are (rows gs) rules without_defaults)
    ∙ (λ i. pass (check_kinds false false (not (is_given-rows (codes "mode") gs i) || (not (is_given-rows (codes "first") gs i)
    || (not (is_given-rows (codes "second") gs i) || false)))) (Some (rows gs)))
    ∙ missing (has (codes "mode") gs) (has (codes "first") gs) (has (codes "second") gs) (rows gs)

closed_is : (gs : List Given) → closed (rows gs) ≡ outcome gs (Some [])
unfolding outcome
closed_is gs = closed_rows gs ∙ ap (λ xs. if has_places xs then Some (rows xs) else None) (sym (append-nil gs))

-- after the last word
pub at_end : (done : List Given) (last : Option Given) → IsKnownLast last → (waiting : Waiting) (k : ℕ) (is_trailing : Bool)
    → accepted (walk_at (rows done) (pending last) waiting k is_trailing) [] ≡ outcome done (before last (Some []))
unfolding accepted walk_fault
at_end done last known waiting k is_trailing = settle_then done last known (Some []) closed (closed_is (after done last))

-- a state after which no words come
pub at_last : (w : Walk) → accepted w [] ≡ pass (settle_fault rules false w.held) (closed (settled_rows rules w.held.pending w.held.rows))
unfolding accepted walk_fault
at_last w = refl

-- ---- the whole parse

-- what clap's clauses give of the words is what is accepted from the first state
pub as_accepted : (words : List Text) → pass (level_fault shape [] nothing_held words false []) (Some (rows_after rules [] words))
    ≡ accepted (walk_at [] None idle 1 false) words
unfolding accepted closed
as_accepted words =
    let end : Held = (walk rules [] nothing_held words).held in
    let settles = settle_fault rules false end in
    let defaults = defaults_fault (settled rules end).rows rules in
    let checks = check_fault shape (finished rules end) false in
    let all : Option (List Row) = Some (finished rules end) in
    pass-or (walk_fault shape [] (walk_from nothing_held) words) (or_else settles (or_else defaults checks)) all
    ∙ ap (pass (walk_fault shape [] (walk_from nothing_held) words)) (pass-or settles (or_else defaults checks) all ∙ ap (pass settles) (pass-or defaults checks all))

pub outcome_of_all : (o : Option (List Given))
    → outcome [] o ≡ option_map (map row) (option_and_then (λ gs. if are_new [] gs && has_places gs then Some gs else None) o)
unfolding outcome
outcome_of_all None = refl
outcome_of_all (Some gs) = go (are_new [] gs && has_places gs)
  where
    go : (b : Bool) → (if b then Some (rows gs) else None) ≡ option_map (map row) (if b then Some gs else None)
    go true = refl
    go false = refl
