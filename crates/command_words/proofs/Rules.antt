-- The rules of the line once clap has built them, and how it finds each of them.
use Rattle.std.proofs.Common.{◌≡◌, ◌+◌, ◌||◌, ℕ, Bool, true, false, cond, min, refl, sym, subst, true≢false, List, [], ◌∷◌, Option, Some, None, codes, inl, inr, bytes_eq}
use Rattle.std.proofs.lemmas.Bool.{or_cases}
use Rattle.std.proofs.lemmas.Slice.Eq.{bytes_eq-Decides}
use Rattle.clap.specs.Lexer.{usize_max}
use Rattle.clap.specs.Simple.{App, Shape, built, new_rule, new_shape}
use Rattle.clap.specs.Faults.{is_simple_and_free}
use Rattle.clap.specs.Walk.{Rule, Text, arg_by_id, arg_by_index, arg_by_long, arg_by_short}
use Rattle.clap.specs.declared.builder.action.ArgAction.TheVariants.{Set}
use Rattle.clap.specs.declared.builder.value_parser.ValueParser.TheVariants as vp
use Rattle.command_words.specs.ClapLine.{line_app}
use Rattle.command_words.specs.Words.{is_option, places}

-- an argument with one value, as building leaves it
abbrev pub rule : Text → Option Text → Option ℕ → Bool → Rule
rule id long index required = record (new_rule id) {
  long = long;
  index = index;
  action = Some Set;
  range = Some (record { start_inclusive = 1; end_inclusive = 1 });
  parser = Some vp.String;
  required = required;
}

abbrev pub place_at : Text → ℕ → Rule
place_at id k = rule id None (Some k) true

abbrev pub option_named : Text → Rule
option_named name = rule name (Some name) None false

abbrev pub rules : List Rule
rules =
    place_at (codes "mode") 1 ∷ place_at (codes "first") 2 ∷ place_at (codes "second") 3
    ∷ option_named (codes "threads") ∷ option_named (codes "hot-in") ∷ option_named (codes "hot-out") ∷ []

abbrev pub shape : Shape
shape = record (new_shape (codes "swmm5_fx")) {
  rules = rules;
  no_binary_name = true;
  disable_help_flag = true;
  disable_help_subcommand = true;
  disable_version_flag = true;
  is_built = true;
}

abbrev pub built_app : App
built_app = record { top = shape; subs = [] }

pub built_is : built line_app ≡ built_app
built_is = refl

pub line_is_simple : is_simple_and_free line_app ≡ true
line_is_simple = refl

-- a name that some rule has
pub record IsKnown (name : Text) : Type 0 where
  pub long : Option Text
  pub index : Option ℕ
  pub required : Bool
  pub found : arg_by_id rules name ≡ Some (rule name long index required)

-- an option's name finds its rule
pub record FindsOption (name : Text) : Type 0 where
  pub by_long : arg_by_long rules name ≡ Some (option_named name)
  pub by_id : arg_by_id rules name ≡ Some (option_named name)
  pub itself : bytes_eq name name ≡ true

same : (a b : Text) → bytes_eq a b ≡ true → a ≡ b
same a b = (bytes_eq-Decides a b).0

-- what holds of each option holds of a name that is one
each_option : (P : Text → Type 0) → P (codes "threads") → P (codes "hot-in") → P (codes "hot-out") → (name : Text) → is_option name ≡ true → P name
each_option P a b c name is =
    elim (or_cases (bytes_eq (codes "threads") name) (bytes_eq (codes "hot-in") name || (bytes_eq (codes "hot-out") name || false)) is) [
      | inl h ↦ subst P (same (codes "threads") name h) a
      | inr r ↦ elim (or_cases (bytes_eq (codes "hot-in") name) (bytes_eq (codes "hot-out") name || false) r) [
        | inl h ↦ subst P (same (codes "hot-in") name h) b
        | inr s ↦ elim (or_cases (bytes_eq (codes "hot-out") name) false s) [
          | inl h ↦ subst P (same (codes "hot-out") name h) c
          | inr none ↦ absurd (true≢false (sym none))
        ]
      ]
    ]

pub finds_option : (name : Text) → is_option name ≡ true → FindsOption name
finds_option =
    each_option FindsOption (record { by_long = refl; by_id = refl; itself = refl })
    (record { by_long = refl; by_id = refl; itself = refl }) (record { by_long = refl; by_id = refl; itself = refl })

pub option_is_known : (name : Text) → FindsOption name → IsKnown name
option_is_known name finds = record { long = Some name; index = None; required = false; found = finds.by_id }

-- another name finds none
pub no_option : (name : Text) → is_option name ≡ false → arg_by_long rules name ≡ None
no_option name is = go (bytes_eq (codes "threads") name) (bytes_eq (codes "hot-in") name) (bytes_eq (codes "hot-out") name) is
  where
    go : (a b c : Bool) → (a || (b || (c || false))) ≡ false
        → cond (a || false) (Some (option_named (codes "threads")))
        (cond (b || false) (Some (option_named (codes "hot-in"))) (cond (c || false) (Some (option_named (codes "hot-out"))) None)) ≡ None
    go false false false e = refl
    go false false true e = absurd (true≢false e)
    go false true c e = absurd (true≢false e)
    go true b c e = absurd (true≢false e)

-- no rule has a short name
pub no_short : (c : ℕ) → arg_by_short rules c ≡ None
no_short c = refl

-- at k stand the places that are left
abbrev pub AtPlaces : ℕ → List Text → Type 0
AtPlaces k [] = arg_by_index rules k ≡ None
AtPlaces k (place ∷ left) =
    (arg_by_index rules k ≡ Some (place_at place k)) × IsKnown place × AtPlaces (min (k + 1) usize_max) left

pub at_first : AtPlaces 1 places
at_first = (
  refl,
  record { long = None; index = Some 1; required = true; found = refl },
  (
    refl,
    record { long = None; index = Some 2; required = true; found = refl },
    (refl, record { long = None; index = Some 3; required = true; found = refl }, refl),
  ),
)
