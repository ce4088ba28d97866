-- Words of the proofs alone: what a check of some fields of a file gives.
use Rattle.std.specs.Prelude.{◌≡◌, ℕ, ◌+◌, ◌≤◌, List, length, Some, None, Result, MatchResult}
use Rattle.fixed_num.specs.declared.constants.TheConstants.{RECORD_LIMIT}
use Rattle.hotstart.specs.Layout.{Field, value, first_fault, file_fault, widths}
use Rattle.hotstart.specs.declared.checks.Range.{Range}
use Rattle.hotstart.specs.declared.refusal.Refusal.{Refusal}
use Rattle.hotstart.specs.declared.shape.Shape.{Shape}

-- the fields from a place have no fault and end at the next place, which lies within the file
pub record AreGood (file : List ℕ) (place : ℕ) (fields : List Field) (next : ℕ) : Type 0 where
  pub no_fault : first_fault file place fields ≡ None
  pub next_is : next ≡ place + widths fields
  pub within : next ≤ length file

-- this is the first fault of the fields from a place
pub record HasFault (file : List ℕ) (place : ℕ) (fields : List Field) (refusal : Refusal) : Type 0 where
  pub fault : first_fault file place fields ≡ Some refusal

-- the fields are good, or the refusal is their first fault
abbrev pub Passes : List ℕ → (place : ℕ) → List Field → Result ℕ Refusal → Type 0
Passes file place fields result = MatchResult result (AreGood file place fields) (HasFault file place fields)

-- the field of a range
abbrev pub range_field : Range → Field
range_field range = value range.least range.most

-- a whole file has no fault, and ends with its fields
pub record IsGoodFile (file : List ℕ) (fields : List Field) : Type 0 where
  pub no_fault : file_fault file fields ≡ None
  pub whole : widths fields ≡ length file

abbrev pub PassesFile : List ℕ → List Field → Result (Unit {0}) Refusal → Type 0
PassesFile file fields result =
    MatchResult result (λ _. IsGoodFile file fields) (λ refusal. file_fault file fields ≡ Some refusal)

-- the counts of a project are within the limits
pub record IsShape (shape : Shape) : Type 0 where
  pub nodes : shape.nodes ≤ RECORD_LIMIT
  pub links : shape.links ≤ RECORD_LIMIT
  pub subs : shape.subs ≤ RECORD_LIMIT
