-- Lines of curves (User's Manual, section [CURVES]).
use Rattle.std.specs.Prelude.{ℕ, ◌-◌, ◌/◌, ◌&&◌, ℤ, Bool, true, false, not, if◌then◌else◌, List}
use Rattle.std.specs.Prelude.{[], ◌∷◌, codes, length, drop}
use Rattle.std.specs.Prelude.{Option, Some, None}
use Rattle.std.specs.List.{last_or}
use Rattle.std.specs.Option.{option_or, unwrap_or}
use Rattle.net_types.specs.declared.faults.FaultKind.TheVariants.{NotInProfile}
use Rattle.net_types.specs.declared.faults.LineFault.{LineFault}
use Rattle.net_types.specs.declared.tables.Curve.{Curve}
use Rattle.net_types.specs.declared.tables.CurveKind.{CurveKind}
use Rattle.net_types.specs.declared.tables.CurveKind.TheVariants.{Storage, Pump1, Pump2, Pump3, Pump4, Tidal}
use Rattle.inp_values.specs.Words.{same_word}
use Rattle.inp_lines.specs.declared.fault.Fault.{Fault}
use Rattle.inp_lines.specs.declared.line.Line.{Line}
use Rattle.inp_lines.specs.declared.line.SectionName.{SectionName}
use Rattle.inp_lines.specs.declared.line.SectionName.TheVariants as section
use Rattle.inp_lines.specs.Faults.{token_at, fault_of_kind}
use Rattle.inp_lines.specs.Gather.{gather, walk_fault}
use Rattle.inp_lines.specs.Readings.{is_long}
use Rattle.inp_lists.specs.Chains.{ChainForm, chain_fault, chain_names, chain_records, chain_states}
use Rattle.inp_series.specs.declared.pairs.Axis.TheVariants.{Amounts}
use Rattle.inp_series.specs.declared.curves.CurveState.{CurveState}
use Rattle.inp_series.specs.Pairs.{xs_of, values_of, pairs_fault, are_no_pairs}

abbrev pub is_curve_section : SectionName → Bool
is_curve_section section.Curves = true
is_curve_section _ = false

-- the lines of curves: those of the section that aren't too long
abbrev pub is_curve_line : Line → Bool
is_curve_line line = is_curve_section line.section && not (is_long line)

-- whether a line is the first one of its name, by the lines of the name before it
abbrev pub is_first : List Line → Bool
is_first [] = true
is_first (line ∷ lines) = false

-- the types of curves by their words
abbrev pub kind_of : List ℕ → Option CurveKind
kind_of text =
    if same_word text (codes "STORAGE") then Some Storage
    else if same_word text (codes "PUMP1") then Some Pump1
    else if same_word text (codes "PUMP2") then Some Pump2
    else if same_word text (codes "PUMP3") then Some Pump3
    else if same_word text (codes "PUMP4") then Some Pump4
    else if same_word text (codes "TIDAL") then Some Tidal
    else None

-- The first line of a curve has its type behind the name, and its pairs behind the type; pairs of other lines stand
-- behind the name.
abbrev pub curve_place : List Line → ℕ
curve_place own = if is_first own then 2 else 1

abbrev pub kind_in : List Line → Option CurveKind
kind_in [] = None
kind_in (line ∷ lines) = kind_of (token_at line.tokens 1)

abbrev pub curve_pairs : List Line → Line → List (List ℕ)
curve_pairs own line = drop (curve_place own) line.tokens

abbrev pub xs_in : List Line → List ℤ
xs_in own = gather (λ before line. xs_of Amounts (curve_pairs before line)) [] own

abbrev pub points_in : List Line → List (ℤ × ℤ)
points_in own = gather (λ before line. values_of Amounts (curve_pairs before line)) [] own

-- another type isn't in this profile
abbrev pub kind_fault : Option CurveKind → Option Fault
kind_fault None = Some (fault_of_kind NotInProfile 1)
kind_fault (Some kind) = None

-- The fault of a line, the first one of its curve or a later one, where this is the last x before it: the type, or the
-- first pair at fault.
abbrev pub fault_with : Bool → Option ℤ → Line → Option Fault
fault_with first last line = option_or (if first then kind_fault (kind_of (token_at line.tokens 1)) else None)
    (pairs_fault Amounts last (if first then 2 else 1) (drop (if first then 2 else 1) line.tokens))

abbrev pub curve_fault_in : List Line → Line → Option Fault
curve_fault_in own line = fault_with (is_first own) (last_or None (xs_in own)) line

-- The curve of a name by its lines. One whose type is at fault, or that has no lines, stands as a storage curve; its
-- type is none in the state.
abbrev pub curve_from : List ℕ → List Line → Curve
curve_from name own = record { name = name; kind = unwrap_or (kind_in own) Storage; points = points_in own }

abbrev pub curve_state : List Line → CurveState
curve_state own = record { first = is_first own; kind = kind_in own; last = last_or None (xs_in own) }

-- How lines become curves.
unfoldable pub curve_form : ChainForm Curve CurveState
curve_form = record {
  is_of = is_curve_line;
  is_short = λ own line. are_no_pairs (length line.tokens - curve_place own);
  size_of = λ own line. length (curve_pairs own line) / 2;
  item_fault = curve_fault_in;
  record_of = curve_from;
  state_of = curve_state;
}

-- The names of curves, their types, none where it is at fault, the curves, and the fault of a line, none or one, by the
-- lines before it.
abbrev pub curve_names : List Line → List (List ℕ)
curve_names lines = chain_names curve_form lines

abbrev pub curve_states : List Line → List CurveState
curve_states lines = chain_states curve_form lines

abbrev pub curves_of : List Line → List Curve
curves_of lines = chain_records curve_form lines

abbrev pub curve_fault : List Line → Line → List LineFault
curve_fault = walk_fault (chain_fault curve_form)
