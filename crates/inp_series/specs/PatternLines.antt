-- Lines of time patterns (User's Manual, section [PATTERNS]).
use Rattle.std.specs.Prelude.{ℕ, zero, suc, ◌+◌, ◌-◌, ◌&&◌, ℤ, Bool, true, false, not}
use Rattle.std.specs.Prelude.{if◌then◌else◌, nat_lt, List, [], ◌∷◌, codes, length, drop}
use Rattle.std.specs.Prelude.{filter_map, Option, Some, None}
use Rattle.std.specs.Option.{option_map, option_or, unwrap_or}
use Rattle.fixed_num.specs.Decimal.{scaled_of}
use Rattle.net_types.specs.declared.faults.FaultKind.TheVariants.{InvalidKeyword, InvalidNumber, OverLimit}
use Rattle.net_types.specs.declared.faults.LineFault.{LineFault}
use Rattle.net_types.specs.declared.options.FlowUnits.TheVariants.{Cms}
use Rattle.net_types.specs.declared.tables.Pattern.{Pattern}
use Rattle.net_types.specs.declared.tables.PatternKind.{PatternKind}
use Rattle.net_types.specs.declared.tables.PatternKind.TheVariants.{Monthly, Daily, Hourly, Weekend}
use Rattle.net_types.specs.Ranges.{most_factors}
use Rattle.inp_values.specs.declared.quantities.Quantity.TheVariants.{Coefficient}
use Rattle.inp_values.specs.Units.{unit_for}
use Rattle.inp_values.specs.Words.{same_word}
use Rattle.inp_lines.specs.declared.fault.Fault.{Fault}
use Rattle.inp_lines.specs.declared.line.Line.{Line}
use Rattle.inp_lines.specs.declared.line.SectionName.{SectionName}
use Rattle.inp_lines.specs.declared.line.SectionName.TheVariants as section
use Rattle.inp_lines.specs.Faults.{token_at, fault_of_kind}
use Rattle.inp_lines.specs.Gather.{gather, walk_fault}
use Rattle.inp_lines.specs.Readings.{is_long}
use Rattle.inp_lists.specs.Chains.{ChainForm, chain_fault, chain_names, chain_records}
use Rattle.inp_series.specs.declared.patterns.PatternState.{PatternState}
use Rattle.inp_series.specs.CurveLines.{is_first}

abbrev pub is_pattern_section : SectionName → Bool
is_pattern_section section.Patterns = true
is_pattern_section _ = false

-- the lines of patterns: those of the section that aren't too long
abbrev pub is_pattern_line : Line → Bool
is_pattern_line line = is_pattern_section line.section && not (is_long line)

-- the types of patterns by their words
abbrev pub pattern_kind_of : List ℕ → Option PatternKind
pattern_kind_of text =
    if same_word text (codes "MONTHLY") then Some Monthly
    else if same_word text (codes "DAILY") then Some Daily
    else if same_word text (codes "HOURLY") then Some Hourly
    else if same_word text (codes "WEEKEND") then Some Weekend
    else None

-- The first line of a pattern has its type behind the name, and factors behind the type; factors of other lines stand
-- behind the name.
abbrev pub pattern_place : List Line → ℕ
pattern_place own = if is_first own then 2 else 1

abbrev pub pattern_kind_in : List Line → Option PatternKind
pattern_kind_in [] = None
pattern_kind_in (line ∷ lines) = pattern_kind_of (token_at line.tokens 1)

abbrev pub factor_of : List ℕ → Option ℤ
factor_of text = scaled_of (unit_for Cms Coefficient) text

-- The items that are factors, of a line and of all lines.
abbrev pub factor_items : List Line → Line → List (List ℕ)
factor_items own line = drop (pattern_place own) line.tokens

abbrev pub items_in : List Line → List (List ℕ)
items_in own = gather factor_items [] own

-- How many factors a pattern may have still, where it has this many; one without a type has no limit.
abbrev pub factors_left : Option PatternKind → ℕ → Option ℕ
factors_left kind count = option_map (λ kind. most_factors kind - count) kind

-- The fault of factors that stand from a place on, where so many may follow: one too many, or a text that isn't one.
abbrev pub value_fault : ℕ → Option ℤ → Option Fault
value_fault place None = Some (fault_of_kind InvalidNumber place)
value_fault place (Some factor) = None

abbrev pub factor_fault : Option ℕ → ℕ → List ℕ → Option Fault
factor_fault (Some zero) place text = Some (fault_of_kind OverLimit place)
factor_fault (Some (suc left)) place text = value_fault place (factor_of text)
factor_fault None place text = value_fault place (factor_of text)

abbrev pub factors_fault : Option ℕ → ℕ → List (List ℕ) → Option Fault
factors_fault left place [] = None
factors_fault left place (text ∷ texts) = option_or (factor_fault left place text)
    (factors_fault (option_map (λ n. n - 1) left) (place + 1) texts)

abbrev pub pattern_kind_fault : Option PatternKind → Option Fault
pattern_kind_fault None = Some (fault_of_kind InvalidKeyword 1)
pattern_kind_fault (Some kind) = None

-- the type of the pattern of a line by the lines before it
abbrev pub kind_with : List Line → Line → Option PatternKind
kind_with own line = if is_first own then pattern_kind_of (token_at line.tokens 1) else pattern_kind_in own

-- The fault of a line, the first one of its pattern or a later one, of a pattern of this type where so many factors may
-- follow: the type, or the first factor at fault.
abbrev pub fault_with : Bool → Option PatternKind → Option ℕ → Line → Option Fault
fault_with first kind left line = option_or (if first then pattern_kind_fault kind else None)
    (factors_fault left (if first then 2 else 1) (drop (if first then 2 else 1) line.tokens))

abbrev pub pattern_fault_in : List Line → Line → Option Fault
pattern_fault_in own line = fault_with (is_first own) (kind_with own line)
    (factors_left (kind_with own line) (length (items_in own))) line

-- The pattern of a name by its lines. One whose type is at fault, or that has no lines, stands as a monthly one.
abbrev pub pattern_from : List ℕ → List Line → Pattern
pattern_from name own = record {
  name = name;
  kind = unwrap_or (pattern_kind_in own) Monthly;
  factors6 = filter_map factor_of (items_in own);
}

-- What its next line has to be judged by.
abbrev pub pattern_state : List Line → PatternState
pattern_state own = record {
  first = is_first own;
  kind = pattern_kind_in own;
  left = factors_left (pattern_kind_in own) (length (items_in own));
}

-- How lines become patterns. They have no pairs.
unfoldable pub pattern_form : ChainForm Pattern PatternState
pattern_form = record {
  is_of = is_pattern_line;
  is_short = λ own line. nat_lt (length line.tokens) 2;
  size_of = λ own line. 0;
  item_fault = pattern_fault_in;
  record_of = pattern_from;
  state_of = pattern_state;
}

-- The names of patterns, the patterns, and the fault of a line, none or one, by the lines before it.
abbrev pub pattern_names : List Line → List (List ℕ)
pattern_names lines = chain_names pattern_form lines

abbrev pub patterns_of : List Line → List Pattern
patterns_of lines = chain_records pattern_form lines

abbrev pub pattern_fault : List Line → Line → List LineFault
pattern_fault = walk_fault (chain_fault pattern_form)
