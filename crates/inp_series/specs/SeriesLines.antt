-- Lines of time series (User's Manual, section [TIMESERIES]).
use Rattle.std.specs.Prelude.{ℕ, ◌-◌, ◌/◌, ◌&&◌, ℤ, Bool, true, false, not, if◌then◌else◌}
use Rattle.std.specs.Prelude.{nat_le, List, [], ◌∷◌, ◌++◌, codes, length, drop}
use Rattle.std.specs.Prelude.{is_some, Option, Some, None}
use Rattle.std.specs.List.{filter_map, last_or, list_all}
use Rattle.net_types.specs.declared.faults.FaultKind.TheVariants.{NotInProfile}
use Rattle.net_types.specs.declared.tables.Series.{Series}
use Rattle.net_types.specs.declared.faults.LineFault.{LineFault}
use Rattle.inp_values.specs.CalendarDate.{date_of}
use Rattle.inp_values.specs.Words.{same_word}
use Rattle.inp_lines.specs.declared.fault.Fault.{Fault}
use Rattle.inp_lines.specs.declared.line.Line.{Line}
use Rattle.inp_lines.specs.declared.line.SectionName.{SectionName}
use Rattle.inp_lines.specs.declared.line.SectionName.TheVariants as section
use Rattle.inp_lines.specs.Faults.{token_at, fault_of_kind}
use Rattle.inp_lines.specs.Gather.{gather, walk_fault}
use Rattle.inp_lines.specs.Readings.{is_long}
use Rattle.inp_lists.specs.Chains.{ChainForm, chain_fault, chain_names, chain_records}
use Rattle.inp_series.specs.declared.pairs.Axis.{Axis}
use Rattle.inp_series.specs.declared.pairs.Axis.TheVariants.{Hours}
use Rattle.inp_series.specs.declared.series.SeriesState.{SeriesState}
use Rattle.inp_series.specs.Pairs.{xs_of, values_of, pairs_fault, are_no_pairs}

abbrev pub is_series_section : SectionName → Bool
is_series_section section.TimeSeries = true
is_series_section _ = false

-- the lines of series: those of the section that aren't too long
abbrev pub is_series_line : Line → Bool
is_series_line line = is_series_section line.section && not (is_long line)

-- A line that takes its series from a file, which isn't in this profile: FILE stands second, with an item behind it.
abbrev pub is_file : Line → Bool
is_file line = nat_le 3 (length line.tokens) && same_word (token_at line.tokens 1) (codes "FILE")

-- The date that a line begins with, behind the name. It holds for the lines of the series that follow, too.
abbrev pub date_at : Line → Option ℤ
date_at line = date_of (token_at line.tokens 1)

abbrev pub date_in : List Line → Option ℤ
date_in own = last_or None (filter_map date_at own)

-- The pairs of hour and value stand behind the name and the date.
abbrev pub series_place : Line → ℕ
series_place line = if is_some (date_at line) then 2 else 1

abbrev pub series_pairs : Line → List (List ℕ)
series_pairs line = if is_file line then [] else drop (series_place line) line.tokens

-- The hours of a line count from the date that holds for it, or from the start of the run, where there is none.
abbrev pub axis_at : ℤ → List Line → Line → Axis
axis_at start before line = Hours start (date_in (before ++ line ∷ []))

abbrev pub times_in : ℤ → List Line → List ℤ
times_in start own = gather (λ before line. xs_of (axis_at start before line) (series_pairs line)) [] own

abbrev pub entries_in : ℤ → List Line → List (ℤ × ℤ)
entries_in start own = gather (λ before line. values_of (axis_at start before line) (series_pairs line)) [] own

-- Whether each line has a date, its own or one from a line before it.
abbrev pub dated_in : List Line → Bool
dated_in own = list_all (λ has_date. has_date)
    (gather (λ before line. is_some (date_in (before ++ line ∷ [])) ∷ []) [] own)

abbrev pub series_is_short : Line → Bool
series_is_short line = not (is_file line) && are_no_pairs (length line.tokens - series_place line)

-- The fault of a line where this date holds, and this is the last time before it: a file, or the first pair at fault.
abbrev pub fault_with : ℤ → Option ℤ → Option ℤ → Line → Option Fault
fault_with start date last line = if is_file line then Some (fault_of_kind NotInProfile 1)
    else pairs_fault (Hours start date) last (series_place line) (series_pairs line)

abbrev pub series_fault_in : ℤ → List Line → Line → Option Fault
series_fault_in start own line =
    fault_with start (date_in (own ++ line ∷ [])) (last_or None (times_in start own)) line

-- The series of a name by its lines.
abbrev pub series_from : ℤ → List ℕ → List Line → Series
series_from start name own = record { name = name; dated = dated_in own; entries = entries_in start own }

-- What its next line has to be judged by: the date that holds, and the last time.
abbrev pub series_state : ℤ → List Line → SeriesState
series_state start own = record { date = date_in own; last = last_or None (times_in start own) }

-- How lines become series, whose times count from the start of the run in ms from 1970-01-01.
unfoldable pub series_form : ℤ → ChainForm Series SeriesState
series_form start = record {
  is_of = is_series_line;
  is_short = λ own line. series_is_short line;
  size_of = λ own line. length (series_pairs line) / 2;
  item_fault = series_fault_in start;
  record_of = series_from start;
  state_of = series_state start;
}

-- The names of series, the series of lines, and the fault of a line, none or one, by the lines before it.
abbrev pub series_names : ℤ → List Line → List (List ℕ)
series_names start lines = chain_names (series_form start) lines

abbrev pub series_of : ℤ → List Line → List Series
series_of start lines = chain_records (series_form start) lines

abbrev pub series_fault : ℤ → List Line → Line → List LineFault
series_fault start = walk_fault (chain_fault (series_form start))
