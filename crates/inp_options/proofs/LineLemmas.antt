-- Option lines, their faults and their flow units.
use Rattle.std.proofs.Common.{◌≡◌, ◌∙◌, ◌++◌, ◌∷◌, [], ℕ, Bool, true, false, cond, List, Option, Some, None, flat_map, refl, ap, sym}
use Rattle.std.specs.List.{last_or}
use Rattle.std.proofs.lemmas.List.Concat.{flat_map-append}
use Rattle.net_types.specs.declared.options.FlowUnits.{FlowUnits}
use Rattle.net_types.specs.declared.faults.FaultKind.{FaultKind}
use Rattle.net_types.specs.declared.faults.FaultKind.TheVariants.{InvalidKeyword, InvalidNumber}
use Rattle.inp_lines.specs.declared.fault.Fault.{Fault}
use Rattle.inp_lines.specs.declared.line.Line.{Line}
use Rattle.inp_lines.specs.declared.line.SectionName.{SectionName}
use Rattle.inp_lines.specs.declared.line.SectionName.TheVariants as section
use Rattle.inp_lines.specs.declared.reading.Reading.{Reading}
use Rattle.inp_lines.specs.declared.reading.Reading.TheVariants.{Other}
use Rattle.inp_lines.specs.Gather.{records_in, fault_found}
use Rattle.inp_lines.specs.Readings.{is_long, reading_from, needed_of, and_then}
use Rattle.inp_lines.specs.Sources.{OneOn, FaultsIn}
use Rattle.inp_options.specs.declared.names.OptionKind.{OptionKind}
use Rattle.inp_options.specs.declared.names.OptionKind.TheVariants as option
use Rattle.inp_options.specs.declared.setting.Setting.{Setting}
use Rattle.inp_options.specs.declared.setting.Setting.TheVariants as setting
use Rattle.inp_options.specs.Chosen.{latest_of, latest_after, settings, units_in}
use Rattle.inp_options.specs.OptionLines.{reading_of, setting_of, setting_by, set_by, at_options, is_options, fault_of, option_fault}
use Rattle.inp_options.specs.OptionNames.{option_named}
use Rattle.inp_options.specs.Values.{area_of, tolerance_of}

-- a line has at most one fault
one_on : (line : Line) (fault : Option Fault) → OneOn line.number (fault_found line fault)
one_on line None = tt
one_on line (Some fault) = refl

other_section : {A : Type 0} (other here : A) (name : SectionName) → is_options name ≡ false → at_options other name here ≡ other
other_section other here section.Options e = cc
other_section other here _ e = refl

-- faults come from option lines alone
pub on_option_lines : (units : FlowUnits) → FaultsIn is_options (option_fault units)
unfolding reading_of
on_option_lines units = record {
  one = λ before line. one_on line (fault_of (reading_of units line));
  elsewhere = λ before line e. ap (λ reading. fault_found line (fault_of reading)) (other_section Other (cond (is_long line) Other (reading_from (setting_of units line.tokens))) line.section e);
}

-- the flow units of what a line is read as
units_on : Reading Setting → List FlowUnits
units_on reading = flat_map units_in (records_in reading)

none_by : {A : Type 0} (f : A → Setting) (kind : FaultKind) (value : Option A) → ((v : A) → units_in (f v) ≡ []) → units_on (reading_from (set_by f value kind)) ≡ []
unfolding units_on
none_by f kind None h = refl
none_by f kind (Some v) h = ap (λ l. l ++ []) (h v)

-- they don't depend on the units under which it is read
by_kind : (units other : FlowUnits) (kind : OptionKind) (text : List ℕ) → units_on (reading_from (setting_by units kind text)) ≡ units_on (reading_from (setting_by other kind text))
unfolding setting_by
by_kind units other option.MinSurfArea text = none_by setting.MinArea InvalidNumber (area_of units text) (λ v. refl) ∙ sym (none_by setting.MinArea InvalidNumber (area_of other text) (λ v. refl))
by_kind units other option.HeadTolerance text = none_by setting.Tolerance InvalidNumber (tolerance_of units text) (λ v. refl) ∙ sym (none_by setting.Tolerance InvalidNumber (tolerance_of other text) (λ v. refl))
by_kind units other _ text = refl

by_name : (units other : FlowUnits) (kind : Option OptionKind) (text : List ℕ) → units_on (reading_from (and_then (needed_of kind InvalidKeyword 0) (λ k. setting_by units k text))) ≡ units_on (reading_from (and_then (needed_of kind InvalidKeyword 0) (λ k. setting_by other k text)))
by_name units other None text = refl
by_name units other (Some kind) text = by_kind units other kind text

by_tokens : (units other : FlowUnits) (tokens : List (List ℕ)) → units_on (reading_from (setting_of units tokens)) ≡ units_on (reading_from (setting_of other tokens))
by_tokens units other [] = refl
by_tokens units other (name ∷ []) = refl
by_tokens units other (name ∷ text ∷ rest) = by_name units other (option_named name) text

by_length : (long : Bool) (here there : Reading Setting) → units_on here ≡ units_on there → units_on (cond long Other here) ≡ units_on (cond long Other there)
by_length true here there e = refl
by_length false here there e = e

by_section : (name : SectionName) (here there : Reading Setting) → units_on here ≡ units_on there → units_on (at_options Other name here) ≡ units_on (at_options Other name there)
by_section section.Options here there e = e
by_section _ here there e = refl

by_line : (units other : FlowUnits) (line : Line) → units_on (reading_of units line) ≡ units_on (reading_of other line)
unfolding reading_of
by_line units other line =
    let here = reading_from (setting_of units line.tokens) in
    let there = reading_from (setting_of other line.tokens) in
    by_section line.section (cond (is_long line) Other here) (cond (is_long line) Other there) (by_length (is_long line) here there (by_tokens units other line.tokens))

by_lines : (units other : FlowUnits) (lines : List Line) → flat_map units_in (settings units lines) ≡ flat_map units_in (settings other lines)
unfolding settings units_on
by_lines units other [] = refl
by_lines units other (line ∷ lines) =
    flat_map-append units_in (records_in (reading_of units line)) (settings units lines)
    ∙ (ap (λ l. l ++ flat_map units_in (settings units lines)) (by_line units other line)
    ∙ (ap (λ l. flat_map units_in (records_in (reading_of other line)) ++ l) (by_lines units other lines)
    ∙ sym (flat_map-append units_in (records_in (reading_of other line)) (settings other lines))))

pub same_units : (units other : FlowUnits) (lines : List Line) → (latest_of (settings units lines)).units ≡ (latest_of (settings other lines)).units
unfolding latest_after
same_units units other lines = ap (last_or None) (by_lines units other lines)
