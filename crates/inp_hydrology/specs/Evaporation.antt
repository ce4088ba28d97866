-- The forms of the lines of EVAPORATION (User's Manual, section [EVAPORATION]): a constant of 0, and the times of
-- evaporation, which then have no effect (this project's profile). They give nothing but their faults.
use Rattle.std.specs.Prelude.{ℕ, Bool, true, if◌then◌else◌, List, codes, Option, Some, None}
use Rattle.net_types.specs.declared.faults.LineFault.{LineFault}
use Rattle.inp_values.specs.Words.{same_word}
use Rattle.inp_lines.specs.declared.line.Line.{Line}
use Rattle.inp_lines.specs.declared.line.SectionName.TheVariants as section
use Rattle.inp_lines.specs.Faults.{token_at}
use Rattle.inp_lines.specs.Gather.{fault_at}
use Rattle.inp_forms.specs.Context.{Context}
use Rattle.inp_forms.specs.Forms.{RowForm, Forms, form_reading}
use Rattle.inp_hydrology.specs.declared.evaporation.TheConstants.{CONSTANT, DRY_ONLY}

abbrev pub constant_form : RowForm Bool
constant_form = record { items = CONSTANT; make = λ tokens values. true }

abbrev pub dry_only_form : RowForm Bool
dry_only_form = record { items = DRY_ONLY; make = λ tokens values. true }

abbrev pub is_dry_only : List (List ℕ) → Bool
is_dry_only tokens = same_word (token_at tokens 0) (codes "DRY_ONLY")

unfoldable pub evaporation_form : List (List ℕ) → RowForm Bool
evaporation_form tokens = if is_dry_only tokens then dry_only_form else constant_form

abbrev pub evaporation_forms : Forms Bool
evaporation_forms section.Evaporation = Some evaporation_form
evaporation_forms _ = None

-- such lines define no names
abbrev pub no_name : Line → Option (List ℕ)
no_name line = None

-- the fault of a line of EVAPORATION, none or one
abbrev pub evaporation_fault : Context → List Line → Line → List LineFault
evaporation_fault known = fault_at no_name (form_reading known evaporation_forms)
