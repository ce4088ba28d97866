-- The form of the lines that give rain gages (User's Manual, section [RAINGAGES]; ranges and faults are this project's
-- profile), and the rain gages of an input.
use Rattle.std.specs.Prelude.{ℕ, Bool, true, false, List, [], Option, Some, None}
use Rattle.net_types.specs.declared.faults.LineFault.{LineFault}
use Rattle.net_types.specs.declared.hydrology.Gage.{Gage}
use Rattle.inp_lines.specs.declared.line.Line.{Line}
use Rattle.inp_lines.specs.declared.line.SectionName.{SectionName}
use Rattle.inp_lines.specs.declared.line.SectionName.TheVariants as section
use Rattle.inp_lines.specs.Faults.{token_at}
use Rattle.inp_lines.specs.Gather.{gather, record_at, fault_at}
use Rattle.inp_lines.specs.Names.{defined}
use Rattle.inp_forms.specs.declared.words.Keyword.{Keyword}
use Rattle.inp_forms.specs.declared.words.Keyword.TheVariants as keyword
use Rattle.inp_forms.specs.Context.{Context}
use Rattle.inp_forms.specs.Forms.{RowForm, Forms, form_name, form_reading, has_form}
use Rattle.inp_forms.specs.Getters.{amount_at, choice_at, index_at}
use Rattle.inp_hydrology.specs.declared.gages.TheConstants.{GAGE}

abbrev pub is_volume_word : Keyword → Bool
is_volume_word keyword.Volume = true
is_volume_word _ = false

abbrev pub is_volume : Option Keyword → Bool
is_volume (Some found) = is_volume_word found
is_volume None = false

abbrev pub gage_form : RowForm Gage
gage_form = record {
  items = GAGE;
  make = λ tokens values. record {
    name = token_at tokens 0;
    volume = is_volume (choice_at values 1);
    interval = amount_at values 2;
    series = index_at values 5;
  };
}

abbrev pub gage_forms : Forms Gage
gage_forms section.RainGages = Some (λ _. gage_form)
gage_forms _ = None

-- the name that a line defines for a rain gage, and the names of all rain gages
abbrev pub gage_name : Line → Option (List ℕ)
gage_name line = form_name gage_forms line

abbrev pub gage_names : List Line → List (List ℕ)
gage_names lines = defined gage_name lines

-- the rain gages that lines give, in their order
unfoldable pub gages_of : Context → List Line → List Gage
gages_of known lines = gather (record_at gage_name (form_reading known gage_forms)) [] lines

-- the fault of a line that gives a rain gage, none or one, by the lines before it
abbrev pub gage_fault : Context → List Line → Line → List LineFault
gage_fault known = fault_at gage_name (form_reading known gage_forms)

abbrev pub is_gage_section : SectionName → Bool
is_gage_section name = has_form gage_forms name
