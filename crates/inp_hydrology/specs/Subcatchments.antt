-- The form of the lines that give subcatchments (User's Manual, section [SUBCATCHMENTS]; ranges and faults are this
-- project's profile), and the subcatchments of an input.
use Rattle.std.specs.Prelude.{ℕ, Bool, List, [], Option, Some, None}
use Rattle.net_types.specs.declared.faults.LineFault.{LineFault}
use Rattle.net_types.specs.declared.hydrology.Sub.{Sub}
use Rattle.inp_lines.specs.declared.line.Line.{Line}
use Rattle.inp_lines.specs.declared.line.SectionName.{SectionName}
use Rattle.inp_lines.specs.declared.line.SectionName.TheVariants as section
use Rattle.inp_lines.specs.Faults.{token_at}
use Rattle.inp_lines.specs.Gather.{gather, record_at, fault_at}
use Rattle.inp_lines.specs.Names.{defined}
use Rattle.inp_forms.specs.Context.{Context}
use Rattle.inp_forms.specs.Forms.{RowForm, Forms, form_name, form_reading, has_form}
use Rattle.inp_forms.specs.Getters.{amount_at, index_at}
use Rattle.inp_hydrology.specs.declared.subcatchments.TheConstants.{SUBCATCHMENT}

-- the lines of other sections that say more of a subcatchment are read apart
abbrev pub sub_form : RowForm Sub
sub_form = record {
  items = SUBCATCHMENT;
  make = λ tokens values. record {
    name = token_at tokens 0;
    gage = index_at values 1;
    outlet = index_at values 2;
    area = amount_at values 3;
    imperv6 = amount_at values 4;
    width = amount_at values 5;
    slope6 = amount_at values 6;
    sub_areas = None;
    infil = None;
  };
}

abbrev pub sub_forms : Forms Sub
sub_forms section.Subcatchments = Some (λ _. sub_form)
sub_forms _ = None

-- the name that a line defines for a subcatchment, and the names of all subcatchments
abbrev pub sub_name : Line → Option (List ℕ)
sub_name line = form_name sub_forms line

abbrev pub sub_names : List Line → List (List ℕ)
sub_names lines = defined sub_name lines

-- the subcatchments that lines give, in their order
unfoldable pub subs_of : Context → List Line → List Sub
subs_of known lines = gather (record_at sub_name (form_reading known sub_forms)) [] lines

-- the fault of a line that gives a subcatchment, none or one, by the lines before it
abbrev pub sub_fault : Context → List Line → Line → List LineFault
sub_fault known = fault_at sub_name (form_reading known sub_forms)

abbrev pub is_sub_section : SectionName → Bool
is_sub_section name = has_form sub_forms name
