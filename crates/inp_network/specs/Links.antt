-- The forms of the lines that give links (User's Manual, sections [CONDUITS], [PUMPS], [ORIFICES] and [WEIRS]; ranges
-- and faults are this project's profile), and the links of an input. Their cross-sections stand in another section.
use Rattle.std.specs.Prelude.{ℕ, pos, Bool, true, false, if◌then◌else◌, List, [], Option, Some, None}
use Rattle.net_types.specs.declared.faults.LineFault.{LineFault}
use Rattle.net_types.specs.declared.network.Link.{Link}
use Rattle.net_types.specs.declared.network.LinkKind.{LinkKind}
use Rattle.net_types.specs.declared.network.LinkKind.TheVariants.{Conduit, Pump, Orifice, Weir}
use Rattle.inp_lines.specs.declared.line.Line.{Line}
use Rattle.inp_lines.specs.declared.line.SectionName.{SectionName}
use Rattle.inp_lines.specs.declared.line.SectionName.TheVariants as section
use Rattle.inp_lines.specs.declared.names.Naming.{Naming}
use Rattle.inp_lines.specs.declared.names.Naming.TheVariants.{First}
use Rattle.inp_lines.specs.declared.reading.Reading.{Reading}
use Rattle.inp_lines.specs.declared.reading.Reading.TheVariants.{Other, Record}
use Rattle.inp_lines.specs.Faults.{token_at}
use Rattle.inp_lines.specs.Gather.{gather, record_at, fault_at}
use Rattle.inp_lines.specs.Names.{defined}
use Rattle.inp_forms.specs.declared.item.Value.{Value}
use Rattle.inp_forms.specs.declared.words.Keyword.{Keyword}
use Rattle.inp_forms.specs.declared.words.Keyword.TheVariants as keyword
use Rattle.inp_forms.specs.Context.{Context}
use Rattle.inp_forms.specs.Forms.{RowForm, Forms, form_name, form_reading, has_form}
use Rattle.inp_forms.specs.Getters.{amount_at, choice_at, index_at, is_on}
use Rattle.inp_network.specs.declared.conduits.TheConstants.{CONDUIT}
use Rattle.inp_network.specs.declared.orifices.TheConstants.{ORIFICE}
use Rattle.inp_network.specs.declared.pumps.TheConstants.{PUMP}
use Rattle.inp_network.specs.declared.weirs.TheConstants.{WEIR}

-- a link between the nodes of its second and third item
abbrev pub link_from : List (List ℕ) → List Value → LinkKind → Link
link_from tokens values kind = record {
  name = token_at tokens 0;
  first = index_at values 1;
  second = index_at values 2;
  kind = kind;
  section = None;
}

-- losses and flap gate of a conduit stand in another section
abbrev pub conduit_of : List Value → LinkKind
conduit_of values = Conduit (amount_at values 3) (amount_at values 4) (amount_at values 5) (amount_at values 6)
    (amount_at values 7) (amount_at values 8) (pos 0) (pos 0) (pos 0) false

abbrev pub conduit_form : RowForm Link
conduit_form = record { items = CONDUIT; make = λ tokens values. link_from tokens values (conduit_of values) }

abbrev pub pump_of : List Value → LinkKind
pump_of values = Pump (index_at values 3) (is_on values 4) (amount_at values 5) (amount_at values 6)

abbrev pub pump_form : RowForm Link
pump_form = record { items = PUMP; make = λ tokens values. link_from tokens values (pump_of values) }

abbrev pub is_bottom_word : Keyword → Bool
is_bottom_word keyword.Bottom = true
is_bottom_word _ = false

abbrev pub is_bottom : Option Keyword → Bool
is_bottom (Some found) = is_bottom_word found
is_bottom None = false

abbrev pub orifice_of : List Value → LinkKind
orifice_of values = Orifice (is_bottom (choice_at values 3)) (amount_at values 4) (amount_at values 5) (is_on values 6)

abbrev pub orifice_form : RowForm Link
orifice_form = record { items = ORIFICE; make = λ tokens values. link_from tokens values (orifice_of values) }

abbrev pub is_notch_word : Keyword → Bool
is_notch_word keyword.VNotch = true
is_notch_word _ = false

abbrev pub is_notch : Option Keyword → Bool
is_notch (Some found) = is_notch_word found
is_notch None = false

abbrev pub weir_of : List Value → LinkKind
weir_of values = Weir (is_notch (choice_at values 3)) (amount_at values 4) (amount_at values 5) (is_on values 6)
    (amount_at values 7)

abbrev pub weir_form : RowForm Link
weir_form = record { items = WEIR; make = λ tokens values. link_from tokens values (weir_of values) }

-- ---- all links
abbrev pub link_forms : Forms Link
link_forms section.Conduits = Some (λ _. conduit_form)
link_forms section.Pumps = Some (λ _. pump_form)
link_forms section.Orifices = Some (λ _. orifice_form)
link_forms section.Weirs = Some (λ _. weir_form)
link_forms _ = None

-- the name that a line defines for a link, and the names of all links
abbrev pub link_name : Line → Option (List ℕ)
link_name line = form_name link_forms line

abbrev pub link_names : List Line → List (List ℕ)
link_names lines = defined link_name lines

-- the links that lines give, in their order
unfoldable pub links_of : Context → List Line → List Link
links_of known lines = gather (record_at link_name (form_reading known link_forms)) [] lines

-- the fault of a line that gives a link, none or one, by the lines before it
abbrev pub link_fault : Context → List Line → Line → List LineFault
link_fault known = fault_at link_name (form_reading known link_forms)

abbrev pub is_link_section : SectionName → Bool
is_link_section name = has_form link_forms name

-- ---- the sections of the lines that define links
-- whether a line defines a link of its name
abbrev pub defines_link : Naming → Option (List ℕ) → Bool
defines_link First (Some name) = true
defines_link _ _ = false

-- the section of a line that defines a link
abbrev pub link_section_reading : Naming → Line → Reading SectionName
link_section_reading naming line = if defines_link naming (link_name line) then Record line.section else Other

-- for each link the section of the line that defines it: the place of a section is the number of the link
unfoldable pub link_sections : List Line → List SectionName
link_sections lines = gather (record_at link_name link_section_reading) [] lines
