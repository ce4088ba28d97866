-- Direct inflows and dry weather flows of nodes (User's Manual, sections [INFLOWS] and [DWF]; what isn't read and the
-- faults are this project's profile).
use Rattle.std.specs.Prelude.{ℕ, Bool, true, false, List, [], ◌∷◌, filter_map}
use Rattle.net_types.specs.declared.inflows.DryFlow.{DryFlow}
use Rattle.net_types.specs.declared.inflows.Inflow.{Inflow}
use Rattle.inp_lines.specs.declared.line.SectionName.{SectionName}
use Rattle.inp_lines.specs.declared.line.SectionName.TheVariants as section
use Rattle.inp_forms.specs.declared.item.Value.{Value}
use Rattle.inp_forms.specs.Forms.{RowForm}
use Rattle.inp_forms.specs.Getters.{amount_at, index_at, index_or_none}
use Rattle.inp_inflows.specs.declared.inflows.TheConstants.{INFLOW}
use Rattle.inp_inflows.specs.declared.dry.TheConstants.{DRY_FLOW}
use Rattle.inp_inflows.specs.Counted.{CountedForm}

-- ---- direct inflows
abbrev pub is_inflow_section : SectionName → Bool
is_inflow_section section.Inflows = true
is_inflow_section _ = false

abbrev pub inflow_from : List (List ℕ) → List Value → Inflow
inflow_from tokens values = record {
  node = index_at values 0;
  series = index_or_none values 2;
  scale6 = amount_at values 5;
  base6 = amount_at values 6;
  pattern = index_or_none values 7;
}

abbrev pub inflow_row : RowForm Inflow
inflow_row = record { items = INFLOW; make = inflow_from }

abbrev pub inflow_form : CountedForm Inflow
inflow_form = record { is_of = is_inflow_section; row = inflow_row }

-- ---- dry weather flows: the patterns that are there, in their order
abbrev pub is_dry_section : SectionName → Bool
is_dry_section section.Dwf = true
is_dry_section _ = false

abbrev pub dry_from : List (List ℕ) → List Value → DryFlow
dry_from tokens values = record {
  node = index_at values 0;
  base6 = amount_at values 2;
  patterns = filter_map (index_or_none values) (3 ∷ 4 ∷ 5 ∷ 6 ∷ []);
}

abbrev pub dry_row : RowForm DryFlow
dry_row = record { items = DRY_FLOW; make = dry_from }

abbrev pub dry_form : CountedForm DryFlow
dry_form = record { is_of = is_dry_section; row = dry_row }
