-- The forms of the lines that give nodes (User's Manual, sections [JUNCTIONS], [OUTFALLS] and [STORAGE]; ranges and
-- faults are this project's profile), and the nodes of an input.
use Rattle.std.specs.Prelude.{ℕ, pos, Bool, if◌then◌else◌, List, [], codes, Option, Some, None}
use Rattle.net_types.specs.declared.faults.LineFault.{LineFault}
use Rattle.net_types.specs.declared.network.Node.{Node}
use Rattle.net_types.specs.declared.network.NodeKind.TheVariants.{Junction, Outfall, Storage}
use Rattle.net_types.specs.declared.network.Stage.{Stage}
use Rattle.net_types.specs.declared.network.Stage.TheVariants as stage
use Rattle.net_types.specs.declared.network.StoreShape.{StoreShape}
use Rattle.net_types.specs.declared.network.StoreShape.TheVariants.{Tabular, Functional}
use Rattle.inp_values.specs.Words.{same_word}
use Rattle.inp_lines.specs.declared.line.Line.{Line}
use Rattle.inp_lines.specs.declared.line.SectionName.{SectionName}
use Rattle.inp_lines.specs.declared.line.SectionName.TheVariants as section
use Rattle.inp_lines.specs.Faults.{token_at}
use Rattle.inp_lines.specs.Gather.{gather, record_at, fault_at}
use Rattle.inp_lines.specs.Names.{defined}
use Rattle.inp_forms.specs.declared.item.Value.{Value}
use Rattle.inp_forms.specs.declared.words.Keyword.{Keyword}
use Rattle.inp_forms.specs.declared.words.Keyword.TheVariants as keyword
use Rattle.inp_forms.specs.Context.{Context}
use Rattle.inp_forms.specs.Forms.{RowForm, Forms, form_name, form_reading, has_form}
use Rattle.inp_forms.specs.Getters.{amount_at, choice_at, index_at, is_on}
use Rattle.inp_network.specs.declared.junctions.TheConstants.{JUNCTION}
use Rattle.inp_network.specs.declared.outfalls.TheConstants.{STEADY_OUTFALL, FIXED_OUTFALL, TIDAL_OUTFALL}
use Rattle.inp_network.specs.declared.outfalls.TheConstants.{SERIES_OUTFALL}
use Rattle.inp_network.specs.declared.storages.TheConstants.{TABULAR_STORAGE, FUNCTIONAL_STORAGE}

-- whether the item at a place is this keyword
abbrev pub is_at : List (List ℕ) → ℕ → List ℕ → Bool
is_at tokens place word = same_word (token_at tokens place) word

-- ---- junctions
abbrev pub junction_from : List (List ℕ) → List Value → Node
junction_from tokens values = record {
  name = token_at tokens 0;
  invert = amount_at values 1;
  y_max = amount_at values 2;
  y0 = amount_at values 3;
  kind = Junction (amount_at values 4) (amount_at values 5);
}

abbrev pub junction_form : RowForm Node
junction_form = record { items = JUNCTION; make = junction_from }

-- ---- outfalls: the gate stands behind the stage
abbrev pub outfall_from : List (List ℕ) → List Value → Stage → ℕ → Node
outfall_from tokens values at gate = record {
  name = token_at tokens 0;
  invert = amount_at values 1;
  y_max = pos 0;
  y0 = pos 0;
  kind = Outfall at (is_on values gate);
}

abbrev pub steady_of : Keyword → Stage
steady_of keyword.Normal = stage.Normal
steady_of _ = stage.Free

abbrev pub steady_stage : Option Keyword → Stage
steady_stage (Some found) = steady_of found
steady_stage None = stage.Free

abbrev pub steady_form : RowForm Node
steady_form = record {
  items = STEADY_OUTFALL;
  make = λ tokens values. outfall_from tokens values (steady_stage (choice_at values 2)) 3;
}

abbrev pub fixed_form : RowForm Node
fixed_form = record {
  items = FIXED_OUTFALL;
  make = λ tokens values. outfall_from tokens values (stage.Fixed (amount_at values 3)) 4;
}

abbrev pub tidal_form : RowForm Node
tidal_form = record {
  items = TIDAL_OUTFALL;
  make = λ tokens values. outfall_from tokens values (stage.Tidal (index_at values 3)) 4;
}

abbrev pub series_form : RowForm Node
series_form = record {
  items = SERIES_OUTFALL;
  make = λ tokens values. outfall_from tokens values (stage.Series (index_at values 3)) 4;
}

-- the form of an outfall by its type
unfoldable pub outfall_form : List (List ℕ) → RowForm Node
outfall_form tokens =
    if is_at tokens 2 (codes "FIXED") then fixed_form
    else if is_at tokens 2 (codes "TIDAL") then tidal_form
    else if is_at tokens 2 (codes "TIMESERIES") then series_form
    else steady_form

-- ---- storage units
abbrev pub storage_from : List (List ℕ) → List Value → StoreShape → Node
storage_from tokens values shape = record {
  name = token_at tokens 0;
  invert = amount_at values 1;
  y_max = amount_at values 2;
  y0 = amount_at values 3;
  kind = Storage shape;
}

abbrev pub tabular_form : RowForm Node
tabular_form = record {
  items = TABULAR_STORAGE;
  make = λ tokens values. storage_from tokens values (Tabular (index_at values 5));
}

abbrev pub functional_form : RowForm Node
functional_form = record {
  items = FUNCTIONAL_STORAGE;
  make = λ tokens values. storage_from tokens values (Functional (amount_at values 5) (index_at values 6)
      (amount_at values 7));
}

-- the form of a storage unit by how its area is given
unfoldable pub storage_form : List (List ℕ) → RowForm Node
storage_form tokens = if is_at tokens 4 (codes "FUNCTIONAL") then functional_form else tabular_form

-- ---- all nodes
abbrev pub node_forms : Forms Node
node_forms section.Junctions = Some (λ _. junction_form)
node_forms section.Outfalls = Some outfall_form
node_forms section.Storage = Some storage_form
node_forms _ = None

-- the name that a line defines for a node, and the names of all nodes
abbrev pub node_name : Line → Option (List ℕ)
node_name line = form_name node_forms line

abbrev pub node_names : List Line → List (List ℕ)
node_names lines = defined node_name lines

-- the nodes that lines give, in their order
unfoldable pub nodes_of : Context → List Line → List Node
nodes_of known lines = gather (record_at node_name (form_reading known node_forms)) [] lines

-- the fault of a line that gives a node, none or one, by the lines before it
abbrev pub node_fault : Context → List Line → Line → List LineFault
node_fault known = fault_at node_name (form_reading known node_forms)

abbrev pub is_node_section : SectionName → Bool
is_node_section name = has_form node_forms name
