-- Laws of counted lines, of inflows and of dry weather flows.
use Rattle.std.specs.Prelude.{◌≡◌, ◌<◌, ◌≤◌, ℕ, List, [], length, Some}
use Rattle.std.specs.List.{All}
use Rattle.fixed_num.specs.declared.constants.TheConstants.{RECORD_LIMIT}
use Rattle.net_types.specs.declared.inflows.DryFlow.{DryFlow}
use Rattle.net_types.specs.declared.inflows.Inflow.{Inflow}
use Rattle.net_types.specs.declared.project.Project.{Project}
use Rattle.net_types.specs.Ranges.{InflowInRange, DryFlowInRange}
use Rattle.net_types.specs.Sound.{InflowNames, DryFlowNames}
use Rattle.inp_lines.specs.declared.line.Line.{Line}
use Rattle.inp_lines.specs.Gather.{gather}
use Rattle.inp_lines.specs.Sources.{FaultsIn}
use Rattle.inp_forms.specs.declared.item.Objects.TheVariants as objects
use Rattle.inp_forms.specs.Context.{Context, object_number}
use Rattle.inp_inflows.specs.Counted.{CountedForm, MeanCounted, counted_fault, counted_of}
use Rattle.inp_inflows.specs.Inflows.{inflow_form, dry_form}

-- Where no line of a kind is at fault, the records that are read are those that the lines mean.
abbrev pub CountedAreMeant : Type 0 → Type 0
CountedAreMeant R = (known : Context) (form : CountedForm R) (lines : List Line)
    → gather (counted_fault known form) [] lines ≡ [] → MeanCounted known form lines (counted_of known form lines)

-- Lines mean one list of records of a kind.
abbrev pub CountedAreOne : Type 0 → Type 0
CountedAreOne R = (known : Context) (form : CountedForm R) (lines : List Line) (a b : List R)
    → MeanCounted known form lines a → MeanCounted known form lines b → a ≡ b

-- A line has at most one fault, and only a line of the section.
abbrev pub FaultsAreCounted : Type 0 → Type 0
FaultsAreCounted R = (known : Context) (form : CountedForm R) → FaultsIn form.is_of (counted_fault known form)

-- Lines give at most as many records as may be, be they at fault or not.
abbrev pub CountedAreFew : Type 0 → Type 0
CountedAreFew R = (known : Context) (form : CountedForm R) (lines : List Line)
    → length (counted_of known form lines) ≤ RECORD_LIMIT

-- the numbers of names are those of objects of a project
pub record NamesSources (known : Context) (project : Project) : Type 0 where
  pub nodes : (name : List ℕ) (n : ℕ) → object_number known objects.Nodes name ≡ Some n
      → n < length project.nodes
  pub series : (name : List ℕ) (n : ℕ) → object_number known objects.Series name ≡ Some n
      → n < length project.series
  pub patterns : (name : List ℕ) (n : ℕ) → object_number known objects.Patterns name ≡ Some n
      → n < length project.patterns

-- an inflow and a dry weather flow lie in their ranges, and their numbers name objects
pub record IsSoundInflow (project : Project) (inflow : Inflow) : Type 0 where
  pub range : InflowInRange inflow
  pub names : InflowNames project inflow

pub record IsSoundDry (project : Project) (dry : DryFlow) : Type 0 where
  pub range : DryFlowInRange dry
  pub names : DryFlowNames project dry

abbrev pub InflowsAreSound : Type 0
InflowsAreSound = (known : Context) (project : Project) → NamesSources known project → (lines : List Line)
    (inflows : List Inflow) → MeanCounted known inflow_form lines inflows → All (IsSoundInflow project) inflows

abbrev pub DryFlowsAreSound : Type 0
DryFlowsAreSound = (known : Context) (project : Project) → NamesSources known project → (lines : List Line)
    (dry : List DryFlow) → MeanCounted known dry_form lines dry → All (IsSoundDry project) dry
