-- What the nodes and links that lines mean give those who compute with them.
use Rattle.std.specs.Prelude.{◌≡◌, ◌<◌, ℕ, List, length, None, Some}
use Rattle.std.specs.List.{All}
use Rattle.net_types.specs.declared.network.Link.{Link}
use Rattle.net_types.specs.declared.network.Node.{Node}
use Rattle.net_types.specs.declared.project.Project.{Project}
use Rattle.net_types.specs.declared.tables.CurveKind.TheVariants.{Storage as StorageCurve, Tidal as TidalCurve}
use Rattle.net_types.specs.Ranges.{NodeInRange, LinkKindInRange}
use Rattle.net_types.specs.Sound.{NamesCurve, NamesPumpCurve, NodeNames, LinkKindNames}
use Rattle.inp_lines.specs.declared.line.Line.{Line}
use Rattle.inp_forms.specs.declared.item.Objects.TheVariants as objects
use Rattle.inp_forms.specs.Context.{Context, object_number}
use Rattle.inp_forms.specs.Laws.{MeanRecords}
use Rattle.inp_network.specs.Nodes.{node_forms}
use Rattle.inp_network.specs.Links.{link_forms}

-- the numbers of names are those of objects of a project
pub record NamesObjects (known : Context) (project : Project) : Type 0 where
  pub nodes : (name : List ℕ) (n : ℕ) → object_number known objects.Nodes name ≡ Some n → n < length project.nodes
  pub series : (name : List ℕ) (n : ℕ) → object_number known objects.Series name ≡ Some n → n < length project.series
  pub storage : (name : List ℕ) (n : ℕ) → object_number known objects.StorageCurves name ≡ Some n
      → NamesCurve project.curves n StorageCurve
  pub tidal : (name : List ℕ) (n : ℕ) → object_number known objects.TidalCurves name ≡ Some n
      → NamesCurve project.curves n TidalCurve
  pub pump : (name : List ℕ) (n : ℕ) → object_number known objects.PumpCurves name ≡ Some n
      → NamesPumpCurve project.curves n

-- a node lies in its ranges, and its numbers name objects
pub record IsSoundNode (project : Project) (node : Node) : Type 0 where
  pub range : NodeInRange node
  pub names : NodeNames project node

-- so does a link, which has no cross-section by its own line
pub record IsSoundLink (project : Project) (link : Link) : Type 0 where
  pub range : LinkKindInRange link.kind
  pub first : link.first < length project.nodes
  pub second : link.second < length project.nodes
  pub names : LinkKindNames project link.kind
  pub bare : link.section ≡ None

abbrev pub NodesAreSound : Type 0
NodesAreSound = (known : Context) (project : Project) → NamesObjects known project → (lines : List Line)
    (nodes : List Node) → MeanRecords known node_forms lines nodes → All (IsSoundNode project) nodes

abbrev pub LinksAreSound : Type 0
LinksAreSound = (known : Context) (project : Project) → NamesObjects known project → (lines : List Line)
    (links : List Link) → MeanRecords known link_forms lines links → All (IsSoundLink project) links
