-- A project without faults, and what the absence of each fault means.
use Rattle.std.specs.Prelude.{◌≡◌, ℕ, ◌<◌, ◌≤◌, [], length, IfSome, IsSome, IsTrue, ℤ, pos, ◌≤ℤ◌}
use Rattle.std.specs.Bool.{⊤}
use Rattle.std.specs.List.{All}
use Rattle.net_types.specs.declared.hydrology.Infil.{Infil}
use Rattle.net_types.specs.declared.hydrology.Infil.TheVariants.{Horton, Number}
use Rattle.net_types.specs.declared.hydrology.Sub.{Sub}
use Rattle.net_types.specs.declared.network.Link.{Link}
use Rattle.net_types.specs.declared.network.LinkKind.{LinkKind}
use Rattle.net_types.specs.declared.network.LinkKind.TheVariants.{Conduit, Pump, Orifice, Weir}
use Rattle.net_types.specs.declared.network.Section.{Section}
use Rattle.net_types.specs.declared.options.Options.{Options}
use Rattle.net_types.specs.declared.project.Project.{Project}
use Rattle.net_types.specs.Records.{node_at}
use Rattle.net_types.specs.Sound.{IsSound}
use Rattle.project_check.specs.FullHeight.{full_height_of}
use Rattle.project_check.specs.Network.{HasOutfall, is_outfall, is_storage, link_ends, links_from}
use Rattle.project_check.specs.Objects.{fits_kind, needs_none, section_area}
use Rattle.project_check.specs.ProjectFaults.{project_faults}
use Rattle.project_check.specs.Times.{EndsBeforeStart, IsOverLimit}

-- the project is sound, and has no fault
pub record IsFaultless (project : Project) : Type 0 where
  pub sound : IsSound project
  pub faultless : project_faults project ≡ []

-- ---- what that means of its times, nodes, links and subcatchments
-- the run doesn't end before it starts, and is within its limits
pub record HasGoodTimes (options : Options) : Type 0 where
  pub order : ¬ (EndsBeforeStart options)
  pub limit : ¬ (IsOverLimit options)

-- an outfall has at most one link, which ends there; a node begins no higher than full; a storage is at least
-- 1,000 µm deep
pub record IsGoodNode (project : Project) (k : ℕ) : Type 0 where
  pub one_link : IsTrue (is_outfall (node_at project.nodes k)) → link_ends project.links k ≤ 1
  pub ends_there : IsTrue (is_outfall (node_at project.nodes k)) → links_from project.links k ≡ 0
  pub depth : (node_at project.nodes k).y0 ≤ℤ full_height_of project k
  pub deep : IsTrue (is_storage (node_at project.nodes k)) → pos 1_000 ≤ℤ (node_at project.nodes k).y_max

-- a section fits the kind of its link, and its full area is not 0 and at most 10^11 mm²
pub record IsGoodSection (kind : LinkKind) (section : Section) : Type 0 where
  pub fits : IsTrue (fits_kind kind section.shape)
  pub some_area : ¬ (section_area section ≡ pos 0)
  pub most_area : section_area section ≤ℤ pos 100_000_000_000

-- the ends of a link differ; it has a section unless it is a pump, and its section is good
pub record IsGoodLink (link : Link) : Type 0 where
  pub ends_differ : ¬ (link.first ≡ link.second)
  pub has_section : ¬ (IsTrue (needs_none link.kind)) → IsSome link.section
  pub good_section : IfSome link.section (IsGoodSection link.kind)

abbrev pub HasGoodRates : Infil → Type 0
HasGoodRates (Horton max min decay6 dry volume) = min ≤ℤ max
HasGoodRates (Number cn6 dry) = ⊤

-- a subcatchment has its subareas and its infiltration, whose least rate is not above its greatest
pub record IsGoodSub (sub : Sub) : Type 0 where
  pub has_areas : IsSome sub.sub_areas
  pub has_infil : IsSome sub.infil
  pub rates : IfSome sub.infil HasGoodRates

-- all of these
pub record IsGood (project : Project) : Type 0 where
  pub outfall : HasOutfall project.nodes
  pub times : HasGoodTimes project.options
  pub nodes : (k : ℕ) → k < length project.nodes → IsGoodNode project k
  pub links : All IsGoodLink project.links
  pub subs : All IsGoodSub project.subs
