-- What rain gages, subcatchments and what else lines say of these give those who compute with them.
use Rattle.std.specs.Prelude.{◌≡◌, ◌<◌, ℕ, List, length, None, Some}
use Rattle.std.specs.List.{All}
use Rattle.net_types.specs.declared.hydrology.Gage.{Gage}
use Rattle.net_types.specs.declared.hydrology.Sub.{Sub}
use Rattle.net_types.specs.declared.options.InfilKind.{InfilKind}
use Rattle.net_types.specs.declared.project.Project.{Project}
use Rattle.net_types.specs.Ranges.{GageInRange, SubInRange, SubAreasInRange, InfilInRange, IsOfKind}
use Rattle.net_types.specs.Sound.{GageNames}
use Rattle.inp_lines.specs.declared.line.Line.{Line}
use Rattle.inp_forms.specs.declared.item.Objects.TheVariants as objects
use Rattle.inp_forms.specs.Context.{Context, object_number}
use Rattle.inp_forms.specs.Laws.{MeanRecords}
use Rattle.inp_hydrology.specs.declared.areas.OwnAreas.{OwnAreas}
use Rattle.inp_hydrology.specs.declared.soil.OwnInfil.{OwnInfil}
use Rattle.inp_hydrology.specs.Areas.{area_forms}
use Rattle.inp_hydrology.specs.Gages.{gage_forms}
use Rattle.inp_hydrology.specs.Soil.{soil_forms}
use Rattle.inp_hydrology.specs.Subcatchments.{sub_forms}

-- the numbers of names are those of objects of a project
pub record NamesObjects (known : Context) (project : Project) : Type 0 where
  pub nodes : (name : List ℕ) (n : ℕ) → object_number known objects.Nodes name ≡ Some n → n < length project.nodes
  pub series : (name : List ℕ) (n : ℕ) → object_number known objects.Series name ≡ Some n → n < length project.series
  pub gages : (name : List ℕ) (n : ℕ) → object_number known objects.Gages name ≡ Some n → n < length project.gages
  pub subs : (name : List ℕ) (n : ℕ) → object_number known objects.Subcatchments name ≡ Some n
      → n < length project.subs

pub record IsSoundGage (project : Project) (gage : Gage) : Type 0 where
  pub range : GageInRange gage
  pub names : GageNames project gage

-- a subcatchment by its own line has neither subareas nor infiltration numbers
pub record IsSoundSub (project : Project) (sub : Sub) : Type 0 where
  pub range : SubInRange sub
  pub gage : sub.gage < length project.gages
  pub outlet : sub.outlet < length project.nodes
  pub no_areas : sub.sub_areas ≡ None
  pub no_infil : sub.infil ≡ None

pub record AreSoundAreas (project : Project) (own : OwnAreas) : Type 0 where
  pub range : SubAreasInRange own.areas
  pub sub : own.sub < length project.subs

pub record IsSoundSoil (method : InfilKind) (project : Project) (own : OwnInfil) : Type 0 where
  pub range : InfilInRange own.infil
  pub kind : IsOfKind method own.infil
  pub sub : own.sub < length project.subs

abbrev pub GagesAreSound : Type 0
GagesAreSound = (known : Context) (project : Project) → NamesObjects known project → (lines : List Line)
    (gages : List Gage) → MeanRecords known gage_forms lines gages → All (IsSoundGage project) gages

abbrev pub SubsAreSound : Type 0
SubsAreSound = (known : Context) (project : Project) → NamesObjects known project → (lines : List Line)
    (subs : List Sub) → MeanRecords known sub_forms lines subs → All (IsSoundSub project) subs

abbrev pub AreasAreSound : Type 0
AreasAreSound = (known : Context) (project : Project) → NamesObjects known project → (lines : List Line)
    (areas : List OwnAreas) → MeanRecords known area_forms lines areas → All (AreSoundAreas project) areas

abbrev pub SoilIsSound : Type 0
SoilIsSound = (method : InfilKind) (known : Context) (project : Project) → NamesObjects known project
    → (lines : List Line) (soil : List OwnInfil) → MeanRecords known (soil_forms method) lines soil
    → All (IsSoundSoil method project) soil
