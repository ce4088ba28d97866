-- The rain gages and subcatchments of an input, and the faults of their lines.
use Rattle.std.specs.Prelude.{◌≡◌, List}
use Rattle.net_types.specs.declared.faults.LineFault.{LineFault}
use Rattle.net_types.specs.declared.hydrology.Sub.{Sub}
use Rattle.net_types.specs.declared.options.InfilKind.{InfilKind}
use Rattle.inp_lines.specs.declared.line.Line.{Line}
use Rattle.inp_lines.specs.Sources.{both_of}
use Rattle.inp_forms.specs.Context.{Context}
use Rattle.inp_forms.specs.Laws.{MeanRecords}
use Rattle.inp_hydrology.specs.declared.areas.OwnAreas.{OwnAreas}
use Rattle.inp_hydrology.specs.declared.soil.OwnInfil.{OwnInfil}
use Rattle.inp_hydrology.specs.Areas.{area_forms, areas_fault, areas_of, with_areas}
use Rattle.inp_hydrology.specs.Evaporation.{evaporation_fault}
use Rattle.inp_hydrology.specs.Gages.{gage_fault}
use Rattle.inp_hydrology.specs.Soil.{soil_fault, soil_forms, soil_of, with_infil}
use Rattle.inp_hydrology.specs.Subcatchments.{sub_fault, sub_forms, subs_of}

-- The fault of a line, none or one, by the lines before it: as a rain gage, a subcatchment, subareas, infiltration
-- numbers or evaporation. Source: this project's profile.
unfoldable pub surface_fault : InfilKind → Context → List Line → Line → List LineFault
surface_fault method known = both_of (both_of (both_of (both_of (gage_fault known) (sub_fault known))
    (areas_fault known)) (soil_fault method known)) (evaporation_fault known)

-- The subcatchments that lines give, with their subareas and infiltration numbers. Source: this project's profile.
abbrev pub full_subs : InfilKind → Context → List Line → List Sub
full_subs method known lines = with_infil (soil_of method known lines) (with_areas (areas_of known lines)
    (subs_of known lines))

-- Lines mean these subcatchments: each is what its own line says, with the subareas and the infiltration numbers of the
-- lines that name it. Source: User's Manual, sections [SUBCATCHMENTS], [SUBAREAS] and [INFILTRATION].
pub record MeansSubs (method : InfilKind) (known : Context) (lines : List Line) (subs : List Sub) : Type 0 where
  pub bare : List Sub
  pub areas : List OwnAreas
  pub soil : List OwnInfil
  pub bare_are : MeanRecords known sub_forms lines bare
  pub areas_are : MeanRecords known area_forms lines areas
  pub soil_is : MeanRecords known (soil_forms method) lines soil
  pub subs_are : subs ≡ with_infil soil (with_areas areas bare)
