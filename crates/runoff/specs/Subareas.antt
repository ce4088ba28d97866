-- The three subareas of a subcatchment (User's Manual, sections [SUBCATCHMENTS] and [SUBAREAS]; the rounding is this
-- project's profile). Areas are mm², parts millionths.
use Rattle.std.specs.Prelude.{◌*◌, ◌^◌, Option, None, Some, ℤ, pos, ◌-ℤ◌, ◌*ℤ◌}
use Rattle.fixed_num.specs.Ranges.{IsWithin}
use Rattle.fixed_num.specs.Rounding.{quo_of}
use Rattle.net_types.specs.declared.hydrology.Infil.{Infil}
use Rattle.net_types.specs.declared.hydrology.Infil.TheVariants.{Horton}
use Rattle.net_types.specs.declared.hydrology.Sub.{Sub}
use Rattle.net_types.specs.declared.hydrology.SubAreas.{SubAreas}
use Rattle.infiltration.specs.Infiltration.{IsInfil}
use Rattle.net_types.specs.Ranges.{SubInRange}
use Rattle.runoff.specs.Overland.{breadth_of, slope_root_of}
use Rattle.runoff.specs.declared.overland.Cover.{Cover}
use Rattle.runoff.specs.declared.overland.Plane.{Plane}
use Rattle.runoff.specs.declared.subareas.Subarea.{Subarea}

-- the numbers of the subareas; a subcatchment without them counts as smooth and without storage
abbrev pub subareas_or : Option SubAreas → SubAreas
subareas_or (Some areas) = areas
subareas_or None =
    record { n_imperv6 = pos 1_000; n_perv6 = pos 1_000; s_imperv = pos 0; s_perv = pos 0; zero6 = pos 0 }

-- the infiltration; a subcatchment without it takes nothing
abbrev pub infil_or : Option Infil → Infil
infil_or (Some infil) = infil
infil_or None = Horton (pos 0) (pos 0) (pos 0) (pos 86_400) (pos 0)

-- a part of an area
unfoldable pub part_of : (area part6 : ℤ) → ℤ
part_of area part6 = quo_of (area *ℤ part6) (pos 1_000_000)

-- the pervious subarea
unfoldable pub pervious_of : Sub → Subarea
pervious_of sub =
    let areas = subareas_or sub.sub_areas in
    record {
      area = part_of sub.area (pos 1_000_000 -ℤ sub.imperv6);
      cover = record { storage = areas.s_perv; n6 = areas.n_perv6 };
    }

-- the impervious subarea without depression storage
unfoldable pub bare_of : Sub → Subarea
bare_of sub =
    let areas = subareas_or sub.sub_areas in
    record {
      area = part_of (part_of sub.area sub.imperv6) areas.zero6;
      cover = record { storage = pos 0; n6 = areas.n_imperv6 };
    }

-- the impervious subarea with depression storage: the rest of the area
unfoldable pub paved_of : Sub → Subarea
paved_of sub =
    let areas = subareas_or sub.sub_areas in
    record {
      area = sub.area -ℤ (pervious_of sub).area -ℤ (bare_of sub).area;
      cover = record { storage = areas.s_imperv; n6 = areas.n_imperv6 };
    }

-- the plane over which the water of all three runs: its width is over the area of the whole subcatchment
unfoldable pub plane_of : Sub → Plane
plane_of sub = record { slope_root = slope_root_of sub.slope6; breadth = breadth_of sub.width sub.area }

-- a subcatchment in range, whose least rate of infiltration is at most its greatest
pub record IsSubcatchment (sub : Sub) : Type 0 where
  pub range : SubInRange sub
  pub infil : IsInfil (infil_or sub.infil)
