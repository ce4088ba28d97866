-- What a link of a faultless project is: the words of the functions that make its law.
use Rattle.std.specs.Prelude.{◌^◌, pos}
use Rattle.std.specs.Bool.{⊤}
use Rattle.fixed_num.specs.Ranges.{IsBetween}
use Rattle.net_types.specs.Ranges.{LinkInRange, SectionInRange}
use Rattle.net_types.specs.Sound.{LinkNames}
use Rattle.net_types.specs.declared.network.Link.{Link}
use Rattle.net_types.specs.declared.network.LinkKind.{LinkKind}
use Rattle.net_types.specs.declared.network.LinkKind.TheVariants.{Conduit, Pump, Orifice, Weir}
use Rattle.net_types.specs.declared.network.Section.{Section}
use Rattle.net_types.specs.declared.project.Project.{Project}
use Rattle.project_check.specs.Faultless.{IsGoodLink as IsFaultlessLink}
use Rattle.xsect_tables.specs.SectionTable.{table_of, full_area}

-- its numbers name objects of the project, it is in its ranges, and it has no fault
pub record IsRouted (project : Project) (link : Link) : Type 0 where
  pub names : LinkNames project link
  pub range : LinkInRange link
  pub good : IsFaultlessLink link

abbrev pub IsConduitKind : LinkKind → Type 0
IsConduitKind (Conduit long n6 z1 z2 q0 q_max entry6 exit6 avg6 flap) = ⊤
IsConduitKind (Pump curve on startup shutoff) = ⊥
IsConduitKind (Orifice bottom offset cd6 flap) = ⊥
IsConduitKind (Weir notch crest cd6 flap contractions) = ⊥

-- a section in its ranges, with a full area of 1 to 10^11 mm²
pub record IsRoutedSection (section : Section) : Type 0 where
  pub range : SectionInRange section
  pub area : IsBetween (pos 1) (full_area (table_of section)) (pos (10 ^ 11))
