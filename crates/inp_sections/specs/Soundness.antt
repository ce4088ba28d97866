-- What cross-sections and losses that lines mean give those who compute with them.
use Rattle.std.specs.Prelude.{◌≡◌, ◌<◌, ℕ, List, length, Some}
use Rattle.std.specs.List.{All}
use Rattle.net_types.specs.declared.project.Project.{Project}
use Rattle.net_types.specs.Ranges.{SectionInRange}
use Rattle.fixed_num.specs.Ranges.{IsCoefficient}
use Rattle.inp_lines.specs.declared.line.Line.{Line}
use Rattle.inp_forms.specs.declared.item.Objects.TheVariants as objects
use Rattle.inp_forms.specs.Context.{Context, object_number}
use Rattle.inp_forms.specs.Laws.{MeanRecords}
use Rattle.inp_sections.specs.declared.cross_sections.OwnSection.{OwnSection}
use Rattle.inp_sections.specs.declared.losses.OwnLosses.{OwnLosses}
use Rattle.inp_sections.specs.CrossSections.{section_forms}
use Rattle.inp_sections.specs.Losses.{loss_forms}

-- the numbers of names are those of links of a project
pub record NamesLinks (known : Context) (project : Project) : Type 0 where
  pub links : (name : List ℕ) (n : ℕ) → object_number known objects.Links name ≡ Some n → n < length project.links
  pub conduits : (name : List ℕ) (n : ℕ) → object_number known objects.Conduits name ≡ Some n
      → n < length project.links

pub record IsSoundSection (project : Project) (own : OwnSection) : Type 0 where
  pub range : SectionInRange own.section
  pub link : own.link < length project.links

pub record AreSoundLosses (project : Project) (own : OwnLosses) : Type 0 where
  pub entry_in : IsCoefficient own.entry6
  pub exit_in : IsCoefficient own.exit6
  pub avg_in : IsCoefficient own.avg6
  pub link : own.link < length project.links

abbrev pub SectionsAreSound : Type 0
SectionsAreSound = (known : Context) (project : Project) → NamesLinks known project → (lines : List Line)
    (sections : List OwnSection) → MeanRecords known section_forms lines sections
    → All (IsSoundSection project) sections

abbrev pub LossesAreSound : Type 0
LossesAreSound = (known : Context) (project : Project) → NamesLinks known project → (lines : List Line)
    (losses : List OwnLosses) → MeanRecords known loss_forms lines losses → All (AreSoundLosses project) losses
