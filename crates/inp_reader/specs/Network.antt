-- The nodes and links of an input, and the faults of their lines.
use Rattle.std.specs.Prelude.{◌≡◌, List}
use Rattle.net_types.specs.declared.faults.LineFault.{LineFault}
use Rattle.net_types.specs.declared.network.Link.{Link}
use Rattle.inp_lines.specs.declared.line.Line.{Line}
use Rattle.inp_lines.specs.Sources.{both_of}
use Rattle.inp_forms.specs.Context.{Context}
use Rattle.inp_forms.specs.Laws.{MeanRecords}
use Rattle.inp_network.specs.Links.{link_fault, link_forms, links_of}
use Rattle.inp_network.specs.Nodes.{node_fault}
use Rattle.inp_sections.specs.declared.cross_sections.OwnSection.{OwnSection}
use Rattle.inp_sections.specs.declared.losses.OwnLosses.{OwnLosses}
use Rattle.inp_sections.specs.CrossSections.{section_fault, section_forms, sections_of, with_sections}
use Rattle.inp_sections.specs.Losses.{loss_forms, losses_fault, losses_of, with_losses}

-- The fault of a line, none or one, by the lines before it: as a node, a link, a cross-section or losses.
-- Source: this project's profile.
unfoldable pub network_fault : Context → List Line → Line → List LineFault
network_fault known = both_of (both_of (both_of (node_fault known) (link_fault known)) (section_fault known))
    (losses_fault known)

-- The links that lines give, with their cross-sections and losses. Source: this project's profile.
abbrev pub full_links : Context → List Line → List Link
full_links known lines = with_losses (losses_of known lines) (with_sections (sections_of known lines)
    (links_of known lines))

-- Lines mean these links: each is what its own line says, with the cross-section and the losses of the lines that name
-- it. Source: User's Manual, sections [CONDUITS], [PUMPS], [ORIFICES], [WEIRS], [XSECTIONS] and [LOSSES].
pub record MeansLinks (known : Context) (lines : List Line) (links : List Link) : Type 0 where
  pub bare : List Link
  pub sections : List OwnSection
  pub losses : List OwnLosses
  pub bare_are : MeanRecords known link_forms lines bare
  pub sections_are : MeanRecords known section_forms lines sections
  pub losses_are : MeanRecords known loss_forms lines losses
  pub links_are : links ≡ with_losses losses (with_sections sections bare)
