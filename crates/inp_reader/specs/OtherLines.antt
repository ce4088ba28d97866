-- Faults of lines that no section reads: lines that are too long, that stand outside of all sections, or in sections
-- that aren't built yet (User's Manual, appendix D; the numbers are this project's profile).
use Rattle.std.specs.Prelude.{Bool, List, cond, is_some, length, Option, None, Some}
use Rattle.net_types.specs.declared.faults.FaultKind.{FaultKind}
use Rattle.net_types.specs.declared.faults.FaultKind.TheVariants.{InvalidKeyword, NotInProfile, OverLimit}
use Rattle.net_types.specs.declared.faults.LineFault.{LineFault}
use Rattle.inp_lines.specs.declared.fault.Fault.{Fault}
use Rattle.inp_lines.specs.declared.line.Line.{Line}
use Rattle.inp_lines.specs.declared.line.SectionName.{SectionName}
use Rattle.inp_lines.specs.declared.line.SectionName.TheVariants as section
use Rattle.inp_lines.specs.Gather.{walk_fault}
use Rattle.inp_lines.specs.Readings.{is_long}
use Rattle.inp_lines.specs.Sections.{named_section}
use Rattle.inp_lines.specs.Faults.{fault_of_kind}

-- How lines of a section are taken.
--     BuiltSection      another reader takes them, or they are the title
--     PassedSection     they are passed over, whatever stands in them
--     LaterSection      they aren't in the profile yet
--     UnknownSection    the section isn't known
--     NoSection         no section line stands above them
pub data Treatment : Type 0 where
  BuiltSection : Treatment
  PassedSection : Treatment
  LaterSection : Treatment
  UnknownSection : Treatment
  NoSection : Treatment

abbrev pub treatment_of : SectionName → Treatment
treatment_of section.Title = BuiltSection
treatment_of section.Options = BuiltSection
treatment_of section.Junctions = BuiltSection
treatment_of section.Outfalls = BuiltSection
treatment_of section.RainGages = BuiltSection
treatment_of section.Evaporation = BuiltSection
treatment_of section.Subcatchments = BuiltSection
treatment_of section.SubAreas = BuiltSection
treatment_of section.Infiltration = BuiltSection
treatment_of section.Storage = BuiltSection
treatment_of section.Conduits = BuiltSection
treatment_of section.Pumps = BuiltSection
treatment_of section.Orifices = BuiltSection
treatment_of section.Weirs = BuiltSection
treatment_of section.XSections = BuiltSection
treatment_of section.Losses = BuiltSection
treatment_of section.Controls = BuiltSection
treatment_of section.Inflows = BuiltSection
treatment_of section.Dwf = BuiltSection
treatment_of section.Curves = BuiltSection
treatment_of section.TimeSeries = BuiltSection
treatment_of section.Patterns = BuiltSection
treatment_of section.Report = PassedSection
treatment_of section.Tags = PassedSection
treatment_of section.Map = PassedSection
treatment_of section.Coordinates = PassedSection
treatment_of section.Vertices = PassedSection
treatment_of section.Polygons = PassedSection
treatment_of section.Symbols = PassedSection
treatment_of section.Labels = PassedSection
treatment_of section.Backdrop = PassedSection
treatment_of section.Profiles = PassedSection
treatment_of section.Unknown = UnknownSection
treatment_of section.Before = NoSection
treatment_of _ = LaterSection

-- A fault at the first token.
abbrev pub at_first : FaultKind → Fault
at_first kind = fault_of_kind kind 0

-- Whether a line is a section line.
abbrev pub is_section_line : Line → Bool
is_section_line line = is_some (named_section line.bytes)

-- The fault of a line that isn't too long, by how its section is taken. A section line in an unknown section is that
-- section's own line; other lines there are passed over.
abbrev pub treated_fault : Treatment → Bool → Option Fault
treated_fault BuiltSection names_section = None
treated_fault PassedSection names_section = None
treated_fault LaterSection names_section = Some (at_first NotInProfile)
treated_fault UnknownSection names_section = cond names_section (Some (at_first InvalidKeyword)) None
treated_fault NoSection names_section = Some (at_first InvalidKeyword)

-- The fault of a line that no other reader finds: a line that is too long has no other fault, and its token is empty.
abbrev pub other_fault : Line → Option Fault
other_fault line = cond (is_long line) (Some (fault_of_kind OverLimit (length line.tokens)))
    (treated_fault (treatment_of line.section) (is_section_line line))

-- The same as a list, by the lines before it, which don't matter.
abbrev pub other_line_fault : List Line → Line → List LineFault
other_line_fault = walk_fault (λ before line. other_fault line)
