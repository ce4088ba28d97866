-- The section lines of an input.
use Rattle.std.specs.Prelude.{◌==◌, ℕ, Bool, cond, List, [], ◌∷◌, take, Option, Some, None, codes}
use Rattle.std.specs.List.{before_first}
use Rattle.std.specs.Str.{str_eq_ignore_ascii_case}
use Rattle.std.specs.Option.{option_map}
use Rattle.inp_lines.specs.declared.line.SectionName.{SectionName}
use Rattle.inp_lines.specs.declared.line.SectionName.TheVariants as section
use Rattle.inp_lines.specs.Tokens.{before_comment, without_blanks}

-- The sections by their names, in the order in which a key is looked up (User's Manual, appendix D).
abbrev pub known_sections : List (List ℕ × SectionName)
known_sections =
    (codes "TITLE", section.Title) ∷
    (codes "OPTIONS", section.Options) ∷
    (codes "EVAPORATION", section.Evaporation) ∷
    (codes "RAINGAGES", section.RainGages) ∷
    (codes "SUBCATCHMENTS", section.Subcatchments) ∷
    (codes "SUBAREAS", section.SubAreas) ∷
    (codes "INFILTRATION", section.Infiltration) ∷
    (codes "JUNCTIONS", section.Junctions) ∷
    (codes "OUTFALLS", section.Outfalls) ∷
    (codes "STORAGE", section.Storage) ∷
    (codes "CONDUITS", section.Conduits) ∷
    (codes "PUMPS", section.Pumps) ∷
    (codes "ORIFICES", section.Orifices) ∷
    (codes "WEIRS", section.Weirs) ∷
    (codes "XSECTIONS", section.XSections) ∷
    (codes "LOSSES", section.Losses) ∷
    (codes "CONTROLS", section.Controls) ∷
    (codes "INFLOWS", section.Inflows) ∷
    (codes "DWF", section.Dwf) ∷
    (codes "PATTERNS", section.Patterns) ∷
    (codes "CURVES", section.Curves) ∷
    (codes "TIMESERIES", section.TimeSeries) ∷
    (codes "REPORT", section.Report) ∷
    (codes "TAGS", section.Tags) ∷
    (codes "MAP", section.Map) ∷
    (codes "COORDINATES", section.Coordinates) ∷
    (codes "VERTICES", section.Vertices) ∷
    (codes "POLYGONS", section.Polygons) ∷
    (codes "SYMBOLS", section.Symbols) ∷
    (codes "LABELS", section.Labels) ∷
    (codes "BACKDROP", section.Backdrop) ∷
    (codes "PROFILES", section.Profiles) ∷
    (codes "DIVIDERS", section.Dividers) ∷
    (codes "OUTLETS", section.Outlets) ∷
    (codes "FILES", section.Files) ∷
    (codes "TEMPERATURE", section.Temperature) ∷
    (codes "ADJUSTMENTS", section.Adjustments) ∷
    (codes "AQUIFERS", section.Aquifers) ∷
    (codes "GROUNDWATER", section.Groundwater) ∷
    (codes "GWF", section.Gwf) ∷
    (codes "SNOWPACKS", section.Snowpacks) ∷
    (codes "LID_CONTROLS", section.LidControls) ∷
    (codes "LID_USAGE", section.LidUsage) ∷
    (codes "POLLUTANTS", section.Pollutants) ∷
    (codes "LANDUSES", section.LandUses) ∷
    (codes "COVERAGES", section.Coverages) ∷
    (codes "LOADINGS", section.Loadings) ∷
    (codes "BUILDUP", section.Buildup) ∷
    (codes "WASHOFF", section.Washoff) ∷
    (codes "TREATMENT", section.Treatment) ∷
    (codes "RDII", section.Rdii) ∷
    (codes "HYDROGRAPHS", section.Hydrographs) ∷
    (codes "TRANSECTS", section.Transects) ∷
    []

-- What stands behind the bracket at a text's front, if one does.
abbrev pub behind_bracket : List ℕ → Option (List ℕ)
behind_bracket [] = None
behind_bracket (byte ∷ bytes) = cond (byte == 91) (Some bytes) None

-- The key: up to four bytes, ending before a `]` (this project's profile).
abbrev pub key_of : List ℕ → List ℕ
key_of bytes = take 4 (before_first (λ byte. byte == 93) bytes)

-- Whether a key is that of a section: it equals the first four letters of the name, or all of a name of three,
-- ASCII case ignored (this project's profile).
abbrev pub is_key_of : List ℕ → List ℕ → Bool
is_key_of key name = str_eq_ignore_ascii_case key (take 4 name)

-- The section of a key among those of a list: the first whose key it is, and else `Unknown`.
abbrev pub first_section : List (List ℕ × SectionName) → List ℕ → SectionName
first_section [] key = section.Unknown
first_section (known ∷ more) key = cond (is_key_of key known.0) known.1 (first_section more key)

-- The section of a key.
unfoldable pub section_of_key : List ℕ → SectionName
section_of_key key = first_section known_sections key

-- The section that a line names. A line names one exactly where its first byte past blanks is `[`; its comment is
-- no part of it (this project's profile).
unfoldable pub named_section : List ℕ → Option SectionName
named_section line =
    option_map (λ bytes. section_of_key (key_of bytes)) (behind_bracket (without_blanks (before_comment line)))
