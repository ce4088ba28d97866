-- The warnings that options call for (User's Manual, section [OPTIONS]).
use Rattle.std.specs.Prelude.{ℕ, Bool, true, false, ◌&&◌, cond, List, [], ◌∷◌, ◌++◌, unwrap_or, is_none, codes}
use Rattle.std.specs.List.{list_any}
use Rattle.inp_lines.specs.declared.line.Line.{Line}
use Rattle.inp_lines.specs.declared.line.SectionName.{SectionName}
use Rattle.inp_lines.specs.declared.line.SectionName.TheVariants as section
use Rattle.inp_options.specs.declared.chosen.Latest.{Latest}
use Rattle.inp_options.specs.Options.{latest_in}

-- whether a file has data lines of SUBCATCHMENTS
abbrev pub is_subcatchments : SectionName → Bool
is_subcatchments section.Subcatchments = true
is_subcatchments _ = false

abbrev pub has_subcatchments : List Line → Bool
has_subcatchments lines = list_any (λ line. is_subcatchments line.section) lines

-- a warning where it is due
abbrev pub warning_if : Bool → List ℕ → List (List ℕ)
warning_if due text = cond due (text ∷ []) []

-- the slot stands in the place of EXTRAN; with subcatchments, a missing INFILTRATION is modified Horton
unfoldable pub warnings_by : Latest → List Line → List (List ℕ)
warnings_by latest lines =
    warning_if (unwrap_or latest.extran false) (codes "WARNING slot method used")
    ++ warning_if (is_none latest.infil && has_subcatchments lines)
    (codes "WARNING infiltration taken as MODIFIED_HORTON")

unfoldable pub warnings_of : List Line → List (List ℕ)
warnings_of lines = warnings_by (latest_in lines) lines
