-- The head of the report of a run (this project's profile).
use Rattle.std.specs.Prelude.{ℕ, List, ◌++◌, codes}
use Rattle.net_types.specs.declared.project.Project.{Project}
use Rattle.report_writer.specs.ReportSections.{options_section}
use Rattle.report_writer.specs.Texts.{lines_of}

-- what stands before the figures of a run: the title, the warnings and the options
unfoldable pub head_of : Project → List ℕ
head_of project =
    codes "SWMM5-FX REPORT\n" ++ (lines_of project.title
    ++ (lines_of project.warnings ++ options_section project.options))
