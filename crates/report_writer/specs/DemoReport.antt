-- The report of the run of a sample (this project's profile).
use Rattle.std.specs.Prelude.{ℕ, List, [], ◌∷◌, ◌++◌, codes, decimal}
use Rattle.net_types.specs.declared.account.StepAccount.{StepAccount}
use Rattle.report_writer.specs.ReportSections.{continuity_section, steps_section}
use Rattle.report_writer.specs.Texts.{joined}
use Rattle.report_writer.specs.declared.counts.RunCounts.{RunCounts}

-- the number of the sample, the volumes of its run, and its counts
unfoldable pub demo_report : (number : ℕ) → StepAccount → RunCounts → List ℕ
demo_report number total counts =
    joined (codes "SWMM5-FX DEMO " ∷ decimal number ∷ codes "\n" ∷ []) ++ (continuity_section total ++ steps_section counts)
