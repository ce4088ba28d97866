-- The sections of the report of a run (this project's profile).
use Rattle.std.specs.Prelude.{ℕ, if◌then◌else◌, List, [], ◌∷◌, ◌++◌, codes, decimal, ℤ, pos}
use Rattle.std.specs.Fmt.{signed_decimal}
use Rattle.std.specs.Ordering.{int_eq}
use Rattle.fixed_num.specs.Decimal.{decimal_text}
use Rattle.inp_values.specs.declared.quantities.Quantity.TheVariants.{Coefficient}
use Rattle.inp_values.specs.Units.{unit_for}
use Rattle.net_types.specs.declared.account.StepAccount.{StepAccount}
use Rattle.net_types.specs.declared.options.Options.{Options}
use Rattle.net_types.specs.declared.options.FlowUnits.{FlowUnits}
use Rattle.net_types.specs.declared.options.FlowUnits.TheVariants.{Cfs, Gpm, Mgd, Cms, Lps, Mld}
use Rattle.report_writer.specs.declared.counts.RunCounts.{RunCounts}
use Rattle.report_writer.specs.DateTexts.{date_text, time_text}
use Rattle.report_writer.specs.Texts.{joined}

-- flow units by their keywords
abbrev pub units_name : FlowUnits → List ℕ
units_name Cfs = codes "CFS"
units_name Gpm = codes "GPM"
units_name Mgd = codes "MGD"
units_name Cms = codes "CMS"
units_name Lps = codes "LPS"
units_name Mld = codes "MLD"

-- the flow units, when the run starts and ends, and the routing step
unfoldable pub times_lines : Options → List ℕ
times_lines options = joined (
    codes "\nAnalysis Options\nFlow Units " ∷ units_name options.units
    ∷ codes "\nStart " ∷ date_text options.start ∷ codes " " ∷ time_text options.start
    ∷ codes "\nEnd " ∷ date_text options.finish ∷ codes " " ∷ time_text options.finish
    ∷ codes "\nRouting Step " ∷ signed_decimal options.step_ms ∷ codes " ms\n" ∷ [])

-- the part of the least travel time that a step of variable length has; other runs have no such line
abbrev pub part_line : FlowUnits → (part : ℤ) → List ℕ
part_line units part = joined (codes "Variable Step " ∷ decimal_text part (unit_for units Coefficient) 6
    ∷ codes "\n" ∷ [])

unfoldable pub variable_line : Options → List ℕ
variable_line options = if int_eq options.variable6 (pos 0) then [] else part_line options.units options.variable6

-- the report step
unfoldable pub report_line : (report_ms : ℤ) → List ℕ
report_line report_ms = joined (codes "Report Step " ∷ signed_decimal report_ms ∷ codes " ms\n" ∷ [])

unfoldable pub options_section : Options → List ℕ
options_section options = times_lines options ++ (variable_line options ++ report_line options.report_ms)

-- the volumes of the whole run (mm³)
unfoldable pub continuity_section : StepAccount → List ℕ
continuity_section total = joined (
    codes "\nFlow Routing Continuity (mm3)\nInflow " ∷ signed_decimal total.inflow
    ∷ codes "\nOutfall " ∷ signed_decimal total.outfall
    ∷ codes "\nFlooding " ∷ signed_decimal total.flooding
    ∷ codes "\nStorage Change " ∷ signed_decimal total.storage
    ∷ codes "\nError " ∷ signed_decimal total.error ∷ codes "\n" ∷ [])

-- how many steps and trials were made, how many steps did not settle, and the end of the report
unfoldable pub steps_section : RunCounts → List ℕ
steps_section counts = joined (
    codes "\nRouting Steps\nSteps " ∷ decimal counts.steps
    ∷ codes "\nTrials " ∷ decimal counts.trials
    ∷ codes "\nNot Converged " ∷ decimal counts.unsettled ∷ codes "\nEnd of report\n" ∷ [])
