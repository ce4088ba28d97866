-- The day of the moment is the quotient.
use Rattle.std.proofs.Common.{rules, ap, ◌∙◌, to_z-of_z, FitsSigned, w64}
use Rattle.calendar_steps.specs.Moment.{day_at}
use Rattle.report_writer.specs.DateTexts.{civil_text, date_text}
use Rattle.report_writer.proofs.dates.date_bytes.Goals as goal

pub returns : goal.returns
unfolding date_text day_at
returns c =
    let fits : FitsSigned w64 c.div_euclid.result = search rules in
    let day = simp (to_z-of_z, c.ranges.moment) at c.div_euclid.ensures in
    let civil = simp (to_z-of_z, fits) at c.civil_of.ensures.value in
    simp (day) at (c.civil_bytes.ensures ∙ ap civil_text civil)
