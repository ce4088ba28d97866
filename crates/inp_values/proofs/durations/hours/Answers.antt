use Rattle.std.proofs.Common.{rules, ◌∙◌, FitsSigned, w64, to_z-of_z}
use Rattle.inp_values.proofs.DurationLemmas.{hours_clock, hours_number, hours_none}
use Rattle.inp_values.proofs.durations.hours.Goals as goal

pub returns-in-Some-clause-value : goal.returns-in-Some-clause-value
returns-in-Some-clause-value c =
    let fits : FitsSigned w64 c.in-Some.ms = search rules in
    simp (to_z-of_z, fits) (hours_clock c.args.text.now c.in-Some.ms c.in-Some.ensures.value)

pub returns-in-None-clause-value : goal.returns-in-None-clause-value
returns-in-None-clause-value c = c.scaled_decimal.ensures.value ∙ hours_number c.args.text.now c.in-None.ensures.value

pub returns-in-None-clause-none : goal.returns-in-None-clause-none
returns-in-None-clause-none c =
    hours_none c.args.text.now c.scaled_decimal.result c.in-None.ensures.none c.scaled_decimal.ensures.none
