use Rattle.std.proofs.Common.{rules, ap, ◌∙◌, ◌+ℤ◌, ℤ, FitsSigned, w64, to_z-of_z}
use Rattle.std.specs.Option.{option_map}
use Rattle.inp_values.proofs.DurationLemmas.{seconds_clock, seconds_number, seconds_some, seconds_none, even_seconds}
use Rattle.inp_values.proofs.durations.seconds.Goals as goal

pub returns-in-Some-clause-value : goal.returns-in-Some-clause-value
returns-in-Some-clause-value c =
    let fits : FitsSigned w64 c.in-Some.ms = search rules in
    simp (to_z-of_z, fits) (seconds_clock c.args.text.now c.in-Some.ms c.in-Some.ensures.value)

pub returns-in-None-clause-value : goal.returns-in-None-clause-value
returns-in-None-clause-value c =
    c.doubled.ensures.value
    ∙ ap (option_map (λ (half : ℤ). half +ℤ half)) c.scaled_decimal.ensures.value
    ∙ seconds_number c.args.text.now c.in-None.ensures.value

pub returns-in-None-clause-some : goal.returns-in-None-clause-some
returns-in-None-clause-some c =
    seconds_some c.args.text.now c.scaled_decimal.result c.doubled.result c.doubled.ensures.value c.scaled_decimal.ensures.some

pub returns-in-None-clause-none : goal.returns-in-None-clause-none
returns-in-None-clause-none c =
    seconds_none c.args.text.now c.scaled_decimal.result c.doubled.result c.doubled.ensures.value c.in-None.ensures.none c.scaled_decimal.ensures.none

pub returns-in-None-clause-even : goal.returns-in-None-clause-even
returns-in-None-clause-even c = even_seconds c.args.text.now c.doubled.result (returns-in-None-clause-some c)
