use Rattle.std.proofs.Common.{rules, ◌∙◌, sym, FitsSigned, w64}
use Rattle.std.proofs.lemmas.Int.{to_z-of_z}
use Rattle.run_engine.proofs.TimeLemmas.{wanted_constant, wanted_variable}
use Rattle.run_engine.proofs.times.wanted.Goals as goal

pub returns-then-is_constant-clause-value : goal.returns-then-is_constant-clause-value
returns-then-is_constant-clause-value c =
    let step : FitsSigned w64 c.args.options.now.step_ms = search rules in
    to_z-of_z w64 _ step ∙ sym (wanted_constant c.args.options.now c.args.least (sym c.is_constant.ensures ∙ c.if-is_constant.true))

pub returns-else-is_constant-clause-value : goal.returns-else-is_constant-clause-value
returns-else-is_constant-clause-value c =
    let part : FitsSigned w64 c.travel_part.result = search rules in
    let value = simp (to_z-of_z, c.ranges.least) at c.travel_part.ensures.value in
    to_z-of_z w64 _ part ∙ value ∙ sym (wanted_variable c.args.options.now c.args.least (sym c.is_constant.ensures ∙ c.if-is_constant.false))
