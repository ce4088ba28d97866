use Rattle.std.proofs.Common.{◌≡◌, pos, sym, subst, ◌∙◌}
use Rattle.infiltration.specs.Infiltration.{IsStateBy, method_of, start_by}
use Rattle.infiltration.specs.declared.method.Method.{Method}
use Rattle.infiltration.specs.declared.method.Method.TheVariants.{Horton as HortonOf, Number as NumberOf}
use Rattle.infiltration.specs.declared.states.InfilState.TheVariants.{Number as NumberAt}
use Rattle.infiltration.proofs.MethodLemmas.{number_in_range}
use Rattle.infiltration.proofs.StateLaws.{start_state}
use Rattle.infiltration.proofs.infiltration.start_state.Goals as goal
use Rattle.infiltration.proofs.infiltration.start_state.Goals.{After-start}

method : (c : After-start) → method_of c.args.infil.now ≡ NumberOf c.in-Number.curve
method c = sym c.method_in.ensures ∙ c.in-Number.is

pub returns-in-Horton-clause-value : goal.returns-in-Horton-clause-value
unfolding start_by
returns-in-Horton-clause-value c = rw (sym c.method_in.ensures ∙ c.in-Horton.is)

pub returns-in-Number-clause-value : goal.returns-in-Number-clause-value
unfolding start_by
returns-in-Number-clause-value c = let b = (goal.at.returns-in-Number-clause-value c).After-start in rw (method b, c.start.ensures)

pub returns-in-Number-clause-range : goal.returns-in-Number-clause-range
unfolding start_by
returns-in-Number-clause-range c =
    let b = (goal.at.returns-in-Number-clause-range c).After-start in
    let range = number_in_range c.args.infil.now c.in-Number.curve c.requires (method b) in
    rw (method b, c.start.ensures) (start_state c.in-Number.curve range)
