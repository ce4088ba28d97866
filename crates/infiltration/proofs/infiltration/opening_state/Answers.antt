use Rattle.std.proofs.Common.{sym, ◌∙◌}
use Rattle.infiltration.specs.Infiltration.{method_of, opening_by}
use Rattle.infiltration.proofs.MethodLemmas.{number_in_range}
use Rattle.infiltration.proofs.StateLaws.{opened_horton, opened_number}
use Rattle.infiltration.proofs.infiltration.opening_state.Goals as goal

pub opening-requires-in-Number-clause-number : goal.opening-requires-in-Number-clause-number
opening-requires-in-Number-clause-number c =
    number_in_range c.args.infil.now c.in-Number.curve c.requires.infil (sym c.method_in.ensures ∙ c.in-Number.is)

pub returns-in-Horton-clause-value : goal.returns-in-Horton-clause-value
unfolding opening_by
returns-in-Horton-clause-value c =
    let m = sym c.method_in.ensures ∙ c.in-Horton.is in
    let s = c.horton_in.ensures in
    rw (m, ← s, c.opening.ensures)

pub returns-in-Horton-clause-range : goal.returns-in-Horton-clause-range
unfolding opening_by
returns-in-Horton-clause-range c =
    let m = sym c.method_in.ensures ∙ c.in-Horton.is in
    let s = c.horton_in.ensures in
    λ most h.
    let range = opened_horton most c.in-Horton.curve c.args.state (rw m at c.requires.method) h in
    rw (m, c.opening.ensures, s) range

pub returns-in-Number-clause-value : goal.returns-in-Number-clause-value
unfolding opening_by
returns-in-Number-clause-value c =
    let m = sym c.method_in.ensures ∙ c.in-Number.is in
    let s = c.number_in.ensures in
    rw (m, ← s, c.opening-in-Number.ensures)

pub returns-in-Number-clause-range : goal.returns-in-Number-clause-range
unfolding opening_by
returns-in-Number-clause-range c =
    let m = sym c.method_in.ensures ∙ c.in-Number.is in
    let s = c.number_in.ensures in
    let number = number_in_range c.args.infil.now c.in-Number.curve c.requires.infil m in
    λ most h.
    let range = opened_number most c.in-Number.curve c.args.state number (rw m at c.requires.method) h in
    rw (m, c.opening-in-Number.ensures, s) range
