use Rattle.std.proofs.Common.{◌≡◌, ◌∙◌, sym, ap, rules, FitsSigned, None}
use Rattle.std.specs.Int.{w128}
use Rattle.std.proofs.lemmas.Int.{to_z-of_z}
use Rattle.fixed_num.specs.Decimal.{in_range, scaled_of, value_in}
use Rattle.fixed_num.proofs.DecimalLemmas.{IsStored-if, IsStored-none}
use Rattle.fixed_num.proofs.decimal.scaled_decimal.Goals as goal
use Rattle.fixed_num.proofs.decimal.scaled_decimal.Goals.{After-in_range}

value : (c : After-in_range) → c.in_range.result ≡ scaled_of c.args.unit.now c.args.text.now
unfolding scaled_of
value c =
    let fits : FitsSigned w128 c.stored.result = search rules in
    let at_call : c.in_range.result ≡ in_range c.args.unit.now c.stored.result = simp (to_z-of_z, fits) at c.in_range.ensures in
    at_call ∙ ap (in_range c.args.unit.now) c.stored.ensures ∙ ap (value_in c.args.unit.now) (sym c.in-Some.is ∙ c.read_number.ensures.value)

pub returns-in_default-clause-value : goal.returns-in_default-clause-value
unfolding scaled_of
returns-in_default-clause-value c = ap (value_in c.args.unit.now) (sym c.in_default.is ∙ c.read_number.ensures.value)

pub returns-in_default-clause-none : goal.returns-in_default-clause-none
returns-in_default-clause-none c = IsStored-none c.args.unit.now c.args.text.now None (returns-in_default-clause-value c)

pub returns-clause-some : goal.returns-clause-some
returns-clause-some c = IsStored-if c.args.unit.now c.args.text.now c.in_range.result (value c)

pub returns-clause-none : goal.returns-clause-none
returns-clause-none c = IsStored-none c.args.unit.now c.args.text.now c.in_range.result (value c)

pub returns-clause-value : goal.returns-clause-value
returns-clause-value = value
