use Rattle.std.proofs.Common.{ap, sym, ◌∙◌, Some, None}
use Rattle.inp_values.proofs.FieldLemmas.{some_field, none_field, no_field, the_field, field_digits, count_fits}
use Rattle.inp_values.proofs.wholes.field.Goals as goal

pub returns-then-not-is_field-clause-none : goal.returns-then-not-is_field-clause-none
returns-then-not-is_field-clause-none c =
    none_field c.args.least c.args.most c.args.text.now None (no_field _ _ _ (sym c.if-not-is_field.ensures))

pub returns-then-not-is_field-clause-value : goal.returns-then-not-is_field-clause-value
returns-then-not-is_field-clause-value c = no_field _ _ _ (sym c.if-not-is_field.ensures)

pub read_digits-requires-clause-digits : goal.read_digits-requires-clause-digits
read_digits-requires-clause-digits c = (field_digits c.args.least c.args.most c.args.text.now (sym c.if-not-is_field.ensures)).0

pub returns-clause-value : goal.returns-clause-value
returns-clause-value c = ap Some c.read_digits.ensures.value ∙ the_field c.args.least c.args.most c.args.text.now (sym c.if-not-is_field.ensures)

pub returns-clause-some : goal.returns-clause-some
returns-clause-some c = some_field c.args.least c.args.most c.args.text.now (Some c.read_digits.result) (returns-clause-value c)

pub returns-clause-range : goal.returns-clause-range
returns-clause-range c =
    count_fits _ _ _ c.read_digits.ensures.range (field_digits c.args.least c.args.most c.args.text.now (sym c.if-not-is_field.ensures)).1
