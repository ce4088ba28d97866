use Rattle.std.proofs.Common.{◌∙◌, sym, arith}
use Rattle.std.proofs.lemmas.List.{length-replicate}
use Rattle.inp_forms.specs.declared.item.Value.TheVariants.{Nothing}
use Rattle.inp_forms.specs.Context.{context_of}
use Rattle.inp_forms.proofs.ItemLemmas.{read_none, read_one, read_fault, read_all, values_read_by}
use Rattle.inp_forms.proofs.items.read_values.Goals as goal

pub loop-place-init : goal.loop-place-init
loop-place-init g c = read_none (context_of c.args.known.now) c.args.naming c.args.items.now c.args.tokens.now _
    (length-replicate g.row.N Nothing ∙ sym c.told-items)

pub returns-in-Err : goal.returns-in-Err
returns-in-Err g c =
    values_read_by (context_of c.args.known.now) c.args.naming c.args.items.now c.args.tokens.now _
    c.if-tokens-least_of.false c.least_of.ensures
    (read_fault (context_of c.args.known.now) c.args.naming c.args.items.now c.args.tokens.now c.loop-place.place
    c.loop-place.values c.loop-place.invariant _
    (omega (arith, c.loop-place-test.true, c.told-items)) c.in-Err.fault (sym c.read_item.ensures ∙ c.in-Err.is))

pub loop-place-preserved : goal.loop-place-preserved
loop-place-preserved g c =
    read_one (context_of c.args.known.now) c.args.naming c.args.items.now c.args.tokens.now c.loop-place.place
    c.loop-place.values c.loop-place.invariant _
    (omega (arith, c.loop-place-test.true, c.told-items)) c.in-Ok.value (sym c.read_item.ensures ∙ c.in-Ok.is)

pub returns : goal.returns
returns g c =
    values_read_by (context_of c.args.known.now) c.args.naming c.args.items.now c.args.tokens.now _
    c.if-tokens-least_of.false c.least_of.ensures
    (read_all (context_of c.args.known.now) c.args.naming c.args.items.now c.args.tokens.now c.loop-place.place
    c.loop-place.values c.loop-place.invariant (omega (arith, c.loop-place-test.false, c.told-items)))
