use Rattle.std.proofs.Common.{◌≡◌, ◌∙◌, ◌-◌, ap, ap₂, arith, length, length-drop, None, sym}
use Rattle.std.specs.Option.{option_or}
use Rattle.inp_series.specs.Pairs.{amount_of, pair_fault, pairs_fault, x_of}
use Rattle.inp_series.proofs.LoopLemmas.{pairs_end, pairs_found, pairs_start, pairs_step}
use Rattle.inp_series.proofs.pairs.pairs_fault.Goals as goal

pub loop-x-init : goal.loop-x-init
loop-x-init c = record {
  within = omega (arith, ap length c.from_place-rest.ensures, length-drop c.args.first c.args.tokens.now);
  same = ap (λ l. pairs_fault c.args.axis c.args.last (length c.args.tokens.now - length l) l) c.from_place-rest.ensures ∙ pairs_start c.args.axis c.args.last c.args.tokens.now c.args.first;
}

pub pair_fault-requires : goal.pair_fault-requires
pair_fault-requires c = omega (arith, ap length c.in-Some.ensures, c.loop-x.invariant.within)

pub loop-x-preserved : goal.loop-x-preserved
loop-x-preserved c =
    let axis = c.args.axis in
    let count = length c.args.tokens.now in
    let last = c.loop-x.last in
    let rest = c.loop-x.rest.now in
    let more = c.in-Some.more.now in
    let none : pair_fault axis last (count - length rest) (x_of axis c.in-Some.x.now) (amount_of c.in-Some.y.now) ≡ None =
    sym (c.in-None.ensures ∙ ap₂ (λ a b. pair_fault axis last (count - length rest) a b) c.x_value-value.ensures c.amount.ensures) in
    record {
      within = omega (arith, ap length c.in-Some.ensures, c.loop-x.invariant.within);
      same = ap (λ o. pairs_fault axis o (count - length more) more) (c.later-last.ensures ∙ ap (λ a. option_or a last) c.x_value-value.ensures)
          ∙ (pairs_step axis last count rest c.in-Some.x.now c.in-Some.y.now more c.in-Some.ensures c.loop-x.invariant.within none ∙ c.loop-x.invariant.same);
    }

pub returns-in-Some-pair_fault : goal.returns-in-Some-pair_fault
returns-in-Some-pair_fault c =
    let axis = c.args.axis in
    let place = length c.args.tokens.now - length c.loop-x.rest.now in
    pairs_found axis c.loop-x.last place c.loop-x.rest.now c.in-Some.x.now c.in-Some.y.now c.in-Some.more.now c.in-Some-pair_fault.found c.in-Some.ensures
    (sym (c.in-Some-pair_fault.ensures ∙ ap₂ (λ a b. pair_fault axis c.loop-x.last place a b) c.x_value-value.ensures c.amount.ensures)) ∙ c.loop-x.invariant.same

pub returns : goal.returns
returns c = pairs_end c.args.axis c.loop-x.last (length c.args.tokens.now - length c.loop-x.rest.now) c.loop-x.rest.now c.in_default.ensures ∙ c.loop-x.invariant.same
