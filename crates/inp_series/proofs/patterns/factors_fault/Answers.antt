use Rattle.std.proofs.Common.{◌≡◌, ◌∙◌, ◌-◌, ap, arith, length, length-drop, None, sym}
use Rattle.inp_series.specs.PatternLines.{factor_fault, factors_fault}
use Rattle.inp_series.proofs.LoopLemmas.{factors_end, factors_found, factors_start, factors_step}
use Rattle.inp_series.proofs.patterns.factors_fault.Goals as goal

pub loop-text-init : goal.loop-text-init
loop-text-init c = record {
  within = omega (arith, ap length c.from_place-rest.ensures, length-drop c.args.first c.args.tokens.now);
  same = ap (λ l. factors_fault c.args.left (length c.args.tokens.now - length l) l) c.from_place-rest.ensures ∙ factors_start c.args.left c.args.tokens.now c.args.first;
}

pub loop-text-preserved : goal.loop-text-preserved
loop-text-preserved c =
    let count = length c.args.tokens.now in
    let left = c.loop-text.left in
    let rest = c.loop-text.rest.now in
    let more = c.in-Some.more.now in
    let none : factor_fault left (count - length rest) c.in-Some.text.now ≡ None = sym c.in-None.ensures in
    record {
      within = omega (arith, ap length c.in-Some.ensures, c.loop-text.invariant.within);
      same = ap (λ o. factors_fault o (count - length more) more) c.less-left.ensures
          ∙ (factors_step left count rest c.in-Some.text.now more c.in-Some.ensures c.loop-text.invariant.within none ∙ c.loop-text.invariant.same);
    }

pub returns-in-Some-factor_fault : goal.returns-in-Some-factor_fault
returns-in-Some-factor_fault c =
    factors_found c.loop-text.left (length c.args.tokens.now - length c.loop-text.rest.now) c.loop-text.rest.now c.in-Some.text.now c.in-Some.more.now c.in-Some-factor_fault.found c.in-Some.ensures
    (sym c.in-Some-factor_fault.ensures) ∙ c.loop-text.invariant.same

pub returns : goal.returns
returns c = factors_end c.loop-text.left (length c.args.tokens.now - length c.loop-text.rest.now) c.loop-text.rest.now c.in_default.ensures ∙ c.loop-text.invariant.same
