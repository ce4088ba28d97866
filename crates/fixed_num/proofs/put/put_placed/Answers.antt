use Rattle.std.proofs.Common.{ℕ, List, ◌++◌, ◌∙◌, sym, ap, take, arith}
use Rattle.fixed_num.proofs.DecimalLemmas.{power-positive}
use Rattle.fixed_num.proofs.PutLemmas.{placed-whole, point_text, point_rest}
use Rattle.fixed_num.proofs.put.put_placed.Goals as goal

pub nonzero_div-number : goal.nonzero_div-number
nonzero_div-number c = omega (arith, power-positive c.args.places)

pub returns-then-places-eq0-clause-text : goal.returns-then-places-eq0-clause-text
returns-then-places-eq0-clause-text c =
    c.put_whole-end.ensures.text
    ∙ ap (λ (t : List ℕ). take c.args.at c.args.to.now ++ t) (sym (placed-whole c.args.number c.args.places c.pow.result c.if-places-eq0.true c.pow.ensures))

pub returns-clause-text : goal.returns-clause-text
returns-clause-text c =
    point_text (take c.args.at c.args.to.now) c.put_whole-end.new.to (take c.put_last_digits.result c.put_last_digits.new.to) c.args.number c.args.places c.pow.result c.put_whole-end.result
    (omega arith) c.put_whole-end.ensures.text c.pow.ensures (omega arith) c.put_last_digits.ensures.text

pub returns-clause-rest : goal.returns-clause-rest
returns-clause-rest c =
    point_rest c.args.to.now c.put_whole-end.new.to c.put_last_digits.new.to c.put_whole-end.result c.put_last_digits.result (omega arith) c.put_last_digits.ensures.rest c.put_whole-end.ensures.rest
