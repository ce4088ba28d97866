use Rattle.std.proofs.Common.{◌++◌, ◌∙◌, append-nil, ap, sym, subst, length, arith}
use Rattle.std.specs.Str.Lines.{lines}
use Rattle.inp_lines.specs.Order.{Rise}
use Rattle.inp_lines.proofs.LineLemmas.{all_lines, lines_rise, lines_from}
use Rattle.inp_lines.proofs.split.split_lines.Goals as goal

pub loop-text-init : goal.loop-text-init
loop-text-init c = record {
  lines = ap (λ none. none ++ lines_from 0 _ (lines c.args.input.now)) c.new-lines.ensures ∙ all_lines c.args.input.now;
  counted = omega arith;
  kept = omega (arith, ap length c.new-lines.ensures);
}

pub returns-clause-rise : goal.returns-clause-rise
returns-clause-rise c =
    let ends = c.in_default.ensures.first in
    let all = sym (append-nil c.loop-text.lines) ∙ (ap (λ more. c.loop-text.lines ++ lines_from c.loop-text.number c.loop-text.section more) (sym ends) ∙ c.loop-text.invariant.lines) in
    subst (λ found. Rise 0 found) (sym all) (lines_rise c.args.input.now)

pub returns-clause-count : goal.returns-clause-count
returns-clause-count c = omega (arith, c.loop-text.invariant.kept, c.loop-text.invariant.counted)
