use Rattle.std.proofs.Common.{◌≡◌, ◌++◌, [], ap, sym, ◌∙◌, arith, append-nil}
use Rattle.std.proofs.lemmas.List.{take_at, take_all}
use Rattle.inp_lines.specs.Faults.{cut}
use Rattle.inp_lines.specs.Merge.{merged}
use Rattle.inp_lines.proofs.merge.merged_list.Goals as goal

pub returns-in_default : goal.returns-in_default
returns-in_default c =
    let nothing : merged c.loop.xs.now c.loop.ys.now ≡ [] = c.in_default.ensures in
    let all = ap (λ l. c.loop.both ++ l) (sym nothing) ∙ c.loop.invariant.parts in
    sym (take_all 100 c.loop.both (omega (arith, c.loop.invariant.count_of, c.loop-test.true))) ∙ ap cut (sym (append-nil c.loop.both) ∙ all)

pub returns : goal.returns
returns c =
    sym (take_at c.loop.both (merged c.loop.xs.now c.loop.ys.now) 100 (omega (arith, c.loop.invariant.count_of, c.loop-test.false, c.loop.auto.counter-end))) ∙ ap cut c.loop.invariant.parts
