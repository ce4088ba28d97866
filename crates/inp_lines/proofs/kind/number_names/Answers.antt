use Rattle.std.proofs.Common.{◌∙◌, length, take, ap, sym}
use Rattle.inp_lines.specs.Names.{number_in, defined}
use Rattle.inp_lines.proofs.NameLemmas.{defined_none, defined_next}
use Rattle.inp_lines.proofs.kind.number_names.Goals as goal

pub loop-line-init : goal.loop-line-init
loop-line-init g c = let none = defined_none (g.K.Kind.name_of c.args.kind.now) in
    record { names = c.no_names-names.ensures ∙ ap number_in (sym none); count_of = ap length none }

pub loop-line-preserved : goal.loop-line-preserved
loop-line-preserved g c =
    let name_of = g.K.Kind.name_of c.args.kind.now in
    let i = c.loop-line.line-index in
    let step = c.in_ok-count.ensures (defined name_of (take i c.as_slice-line-items.result.now)) c.loop-line.invariant.names c.loop-line.invariant.count_of in
    let next = defined_next name_of c.as_slice-line-items.result.now i c.line-item.result c.loop-line-test.true c.line-item.is in
    record { names = step.0 ∙ ap number_in (sym next); count_of = ap length next ∙ step.1 }
