use Rattle.std.proofs.Common.{◌++◌, ◌∷◌, [], ◌∙◌, ap, refl, sym}
use Rattle.inp_lists.specs.Chains.{names_in}
use Rattle.inp_lists.proofs.HoldingLemmas.{place_new}
use Rattle.inp_lists.proofs.walk.define.Goals as goal

pub returns : goal.returns
returns g c = λ none lines holds are over.
    (let two = place_new (g.C.Chain.form c.args.chain.now) c.args.held.now
    (record { names = c.add_first.new.names; count = c.in_ok-held.field-0; total = c.args.held.now.total; records = c.push.new.self; states = c.push-2.new.self })
    lines c.args.name.now holds are over none (c.in_ok-held.ensures (names_in lines) holds.numbers holds.count)
    (c.in_ok-push.ensures.ok ∙ ap (λ made. c.args.held.now.records ++ made ∷ []) c.in_ok-new_record.ensures)
    (c.in_ok-push-2.ensures.ok ∙ ap (λ state. c.args.held.now.states ++ state ∷ []) c.no_lines.ensures) in
    (two.0, two.1, refl))
