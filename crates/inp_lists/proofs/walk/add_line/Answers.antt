use Rattle.std.proofs.Common.{◌∙◌, ap, arith, length, refl, set}
use Rattle.inp_lists.specs.Chains.{own_lines}
use Rattle.inp_lists.proofs.HoldingLemmas.{line_added, record_there, record_within}
use Rattle.inp_lists.proofs.walk.add_line.Goals as goal

pub returns-then-place-as_slice : goal.returns-then-place-as_slice
returns-then-place-as_slice g c = λ names name lines holds apart number is state.
    absurd (omega (arith, c.if-place-as_slice.true, ap length c.as_slice.ensures, (record_within (g.C.Chain.form c.args.chain.now) c.args.held.now names lines name c.args.place holds number).0))

pub returns-then-place-as_slice-2 : goal.returns-then-place-as_slice-2
returns-then-place-as_slice-2 g c = λ names name lines holds apart number is state.
    absurd (omega (arith, c.if-place-as_slice-2.true, ap length c.as_slice-2.ensures, (record_within (g.C.Chain.form c.args.chain.now) c.args.held.now names lines name c.args.place holds number).1))

pub returns : goal.returns
returns g c = λ names name lines holds apart number is state.
    (let form = g.C.Chain.form c.args.chain.now in
    let own = own_lines name lines in (
      line_added form c.args.held.now _ names lines c.args.line.now name c.args.place holds apart number is refl refl
          (c.in_ok-next.ensures.record name own (record_there form c.args.held.now names lines name c.args.place (form.record_of name own) holds number) state)
          (c.set_at.ensures ∙ ap (λ next. set c.args.held.now.states c.args.place next) (c.in_ok-next.ensures.state own state)),
      refl,
    ))
