use Rattle.std.proofs.Common.{◌≡◌, sym, subst, ap, arith}
use Rattle.continuity.specs.Run.{IsTotal, Running}
use Rattle.continuity.proofs.BalanceLemmas.{balance_plus}
use Rattle.continuity.proofs.TotalLemmas.{fields_next, total_more}
use Rattle.continuity.proofs.run.RunAccount.add.Goals as goal

pub invariant_of-self : goal.invariant_of-self
invariant_of-self c =
    let steps = ap (λ (r : Running). r.steps) c.self.view_is in
    rw c.plus-self-inside.ensures (record {
      few = omega (arith, c.requires.few, steps);
      range = fields_next c.self.inside.steps c.self.invariant.range c.requires.range;
      balance = balance_plus c.self.inside.total c.args.step.now c.self.invariant.balance c.requires.balance;
    })

pub returns-clause-total : goal.returns-clause-total
returns-clause-total c f before here =
    let inside : Running = record { total = c.self.inside.total; steps = c.self.inside.steps } in
    let old : c.args.self.now ≡ inside = sym c.self.view_is in
    total_more f inside (subst (IsTotal f) old before) c.args.step.now (rw old at here) c.plus-self-inside.result c.plus-self-inside.ensures
