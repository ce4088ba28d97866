use Rattle.std.proofs.Common.{◌∙◌, ◌∷◌, [], ap, arith, length}
use Rattle.std.proofs.lemmas.Bool.Decides.{nat_tests}
use Rattle.inp_rules.proofs.GroupLemmas.{set_last}
use Rattle.inp_rules.proofs.LineLemmas.{then_ok}
use Rattle.inp_rules.proofs.groups.push_to_last.Goals as goal

pub returns : goal.returns
returns c = then_ok c.push_at.result _ _ c.push_at.ensures (λ e. e
    ∙ set_last c.args.groups.now _ (c.args.test ∷ []) (grind (arith, nat_tests, c.if-is_empty.false, c.is_empty.ensures, ap length c.as_slice.ensures, ap length c.as_slice-2.ensures)))
