use Rattle.std.proofs.Common.{◌≡◌, ℕ, pos, length, ap, ◌∙◌, arith}
use Rattle.std.proofs.lemmas.List.{take_at}
use Rattle.std.proofs.lemmas.List.FromFn.{fill_by_all}
use Rattle.phase_machine.specs.Places.{node_fixed_in}
use Rattle.trial_model.specs.Start.{no_node}
use Rattle.phase_core.proofs.columns.take_node_fixed.Goals as goal

pub returns : goal.returns
returns g c =
    let len : length c.fill_node_fixed.new.to ≡ length c.args.to.now = c.fill_node_fixed.auto.to ∙ ap length c.as_mut_slice-to.ensures.value in
    take_at c.fill_node_fixed.new.to _ _ len
    ∙ fill_by_all
    (node_fixed_in (g.P.PhaseLaw.law c.args.law.now) c.args.words.now)
    c.fill_node_fixed.new.to
    (g.P.PhaseLaw.law c.args.law.now).nodes
    no_node
    (len ∙ c.requires.size)
    (λ k h. c.fill_node_fixed.ensures k (let size = c.requires.size in omega (arith, c.fill_node_fixed.auto.to, len, size)))
