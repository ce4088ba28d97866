use Rattle.std.proofs.Common.{◌≡◌, ℕ, pos, length, ap, ◌∙◌, arith}
use Rattle.std.proofs.lemmas.List.{take_at}
use Rattle.std.proofs.lemmas.List.FromFn.{fill_by_all}
use Rattle.fixed_num.specs.Lists.{number}
use Rattle.phase_machine.specs.Places.{node_place}
use Rattle.phase_core.proofs.columns.take_nodes.Goals as goal

pub returns : goal.returns
returns g c =
    let len : length c.fill_nodes.new.to ≡ length c.args.to.now = c.fill_nodes.auto.to ∙ ap length c.as_mut_slice-to.ensures.value in
    take_at c.fill_nodes.new.to _ _ len
    ∙ fill_by_all
    (λ (n : ℕ). number c.args.words.now (node_place (g.P.PhaseLaw.law c.args.law.now) n c.args.k))
    c.fill_nodes.new.to
    (g.P.PhaseLaw.law c.args.law.now).nodes
    (pos 0)
    (len ∙ c.requires.size)
    (λ k h. c.fill_nodes.ensures k (let size = c.requires.size in omega (arith, c.fill_nodes.auto.to, len, size)))
