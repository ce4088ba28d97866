use Rattle.std.proofs.Common.{◌≡◌, ℕ, pos, length, ap, ◌∙◌, arith}
use Rattle.std.proofs.lemmas.List.{take_at}
use Rattle.std.proofs.lemmas.List.FromFn.{fill_by_all}
use Rattle.phase_machine.specs.Places.{link_fixed_in}
use Rattle.trial_model.specs.Start.{no_link}
use Rattle.phase_core.proofs.columns.take_link_fixed.Goals as goal

pub returns : goal.returns
returns g c =
    let len : length c.fill_link_fixed.new.to ≡ length c.args.to.now = c.fill_link_fixed.auto.to ∙ ap length c.as_mut_slice-to.ensures.value in
    take_at c.fill_link_fixed.new.to _ _ len
    ∙ fill_by_all
    (link_fixed_in c.args.words.now)
    c.fill_link_fixed.new.to
    (g.P.PhaseLaw.law c.args.law.now).links
    no_link
    (len ∙ c.requires.size)
    (λ k h. c.fill_link_fixed.ensures k (let size = c.requires.size in omega (arith, c.fill_link_fixed.auto.to, len, size)))
