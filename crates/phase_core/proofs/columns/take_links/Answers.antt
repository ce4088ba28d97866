use Rattle.std.proofs.Common.{◌≡◌, ℕ, pos, length, ap, ◌∙◌, arith}
use Rattle.std.proofs.lemmas.List.{take_at}
use Rattle.std.proofs.lemmas.List.FromFn.{fill_by_all}
use Rattle.fixed_num.specs.Lists.{number}
use Rattle.phase_machine.specs.Places.{link_place}
use Rattle.phase_core.proofs.columns.take_links.Goals as goal

pub returns : goal.returns
returns g c =
    let len : length c.fill_links.new.to ≡ length c.args.to.now = c.fill_links.auto.to ∙ ap length c.as_mut_slice-to.ensures.value in
    take_at c.fill_links.new.to _ _ len
    ∙ fill_by_all
    (λ (l : ℕ). number c.args.words.now (link_place l c.args.k))
    c.fill_links.new.to
    (g.P.PhaseLaw.law c.args.law.now).links
    (pos 0)
    (len ∙ c.requires.size)
    (λ k h. c.fill_links.ensures k (let size = c.requires.size in omega (arith, c.fill_links.auto.to, len, size)))
