use Rattle.std.proofs.Common.{rules, ◌≡◌, sym, subst}
use Rattle.phase_law.specs.Ranges.{ShareInRange}
use Rattle.phase_law.specs.declared.values.Share.{Share}
use Rattle.trial_model.specs.Trial.{share_of}
use Rattle.trial_model.proofs.RangeLemmas.{share_fine}
use Rattle.trial_model.proofs.link_phase.share_at.Goals as goal

pub returns-clause-range : goal.returns-clause-range
returns-clause-range g c =
    let law = g.P.PhaseLaw.law c.args.law.now in
    let good = g.met.P.PhaseLaw.good c.args.law.now in
    let value : c.link_share.result ≡ share_of law c.args.links.now c.args.heads.now c.args.flows.now c.args.first c.args.link =
    search rules in
    subst (λ (s : Share). ShareInRange s) (sym value)
    (share_fine good c.requires.links c.requires.heads c.args.flows.now c.args.first c.args.link c.requires.link c.requires.last)
