use Rattle.std.proofs.Common.{rules, ◌≡◌, sym, subst}
use Rattle.summaries.specs.Runoffs.{AreSmall, no_runoffs}
use Rattle.summaries.proofs.RunoffLemmas.{no_runoffs_are}
use Rattle.summaries.proofs.sub_summary.SubSums.with_room.Goals as goal

pub returns-clause-small : goal.returns-clause-small
returns-clause-small c =
    let made : record { subs = c.in_ok-new_subs.field-0; steps = 0 } ≡ no_runoffs c.args.project.now = search rules in
    subst AreSmall (sym made) (no_runoffs_are c.args.project.now)
