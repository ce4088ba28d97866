use Rattle.std.proofs.Common.{◌≡◌, length, ap, sym, subst, ◌∙◌}
use Rattle.summaries.specs.Runoffs.{AreRunoffs, AreSmall, Runoffs}
use Rattle.summaries.proofs.FigureLemmas.{written_whole}
use Rattle.summaries.proofs.RunoffLemmas.{runoffs_more, small_more}
use Rattle.summaries.proofs.sub_summary.SubSums.add_runoff.Goals as goal

pub returns-clause-summaries : goal.returns-clause-summaries
returns-clause-summaries c made after sums here there =
    let inside : Runoffs = record { subs = c.self.inside.subs; steps = c.self.inside.steps } in
    let old : c.args.self.now ≡ inside = sym c.self.view_is in
    let count = c.add_steps.ensures.count ∙ ap length c.as_mut_slice-subs.ensures.value in
    let each = simp (c.as_mut_slice-subs.ensures.value) at c.add_steps.ensures.each in
    let before = subst (AreRunoffs made after) old sums in
    let made_is = rw old at here in
    let after_is = rw old at there in
    let more = runoffs_more made after inside c.add_steps.new.subs before count (rw (made_is, after_is) each) in
    simp (written_whole c.self.inside.subs c.add_steps.new.subs count) more

pub returns-clause-small : goal.returns-clause-small
returns-clause-small c =
    let inside : Runoffs = record { subs = c.self.inside.subs; steps = c.self.inside.steps } in
    let old : c.args.self.now ≡ inside = sym c.self.view_is in
    let count = c.add_steps.ensures.count ∙ ap length c.as_mut_slice-subs.ensures.value in
    let each = simp (c.as_mut_slice-subs.ensures.value) at c.add_steps.ensures.each in
    let before = subst AreSmall old c.requires.small in
    let lengths = rw old at c.requires.steps in
    let more = small_more inside c.add_steps.new.subs c.args.steps.now c.args.states.now before c.requires.steps_in count lengths each in
    simp (written_whole c.self.inside.subs c.add_steps.new.subs count) more
