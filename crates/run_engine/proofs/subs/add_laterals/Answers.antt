use Rattle.std.proofs.Common.{◌∙◌, ℤ, neg_ℤ, pos, ◌^◌, ◌+ℤ◌, ap, List}
use Rattle.fixed_num.specs.Lists.{number}
use Rattle.fixed_num.specs.Ranges.{cut_of}
use Rattle.runoff.specs.declared.states.SubState.{SubState}
use Rattle.runoff_states.specs.RunoffStates.{runoff_state, state_at}
use Rattle.runoff_states.specs.RunoffTimes.{node_runoff}
use Rattle.run_engine.specs.Laterals.{runoff_start}
use Rattle.run_engine.proofs.SubStateLemmas.{runoff_same}
use Rattle.runoff_states.proofs.TimeLemmas.{one_count}
use Rattle.run_engine.proofs.subs.add_laterals.Goals as goal

pub returns-clause-sums : goal.returns-clause-sums
returns-clause-sums c moment steps at done n inside =
    let project = c.args.start.now.project in
    let start = runoff_start c.args.start.now in
    let count = one_count project.options.wet_ms moment steps c.requires.project.sound.options.wet_in done in
    let same = runoff_same project start steps c.args.runoff.now.states n at.states in
    c.add_runoff.ensures.sums n inside
    ∙ ap (λ (r : ℤ). cut_of (number c.args.laterals.now n +ℤ r) (neg_ℤ (pos (10 ^ 12))) (pos (10 ^ 12)))
    (ap (λ (l : List SubState). node_runoff project (state_at l) n) c.as_slice.ensures ∙ same
    ∙ ap (λ k. node_runoff project (runoff_state project start k) n) count)
