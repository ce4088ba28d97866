-- One reach more, and all of them.
use native.Mathlib.Omega.{arith}
use Rattle.std.proofs.Common.{rules, ◌≡◌, ℕ, ◌+◌, ◌-◌, ◌*◌, ◌∙◌, List, [], ◌∷◌, ◌++◌, ap, subst, sym}
use Rattle.sample_maker.specs.Draws.{state_after}
use Rattle.sample_maker.specs.Reaches.{elevation_at, reach_over, reaches_of}
use Rattle.sample_maker.proofs.DrawLemmas.{low_push, reaches_push}
use Rattle.sample_maker.proofs.reaches.draw_reaches.Goals as goal

pub loop-count-preserved : goal.loop-count-preserved
loop-count-preserved c =
    let n = c.loop-count.count in
    let kept = c.loop-count.invariant in
    let drawn = c.draw_reach-reach in
    let pushed = c.in_ok-push.ensures.ok in
    let one = drawn.ensures.reach c.args.number kept.state in
    let state = drawn.ensures.state c.args.number kept.state in
    let low = low_push c.loop-count.reaches drawn.result (100 + 24 * n) (124 + 24 * n) (omega arith)
    drawn.ensures.low kept.low in
    let index : 5 * (n + 1) - 2 ≡ 5 * n + 3 = omega arith in
    record {
      reaches = pushed ∙ reaches_push c.args.number n c.loop-count.reaches drawn.result kept.reaches (subst (λ list. drawn.result ≡ reach_over c.args.number list n) c.as_slice.ensures one);
      state = subst (λ k. drawn.new.draws.state ≡ state_after c.args.number k) (sym index) state;
      low = λ k.
          let at = low k in
          let same = ap (λ list. elevation_at list k) pushed in
          omega (arith, at, same);
    }

pub returns : goal.returns
returns c =
    let all : c.loop-count.count ≡ 400 = omega (arith, c.loop-count-test.false, c.loop-count.auto.count-end) in
    c.loop-count.invariant.reaches ∙ ap (λ k. reaches_of c.args.number k) all
