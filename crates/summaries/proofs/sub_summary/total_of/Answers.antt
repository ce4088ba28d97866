use Rattle.std.proofs.lemmas.Int.{to_z-of_z}
use Rattle.fixed_num.proofs.Bounds.{fits128}
use Rattle.summaries.proofs.RunoffLemmas.{sums_fit, total_more, total_within}
use Rattle.summaries.proofs.sub_summary.total_of.Goals as goal

pub overflow_add-sums : goal.overflow_add-sums
overflow_add-sums c =
    let fit = sums_fit c.args.subs.now c.loop-sub.sums c.loop-sub.sub-index c.requires c.loop-sub.invariant c.loop-sub-test.true in
    simp (to_z-of_z, fits128 fit.before.rain tt, fits128 fit.item.rain tt) (fits128 fit.next.rain tt)

pub overflow_add-sums-in-loop-sub : goal.overflow_add-sums-in-loop-sub
overflow_add-sums-in-loop-sub c =
    let fit = sums_fit c.args.subs.now c.loop-sub.sums c.loop-sub.sub-index c.requires c.loop-sub.invariant c.loop-sub-test.true in
    simp (to_z-of_z, fits128 fit.before.infil tt, fits128 fit.item.infil tt) (fits128 fit.next.infil tt)

pub overflow_add-sums-in-loop-sub-2 : goal.overflow_add-sums-in-loop-sub-2
overflow_add-sums-in-loop-sub-2 c =
    let fit = sums_fit c.args.subs.now c.loop-sub.sums c.loop-sub.sub-index c.requires c.loop-sub.invariant c.loop-sub-test.true in
    simp (to_z-of_z, fits128 fit.before.runoff tt, fits128 fit.item.runoff tt) (fits128 fit.next.runoff tt)

pub overflow_add-sums-in-loop-sub-3 : goal.overflow_add-sums-in-loop-sub-3
overflow_add-sums-in-loop-sub-3 c =
    let fit = sums_fit c.args.subs.now c.loop-sub.sums c.loop-sub.sub-index c.requires c.loop-sub.invariant c.loop-sub-test.true in
    simp (to_z-of_z, fits128 fit.before.stored tt, fits128 fit.item.stored tt) (fits128 fit.next.stored tt)

pub loop-sub-preserved : goal.loop-sub-preserved
loop-sub-preserved c =
    let fit = sums_fit c.args.subs.now c.loop-sub.sums c.loop-sub.sub-index c.requires c.loop-sub.invariant c.loop-sub-test.true in
    simp (
      to_z-of_z,
      fits128 fit.before.rain tt,
      fits128 fit.item.rain tt,
      fits128 fit.next.rain tt,
      fits128 fit.before.infil tt,
      fits128 fit.item.infil tt,
      fits128 fit.next.infil tt,
      fits128 fit.before.runoff tt,
      fits128 fit.item.runoff tt,
      fits128 fit.next.runoff tt,
      fits128 fit.before.stored tt,
      fits128 fit.item.stored tt,
      fits128 fit.next.stored tt,
    ) (total_more c.args.subs.now c.loop-sub.sums c.loop-sub.sub-index c.loop-sub.invariant c.loop-sub-test.true)

pub returns-clause-range : goal.returns-clause-range
returns-clause-range c = total_within c.args.subs.now c.loop-sub.sums c.loop-sub.sub-index c.requires c.loop-sub.invariant
