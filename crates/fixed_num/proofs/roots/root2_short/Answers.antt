-- The first number and each later one by the laws of a step.
use Rattle.std.proofs.Common.{◌+◌, ◌/◌, arith}
use Rattle.std.proofs.lemmas.Nat.{one_shl}
use Rattle.fixed_num.proofs.NewtonLemmas.{start2, step2}
use Rattle.fixed_num.proofs.roots.root2_short.Goals as goal

pub overflow_add-root : goal.overflow_add-root
overflow_add-root c =
    let shift = one_shl ((c.ilog2.result + 1) / 2) 64 (omega (arith, c.ilog2.ensures.bound)) in
    let st = start2 c.args.a c.ilog2.result 32 _ shift c.ilog2.ensures.next_power_gt (omega (arith, c.ilog2.ensures.bound)) in
    omega (arith, st.0)

pub loop-root-init : goal.loop-root-init
loop-root-init c =
    let shift = one_shl ((c.ilog2.result + 1) / 2) 64 (omega (arith, c.ilog2.ensures.bound)) in
    let st = start2 c.args.a c.ilog2.result 32 _ shift c.ilog2.ensures.next_power_gt (omega (arith, c.ilog2.ensures.bound)) in
    record { small = omega (arith, st.0); below_next = st.1 }

pub loop-root-preserved : goal.loop-root-preserved
loop-root-preserved c =
    let next = step2 c.args.a c.loop-root.root (omega (arith, c.loop-root-test.true)) in
    record { small = omega (arith, next.0, c.loop-root.invariant.small); below_next = next.1 }
