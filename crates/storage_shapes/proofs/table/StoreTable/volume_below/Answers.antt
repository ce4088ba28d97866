use Rattle.std.proofs.Common.{◌≡◌, ◌-◌, ◌≤◌, pos, arith}
use Rattle.std.proofs.lemmas.Int.{to_z-of_z}
use Rattle.fixed_num.proofs.Bounds.{within_between, fits64, fits128}
use Rattle.storage_shapes.proofs.TableLemmas.{at_bottom, at_top, in_between}
use Rattle.storage_shapes.proofs.table.StoreTable.volume_below.Goals as goal

pub returns-then-place-eq0-clause-value : goal.returns-then-place-eq0-clause-value
returns-then-place-eq0-clause-value c =
    let parts = simp (to_z-of_z, c.ranges.depth) at c.first_above-place.ensures.parts in
    let first = fits128 (within_between (c.requires.volumes 0 (omega arith))) tt in
    simp (to_z-of_z, first)
    (at_bottom c.args.self.now c.args.depth c.first_above-place.result c.requires parts c.if-place-eq0.true)

pub returns-then-place-gt200-clause-value : goal.returns-then-place-gt200-clause-value
returns-then-place-gt200-clause-value c =
    let parts = simp (to_z-of_z, c.ranges.depth) at c.first_above-place.ensures.parts in
    let last = fits128 (within_between (c.requires.volumes 200 (omega arith))) tt in
    simp (to_z-of_z, last)
    (at_top c.args.self.now c.args.depth c.first_above-place.result c.requires parts c.if-place-gt200.true)

pub returns-clause-value : goal.returns-clause-value
returns-clause-value c =
    let place = c.first_above-place.result in
    let few : place ≤ 200 = omega (arith, c.if-place-gt200.false) in
    let some : 1 ≤ place = omega (arith, c.if-place-eq0.false) in
    let parts = simp (to_z-of_z, c.ranges.depth) at c.first_above-place.ensures.parts in
    let x0 = fits64 (within_between (c.requires.depths (place - 1) (omega (arith, few)))) tt in
    let x1 = fits64 (within_between (c.requires.depths place few)) tt in
    let v0 = fits128 (within_between (c.requires.volumes (place - 1) (omega (arith, few)))) tt in
    let v1 = fits128 (within_between (c.requires.volumes place few)) tt in
    let l = simp (to_z-of_z, x0, x1, v0, v1, c.ranges.depth) at c.line.ensures.value in
    let v = in_between c.args.self.now c.args.depth place c.requires parts some few in
    simp (to_z-of_z, fits128 (within_between c.line.ensures.range) tt) (rw l v)
