use Rattle.std.proofs.Common.{◌≡◌, ◌+◌, ◌*◌, ◌^◌, pos, ◌-ℤ◌, arith}
use Rattle.std.proofs.lemmas.Int.{ints, to_z-of_z}
use Rattle.fixed_num.proofs.Bounds.{within_between, within_sub, fits64, fits128}
use Rattle.storage_shapes.proofs.TableLemmas.{above_tested, within_full}
use Rattle.storage_shapes.proofs.table.StoreTable.volume_above.Goals as goal

pub returns-then-full-depth-clause-value : goal.returns-then-full-depth-clause-value
returns-then-full-depth-clause-value c =
    let full = within_between (c.requires.table.depths 200 (omega arith)) in
    let area = within_between (c.requires.table.areas 200 (omega arith)) in
    let rise = within_sub c.requires.depth full in
    let test = simp (to_z-of_z, c.ranges.depth, fits64 full tt) at c.if-full-depth.true in
    let p = simp (to_z-of_z, c.ranges.depth, fits64 full tt, fits64 area tt, fits64 rise tt) at c.prism.ensures.value in
    let v = above_tested c.args.self.now c.args.depth test in
    simp (to_z-of_z, fits128 (within_between c.prism.ensures.range) tt) (rw p v)

pub returns-clause-value : goal.returns-clause-value
returns-clause-value c =
    let full = within_between (c.requires.table.depths 200 (omega arith)) in
    let test = simp (to_z-of_z, c.ranges.depth, fits64 full tt) at c.if-full-depth.false in
    within_full c.args.self.now c.args.depth test
