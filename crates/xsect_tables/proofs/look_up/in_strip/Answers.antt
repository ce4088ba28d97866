use Rattle.std.proofs.Common.{◌+◌, arith}
use Rattle.std.proofs.lemmas.Int.{to_z-of_z}
use Rattle.fixed_num.proofs.Bounds.{within_between, fits64}
use Rattle.xsect_tables.proofs.LookUpLemmas.{height_between, part_within, run_within, size_is, size_fits}
use Rattle.xsect_tables.proofs.look_up.in_strip.Goals as goal

pub overflow_sub-run : goal.overflow_sub-run
overflow_sub-run c =
    let low = height_between c.requires.grid c.args.strip (omega (arith, c.requires.around.within)) in
    let high = height_between c.requires.grid (c.args.strip + 1) (omega (arith, c.requires.around.within)) in
    let run = run_within c.requires.grid c.requires.around in
    simp (to_z-of_z, fits64 (within_between low) tt, fits64 (within_between high) tt) (fits64 (within_between run) tt)

pub overflow_sub-result : goal.overflow_sub-result
overflow_sub-result c =
    let low = height_between c.requires.grid c.args.strip (omega (arith, c.requires.around.within)) in
    let part = part_within c.requires.grid c.requires.around in
    simp (to_z-of_z, c.ranges.depth, fits64 (within_between low) tt) (fits64 (within_between part) tt)

pub overflow_cast-result : goal.overflow_cast-result
overflow_cast-result c =
    let low = height_between c.requires.grid c.args.strip (omega (arith, c.requires.around.within)) in
    let part = part_within c.requires.grid c.requires.around in
    simp (to_z-of_z, c.ranges.depth, fits64 (within_between low) tt, fits64 (within_between part) tt) (size_fits part)

pub overflow_cast-result-2 : goal.overflow_cast-result-2
overflow_cast-result-2 c =
    let low = height_between c.requires.grid c.args.strip (omega (arith, c.requires.around.within)) in
    let high = height_between c.requires.grid (c.args.strip + 1) (omega (arith, c.requires.around.within)) in
    let run = run_within c.requires.grid c.requires.around in
    simp (to_z-of_z, fits64 (within_between low) tt, fits64 (within_between high) tt, fits64 (within_between run) tt) (size_fits run)

pub returns-clause-around : goal.returns-clause-around
returns-clause-around c =
    let low = height_between c.requires.grid c.args.strip (omega (arith, c.requires.around.within)) in
    let high = height_between c.requires.grid (c.args.strip + 1) (omega (arith, c.requires.around.within)) in
    let part = part_within c.requires.grid c.requires.around in
    let run = run_within c.requires.grid c.requires.around in
    simp (to_z-of_z, c.ranges.depth, fits64 (within_between low) tt, fits64 (within_between high) tt, fits64 (within_between part) tt, fits64 (within_between run) tt)
    (record { strip = c.requires.around; part = size_is part; run = size_is run })
