use Rattle.std.proofs.Common.{◌≡◌, ℕ, FitsSigned, rules, sym, subst, ap, ◌∙◌, refl, arith}
use Rattle.std.specs.Int.{w64}
use Rattle.std.proofs.lemmas.Int.{to_z-of_z}
use Rattle.xsect_tables.specs.SectionTable.{entry}
use Rattle.xsect_tables.specs.FirstPlaces.{first_that}
use Rattle.xsect_tables.specs.NormalFlow.{normal_of, slope_of, is_carried as carried_at}
use Rattle.xsect_tables.proofs.FirstLemmas.{first_is}
use Rattle.xsect_tables.proofs.table.Table.normal.Goals as goal

pub returns-then-q-le0-clause-value : goal.returns-then-q-le0-clause-value
unfolding normal_of
returns-then-q-le0-clause-value c =
    let none = simp (to_z-of_z, c.ranges.q) at c.if-q-le0.true in
    rw none refl

pub returns-then-is_carried-clause-value : goal.returns-then-is_carried-clause-value
unfolding normal_of
returns-then-is_carried-clause-value c =
    let some = simp (to_z-of_z, c.ranges.q) at c.if-q-le0.false in
    let height : FitsSigned w64 c.grid_height.result = search rules in
    let slope : FitsSigned w64 c.slope-slope6.result = search rules in
    let s = simp (to_z-of_z, c.ranges.drop, c.ranges.length) at c.slope-slope6.ensures.value in
    let first = rw s at (simp (to_z-of_z, c.ranges.q, c.ranges.n6, slope) at c.loop-i.invariant) in
    let passes = rw s at (sym (simp (to_z-of_z, c.ranges.q, c.ranges.n6, slope) at c.is_carried.ensures) ∙ c.if-is_carried.true) in
    let least = first_is (carried_at c.args.self.now c.args.q c.args.n6 (slope_of c.args.drop c.args.length)) c.loop-i.i 200 first passes c.loop-i-test.true in
    simp (to_z-of_z, height) (rw some (c.grid_height.ensures.value ∙ ap (entry c.args.self.now.heights) (sym least)))

pub returns-clause-value : goal.returns-clause-value
unfolding normal_of
returns-clause-value c =
    let some = simp (to_z-of_z, c.ranges.q) at c.if-q-le0.false in
    let height : FitsSigned w64 c.full_height-full.result = search rules in
    let slope : FitsSigned w64 c.slope-slope6.result = search rules in
    let s = simp (to_z-of_z, c.ranges.drop, c.ranges.length) at c.slope-slope6.ensures.value in
    let first = rw s at (simp (to_z-of_z, c.ranges.q, c.ranges.n6, slope) at c.loop-i.invariant) in
    let last : c.loop-i.i ≡ 200 = omega arith in
    let none : first_that (carried_at c.args.self.now c.args.q c.args.n6 (slope_of c.args.drop c.args.length)) 200 ≡ 200 = subst (λ (k : ℕ). first_that (carried_at c.args.self.now c.args.q c.args.n6 (slope_of c.args.drop c.args.length)) k ≡ k) last first in
    simp (to_z-of_z, height) (rw some (c.full_height-full.ensures.value ∙ ap (entry c.args.self.now.heights) (sym none)))
