use Rattle.std.proofs.Common.{◌≡◌, ℕ, FitsSigned, rules, sym, subst, ap, ◌∙◌, refl, arith}
use Rattle.std.specs.Int.{w64}
use Rattle.std.proofs.lemmas.Int.{to_z-of_z}
use Rattle.xsect_tables.specs.SectionTable.{entry}
use Rattle.xsect_tables.specs.FirstPlaces.{first_that}
use Rattle.xsect_tables.specs.NormalFlow.{critical_of, is_subcritical as subcritical_at}
use Rattle.xsect_tables.proofs.FirstLemmas.{first_is}
use Rattle.xsect_tables.proofs.table.Table.critical.Goals as goal

pub returns-then-q-le0-clause-value : goal.returns-then-q-le0-clause-value
unfolding critical_of
returns-then-q-le0-clause-value c =
    let none = simp (to_z-of_z, c.ranges.q) at c.if-q-le0.true in
    rw none refl

pub returns-then-is_subcritical-clause-value : goal.returns-then-is_subcritical-clause-value
unfolding critical_of
returns-then-is_subcritical-clause-value c =
    let some = simp (to_z-of_z, c.ranges.q) at c.if-q-le0.false in
    let height : FitsSigned w64 c.grid_height.result = search rules in
    let first = simp (to_z-of_z, c.ranges.q) at c.loop-i.invariant in
    let passes = sym (simp (to_z-of_z, c.ranges.q) at c.is_subcritical.ensures) ∙ c.if-is_subcritical.true in
    let least = first_is (subcritical_at c.args.self.now c.args.q) c.loop-i.i 200 first passes c.loop-i-test.true in
    simp (to_z-of_z, height) (rw some (c.grid_height.ensures.value ∙ ap (entry c.args.self.now.heights) (sym least)))

pub returns-clause-value : goal.returns-clause-value
unfolding critical_of
returns-clause-value c =
    let some = simp (to_z-of_z, c.ranges.q) at c.if-q-le0.false in
    let height : FitsSigned w64 c.full_height-full.result = search rules in
    let first = simp (to_z-of_z, c.ranges.q) at c.loop-i.invariant in
    let last : c.loop-i.i ≡ 200 = omega arith in
    let none : first_that (subcritical_at c.args.self.now c.args.q) 200 ≡ 200 = subst (λ (k : ℕ). first_that (subcritical_at c.args.self.now c.args.q) k ≡ k) last first in
    simp (to_z-of_z, height) (rw some (c.full_height-full.ensures.value ∙ ap (entry c.args.self.now.heights) (sym none)))
