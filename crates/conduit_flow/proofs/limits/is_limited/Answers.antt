use Rattle.std.proofs.Common.{◌≡◌, ℤ, Bool, true, false, int_lt, ◌&&◌, sym, ap, ◌∙◌}
use Rattle.std.proofs.lemmas.Int.{to_z-of_z}
use Rattle.fixed_num.proofs.Bounds.{within_between, fits64}
use Rattle.net_types.specs.declared.options.Limiter.{Limiter}
use Rattle.net_types.specs.declared.options.Limiter.TheVariants.{Froude, Both}
use Rattle.xsect_tables.proofs.FirstLemmas.{above}
use Rattle.conduit_flow.specs.Limits.{is_heeded, is_limited as limited_at}
use Rattle.conduit_flow.proofs.limits.is_limited.Goals as goal

by_froude : {limiter : Limiter} {a b x fast : Bool} (flatter : Bool) → a ≡ true → b ≡ true → limiter ≡ Froude → x ≡ fast → x ≡ (a && b && is_heeded limiter flatter fast)
unfolding is_heeded
by_froude flatter e f g h = rw (e, f, g) h

by_both : {limiter : Limiter} {a b x flatter fast : Bool} → a ≡ true → b ≡ true → limiter ≡ Both → flatter ≡ false → x ≡ fast → x ≡ (a && b && is_heeded limiter flatter fast)
unfolding is_heeded
by_both e f g k h = rw (e, f, g, k) h

pub returns-in-Froude : goal.returns-in-Froude
unfolding limited_at
returns-in-Froude c =
    let depth = fits64 (within_between c.requires.ends.depth1) tt in
    let full = fits64 (within_between c.full_height.ensures.range) tt in
    let area = fits64 (within_between c.requires.ends.area1) tt in
    let width = fits64 (within_between c.requires.ends.width1) tt in
    let some = sym (simp (to_z-of_z, c.ranges.q) at c.runs_down.ensures) ∙ c.if-not-runs_down.false in
    let under = above c.full_height.result c.args.ends.now.depth1 (simp (to_z-of_z, depth, full) at c.if-ends-full_height.false) in
    let low = ap (λ (z : ℤ). int_lt c.args.ends.now.depth1 z) (sym c.full_height.ensures.value) ∙ under in
    let f = simp (to_z-of_z, c.ranges.q, area, width) at c.is_fast.ensures in
    by_froude _ some low c.in-Froude.is f

pub returns-else-is_flatter : goal.returns-else-is_flatter
unfolding limited_at
returns-else-is_flatter c =
    let depth = fits64 (within_between c.requires.ends.depth1) tt in
    let full = fits64 (within_between c.full_height.ensures.range) tt in
    let area = fits64 (within_between c.requires.ends.area1) tt in
    let width = fits64 (within_between c.requires.ends.width1) tt in
    let some = sym (simp (to_z-of_z, c.ranges.q) at c.runs_down.ensures) ∙ c.if-not-runs_down.false in
    let under = above c.full_height.result c.args.ends.now.depth1 (simp (to_z-of_z, depth, full) at c.if-ends-full_height.false) in
    let low = ap (λ (z : ℤ). int_lt c.args.ends.now.depth1 z) (sym c.full_height.ensures.value) ∙ under in
    let f = simp (to_z-of_z, c.ranges.q, area, width) at c.is_fast-in-Both.ensures in
    by_both some low c.in-Both.is (sym c.is_flatter-in-Both.ensures ∙ c.if-is_flatter.false) f
