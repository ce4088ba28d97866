use Rattle.std.proofs.Common.{rules, ◌≡◌, true, false, int_lt, ◌-ℤ◌, ◌+ℤ◌, refl, sym, ap, FitsSigned}
use Rattle.std.specs.Int.{w64}
use Rattle.std.proofs.lemmas.Int.{to_z-of_z}
use Rattle.fixed_num.proofs.Bounds.{within_sub, within_add, within_between, fits64, fits128}
use Rattle.summaries.specs.Peaks.{Peak}
use Rattle.summaries.specs.Steps.{node_with}
use Rattle.summaries.proofs.FigureLemmas.{raised_up, raised_not}
use Rattle.summaries.proofs.node_summary.with_state.Goals as goal

pub returns-then-depth-summary : goal.returns-then-depth-summary
returns-then-depth-summary c =
    let s = c.args.summary.now in
    let max : FitsSigned w64 s.max_depth = search rules in
    let depth = fits64 (within_sub c.requires.head c.requires.invert) tt in
    let sum = fits128 (within_add (within_between c.requires.flooded) (within_between c.requires.flood)) tt in
    let old = fits128 (within_between c.requires.flooded) tt in
    let test : int_lt s.max_depth (c.args.head -ℤ c.args.invert) ≡ true = simp (to_z-of_z, c.ranges.head, c.ranges.invert, depth, max) at c.if-depth-summary.true in
    let up = raised_up (record { value = s.max_depth; at = s.at }) (c.args.head -ℤ c.args.invert) c.args.moment test in
    simp (to_z-of_z, c.ranges.head, c.ranges.invert, c.ranges.moment, c.ranges.flood, depth, old, sum, c.if-first.false) (ap (λ (p : Peak). node_with p c.args.head (s.flooded +ℤ c.args.flood)) (sym up))

pub returns : goal.returns
returns c =
    let s = c.args.summary.now in
    let max : FitsSigned w64 s.max_depth = search rules in
    let at : FitsSigned w64 s.at = search rules in
    let depth = fits64 (within_sub c.requires.head c.requires.invert) tt in
    let sum = fits128 (within_add (within_between c.requires.flooded) (within_between c.requires.flood)) tt in
    let old = fits128 (within_between c.requires.flooded) tt in
    let test : int_lt s.max_depth (c.args.head -ℤ c.args.invert) ≡ false = simp (to_z-of_z, c.ranges.head, c.ranges.invert, depth, max) at c.if-depth-summary.false in
    let same = raised_not (record { value = s.max_depth; at = s.at }) (c.args.head -ℤ c.args.invert) c.args.moment test in
    simp (to_z-of_z, c.ranges.head, c.ranges.flood, max, at, old, sum, c.if-first.false) (ap (λ (p : Peak). node_with p c.args.head (s.flooded +ℤ c.args.flood)) (sym same))

pub returns-then-first : goal.returns-then-first
returns-then-first c =
    let depth = fits64 (within_sub c.requires.head c.requires.invert) tt in
    simp (to_z-of_z, c.ranges.head, c.ranges.invert, c.ranges.moment, c.ranges.flood, depth, c.if-first.true) refl
