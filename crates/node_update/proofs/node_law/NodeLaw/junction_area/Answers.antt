use Rattle.std.proofs.Common.{◌≡◌, ◌∙◌, ◌&&◌, ◌^◌, true, false, ℤ, pos, sym, subst}
use Rattle.std.specs.Prelude.{int_le, int_lt}
use Rattle.std.proofs.lemmas.Int.{to_z-of_z}
use Rattle.fixed_num.specs.Ranges.{IsBetween}
use Rattle.fixed_num.proofs.Bounds.{within_between, fits64}
use Rattle.node_update.specs.NodeUpdate.{full_level_of, junction_area_of}
use Rattle.node_update.proofs.GainLemmas.{junction_area_between}
use Rattle.node_update.proofs.UpdateLemmas.{picked_true, picked_false}
use Rattle.node_update.proofs.node_law.NodeLaw.junction_area.Goals as goal
use Rattle.node_update.proofs.node_law.NodeLaw.junction_area.Goals.{After-ponds_at}

test : (c : After-ponds_at) → c.ponds_at.result ≡ (int_lt (pos 0) c.args.pond && int_le (full_level_of c.args.self.now) c.args.last)
test c = simp (to_z-of_z, c.ranges.pond, c.ranges.last) at c.ponds_at.ensures

pub returns-then-ponds_at-clause-value : goal.returns-then-ponds_at-clause-value
unfolding junction_area_of
returns-then-ponds_at-clause-value c =
    let is = sym (test (goal.at.returns-then-ponds_at-clause-value c).After-ponds_at) ∙ c.if-ponds_at.true in
    simp (to_z-of_z, c.ranges.pond) (picked_true (int_lt (pos 0) c.args.pond && int_le (full_level_of c.args.self.now) c.args.last) c.args.pond c.args.self.now.min_area is)

value : (c : After-ponds_at) → c.ponds_at.result ≡ true → c.args.pond ≡ junction_area_of c.args.self.now c.args.pond c.args.last
unfolding junction_area_of
value c h = picked_true (int_lt (pos 0) c.args.pond && int_le (full_level_of c.args.self.now) c.args.last) c.args.pond c.args.self.now.min_area (sym (test c) ∙ h)

pub returns-then-ponds_at-clause-range : goal.returns-then-ponds_at-clause-range
returns-then-ponds_at-clause-range c =
    let is = value (goal.at.returns-then-ponds_at-clause-range c).After-ponds_at c.if-ponds_at.true in
    simp (to_z-of_z, c.ranges.pond) (subst (λ (x : ℤ). IsBetween (pos 1) x (pos (10 ^ 13))) (sym is) (junction_area_between c.args.last c.requires.law c.requires.pond))

pub returns-clause-value : goal.returns-clause-value
unfolding junction_area_of
returns-clause-value c =
    let is = sym (test (goal.at.returns-clause-value c).After-ponds_at) ∙ c.if-ponds_at.false in
    simp (to_z-of_z, fits64 (within_between c.requires.law.area_in) tt) (picked_false (int_lt (pos 0) c.args.pond && int_le (full_level_of c.args.self.now) c.args.last) c.args.pond c.args.self.now.min_area is)
