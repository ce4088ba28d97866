use Rattle.std.proofs.Common.{◌≡◌, ◌∙◌, ◌*◌, ◌^◌, ◌&&◌, true, false, pos, ◌+ℤ◌, ◌-ℤ◌, sym}
use Rattle.std.specs.Prelude.{int_lt}
use Rattle.std.proofs.lemmas.Int.{to_z-of_z}
use Rattle.fixed_num.proofs.Bounds.{within_sub, within_between, within_up, fits64, fits128}
use Rattle.storage_shapes.specs.StoreTable.{prism_of}
use Rattle.node_update.specs.NodeUpdate.{full_level_of, junction_volume_of}
use Rattle.node_update.proofs.UpdateLemmas.{picked_true, picked_false}
use Rattle.node_update.proofs.node_law.NodeLaw.junction_volume.Goals as goal
use Rattle.node_update.proofs.node_law.NodeLaw.junction_volume.Goals.{After-ponds_below}

test : (c : After-ponds_below) → c.ponds_below.result ≡ (int_lt (pos 0) c.args.pond && int_lt (full_level_of c.args.self.now) c.args.head)
test c = simp (to_z-of_z, c.ranges.pond, c.ranges.head) at c.ponds_below.ensures

pub returns-then-ponds_below-clause-value : goal.returns-then-ponds_below-clause-value
unfolding junction_volume_of
returns-then-ponds_below-clause-value c =
    let law = c.args.self.now in
    let is = sym (test (goal.at.returns-then-ponds_below-clause-value c).After-ponds_below) ∙ c.if-ponds_below.true in
    let volume = simp (to_z-of_z, c.ranges.pond, c.ranges.head) at c.ponded_volume.ensures.value in
    simp (to_z-of_z, fits128 c.ponded_volume.ensures.range tt)
    (volume ∙ picked_true (int_lt (pos 0) c.args.pond && int_lt (full_level_of law) c.args.head)
    (prism_of law.min_area law.full +ℤ prism_of c.args.pond (c.args.head -ℤ full_level_of law)) (prism_of law.min_area (c.args.head -ℤ law.invert)) is)

pub returns-clause-value : goal.returns-clause-value
unfolding junction_volume_of
returns-clause-value c =
    let law = c.args.self.now in
    let is = sym (test (goal.at.returns-clause-value c).After-ponds_below) ∙ c.if-ponds_below.false in
    let area = fits64 (within_between c.requires.law.area_in) tt in
    let invert = c.requires.law.invert_in in
    let depth = within_sub c.requires.head invert in
    let volume = simp (to_z-of_z, area, c.ranges.head, fits64 invert tt, fits64 depth tt) at c.prism.ensures.value in
    simp (to_z-of_z, fits128 c.prism.ensures.range tt)
    (volume ∙ picked_false (int_lt (pos 0) c.args.pond && int_lt (full_level_of law) c.args.head)
    (prism_of law.min_area law.full +ℤ prism_of c.args.pond (c.args.head -ℤ full_level_of law)) (prism_of law.min_area (c.args.head -ℤ law.invert)) is)
