use Rattle.std.proofs.Common.{◌≡◌, ◌∙◌, ◌&&◌, ℤ, pos, ap}
use Rattle.std.specs.Prelude.{int_lt}
use Rattle.std.proofs.lemmas.Int.{to_z-of_z}
use Rattle.fixed_num.proofs.Bounds.{fits64}
use Rattle.node_update.proofs.node_law.NodeLaw.ponds_below.Goals as goal

pub returns : goal.returns
returns c =
    let v = simp (to_z-of_z, c.ranges.pond, c.ranges.head, fits64 c.full_level.ensures.range tt) at c.both.ensures in
    v ∙ ap (λ (x : ℤ). int_lt (pos 0) c.args.pond && int_lt x c.args.head) c.full_level.ensures.value
