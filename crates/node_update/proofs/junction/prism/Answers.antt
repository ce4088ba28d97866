use Rattle.std.proofs.Common.{◌≡◌, ◌*◌, ◌^◌}
use Rattle.std.proofs.lemmas.Int.{to_z-of_z}
use Rattle.fixed_num.specs.Ranges.{IsWithin}
use Rattle.fixed_num.proofs.Bounds.{within_between, within_mul, fits128, fits_wider}
use Rattle.storage_shapes.specs.StoreTable.{prism_of}
use Rattle.node_update.proofs.UpdateLemmas.{prism_within}
use Rattle.node_update.proofs.junction.prism.Goals as goal
use Rattle.node_update.proofs.junction.prism.Goals.{After-quo}

value : (c : After-quo) → c.quo.result ≡ prism_of c.args.area c.args.height
unfolding prism_of
value c =
    let product = within_mul (within_between c.requires.area) c.requires.height in
    simp (to_z-of_z, c.ranges.area, fits_wider _ c.ranges.area, c.ranges.height, fits_wider _ c.ranges.height, fits128 product tt) at c.quo.ensures.value

range : (c : After-quo) → IsWithin (4 * 10 ^ 20) c.quo.result
range c = rw (value c) (prism_within c.requires.area c.requires.height)

pub returns-clause-range : goal.returns-clause-range
returns-clause-range c = let r = range (goal.at.returns-clause-range c).After-quo in simp (to_z-of_z, fits128 r tt) r
