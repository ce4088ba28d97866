use Rattle.std.proofs.Common.{◌≡◌, ◌^◌, pos}
use Rattle.std.proofs.lemmas.Int.{to_z-of_z}
use Rattle.fixed_num.specs.Ranges.{IsBetween}
use Rattle.fixed_num.proofs.Bounds.{within_between, within_mul, within_number, fits64, fits128, fits_wider}
use Rattle.runoff.specs.Overland.{slope_root_of}
use Rattle.runoff.proofs.OverlandLemmas.{slope_root-between}
use Rattle.runoff.proofs.overland.slope_root.Goals as goal
use Rattle.runoff.proofs.overland.slope_root.Goals.{After-root2}

value : (c : After-root2) → c.root2.result ≡ slope_root_of c.args.slope6
unfolding slope_root_of
value c =
    let product = within_mul (within_between c.requires) (within_number 1_000_000) in
    simp (to_z-of_z, c.ranges.slope6, fits_wider _ c.ranges.slope6, fits128 product tt) at c.root2.ensures.value

small : (c : After-root2) → IsBetween (pos 0) c.root2.result (pos 1_000_000)
small c = rw (value c) (slope_root-between c.requires)

pub overflow_cast-result : goal.overflow_cast-result
overflow_cast-result c = let f = within_between (small c) in simp (to_z-of_z, fits128 f tt) (fits64 f tt)

pub returns-clause-value : goal.returns-clause-value
returns-clause-value c = let f = within_between (small c) in simp (to_z-of_z, fits128 f tt, fits64 f tt) (value c)

pub returns-clause-range : goal.returns-clause-range
returns-clause-range c = let f = within_between (small c) in simp (to_z-of_z, fits128 f tt, fits64 f tt) (small c)
