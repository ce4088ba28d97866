use Rattle.std.proofs.Common.{◌≡◌, ◌^◌}
use Rattle.std.proofs.lemmas.Int.{to_z-of_z}
use Rattle.fixed_num.specs.Ranges.{IsWithin}
use Rattle.fixed_num.proofs.Bounds.{within_add, within_mul, within_number, within_between, fits128}
use Rattle.conduit_flow.specs.Momentum.{slowed_of}
use Rattle.conduit_flow.proofs.RangeLemmas.{slowed-within}
use Rattle.conduit_flow.proofs.momentum.slowed.Goals as goal
use Rattle.conduit_flow.proofs.momentum.slowed.Goals.{After-quo}

value : (c : After-quo) → c.quo.result ≡ slowed_of c.args.driven c.args.friction c.args.losses
unfolding slowed_of
value c =
    let product = within_mul c.requires.driven (within_number 1_000_000_000) in
    let one = within_add (within_number 1_000_000_000) (within_between c.requires.friction) in
    let below = within_add one (within_between c.requires.losses) in
    simp (to_z-of_z, c.ranges.driven, c.ranges.friction, c.ranges.losses, fits128 product tt, fits128 one tt, fits128 below tt) at c.quo.ensures.value

small : (c : After-quo) → IsWithin (10 ^ 24) c.quo.result
small c = rw (value c) (slowed-within c.requires.driven c.requires.friction c.requires.losses)

pub returns-clause-value : goal.returns-clause-value
returns-clause-value c = simp (to_z-of_z, fits128 (small c) tt) (value c)

pub returns-clause-range : goal.returns-clause-range
returns-clause-range c = simp (to_z-of_z, fits128 (small c) tt) (small c)
