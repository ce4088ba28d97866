use Rattle.std.proofs.Common.{◌≡◌, ◌∙◌, ◌^◌, ap, sym}
use Rattle.std.proofs.lemmas.Int.{to_z-of_z}
use Rattle.fixed_num.specs.Ranges.{IsWithin}
use Rattle.fixed_num.specs.Rounding.{quo_of}
use Rattle.conduit_flow.proofs.TestLemmas.{one_is}
use Rattle.fixed_num.proofs.Bounds.{quo_of-one, within_quo, fits64, fits128, fits_wider}
use Rattle.conduit_flow.specs.ConduitShare.{barrel_part_of}
use Rattle.conduit_flow.proofs.share.barrel_part.Goals as goal
use Rattle.conduit_flow.proofs.share.barrel_part.Goals.{After-quo}

value : (c : After-quo) → c.quo.result ≡ barrel_part_of c.args.flow c.args.barrels
unfolding barrel_part_of
value c = simp (to_z-of_z, c.ranges.flow, fits_wider _ c.ranges.flow, c.ranges.barrels, fits_wider _ c.ranges.barrels) at c.quo.ensures.value

small : (c : After-quo) → IsWithin (10 ^ 12) c.quo.result
unfolding barrel_part_of
small c =
    let flow : IsWithin (10 ^ 12) c.args.flow = record { within = c.requires.flow.within } in
    rw (value c) (within_quo c.args.barrels flow)

pub overflow_cast-result : goal.overflow_cast-result
overflow_cast-result c = simp (to_z-of_z, fits128 (small c) tt) (fits64 (small c) tt)

pub returns-clause-value : goal.returns-clause-value
returns-clause-value c = simp (to_z-of_z, fits128 (small c) tt, fits64 (small c) tt) (value c)

pub returns-clause-range : goal.returns-clause-range
returns-clause-range c = simp (to_z-of_z, fits128 (small c) tt, fits64 (small c) tt) (small c)

pub returns-then-barrels-eq1-clause-value : goal.returns-then-barrels-eq1-clause-value
unfolding barrel_part_of
returns-then-barrels-eq1-clause-value c =
    let one = one_is c.args.barrels c.ranges.barrels c.if-barrels-eq1.true in
    simp (to_z-of_z, c.ranges.flow) (sym (ap (quo_of c.args.flow) one ∙ quo_of-one c.args.flow))
