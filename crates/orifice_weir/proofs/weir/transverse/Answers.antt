use Rattle.std.proofs.Common.{◌≡◌, ◌^◌, pos}
use Rattle.std.proofs.lemmas.Int.{to_z-of_z}
use Rattle.fixed_num.specs.Ranges.{IsBetween}
use Rattle.fixed_num.proofs.Bounds.{within_between, within_mul, within_number, fits64, fits128, fits_wider}
use Rattle.orifice_weir.specs.WeirFlow.{transverse_of}
use Rattle.orifice_weir.proofs.FlowLemmas.{transverse-between}
use Rattle.orifice_weir.proofs.weir.transverse.Goals as goal
use Rattle.orifice_weir.proofs.weir.transverse.Goals.{After-quo}

value : (c : After-quo) → c.quo.result ≡ transverse_of c.args.c6 c.args.width c.args.head c.args.root
unfolding transverse_of
value c =
    let p1 = within_mul (within_between c.requires.c6) (within_between c.requires.width) in
    let p2 = within_mul p1 (within_between c.requires.head) in
    let p3 = within_mul p2 (within_between c.requires.root) in
    simp (
      to_z-of_z,
      c.ranges.c6,
      fits_wider _ c.ranges.c6,
      c.ranges.width,
      fits_wider _ c.ranges.width,
      c.ranges.head,
      fits_wider _ c.ranges.head,
      c.ranges.root,
      fits_wider _ c.ranges.root,
      fits128 p1 tt,
      fits128 p2 tt,
      fits128 p3 tt,
    ) at c.quo.ensures.value

small : (c : After-quo) → IsBetween (pos 0) c.quo.result (pos (10 ^ 24))
small c = rw (value c) (transverse-between c.requires.c6 c.requires.width c.requires.head c.requires.root)

pub overflow_mul-c6-2 : goal.overflow_mul-c6-2
overflow_mul-c6-2 c =
    let p1 = within_mul (within_between c.requires.c6) (within_between c.requires.width) in
    let p2 = within_mul p1 (within_between c.requires.head) in
    simp (
      to_z-of_z,
      c.ranges.c6,
      fits_wider _ c.ranges.c6,
      c.ranges.width,
      fits_wider _ c.ranges.width,
      c.ranges.head,
      fits_wider _ c.ranges.head,
      c.ranges.root,
      fits_wider _ c.ranges.root,
      fits128 p1 tt,
    ) (fits128 p2 tt)

pub overflow_mul-c6-3 : goal.overflow_mul-c6-3
overflow_mul-c6-3 c =
    let p1 = within_mul (within_between c.requires.c6) (within_between c.requires.width) in
    let p2 = within_mul p1 (within_between c.requires.head) in
    let p3 = within_mul p2 (within_between c.requires.root) in
    simp (
      to_z-of_z,
      c.ranges.c6,
      fits_wider _ c.ranges.c6,
      c.ranges.width,
      fits_wider _ c.ranges.width,
      c.ranges.head,
      fits_wider _ c.ranges.head,
      c.ranges.root,
      fits_wider _ c.ranges.root,
      fits128 p1 tt,
      fits128 p2 tt,
    ) (fits128 p3 tt)

pub returns-clause-value : goal.returns-clause-value
returns-clause-value c =
    let before = (goal.at.returns-clause-value c).After-quo in
    let f = within_between (small before) in
    simp (to_z-of_z, fits128 f tt) (value before)

pub returns-clause-range : goal.returns-clause-range
returns-clause-range c =
    let before = (goal.at.returns-clause-range c).After-quo in
    let f = within_between (small before) in
    simp (to_z-of_z, fits128 f tt) (small before)
