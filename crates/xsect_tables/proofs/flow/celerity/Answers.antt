use Rattle.std.proofs.Common.{◌≡◌, ◌^◌, pos, ◌∙◌, ap}
use Rattle.std.proofs.lemmas.Int.{to_z-of_z}
use Rattle.fixed_num.specs.Ranges.{IsBetween}
use Rattle.fixed_num.specs.Roots.{root2_of}
use Rattle.fixed_num.proofs.Bounds.{within_between, fits64, fits128}
use Rattle.xsect_tables.specs.NormalFlow.{celerity_of}
use Rattle.xsect_tables.proofs.FlowLemmas.{celerity-between}
use Rattle.xsect_tables.proofs.flow.celerity.Goals as goal
use Rattle.xsect_tables.proofs.flow.celerity.Goals.{After-quick_root2}

pub quick_root2-requires : goal.quick_root2-requires
quick_root2-requires c =
    let range = c.energy.ensures.range in
    simp (to_z-of_z, fits128 (within_between range) tt) range.from

value : (c : After-quick_root2) → c.quick_root2.result ≡ celerity_of c.args.area c.args.width
unfolding celerity_of
value c =
    let range = c.energy.ensures.range in
    let e = simp (to_z-of_z, c.ranges.area, c.ranges.width) at c.energy.ensures.value in
    let root = simp (to_z-of_z, fits128 (within_between range) tt) at c.quick_root2.ensures in
    root ∙ ap root2_of e

range : (c : After-quick_root2) → IsBetween (pos 0) c.quick_root2.result (pos (10 ^ 16))
range c = rw (value c) (celerity-between c.requires.area c.requires.width)

pub overflow_cast-result : goal.overflow_cast-result
overflow_cast-result c = simp (to_z-of_z, fits128 (within_between (range c)) tt) (fits64 (within_between (range c)) tt)

pub returns-clause-value : goal.returns-clause-value
returns-clause-value c = simp (to_z-of_z, fits128 (within_between (range c)) tt, fits64 (within_between (range c)) tt) (value c)

pub returns-clause-range : goal.returns-clause-range
returns-clause-range c = simp (to_z-of_z, fits128 (within_between (range c)) tt, fits64 (within_between (range c)) tt) (range c)
