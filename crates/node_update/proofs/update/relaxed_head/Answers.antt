use Rattle.std.proofs.Common.{◌≡◌, ◌^◌, ℤ}
use Rattle.std.proofs.lemmas.Int.{to_z-of_z}
use Rattle.fixed_num.specs.Ranges.{IsHead}
use Rattle.fixed_num.specs.Relaxation.{relaxed_of}
use Rattle.fixed_num.proofs.Bounds.{within_up, fits64, fits128}
use Rattle.node_update.proofs.UpdateLemmas.{relaxed_within}
use Rattle.node_update.proofs.update.relaxed_head.Goals as goal
use Rattle.node_update.proofs.update.relaxed_head.Goals.{After-relaxed}

value : (c : After-relaxed) → c.relaxed.result ≡ relaxed_of c.args.first c.args.last c.args.new
value c = simp (to_z-of_z, fits64 c.requires.last tt, fits64 c.requires.new tt, fits128 c.requires.new tt) at c.relaxed.ensures

range : (c : After-relaxed) → IsHead c.relaxed.result
range c = rw (value c) (relaxed_within c.args.first c.requires.last c.requires.new)

pub relaxed-requires : goal.relaxed-requires
relaxed-requires c = simp (to_z-of_z, fits64 c.requires.new tt, fits128 c.requires.new tt) (within_up c.requires.new tt)

pub overflow_cast-result : goal.overflow_cast-result
overflow_cast-result c =
    let r = (goal.at.overflow_cast-result c).After-relaxed in
    simp (to_z-of_z, fits128 (range r) tt) (fits64 (range r) tt)

pub returns-clause-value : goal.returns-clause-value
returns-clause-value c =
    let r = (goal.at.returns-clause-value c).After-relaxed in
    simp (to_z-of_z, fits128 (range r) tt, fits64 (range r) tt) (value r)

pub returns-clause-range : goal.returns-clause-range
returns-clause-range c =
    let r = (goal.at.returns-clause-range c).After-relaxed in
    simp (to_z-of_z, fits128 (range r) tt, fits64 (range r) tt) (range r)
