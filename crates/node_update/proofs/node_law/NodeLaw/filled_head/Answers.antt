use Rattle.std.proofs.Common.{◌≡◌, ◌∙◌, ◌*◌, ◌^◌, ap, ℤ}
use Rattle.std.proofs.lemmas.Int.{to_z-of_z}
use Rattle.fixed_num.specs.Ranges.{cut_of, IsHead}
use Rattle.fixed_num.proofs.Bounds.{fits64, fits128}
use Rattle.node_update.specs.NodeUpdate.{raised_of, filled_head_of as head_of}
use Rattle.fixed_num.specs.Relaxation.{relaxed_of}
use Rattle.node_update.proofs.GainLemmas.{top_within, invert_within}
use Rattle.node_update.proofs.UpdateLemmas.{held_within, head_place}
use Rattle.node_update.proofs.node_law.NodeLaw.filled_head.Goals as goal
use Rattle.node_update.proofs.node_law.NodeLaw.filled_head.Goals.{After-cut-held, After-relaxed_head}

pub cut-held-requires : goal.cut-held-requires
cut-held-requires c =
    let invert = invert_within c.requires.law in
    let top = top_within c.requires.law in
    simp (to_z-of_z, fits64 invert tt, fits128 invert tt, fits64 top tt, fits128 top tt) c.requires.law.top_in.from

held : (c : After-cut-held) → c.cut-held.result ≡ cut_of (raised_of c.args.self.now c.args.fixed.now c.args.inflow c.args.outflow c.args.area c.args.last) c.args.self.now.invert c.args.self.now.top
held c =
    let invert = invert_within c.requires.law in
    let top = top_within c.requires.law in
    let raised = simp (to_z-of_z, c.ranges.inflow, c.ranges.outflow, c.ranges.area, c.ranges.last) at c.raised-raised.ensures.value in
    let cut = simp (to_z-of_z, fits128 c.raised-raised.ensures.range tt, fits64 invert tt, fits128 invert tt, fits64 top tt, fits128 top tt) at c.cut-held.ensures.value in
    cut ∙ ap (λ (x : ℤ). cut_of x c.args.self.now.invert c.args.self.now.top) raised

range : (c : After-cut-held) → IsHead c.cut-held.result
range c = rw (held c) (held_within (raised_of c.args.self.now c.args.fixed.now c.args.inflow c.args.outflow c.args.area c.args.last) c.requires.law)

pub relaxed_head-requires-clause-new : goal.relaxed_head-requires-clause-new
relaxed_head-requires-clause-new c =
    let r = range (goal.at.relaxed_head-requires-clause-new c).After-cut-held in
    simp (to_z-of_z, fits128 r tt, fits64 r tt) r

value : (c : After-relaxed_head) → IsHead c.cut-held.result → c.cut-held.result ≡ cut_of (raised_of c.args.self.now c.args.fixed.now c.args.inflow c.args.outflow c.args.area c.args.last) c.args.self.now.invert c.args.self.now.top
    → c.relaxed_head.result ≡ head_of c.args.self.now c.args.fixed.now c.args.first c.args.inflow c.args.outflow c.args.area c.args.last
unfolding head_of
value c r h =
    let v = simp (to_z-of_z, c.ranges.last, fits128 r tt, fits64 r tt) at c.relaxed_head.ensures.value in
    v ∙ ap (λ (x : ℤ). relaxed_of c.args.first c.args.last x) h

pub returns-clause-value : goal.returns-clause-value
returns-clause-value c =
    let d = (goal.at.returns-clause-value c).After-cut-held in
    simp (to_z-of_z, fits64 c.relaxed_head.ensures.range tt) (value (goal.at.returns-clause-value c).After-relaxed_head (range d) (held d))

pub returns-clause-place : goal.returns-clause-place
returns-clause-place c h =
    let d = (goal.at.returns-clause-place c).After-cut-held in
    simp (to_z-of_z, fits64 c.relaxed_head.ensures.range tt)
    (rw (value (goal.at.returns-clause-place c).After-relaxed_head (range d) (held d))
    (head_place c.args.fixed.now c.args.first c.args.inflow c.args.outflow c.args.area c.args.last c.requires.law h))
