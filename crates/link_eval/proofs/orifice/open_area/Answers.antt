use Rattle.std.proofs.Common.{◌≡◌, ◌∙◌, ap, ℤ}
use Rattle.std.proofs.lemmas.Int.{to_z-of_z}
use Rattle.fixed_num.proofs.Bounds.{fits64, within_between}
use Rattle.xsect_tables.specs.LookUps.{area_of}
use Rattle.link_eval.specs.Orifices.{open_area_of, orifice_with}
use Rattle.link_eval.proofs.OpenAreaLemmas.{open_area-between}
use Rattle.link_eval.proofs.orifice.open_area.Goals as goal
use Rattle.link_eval.proofs.orifice.open_area.Goals.{After-area}

value : (c : After-area) → c.area.result ≡ open_area_of (orifice_with c.args.table.now c.args.law.now) c.args.setting c.args.near c.args.far
unfolding open_area_of
value c =
    let depth = simp (to_z-of_z, c.ranges.setting, c.ranges.near, c.ranges.far) at c.orifice_depth-depth.ensures.value in
    let area = simp (to_z-of_z, fits64 c.orifice_depth-depth.ensures.range tt) at c.area.ensures.value in
    area ∙ ap (λ (y : ℤ). area_of c.args.table.now y) depth

pub returns-clause-value : goal.returns-clause-value
returns-clause-value c =
    let d = (goal.at.returns-clause-value c).After-area in
    simp (to_z-of_z, fits64 (within_between d.area.ensures.range) tt) (value d)

pub returns-clause-range : goal.returns-clause-range
returns-clause-range c =
    let d = (goal.at.returns-clause-range c).After-area in
    simp (to_z-of_z, fits64 (within_between d.area.ensures.range) tt)
    (rw (value d) (open_area-between (orifice_with c.args.table.now c.args.law.now) c.args.near c.args.far c.requires.law c.requires.setting))
