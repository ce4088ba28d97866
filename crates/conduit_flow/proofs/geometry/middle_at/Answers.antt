use Rattle.std.proofs.Common.{◌≡◌, ◌*◌, ◌^◌, pos, ap}
use Rattle.std.proofs.lemmas.Int.{to_z-of_z}
use Rattle.fixed_num.specs.Ranges.{IsBetween}
use Rattle.fixed_num.proofs.Bounds.{between_up, within_between, fits64}
use Rattle.xsect_tables.specs.LookUps.{area_of, width_of, radius_of, flow_section_of}
use Rattle.xsect_tables.specs.declared.flow.FlowSection.{FlowSection}
use Rattle.xsect_tables.proofs.FlowLemmas.{radius_of-between}
use Rattle.xsect_tables.proofs.TableLemmas.{width_of-between}
use Rattle.conduit_flow.specs.Geometry.{IsFlowArea, IsTableWidth, middle_of}
use Rattle.conduit_flow.proofs.RangeLemmas.{fall_of_depth, flow_area-between}
use Rattle.conduit_flow.proofs.geometry.middle_at.Goals as goal
use Rattle.conduit_flow.proofs.geometry.middle_at.Goals.{After-flow_section-section}

-- the section at the mean depth
record Found (c : After-flow_section-section) : Type 0 where
  area : c.flow_section-section.result.area ≡ area_of c.args.table.now c.args.depth
  width : c.flow_section-section.result.width ≡ width_of c.args.table.now c.args.depth
  radius : c.flow_section-section.result.radius ≡ radius_of c.args.table.now c.args.depth

found : (c : After-flow_section-section) → Found c
unfolding flow_section_of
found c =
    let e = simp (to_z-of_z, c.ranges.depth) at c.flow_section-section.ensures in
    record {
      area = ap (λ (s : FlowSection). s.area) e;
      width = ap (λ (s : FlowSection). s.width) e;
      radius = ap (λ (s : FlowSection). s.radius) e;
    }

record InRange (c : After-flow_section-section) : Type 0 where
  area : IsFlowArea c.flow_section-section.result.area
  width : IsTableWidth c.flow_section-section.result.width
  radius : IsBetween (pos 0) c.flow_section-section.result.radius (pos (3 * 10 ^ 13))

ranges : (c : After-flow_section-section) → InRange c
ranges c =
    let f = found c in
    record {
      area = rw f.area (flow_area-between c.requires.table c.requires.depth);
      width = rw f.width (width_of-between c.args.depth c.requires.table.rows);
      radius = rw f.radius (radius_of-between c.requires.table.rows (fall_of_depth c.requires.depth));
    }

pub celerity-requires-clause-area : goal.celerity-requires-clause-area
celerity-requires-clause-area c =
    let r = ranges (goal.at.celerity-requires-clause-area c).After-flow_section-section in
    simp (to_z-of_z, fits64 (within_between r.area) tt) (between_up r.area tt tt)

pub celerity-requires-clause-width : goal.celerity-requires-clause-width
celerity-requires-clause-width c =
    let r = ranges (goal.at.celerity-requires-clause-width c).After-flow_section-section in
    simp (to_z-of_z, fits64 (within_between r.width) tt) r.width

pub returns-clause-value : goal.returns-clause-value
unfolding middle_of
returns-clause-value c =
    let d = (goal.at.returns-clause-value c).After-flow_section-section in
    let f = found d in
    let r = ranges d in
    let area = fits64 (within_between r.area) tt in
    let width = fits64 (within_between r.width) tt in
    let radius = fits64 (within_between r.radius) tt in
    let wave = simp (to_z-of_z, area, width) at c.celerity.ensures.value in
    let full = simp (to_z-of_z, c.ranges.depth) at c.is_pressurized.ensures in
    simp (to_z-of_z, area, width, radius, fits64 (within_between c.celerity.ensures.range) tt) (cc (f.area, f.width, f.radius, wave, full))

pub returns-clause-range : goal.returns-clause-range
returns-clause-range c =
    let r = ranges (goal.at.returns-clause-range c).After-flow_section-section in
    simp (
      to_z-of_z,
      fits64 (within_between r.area) tt,
      fits64 (within_between r.width) tt,
      fits64 (within_between r.radius) tt,
      fits64 (within_between c.celerity.ensures.range) tt,
    )
    (record { area = r.area; width = r.width; radius = r.radius; wave = c.celerity.ensures.range })
