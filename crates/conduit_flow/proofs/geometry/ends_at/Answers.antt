use Rattle.std.proofs.Common.{◌≡◌, ap}
use Rattle.std.proofs.lemmas.Int.{to_z-of_z}
use Rattle.fixed_num.proofs.Bounds.{within_between, fits64}
use Rattle.xsect_tables.specs.LookUps.{area_of, width_of, end_section_of}
use Rattle.xsect_tables.specs.declared.flow.EndSection.{EndSection}
use Rattle.xsect_tables.proofs.TableLemmas.{width_of-between}
use Rattle.conduit_flow.specs.Geometry.{IsFlowArea, IsTableWidth, ends_of}
use Rattle.conduit_flow.proofs.RangeLemmas.{flow_area-between}
use Rattle.conduit_flow.proofs.geometry.ends_at.Goals as goal
use Rattle.conduit_flow.proofs.geometry.ends_at.Goals.{After-end_section-end2}

-- the areas and widths at the two ends
record Sections (c : After-end_section-end2) : Type 0 where
  area1 : c.end_section-end1.result.area ≡ area_of c.args.table.now c.depth-depth1.result
  area2 : c.end_section-end2.result.area ≡ area_of c.args.table.now c.depth-depth2.result
  width1 : c.end_section-end1.result.width ≡ width_of c.args.table.now c.depth-depth1.result
  width2 : c.end_section-end2.result.width ≡ width_of c.args.table.now c.depth-depth2.result

sections : (c : After-end_section-end2) → Sections c
unfolding end_section_of
sections c =
    let one = simp (to_z-of_z, fits64 (within_between c.depth-depth1.ensures.range) tt) at c.end_section-end1.ensures in
    let two = simp (to_z-of_z, fits64 (within_between c.depth-depth2.ensures.range) tt) at c.end_section-end2.ensures in
    record {
      area1 = ap (λ (e : EndSection). e.area) one;
      area2 = ap (λ (e : EndSection). e.area) two;
      width1 = ap (λ (e : EndSection). e.width) one;
      width2 = ap (λ (e : EndSection). e.width) two;
    }

record InRange (c : After-end_section-end2) : Type 0 where
  area1 : IsFlowArea c.end_section-end1.result.area
  area2 : IsFlowArea c.end_section-end2.result.area
  width1 : IsTableWidth c.end_section-end1.result.width
  width2 : IsTableWidth c.end_section-end2.result.width

ranges : (c : After-end_section-end2) → InRange c
ranges c =
    let s = sections c in
    record {
      area1 = rw s.area1 (flow_area-between c.requires.table c.depth-depth1.ensures.range);
      area2 = rw s.area2 (flow_area-between c.requires.table c.depth-depth2.ensures.range);
      width1 = rw s.width1 (width_of-between c.depth-depth1.result c.requires.table.rows);
      width2 = rw s.width2 (width_of-between c.depth-depth2.result c.requires.table.rows);
    }

pub returns-clause-value : goal.returns-clause-value
unfolding ends_of
returns-clause-value c =
    let d = (goal.at.returns-clause-value c).After-end_section-end2 in
    let s = sections d in
    let r = ranges d in
    let z1 = fits64 c.requires.conduit.z1 tt in
    let z2 = fits64 c.requires.conduit.z2 tt in
    let depth1 = simp (to_z-of_z, c.ranges.near, z1) at c.depth-depth1.ensures.value in
    let depth2 = simp (to_z-of_z, c.ranges.far, z2) at c.depth-depth2.ensures.value in
    let surface1 = simp (to_z-of_z, c.ranges.near, z1) at c.surface.ensures.value in
    let surface2 = simp (to_z-of_z, c.ranges.far, z2) at c.surface-2.ensures.value in
    simp (
      to_z-of_z,
      fits64 c.surface.ensures.range tt,
      fits64 c.surface-2.ensures.range tt,
      fits64 (within_between c.depth-depth1.ensures.range) tt,
      fits64 (within_between c.depth-depth2.ensures.range) tt,
      fits64 (within_between r.area1) tt,
      fits64 (within_between r.area2) tt,
      fits64 (within_between r.width1) tt,
      fits64 (within_between r.width2) tt,
    )
    (cc (depth1, depth2, surface1, surface2, s.area1, s.area2, s.width1, s.width2))

pub returns-clause-range : goal.returns-clause-range
returns-clause-range c =
    let r = ranges (goal.at.returns-clause-range c).After-end_section-end2 in
    simp (
      to_z-of_z,
      fits64 c.surface.ensures.range tt,
      fits64 c.surface-2.ensures.range tt,
      fits64 (within_between c.depth-depth1.ensures.range) tt,
      fits64 (within_between c.depth-depth2.ensures.range) tt,
      fits64 (within_between r.area1) tt,
      fits64 (within_between r.area2) tt,
      fits64 (within_between r.width1) tt,
      fits64 (within_between r.width2) tt,
    )
    (record {
      surface1 = c.surface.ensures.range;
      surface2 = c.surface-2.ensures.range;
      depth1 = c.depth-depth1.ensures.range;
      depth2 = c.depth-depth2.ensures.range;
      area1 = r.area1;
      area2 = r.area2;
      width1 = r.width1;
      width2 = r.width2;
    })
