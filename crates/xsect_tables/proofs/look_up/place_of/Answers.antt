use Rattle.std.proofs.Common.{◌≡◌, ◌∙◌, pos, ap, sym, arith}
use Rattle.std.proofs.lemmas.Int.{to_z-of_z}
use Rattle.fixed_num.specs.Ranges.{cut_of}
use Rattle.fixed_num.proofs.Bounds.{within_between, fits64}
use Rattle.xsect_tables.specs.LookUps.{strip_at}
use Rattle.xsect_tables.specs.SectionTable.{entry}
use Rattle.xsect_tables.proofs.LookUpLemmas.{height_between, depth_small, depth_within, depth_around}
use Rattle.xsect_tables.proofs.look_up.place_of.Goals as goal
use Rattle.xsect_tables.proofs.look_up.place_of.Goals.{After-held-depth}

depth_is : (c : After-held-depth) → c.held-depth.result ≡ cut_of c.args.y (pos 0) (entry c.args.heights.now 200)
depth_is c =
    let top = within_between (height_between c.requires 200 (omega arith)) in
    simp (to_z-of_z, c.ranges.y, fits64 top tt) at c.held-depth.ensures

pub held-depth-requires : goal.held-depth-requires
held-depth-requires c =
    let top = height_between c.requires 200 (omega arith) in
    simp (to_z-of_z, fits64 (within_between top) tt) top.from

pub guess_strip-requires : goal.guess_strip-requires
guess_strip-requires c =
    let small = depth_small c.args.y c.requires (depth_is c) in
    simp (to_z-of_z, fits64 (within_between small) tt) small

pub strip_near-strip-requires-clause-depth : goal.strip_near-strip-requires-clause-depth
strip_near-strip-requires-clause-depth c =
    let e = depth_is (goal.at.strip_near-strip-requires-clause-depth c).After-held-depth in
    let small = depth_small c.args.y c.requires e in
    simp (to_z-of_z, fits64 (within_between small) tt) (rw e (depth_within c.args.y c.requires))

pub in_strip-requires-clause-around : goal.in_strip-requires-clause-around
in_strip-requires-clause-around c =
    let e = depth_is (goal.at.in_strip-requires-clause-around c).After-held-depth in
    let near = within_between (depth_small c.args.y c.requires e) in
    let strip = simp (to_z-of_z, fits64 near tt) at c.strip_near-strip.ensures.value in
    simp (to_z-of_z, fits64 near tt) (depth_around c.args.y c.requires e strip)

pub returns : goal.returns
returns c =
    let e = depth_is (goal.at.returns c).After-held-depth in
    let near = within_between (depth_small c.args.y c.requires e) in
    let strip = simp (to_z-of_z, fits64 near tt) at c.strip_near-strip.ensures.value in
    let depth = simp (to_z-of_z, fits64 near tt) at c.in_strip.ensures.depth in
    record {
      depth = depth ∙ e;
      strip = c.in_strip.ensures.strip ∙ strip ∙ ap (strip_at c.args.heights.now) (sym depth);
      around = c.in_strip.ensures.around;
    }
