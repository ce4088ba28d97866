use Rattle.std.proofs.Common.{◌≡◌, ◌∙◌, None, refl, ◌<◌, ◌*◌, ◌^◌, List, length, pos, ap, subst, sym, arith, rules, FitsSigned, w64}
use Rattle.std.proofs.lemmas.Int.{to_z-of_z}
use Rattle.fixed_num.proofs.Bounds.{within_add, within_between, fits64}
use Rattle.fixed_num.specs.Lists.{number}
use Rattle.fixed_num.specs.Ranges.{IsBetween, IsElevation}
use Rattle.net_types.specs.Records.{node_at}
use Rattle.node_update.proofs.BuildLemmas.{conduit_is, deep_is, end_inside, end_is, ends_length, height_in, height_is, heights_length, law_in, law_is, node_in, node_is}
use Rattle.node_update.proofs.build.law_at.Goals as goal

pub bounds-ends-n : goal.bounds-ends-n
bounds-ends-n c = omega (arith, c.requires.node, ends_length c.args.project.now c.args.ends.now c.requires.ends)

pub bounds-heights-n : goal.bounds-heights-n
bounds-heights-n c = omega (arith, c.requires.node, heights_length c.args.project.now c.args.heights.now c.requires.heights)

pub node_rule-requires-clause-link : goal.node_rule-requires-clause-link
node_rule-requires-clause-link c =
    end_inside c.args.project.now c.args.n c.requires.node _ (end_is c.args.project.now c.args.n c.requires.node c.args.ends.now _ c.requires.ends)

pub node_rule-requires-clause-deep : goal.node_rule-requires-clause-deep
node_rule-requires-clause-deep c =
    let y_max : FitsSigned w64 c.index-as_slice-n.result.y_max = search rules in
    simp (to_z-of_z, y_max)
    (deep_is c.args.project.now c.args.n c.requires.node c.requires.faultless c.index-as_slice-n.result (node_is c.args.project.now c.args.n c.requires.node c.as_slice.result.now c.index-as_slice-n.result c.as_slice.ensures c.index-as_slice-n.is))

pub overflow_add-result : goal.overflow_add-result
overflow_add-result c =
    let node = node_is c.args.project.now c.args.n c.requires.node c.as_slice.result.now c.index-as_slice-n.result c.as_slice.ensures c.index-as_slice-n.is in
    let full = height_in c.args.project.now c.args.n c.requires.node c.requires.faultless.sound c.args.heights.now c.requires.heights in
    let low = (node_in c.args.project.now c.args.n c.requires.node c.requires.faultless.sound c.index-as_slice-n.result node).invert_in in
    let high = within_between full in
    simp (to_z-of_z, fits64 low tt, fits64 high tt) (fits64 (within_add low high) tt)

pub overflow_add-result-2 : goal.overflow_add-result-2
overflow_add-result-2 c =
    let node = node_is c.args.project.now c.args.n c.requires.node c.as_slice.result.now c.index-as_slice-n.result c.as_slice.ensures c.index-as_slice-n.is in
    let full = height_in c.args.project.now c.args.n c.requires.node c.requires.faultless.sound c.args.heights.now c.requires.heights in
    let low = (node_in c.args.project.now c.args.n c.requires.node c.requires.faultless.sound c.index-as_slice-n.result node).invert_in in
    let high = within_between full in
    let sum = within_add low high in
    let room = within_between c.room.ensures.range in
    simp (to_z-of_z, fits64 low tt, fits64 high tt, fits64 sum tt, fits64 room tt) (fits64 (within_add sum room) tt)

pub returns-clause-value : goal.returns-clause-value
returns-clause-value c =
    let node = node_is c.args.project.now c.args.n c.requires.node c.as_slice.result.now c.index-as_slice-n.result c.as_slice.ensures c.index-as_slice-n.is in
    let full = height_in c.args.project.now c.args.n c.requires.node c.requires.faultless.sound c.args.heights.now c.requires.heights in
    let project = c.args.project.now in
    let low = (node_in c.args.project.now c.args.n c.requires.node c.requires.faultless.sound c.index-as_slice-n.result node).invert_in in
    let high = within_between full in
    let sum = within_add low high in
    let room = within_between c.room.ensures.range in
    let options = c.requires.faultless.sound.options in
    let y_max : FitsSigned w64 c.index-as_slice-n.result.y_max = search rules in
    let rule = simp (to_z-of_z, y_max) at c.in_ok-rule.ensures.value in
    let conduit = conduit_is project c.args.n _ _ refl (end_is project c.args.n c.requires.node c.args.ends.now None c.requires.ends) in
    simp (
      to_z-of_z,
      fits64 low tt,
      fits64 high tt,
      fits64 sum tt,
      fits64 room tt,
      fits64 (within_add sum room) tt,
      fits64 (within_between options.area_in) tt,
      fits64 (within_between options.tolerance_in) tt,
    )
    (law_is project c.args.n c.index-as_slice-n.result c.in_ok-rule.rule (number c.args.heights.now c.args.n) c.room.result _
    node conduit rule (height_is project c.args.n c.requires.node c.args.heights.now c.requires.heights) c.room.ensures.value)

pub returns-clause-range : goal.returns-clause-range
returns-clause-range c =
    let node = node_is c.args.project.now c.args.n c.requires.node c.as_slice.result.now c.index-as_slice-n.result c.as_slice.ensures c.index-as_slice-n.is in
    let full = height_in c.args.project.now c.args.n c.requires.node c.requires.faultless.sound c.args.heights.now c.requires.heights in
    let low = (node_in c.args.project.now c.args.n c.requires.node c.requires.faultless.sound c.index-as_slice-n.result node).invert_in in
    let high = within_between full in
    let sum = within_add low high in
    let room = within_between c.room.ensures.range in
    let options = c.requires.faultless.sound.options in
    simp (
      to_z-of_z,
      fits64 low tt,
      fits64 high tt,
      fits64 sum tt,
      fits64 room tt,
      fits64 (within_add sum room) tt,
      fits64 (within_between options.area_in) tt,
      fits64 (within_between options.tolerance_in) tt,
    )
    (law_in c.in_ok-rule.ensures.range low full c.room.ensures.range options)
