use Rattle.std.proofs.lemmas.Int.{to_z-of_z}
use Rattle.time_series.proofs.WalkLemmas.{laterals_are}
use Rattle.time_series.proofs.walk.lateral_flows.Goals as goal

pub returns : goal.returns
returns c =
    let at = simp (to_z-of_z, c.ranges.moment) at c.run_point-at.ensures.value in
    let direct = simp (to_z-of_z, c.ranges.moment) at c.add_inflows.ensures.sums in
    laterals_are c.args.project.now c.args.moment c.run_point-at.result c.args.flows.now c.clear.new.flows
    c.add_inflows.new.flows c.add_dry_flows.new.flows c.cut_flows.new.flows
    at c.requires.places c.clear.auto.flows c.clear.ensures direct c.add_dry_flows.ensures c.cut_flows.ensures
