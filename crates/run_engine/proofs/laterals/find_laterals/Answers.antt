use Rattle.std.proofs.Common.{arith}
use Rattle.std.proofs.lemmas.Int.{ints, to_z-of_z}
use Rattle.runoff_states.specs.RunoffTimes.{steps_done}
use Rattle.runoff_states.proofs.TimeLemmas.{count_done}
use Rattle.run_engine.proofs.LateralLemmas.{laterals_found, own_small}
use Rattle.run_engine.proofs.RunoffLemmas.{last_of, run_wet, step_room}
use Rattle.run_engine.proofs.laterals.find_laterals.Goals as goal

pub add_laterals-requires-clause-states : goal.add_laterals-requires-clause-states
add_laterals-requires-clause-states c =
    step_room c.requires.moment.to
    (last_of c.requires.project (record { from = c.requires.moment.from; to = omega (arith, ints) }) c.requires.runoff)

pub add_laterals-requires-clause-small : goal.add_laterals-requires-clause-small
add_laterals-requires-clause-small c =
    let own = simp (to_z-of_z, c.ranges.moment) at c.lateral_flows.ensures in
    own_small c.args.start.now.project c.args.moment own

pub returns : goal.returns
returns c =
    let start = c.args.start.now in
    let own = simp (to_z-of_z, c.ranges.moment) at c.lateral_flows.ensures in
    let done = count_done start.project.options.wet_ms c.args.moment (run_wet start.project c.requires.project) c.requires.moment.from in
    laterals_found start c.args.moment own c.add_laterals.ensures.places
    (λ n inside. c.add_laterals.ensures.sums c.args.moment (steps_done start.project.options.wet_ms c.args.moment) c.requires.runoff done n inside)
