use Rattle.std.proofs.Common.{rules, ◌≡◌, length, sym, subst}
use Rattle.summaries.specs.Loads.{AreLoadsOf, no_loads}
use Rattle.summaries.proofs.LoadLemmas.{no_loads_are}
use Rattle.summaries.proofs.outfall_summary.OutfallSums.with_room.Goals as goal

pub returns-clause-loads : goal.returns-clause-loads
returns-clause-loads c =
    let made : record { outfalls = c.in_ok-new_outfalls.field-0; states = 0 } ≡ no_loads c.args.project.now = search rules in
    subst (AreLoadsOf (length c.args.project.now.nodes)) (sym made) (no_loads_are c.args.project.now)
