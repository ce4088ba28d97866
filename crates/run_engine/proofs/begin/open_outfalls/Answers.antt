use Rattle.run_engine.proofs.OutfallLemmas.{length_none, loads_none}
use Rattle.run_engine.proofs.begin.open_outfalls.Goals as goal

pub add_load-requires-clause-outfalls : goal.add_load-requires-clause-outfalls
add_load-requires-clause-outfalls c =
    let made = c.in_ok-outfalls.ensures in
    loads_none c.args.start.now c.in_ok-outfalls.outfalls made.value made.loads

pub add_load-requires-clause-length : goal.add_load-requires-clause-length
add_load-requires-clause-length c = length_none c.args.start.now
