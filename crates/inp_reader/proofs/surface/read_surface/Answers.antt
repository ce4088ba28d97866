use Rattle.inp_forms.specs.Context.{context_of}
use Rattle.inp_reader.proofs.FaultLemmas.{surface_merged}
use Rattle.inp_reader.proofs.surface.read_surface.Goals as goal

pub returns-clause-faults : goal.returns-clause-faults
returns-clause-faults c = surface_merged c.args.method (context_of c.args.known.now) c.args.lines.now c.requires.rise
    c.in_ok-faults.faults c.subs_in.new.faults c.areas_in.new.faults c.soil_in.new.faults c.evaporation_in.new.faults
    c.in_ok-faults.ensures.faults c.in_ok-subs.ensures.faults c.in_ok-areas.ensures.faults c.in_ok-soil.ensures.faults c.in_ok-evaporation_in.ensures
