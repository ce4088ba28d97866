use Rattle.inp_forms.specs.Context.{context_of}
use Rattle.inp_reader.proofs.FaultLemmas.{network_merged}
use Rattle.inp_reader.proofs.network.read_network.Goals as goal

pub returns-clause-faults : goal.returns-clause-faults
returns-clause-faults c = network_merged (context_of c.args.known.now) c.args.lines.now c.requires.rise
    c.in_ok-faults.faults c.links_in.new.faults c.sections_in.new.faults c.losses_in.new.faults
    c.in_ok-faults.ensures.faults c.in_ok-links.ensures.faults c.in_ok-sections.ensures.faults c.in_ok-losses.ensures.faults
