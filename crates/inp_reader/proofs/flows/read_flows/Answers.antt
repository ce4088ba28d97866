use Rattle.inp_forms.specs.Context.{context_of}
use Rattle.inp_reader.proofs.FaultLemmas.{flows_merged}
use Rattle.inp_reader.proofs.flows.read_flows.Goals as goal

pub returns-clause-faults : goal.returns-clause-faults
returns-clause-faults c = flows_merged (context_of c.args.known.now) c.args.lines.now c.requires.rise
    c.in_ok-faults.faults c.dry_in.new.faults c.in_ok-faults.ensures.faults c.in_ok-dry.ensures.faults
