use Rattle.std.proofs.Common.{refl}
use Rattle.inp_lists.specs.Chains.{chain_names, chain_records, chain_states}
use Rattle.inp_lists.proofs.HoldingLemmas.{hold_none}
use Rattle.inp_lists.proofs.walk.read_chain.Goals as goal

pub read_lines-requires-clause-held : goal.read_lines-requires-clause-held
read_lines-requires-clause-held g c = hold_none (g.C.Chain.form c.args.chain.now) _ c.no_names.ensures refl refl c.new.ensures c.new-2.ensures

pub returns-clause-names : goal.returns-clause-names
unfolding chain_names
returns-clause-names g c = c.in_ok-faults.ensures.held.names.numbers

pub returns-clause-records : goal.returns-clause-records
unfolding chain_names chain_records
returns-clause-records g c = c.in_ok-faults.ensures.held.names.records

pub returns-clause-states : goal.returns-clause-states
unfolding chain_names chain_states
returns-clause-states g c = c.in_ok-faults.ensures.held.names.states
