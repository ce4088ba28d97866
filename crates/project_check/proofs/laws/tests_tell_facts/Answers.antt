use Rattle.std.proofs.lemmas.List.Folds.{Any-from_list_any, list_any-from_Any}
use Rattle.project_check.specs.Network.{is_outfall}
use Rattle.project_check.proofs.laws.tests_tell_facts.Goals as goal

pub returns-clause-outfall : goal.returns-clause-outfall
returns-clause-outfall c nodes = (Any-from_list_any is_outfall nodes, list_any-from_Any is_outfall nodes)
