use Rattle.node_board.proofs.OpeningSteps.{opening_ruled}
use Rattle.node_board.proofs.SplitSteps.{split_allowed}
use Rattle.node_board.proofs.laws.boards_open_by_the_rule.Goals as goal

pub returns-clause-opened : goal.returns-clause-opened
returns-clause-opened g c = λ law key. opening_ruled law key

pub returns-clause-split : goal.returns-clause-split
returns-clause-split g c = λ law key v plan good leads few i. split_allowed law good key i v plan leads few
