use Rattle.control_rules.proofs.DecisiveLemmas.{decisive_first, decisive_alone, decisive_none}
use Rattle.control_rules.proofs.laws.greatest_priority_decides.Goals as goal

pub returns-clause-first : goal.returns-clause-first
returns-clause-first c = decisive_first

pub returns-clause-alone : goal.returns-clause-alone
returns-clause-alone c = decisive_alone

pub returns-clause-without : goal.returns-clause-without
returns-clause-without c = decisive_none
