use Rattle.std.proofs.Common.{◌∙◌, sym}
use Rattle.continuity.proofs.TotalLemmas.{total_none}
use Rattle.continuity.proofs.run.RunAccount.clear.Goals as goal

pub returns-clause-total : goal.returns-clause-total
returns-clause-total c f = record { total = c.no_account-self-inside.ensures ∙ sym (total_none f) }
