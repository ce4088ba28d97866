-- The account of a run (this project's profile).
use Rattle.std.specs.Prelude.{◌≡◌, ℕ, ◌*◌, ◌^◌, ◌≤◌, pos}
use Rattle.net_types.specs.declared.account.StepAccount.{StepAccount}
use Rattle.continuity.specs.Account.{Balances}
use Rattle.continuity.specs.Sums.{FieldsWithin, total_of}

-- what was added so far, and how many steps
pub record Running : Type 0 where
  pub total : StepAccount
  pub steps : ℕ

-- it is the total of these accounts, as many as were added
pub record IsTotal (f : ℕ → StepAccount) (running : Running) : Type 0 where
  pub total : running.total ≡ total_of f running.steps

-- the account of nothing
abbrev pub nothing : StepAccount
nothing = record { inflow = pos 0; outfall = pos 0; flooding = pos 0; storage = pos 0; error = pos 0 }

-- at most 50,000,000 steps, of at most 10^28 mm³ in each field, that all balance
pub record IsRunning (total : StepAccount) (steps : ℕ) : Type 0 where
  pub few : steps ≤ 50_000_000
  pub range : FieldsWithin (10 ^ 28 * steps) total
  pub balance : Balances total
