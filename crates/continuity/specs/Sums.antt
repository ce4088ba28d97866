-- Sums of accounts.
use Rattle.std.specs.Prelude.{ℕ, ◌+ℤ◌}
use Rattle.fixed_num.specs.Ranges.{IsWithin}
use Rattle.fixed_num.specs.Sums.{sum_below}
use Rattle.net_types.specs.declared.account.StepAccount.{StepAccount}

-- field by field, the sum of two accounts
abbrev pub plus_of : (a b : StepAccount) → StepAccount
plus_of a b = record {
  inflow = a.inflow +ℤ b.inflow;
  outfall = a.outfall +ℤ b.outfall;
  flooding = a.flooding +ℤ b.flooding;
  storage = a.storage +ℤ b.storage;
  error = a.error +ℤ b.error;
}

-- field by field, the sum of the first so many accounts
unfoldable pub total_of : (ℕ → StepAccount) → ℕ → StepAccount
total_of f n = record {
  inflow = sum_below (λ k. (f k).inflow) n;
  outfall = sum_below (λ k. (f k).outfall) n;
  flooding = sum_below (λ k. (f k).flooding) n;
  storage = sum_below (λ k. (f k).storage) n;
  error = sum_below (λ k. (f k).error) n;
}

-- each field of an account is within a bound, in mm³
pub record FieldsWithin (most : ℕ) (a : StepAccount) : Type 0 where
  pub inflow : IsWithin most a.inflow
  pub outfall : IsWithin most a.outfall
  pub flooding : IsWithin most a.flooding
  pub storage : IsWithin most a.storage
  pub error : IsWithin most a.error
