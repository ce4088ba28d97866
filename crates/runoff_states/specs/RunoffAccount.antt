-- The account of runoff: what became of the rain (this project's profile). Volumes are mm³.
use Rattle.std.specs.Prelude.{◌≡◌, ℕ, List, ℤ, ◌+ℤ◌, ◌-ℤ◌}
use Rattle.fixed_num.specs.Ranges.{IsWithin}
use Rattle.fixed_num.specs.Sums.{sum_over}
use Rattle.runoff.specs.declared.states.SubStep.{SubStep}
use Rattle.runoff_states.specs.declared.account.RunoffAccount.{RunoffAccount}

-- what neither the soil took nor ran off nor is stored
abbrev pub error_of : (rain infil runoff stored : ℤ) → ℤ
error_of rain infil runoff stored = rain -ℤ infil -ℤ runoff -ℤ stored

-- what became of the rain on a subcatchment adds up to it, but for the rounding of volumes
abbrev pub IsClosed : SubStep → Type 0
IsClosed step = IsWithin 6 (error_of step.rain step.infil step.runoff step.stored)

-- the account of a step: the sums over all subcatchments, and what is left of the rain
pub record IsAccount (steps : List SubStep) (a : RunoffAccount) : Type 0 where
  pub rain : a.rain ≡ sum_over (λ (step : SubStep). step.rain) steps
  pub infil : a.infil ≡ sum_over (λ (step : SubStep). step.infil) steps
  pub runoff : a.runoff ≡ sum_over (λ (step : SubStep). step.runoff) steps
  pub stored : a.stored ≡ sum_over (λ (step : SubStep). step.stored) steps
  pub error : a.error ≡ error_of a.rain a.infil a.runoff a.stored

-- the rain is what the soil took, what ran off, what is stored more than before, and the error
abbrev pub Balances : RunoffAccount → Type 0
Balances a = a.rain ≡ a.infil +ℤ a.runoff +ℤ a.stored +ℤ a.error

-- each field is within `most`
pub record IsAccountWithin (most : ℕ) (a : RunoffAccount) : Type 0 where
  pub rain : IsWithin most a.rain
  pub infil : IsWithin most a.infil
  pub runoff : IsWithin most a.runoff
  pub stored : IsWithin most a.stored
  pub error : IsWithin most a.error
