-- The step lines of the report of a run (this project's profile).
use Rattle.std.specs.Prelude.{◌^◌, ℕ, List, [], ◌∷◌, codes, ℤ, ◌+ℤ◌}
use Rattle.std.specs.Fmt.{signed_decimal}
use Rattle.fixed_num.specs.Ranges.{IsWithin}
use Rattle.net_types.specs.declared.account.StepAccount.{StepAccount}
use Rattle.report_writer.specs.Texts.{joined}

-- what stands before the step lines
abbrev pub steps_heading : List ℕ
steps_heading = codes "\nStep Continuity (mm3)\n"

-- the line of a moment (ms since the start) with what happened since the line before: what came in, what left at
-- outfalls or flooded, what is stored more than before, and the error (mm³)
unfoldable pub step_line : (moment : ℤ) → StepAccount → List ℕ
step_line moment account = joined (
    signed_decimal moment ∷ codes " " ∷ signed_decimal account.inflow
    ∷ codes " " ∷ signed_decimal (account.outfall +ℤ account.flooding)
    ∷ codes " " ∷ signed_decimal account.storage ∷ codes " " ∷ signed_decimal account.error ∷ codes "\n" ∷ [])

-- volumes whose sums are within 128 bits
pub record AreSmallLosses (account : StepAccount) : Type 0 where
  pub outfall : IsWithin (10 ^ 37) account.outfall
  pub flooding : IsWithin (10 ^ 37) account.flooding
