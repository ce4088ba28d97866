-- A routing step by successive trials (Reference Manual volume II, chapter 3; the number of trials is this
-- project's profile).
use Rattle.std.specs.Prelude.{◌≡◌, ℕ, zero, suc, ◌<◌, ◌≤◌, true, false, eqb, if◌then◌else◌}
use Rattle.phase_law.specs.Law.{Law}
use Rattle.trial_model.specs.declared.nets.Nets.{Nets}
use Rattle.trial_model.specs.declared.step.StepEnd.{StepEnd}
use Rattle.trial_model.specs.Trial.{trial, unsettled_in}

-- a state after so many trials; only the first of them is told that it is the first
unfoldable pub trials : Law → Nets → ℕ → Nets
trials law s zero = s
trials law s (suc k) = trial law (trials law s k) (eqb k 0)

-- how many nodes trial number k, from 1, leaves unsettled
unfoldable pub unsettled_after : Law → Nets → ℕ → ℕ
unsettled_after law s zero = 0
unsettled_after law s (suc k) = unsettled_in law (trials law s k) (eqb k 0)

-- a step ends at the first trial from the second on that leaves no node unsettled, else at the greatest number of
-- trials; it is settled exactly where the trial at which it ends is such a one
pub record IsEnd (law : Law) (s : Nets) (most : ℕ) (end : StepEnd) : Type 0 where
  pub some : 1 ≤ end.trials
  pub few : end.trials ≤ most
  pub before : (k : ℕ) → 2 ≤ k → k < end.trials → ¬ (unsettled_after law s k ≡ 0)
  pub settled : end.settled ≡ true → (2 ≤ end.trials) × (unsettled_after law s end.trials ≡ 0)
  pub unsettled : end.settled ≡ false → (end.trials ≡ most) × (2 ≤ most → ¬ (unsettled_after law s most ≡ 0))

-- the end that is found by looking at trial after trial from number k on, where `left` more may follow
abbrev pub end_from : Law → Nets → ℕ → ℕ → StepEnd
end_from law s k zero = record { trials = k; settled = eqb (unsettled_after law s k) 0 }
end_from law s k (suc left) =
    if eqb (unsettled_after law s k) 0 then record { trials = k; settled = true } else end_from law s (suc k) left

-- the end of a step of at most so many trials
unfoldable pub end_of : Law → Nets → ℕ → StepEnd
end_of law s zero = record { trials = 0; settled = false }
end_of law s (suc zero) = record { trials = 1; settled = false }
end_of law s (suc (suc left)) = end_from law s 2 left
