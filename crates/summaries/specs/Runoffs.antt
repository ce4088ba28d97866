-- What the rain of a run became on each subcatchment (this project's profile).
use Rattle.std.specs.Prelude.{◌≡◌, ℕ, zero, suc, ◌*◌, ◌^◌, ◌<◌, List, [], length}
use Rattle.std.specs.Prelude.{replicate, slice_index_or, ℤ, pos, ◌+ℤ◌}
use Rattle.std.specs.Prelude.{unsigned_abs, ◌≤ℤ◌}
use Rattle.std.specs.Int.{int_max}
use Rattle.fixed_num.specs.Ranges.{IsBetween, IsWithin}
use Rattle.fixed_num.specs.Sums.{sum_below, sum_over}
use Rattle.infiltration.specs.declared.states.InfilState.TheVariants.{Horton}
use Rattle.net_types.specs.declared.project.Project.{Project}
use Rattle.runoff.specs.declared.states.SubState.{SubState}
use Rattle.runoff.specs.declared.states.SubStep.{SubStep}
use Rattle.summaries.specs.declared.sub_summary.SubSummary.{SubSummary}

-- the volumes of subcatchment k in a step, and its flow after it (cm³/s); nothing past the end
abbrev pub volumes_at : List SubStep → ℕ → SubStep
volumes_at steps k = slice_index_or steps k (record { rain = pos 0; infil = pos 0; runoff = pos 0; stored = pos 0 })

abbrev pub flow_at : List SubState → ℕ → ℤ
flow_at states k =
    (slice_index_or states k (record { depths = []; infil = Horton (record { above = pos 0 }); flow = pos 0 })).flow

-- the greatest of 0 and f 0, .., f (n - 1)
abbrev pub most_below : (ℕ → ℤ) → ℕ → ℤ
most_below f zero = pos 0
most_below f (suc n) = int_max (most_below f n) (f n)

-- the summary of a subcatchment over so many steps, of which these are the volumes and the states after them: the sums
-- of the volumes, and the greatest flow
unfoldable pub runoff_of : (steps : ℕ → List SubStep) (after : ℕ → List SubState) (count : ℕ) → ℕ → SubSummary
runoff_of steps after count k = record {
  rain = sum_below (λ j. (volumes_at (steps j) k).rain) count;
  infil = sum_below (λ j. (volumes_at (steps j) k).infil) count;
  runoff = sum_below (λ j. (volumes_at (steps j) k).runoff) count;
  stored = sum_below (λ j. (volumes_at (steps j) k).stored) count;
  peak = most_below (λ j. flow_at (after j) k) count;
}

-- ---- what is kept over a run
pub record Runoffs : Type 0 where
  pub subs : List SubSummary
  pub steps : ℕ

abbrev pub no_runoff : SubSummary
no_runoff = record { rain = pos 0; infil = pos 0; runoff = pos 0; stored = pos 0; peak = pos 0 }

-- the summaries of no step of a project
abbrev pub no_runoffs : Project → Runoffs
no_runoffs project = record { subs = replicate (length project.subs) no_runoff; steps = 0 }

abbrev pub summary_at : List SubSummary → ℕ → SubSummary
summary_at subs k = slice_index_or subs k no_runoff

-- the summaries are those of the first steps of a run
pub record AreRunoffs (steps : ℕ → List SubStep) (after : ℕ → List SubState) (runoffs : Runoffs) : Type 0 where
  pub each : (k : ℕ) → k < length runoffs.subs → summary_at runoffs.subs k ≡ runoff_of steps after runoffs.steps k

-- volumes of at most 10^28 mm³ a step
pub record IsRunoffWithin (most : ℕ) (s : SubSummary) : Type 0 where
  pub rain : IsWithin most s.rain
  pub infil : IsWithin most s.infil
  pub runoff : IsWithin most s.runoff
  pub stored : IsWithin most s.stored

pub record AreSmall (runoffs : Runoffs) : Type 0 where
  pub each : (k : ℕ) → IsRunoffWithin (10 ^ 28 * runoffs.steps) (summary_at runoffs.subs k)

-- the volumes of all subcatchments, each taken without its sign, add up to at most 10^37 mm³
pub record HaveSmallSums (subs : List SubSummary) : Type 0 where
  pub rain : sum_over (λ (s : SubSummary). pos (unsigned_abs s.rain)) subs ≤ℤ pos (10 ^ 37)
  pub infil : sum_over (λ (s : SubSummary). pos (unsigned_abs s.infil)) subs ≤ℤ pos (10 ^ 37)
  pub runoff : sum_over (λ (s : SubSummary). pos (unsigned_abs s.runoff)) subs ≤ℤ pos (10 ^ 37)
  pub stored : sum_over (λ (s : SubSummary). pos (unsigned_abs s.stored)) subs ≤ℤ pos (10 ^ 37)

-- ---- one step more
abbrev pub with_step : SubSummary → SubStep → (flow : ℤ) → SubSummary
with_step s step flow = record {
  rain = s.rain +ℤ step.rain;
  infil = s.infil +ℤ step.infil;
  runoff = s.runoff +ℤ step.runoff;
  stored = s.stored +ℤ step.stored;
  peak = int_max s.peak flow;
}

-- the sums of all subcatchments
pub record IsTotal (subs : List SubSummary) (total : SubStep) : Type 0 where
  pub rain : total.rain ≡ sum_over (λ (s : SubSummary). s.rain) subs
  pub infil : total.infil ≡ sum_over (λ (s : SubSummary). s.infil) subs
  pub runoff : total.runoff ≡ sum_over (λ (s : SubSummary). s.runoff) subs
  pub stored : total.stored ≡ sum_over (λ (s : SubSummary). s.stored) subs
