use Rattle.std.proofs.Common.{◌+◌, ℕ, refl, subst, sym}
use Rattle.run_engine.specs.Kept.{IsTotalFrom}
use Rattle.run_engine.specs.Progress.{IsAt}
use Rattle.run_engine.specs.StepLines.{line_before}
use Rattle.run_engine.specs.declared.start.Start.{Start}
use Rattle.run_engine.proofs.KeptLemmas.{kept_at}
use Rattle.run_engine.proofs.LineLemmas.{from_start}
use Rattle.run_engine.proofs.run.open_run.Goals as goal

pub invariant_of-result : goal.invariant_of-result
invariant_of-result c =
    let start : Start = record { project = c.args.project; hot = c.args.hot } in (
      c.in_ok-kept.ensures.kept,
      subst (λ (k : ℕ). IsTotalFrom start (line_before start (k + 1)) k c.new.result) (sym c.in_ok-kept.ensures.steps)
          (from_start start c.new.result c.new.ensures.value),
      c.in_ok-last.ensures,
    )

pub returns : goal.returns
returns c = (refl, subst (IsAt _) c.in_ok-kept.ensures.steps (kept_at c.in_ok-kept.ensures.kept))
