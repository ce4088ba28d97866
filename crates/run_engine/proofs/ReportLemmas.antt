-- The report of a run that has made all its steps.
use Rattle.std.proofs.Common.{◌≡◌, ℕ, ◌++◌, refl, ap, append_assoc}
use Rattle.report_writer.specs.RunReport.{head_of}
use Rattle.report_writer.specs.StepLines.{steps_heading}
use Rattle.report_writer.specs.declared.counts.RunCounts.{RunCounts}
use Rattle.run_engine.specs.Progress.{Progress, IsAt}
use Rattle.run_engine.specs.Report.{front_after, tail_after, tail_with}
use Rattle.run_engine.specs.Results.{counts_after}
use Rattle.run_engine.specs.StepLines.{last_line, lines_until}
use Rattle.run_engine.specs.declared.start.Start.{Start}

-- the number of its state
pub steps_at : (run : Progress) (k : ℕ) → IsAt run k → run.counts.steps ≡ k
unfolding counts_after
steps_at run k at = ap (λ (c : RunCounts). c.steps) at.counts

pub tail_is : (run : Progress) (k : ℕ) → IsAt run k → tail_with run.start.project run.total run.nodes run.outfalls run.links run.subs run.counts ≡ tail_after run.start k
unfolding tail_after
tail_is run k at = rw (at.total, at.nodes, at.outfalls, at.links, at.subs, at.counts) refl

pub front_is : (start : Start) (k : ℕ) → (head_of start.project ++ steps_heading) ++ (lines_until start k ++ last_line start k) ≡ front_after start k
unfolding front_after
front_is start k = append_assoc (head_of start.project) steps_heading (lines_until start k ++ last_line start k)
