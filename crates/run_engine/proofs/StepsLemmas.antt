-- The loop over the steps of a run, which adds the lines of its states.
use Rattle.std.proofs.Common.{◌≡◌, ◌∙◌, ℕ, ◌+◌, ◌≤◌, true, List, ◌++◌, refl, sym, ap, subst, append_assoc}
use Rattle.report_port.proofs.Chain.{◌⨾◌, no_more, stops}
use Rattle.report_port.specs.Adding.{Adds, AddsOrStops}
use Rattle.report_port.specs.declared.report.Report.{Report}
use Rattle.run_engine.specs.StepLines.{lines_until, own_line}
use Rattle.run_engine.proofs.LineLemmas.{lines_later, lines_next, lines_none}
use Rattle.run_engine.specs.declared.start.Start.{Start}

pub record HasAdded {W : Type 0} {g : _} (old now : Report W g) (start₀ start : Start) (k : ℕ) : Type 0 where
  pub same : start ≡ start₀
  pub lines : Adds old now (lines_until start₀ k)

pub added_none : {W : Type 0} {g : _} {a : Report W g} (start : Start) (k : ℕ) → k ≡ 0 → HasAdded a a start start k
added_none {a = a} start k none = record {
  same = refl;
  lines = subst (λ (text : List ℕ). Adds a a text) (sym (rw none (lines_none start))) no_more;
}

pub added_next : {W : Type 0} {g : _} {a b c : Report W g} {start₀ start new : Start} {k next : ℕ} → HasAdded a b start₀ start k
    → new ≡ start → next ≡ k + 1 → Adds b c (own_line start (k + 1)) → HasAdded a c start₀ new next
added_next {start₀ = start₀} {k = k} added same count line = record {
  same = same ∙ added.same;
  lines = rw (count, lines_next start₀ k) (added.lines ⨾ (rw added.same at line));
}

-- a call of the sink that failed by the line of a state
pub stops_at : {W : Type 0} {g : _} {a b : Report W g} {start₀ start : Start} {k : ℕ} (all : ℕ) (last : List ℕ) → HasAdded a b start₀ start k → k ≤ all → b.failed ≡ true
    → AddsOrStops a b (lines_until start₀ all ++ last)
stops_at {start₀ = start₀} {k = k} all last added within failed =
    let rest = lines_later start₀ k all within in
    stops (rest.0 ++ last) added.lines (sym (append_assoc (lines_until start₀ k) rest.0 last) ∙ ap (λ (l : List ℕ). l ++ last) rest.1) failed
