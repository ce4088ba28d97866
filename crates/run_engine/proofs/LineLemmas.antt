-- The step lines of a run with one state more, and the account since the last of them.
use Rattle.std.proofs.Common.{◌≡◌, ◌∙◌, ℕ, zero, suc, ◌+◌, ◌-◌, ◌<◌, ◌≤◌, Bool, true, false, eqb, if◌then◌else◌, List, [], ◌++◌, ℤ}
use Rattle.std.proofs.Common.{refl, sym, ap, subst, arith, add-one, append-nil, append_assoc}
use Rattle.std.proofs.lemmas.Bool.Decides.{nat_tests}
use Rattle.continuity.proofs.TotalLemmas.{total_none}
use Rattle.continuity.specs.Run.{Running, nothing}
use Rattle.continuity.specs.Sums.{total_of}
use Rattle.report_writer.specs.StepLines.{step_line}
use Rattle.run_engine.specs.Kept.{IsTotalFrom}
use Rattle.run_engine.specs.Results.{account_at}
use Rattle.run_engine.specs.States.{moment_at}
use Rattle.run_engine.specs.StepLines.{account_since, has_line, last_line, line_at, line_before, lines_until, own_line, reaches_report}
use Rattle.run_engine.specs.declared.start.Start.{Start}

module _ (start : Start) where
  -- ---- which states have a line
  pub has_line_next : (k : ℕ) → has_line start (k + 1) ≡ reaches_report start.project.options (moment_at start k) (moment_at start (k + 1))
  unfolding has_line
  has_line_next k = rw (add-one k) refl

  pub line_reached : (k : ℕ) {before after : ℤ} {test : Bool} → before ≡ moment_at start k → after ≡ moment_at start (k + 1) → test ≡ reaches_report start.project.options before after
      → has_line start (k + 1) ≡ test
  line_reached k p q is = has_line_next k ∙ sym (is ∙ rw (p, q) refl)

  before_next : (k : ℕ) → line_before start (k + 1) ≡ (if has_line start k then k else line_before start k)
  unfolding line_before
  before_next k = rw (add-one k) refl

  pub before_with : (k : ℕ) → has_line start k ≡ true → line_before start (k + 1) ≡ k
  before_with k line = before_next k ∙ rw line refl

  pub before_without : (k : ℕ) → has_line start k ≡ false → line_before start (k + 1) ≡ line_before start k
  before_without k none = before_next k ∙ rw none refl

  before_none : line_before start 0 ≡ 0
  unfolding line_before
  before_none = refl

  one_of : (b : Bool) (n k before : ℕ) → before ≤ k → n ≡ (if b then k else before) → n ≤ k
  one_of true n k before h e = omega (arith, e)
  one_of false n k before h e = omega (arith, e, h)

  before_within : (k : ℕ) → line_before start (k + 1) ≤ k
  before_within zero = one_of (has_line start 0) (line_before start (0 + 1)) 0 (line_before start 0) (omega (arith, before_none)) (before_next 0)
  before_within (suc k) =
      let same : suc k ≡ k + 1 = omega arith in
      one_of (has_line start (suc k)) (line_before start (suc k + 1)) (suc k) (line_before start (suc k))
      (omega (arith, ap (line_before start) same, before_within k)) (before_next (suc k))

  -- ---- the account since the line before
  since_is : (k : ℕ) (running : Running) → IsTotalFrom start (line_before start k) k running → account_since start k ≡ running.total
  unfolding account_since
  since_is k running at =
      let from = line_before start k in
      let count : k - from ≡ running.steps = omega (arith, at.steps) in
      sym (at.total.total ∙ ap (total_of (λ j. account_at start (from + j))) (sym count))

  pub line_is : (k : ℕ) (running : Running) (moment : ℤ) → IsTotalFrom start (line_before start k) k running → moment ≡ moment_at start k
      → step_line moment running.total ≡ line_at start k
  line_is k running moment at here = rw (here, since_is k running at) refl

  pub line_put : (k : ℕ) (running : Running) (moment : ℤ) → has_line start k ≡ true → IsTotalFrom start (line_before start k) k running → moment ≡ moment_at start k
      → step_line moment running.total ≡ own_line start k
  line_put k running moment line at here = line_is k running moment at here ∙ rw line refl

  pub no_line : (k : ℕ) → has_line start k ≡ false → own_line start k ≡ []
  no_line k none = rw none refl

  -- of no step
  pub from_none : (k : ℕ) (running : Running) → running ≡ record { total = nothing; steps = 0 } → IsTotalFrom start k k running
  from_none k running is = rw is (record {
    steps = omega arith;
    total = record { total = sym (total_none (λ j. account_at start (k + j))) };
  })

  -- after the line of a state was put it begins anew, and where the state has none it goes on
  pub from_line : (k : ℕ) (running : Running) → has_line start k ≡ true → running ≡ record { total = nothing; steps = 0 } → IsTotalFrom start (line_before start (k + 1)) k running
  from_line k running line is = subst (λ (from : ℕ). IsTotalFrom start from k running) (sym (before_with k line)) (from_none k running is)

  pub from_same : (k : ℕ) (running : Running) → has_line start k ≡ false → IsTotalFrom start (line_before start k) k running → IsTotalFrom start (line_before start (k + 1)) k running
  from_same k running none at = subst (λ (from : ℕ). IsTotalFrom start from k running) (sym (before_without k none)) at

  pub from_start : (running : Running) → running ≡ record { total = nothing; steps = 0 } → IsTotalFrom start (line_before start (0 + 1)) 0 running
  from_start running is =
      let within = before_within 0 in
      let none : line_before start (0 + 1) ≡ 0 = omega (arith, within) in
      subst (λ (from : ℕ). IsTotalFrom start from 0 running) (sym none) (from_none 0 running is)

  -- ---- the lines
  pub lines_next : (k : ℕ) → lines_until start (k + 1) ≡ lines_until start k ++ own_line start (k + 1)
  unfolding lines_until
  lines_next k = rw (add-one k) refl

  pub lines_none : lines_until start 0 ≡ []
  unfolding lines_until
  lines_none = refl

  -- the lines of a later state begin with those of an earlier one
  pub lines_begin : (k m : ℕ) → (rest : List ℕ) × (lines_until start (k + m) ≡ lines_until start k ++ rest)
  lines_begin k zero = ([], let e : k + 0 ≡ k = omega arith in ap (lines_until start) e ∙ sym (append-nil (lines_until start k)))
  lines_begin k (suc m) =
      let before = lines_begin k m in
      let e : k + suc m ≡ k + m + 1 = omega arith in (
        before.0 ++ own_line start (k + m + 1),
        ap (lines_until start) e ∙ lines_next (k + m) ∙ ap (λ (l : List ℕ). l ++ own_line start (k + m + 1)) before.1
            ∙ append_assoc (lines_until start k) before.0 (own_line start (k + m + 1)),
      )

  pub lines_later : (k later : ℕ) → k ≤ later → (rest : List ℕ) × (lines_until start k ++ rest ≡ lines_until start later)
  lines_later k later h =
      let rest = lines_begin k (later - k) in
      let e : k + (later - k) ≡ later = omega (arith, h) in
      (rest.0, sym rest.1 ∙ ap (lines_until start) e)

  -- the line of the last state
  pub last_is : (k : ℕ) (running : Running) (moment : ℤ) → IsTotalFrom start (line_before start (k + 1)) k running → moment ≡ moment_at start k
      → (if eqb running.steps 0 then [] else step_line moment running.total) ≡ last_line start k
  unfolding last_line
  last_is zero running moment at here =
      let none : running.steps ≡ 0 = omega (arith, at.steps) in
      rw none refl
  last_is (suc k) running moment at here = by_line (has_line start (suc k)) refl
    where
      some : (n : ℕ) → 0 < n → eqb n 0 ≡ false
      some n h = grind (arith, nat_tests, h)

      by_line : (b : Bool) → has_line start (suc k) ≡ b → (if eqb running.steps 0 then [] else step_line moment running.total) ≡ (if b then [] else line_at start (suc k))
      by_line true line =
          let none : running.steps ≡ 0 = omega (arith, at.steps, before_with (suc k) line) in
          rw none refl
      by_line false line =
          let back = before_without (suc k) line in
          let same : suc k ≡ k + 1 = omega arith in
          let within : line_before start (suc k) ≤ k = omega (arith, before_within k, ap (line_before start) same) in
          let more : 0 < running.steps = omega (arith, at.steps, back, within) in
          rw (some running.steps more) (line_is (suc k) running moment (subst (λ (from : ℕ). IsTotalFrom start from (suc k) running) back at) here)
