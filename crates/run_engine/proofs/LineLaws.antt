-- A state has a step line exactly where a multiple of the report step was reached.
use Rattle.std.proofs.Common.{◌≡◌, ◌∙◌, ◌↔◌, ℕ, ◌+◌, ◌*◌, ◌/◌, ◌<◌, ◌≤◌, true, ℤ, pos, negsuc, ◌*ℤ◌, ◌≤ℤ◌, ◌<ℤ◌, unsigned_abs, sym, inl, inr, arith}
use Rattle.std.specs.Prelude.{nat_lt}
use Rattle.std.proofs.Math.Nat.{lt-mul-div-succ, mul-div-le}
use Rattle.std.proofs.lemmas.Bool.{cases_lt}
use Rattle.std.proofs.lemmas.Bool.Decides.{nat_tests}
use Rattle.std.proofs.lemmas.Int.{ints}
use Rattle.std.proofs.lemmas.Nat.{mul-le}
use Rattle.project_check.specs.Faultless.{IsFaultless}
use Rattle.run_engine.specs.States.{moment_at}
use Rattle.run_engine.specs.StepLines.{ReachesReport, has_line}
use Rattle.run_engine.proofs.ClockLemmas.{times}
use Rattle.run_engine.proofs.LineLemmas.{has_line_next}
use Rattle.run_engine.proofs.RunLemmas.{run_options}
use Rattle.run_engine.specs.declared.start.Start.{Start}

-- ---- of amounts
below_of : (a b r : ℕ) → 0 < r → a / r < b / r → a < b / r * r
below_of a b r some h =
    let high = lt-mul-div-succ a some in
    let more = mul-le (a / r + 1) r (b / r) r (omega (arith, h)) (omega arith) in
    omega (arith, high, more)

multiple_of : (a b m r : ℕ) → 0 < r → a < m * r → m * r ≤ b → a / r < b / r
multiple_of a b m r some low high = elim (cases_lt (a / r) (b / r)) [
  | inl less ↦ less
  | inr past ↦ absurd (impossible past)
]
  where
    impossible : b / r ≤ a / r → ⊥
    impossible past = elim (cases_lt (a / r) m) [
      | inl few ↦
          let up = mul-le (b / r + 1) r m r (omega (arith, past, few)) (omega arith) in
          let next = lt-mul-div-succ b some in
          omega (arith, up, next, high)
      | inr many ↦
          let down = mul-le m r (a / r) r many (omega arith) in
          let last = mul-div-le a r in
          omega (arith, down, last, low)
    ]

-- ---- of moments
reaches : (a b r : ℤ) → pos 0 ≤ℤ a → pos 0 ≤ℤ b → pos 1_000 ≤ℤ r → nat_lt (unsigned_abs a / unsigned_abs r) (unsigned_abs b / unsigned_abs r) ≡ true
    → (a <ℤ (pos (unsigned_abs b / unsigned_abs r) *ℤ r)) × ((pos (unsigned_abs b / unsigned_abs r) *ℤ r) ≤ℤ b)
reaches (pos a) (pos b) (pos r) h k s test =
    let some : 0 < r = omega (arith, ints, s) in
    let less : a / r < b / r = grind (arith, nat_tests, test) in
    let low = below_of a b r some less in
    let high = mul-div-le b r in
    (omega (arith, ints, low), omega (arith, ints, high))
reaches (negsuc a) b r h k s test = absurd (omega (arith, ints, h))
reaches a (negsuc b) r h k s test = absurd (omega (arith, ints, k))
reaches a b (negsuc r) h k s test = absurd (omega (arith, ints, s))

reached : (a b r : ℤ) (m : ℕ) → pos 0 ≤ℤ a → pos 0 ≤ℤ b → pos 1_000 ≤ℤ r → a <ℤ (pos m *ℤ r) → (pos m *ℤ r) ≤ℤ b
    → nat_lt (unsigned_abs a / unsigned_abs r) (unsigned_abs b / unsigned_abs r) ≡ true
reached (pos a) (pos b) (pos r) m h k s low high =
    let some : 0 < r = omega (arith, ints, s) in
    let less = multiple_of a b m r some (omega (arith, ints, low)) (omega (arith, ints, high)) in
    grind (arith, nat_tests, less)
reached (negsuc a) b r m h k s low high = absurd (omega (arith, ints, h))
reached a (negsuc b) r m h k s low high = absurd (omega (arith, ints, k))
reached a b (negsuc r) m h k s low high = absurd (omega (arith, ints, s))

pub line_law : (start : Start) (k : ℕ) → IsFaultless start.project → (has_line start (k + 1) ≡ true) ↔ ReachesReport start k
line_law start k r =
    let options = start.project.options in
    let before = (times start (run_options start.project r) k).between.from in
    let after = (times start (run_options start.project r) (k + 1)).between.from in
    let step = r.sound.options.report_in.from in (
      λ line.
          let both = reaches (moment_at start k) (moment_at start (k + 1)) options.report_ms before after step (sym (has_line_next start k) ∙ line) in
          record { multiple = unsigned_abs (moment_at start (k + 1)) / unsigned_abs options.report_ms; after = both.0; reached = both.1 },
      λ at. has_line_next start k ∙ reached (moment_at start k) (moment_at start (k + 1)) options.report_ms at.multiple before after step at.after at.reached,
    )
