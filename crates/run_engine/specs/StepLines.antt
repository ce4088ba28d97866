-- The step lines of a run: which states have one, and what it says (this project's profile).
use Rattle.std.specs.Prelude.{ℕ, zero, suc, ◌+◌, ◌-◌, ◌/◌, Bool, false, nat_lt, if◌then◌else◌, List, [], ◌++◌}
use Rattle.std.specs.Prelude.{ℤ, pos, ◌*ℤ◌, ◌≤ℤ◌, ◌<ℤ◌}
use Rattle.std.specs.Int.RustNames.{unsigned_abs}
use Rattle.continuity.specs.Sums.{total_of}
use Rattle.net_types.specs.declared.account.StepAccount.{StepAccount}
use Rattle.net_types.specs.declared.options.Options.{Options}
use Rattle.run_engine.specs.declared.start.Start.{Start}
use Rattle.report_writer.specs.StepLines.{step_line}
use Rattle.run_engine.specs.Results.{account_at}
use Rattle.run_engine.specs.States.{moment_at}

-- how many multiples of the report step a moment has reached
abbrev pub reports_at : Options → (moment : ℤ) → ℕ
reports_at options moment = unsigned_abs moment / unsigned_abs options.report_ms

-- from one moment to another some multiple of the report step is reached
abbrev pub reaches_report : Options → (before after : ℤ) → Bool
reaches_report options before after = nat_lt (reports_at options before) (reports_at options after)

-- whether state k has a line: it is not the opening state, and it is the first at or past some multiple of the report
-- step
unfoldable pub has_line : Start → ℕ → Bool
has_line start zero = false
has_line start (suc k) = reaches_report start.project.options (moment_at start k) (moment_at start (suc k))

-- a multiple of the report step is past state k, and not past the next state
pub record ReachesReport (start : Start) (k : ℕ) : Type 0 where
  pub multiple : ℕ
  pub after : moment_at start k <ℤ (pos multiple *ℤ start.project.options.report_ms)
  pub reached : (pos multiple *ℤ start.project.options.report_ms) ≤ℤ moment_at start (k + 1)

-- the greatest state below k that has a line, or the opening state
unfoldable pub line_before : Start → ℕ → ℕ
line_before start zero = 0
line_before start (suc k) = if has_line start k then k else line_before start k

-- the account of the steps from that state to state k
unfoldable pub account_since : Start → ℕ → StepAccount
account_since start k =
    let from = line_before start k in
    total_of (λ j. account_at start (from + j)) (k - from)

-- the line of state k: its moment, and what happened since the line before
abbrev pub line_at : Start → ℕ → List ℕ
line_at start k = step_line (moment_at start k) (account_since start k)

-- the same where the state has a line
abbrev pub own_line : Start → ℕ → List ℕ
own_line start k = if has_line start k then line_at start k else []

-- the lines of the states up to k, one after another
unfoldable pub lines_until : Start → ℕ → List ℕ
lines_until start zero = []
lines_until start (suc k) = lines_until start k ++ own_line start (suc k)

-- the line of state k where it is the last one: it is put also where the state has none of its own, unless it is the
-- opening state
unfoldable pub last_line : Start → ℕ → List ℕ
last_line start zero = []
last_line start (suc k) = if has_line start (suc k) then [] else line_at start (suc k)
