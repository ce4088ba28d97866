-- What words give, by their work.
use Rattle.std.proofs.Common.{◌≡◌, ◌≢◌, ◌⊎◌, ℕ, Bool, true, false, List, [], Option, None, Some, IfSome, IfOk, Result, Ok, Err, IsErrOf}
use Rattle.std.proofs.Common.{if◌then◌else◌, refl, sym, ap, ◌∙◌, subst, inl, inr}
use Rattle.command_words.specs.declared.command.Command.{Command}
use Rattle.command_words.specs.declared.command.Task.{Task}
use Rattle.command_words.specs.declared.command.Task.TheVariants.{Run, Check, Demo}
use Rattle.sample_maker.specs.SampleText.{sample_text}
use Rattle.swmm_top.specs.Answers.{GivesOutcome, Leaves}
use Rattle.swmm_top.specs.Outcome.{Outcome, IsInputOutcome, IsOutcome, usage}
use Rattle.swmm_top.specs.Taking.{GivesWork}
use Rattle.swmm_top.specs.Uses.{check_only, of_work, read_of, reads_hotstart, reads_input, run_only, work_of, work_resumes}
use Rattle.swmm_top.specs.Work.{checks_of, runs_of, work_in}
use Rattle.swmm_top.specs.declared.fault.TopFault.{TopFault}
use Rattle.swmm_top.specs.declared.fault.TopFault.TheVariants.{OutOfMemory}
use Rattle.swmm_top.specs.declared.status.Status.{Status}
use Rattle.swmm_top.specs.declared.status.Status.TheVariants.{Done, Usage}
use Rattle.swmm_top.specs.declared.work.Work.{Work}
use Rattle.swmm_top.specs.declared.work.Work.TheVariants as work
use Rattle.swmm_top.proofs.LeavesLemmas.{Gives, all_told, leaves_nothing}
use Rattle.swmm_top.proofs.OutcomeLemmas.{outcome_some}
use Rattle.std.proofs.KnownBytes.{Appends-nil}

-- ---- work that is a run, or a check
pub run_work : (command : Option Command) → runs_of (work_in command) ≡ work_in (run_only command)
run_work None = refl
run_work (Some command) = by_task command command.task refl
  where
    by_task : (command : Command) (task : Task) → command.task ≡ task → runs_of (work_in (Some command)) ≡ work_in (run_only (Some command))
    by_task command (Run inp hot_in hot_out) e = rw e refl
    by_task command (Check inp) e = rw e refl
    by_task command (Demo number) e = rw e refl

pub check_work : (command : Option Command) → checks_of (work_in command) ≡ work_in (check_only command)
check_work None = refl
check_work (Some command) = by_task command command.task refl
  where
    by_task : (command : Command) (task : Task) → command.task ≡ task → checks_of (work_in (Some command)) ≡ work_in (check_only (Some command))
    by_task command (Run inp hot_in hot_out) e = rw e refl
    by_task command (Check inp) e = rw e refl
    by_task command (Demo number) e = rw e refl

-- ---- what the work of a task gives
pub gives_run : (resumes keeps : Bool) (task : Task) → work_of task ≡ work.Run resumes keeps → (left hot a b h₀ h : Option (List ℕ)) (result : Result Status TopFault)
    → IfSome left (λ input. IfSome (read_of resumes hot) (λ hotstart. Gives task input hotstart a b h₀ h result))
    → GivesWork task left hot a b h₀ h result
gives_run resumes keeps (Run inp hot_in hot_out) e left hot a b h₀ h result said =
    subst (λ r. IfSome left (λ input. IfSome (read_of r hot) (λ hotstart. Gives (Run inp hot_in hot_out) input hotstart a b h₀ h result)))
    (sym (ap work_resumes e)) said
gives_run resumes keeps (Check inp) e left hot a b h₀ h result said = absurd cc
gives_run resumes keeps (Demo number) e left hot a b h₀ h result said = absurd cc

pub gives_check : (task : Task) → work_of task ≡ work.Check → (left hot a b h : Option (List ℕ)) (result : Result Status TopFault)
    → ((name hotstart : List ℕ) (h : Option (List ℕ)) → IfSome left (λ input. Gives (Check name) input hotstart a b h h result))
    → GivesWork task left hot a b h h result
gives_check (Run inp hot_in hot_out) e left hot a b h result said = absurd cc
gives_check (Check inp) e left hot a b h result said = said inp [] h
gives_check (Demo number) e left hot a b h result said = absurd cc

number_of : Work → ℕ
number_of (work.Run resumes keeps) = 0
number_of work.Check = 0
number_of (work.Demo number) = number

pub gives_demo : (number : ℕ) (task : Task) → work_of task ≡ work.Demo number → (left hot a b h : Option (List ℕ)) (result : Result Status TopFault)
    → ((hotstart : List ℕ) (h : Option (List ℕ)) → Gives (Demo number) (sample_text number) hotstart a b h h result)
    → GivesWork task left hot a b h h result
unfolding number_of
gives_demo number (Run inp hot_in hot_out) e left hot a b h result said = absurd cc
gives_demo number (Check inp) e left hot a b h result said = absurd cc
gives_demo number (Demo other) e left hot a b h result said =
    subst (λ n. Gives (Demo n) (sample_text n) [] a b h h result) (sym (ap number_of e)) (said [] h)

-- ---- what words give
pub gives_words : (command : Option Command) (w : Work) → Some w ≡ work_in command → (left hot a b h₀ h : Option (List ℕ)) (result : Result Status TopFault)
    → ((task : Task) → work_of task ≡ w → GivesWork task left hot a b h₀ h result) → GivesOutcome command left hot a b h₀ h result
unfolding IsOutcome
gives_words None w is left hot a b h₀ h result said = absurd cc
gives_words (Some command) w is left hot a b h₀ h result said = said command.task (unsome is)
  where
    unsome : {x y : Work} → Some x ≡ Some y → y ≡ x
    unsome e = cc

pub gives_checked : (command : Option Command) (w : Work) → Some w ≡ work_in (check_only command) → (left a b : Option (List ℕ)) (result : Result Status TopFault)
    → ((name hotstart : List ℕ) (h : Option (List ℕ)) → IfSome left (λ input. Gives (Check name) input hotstart a b h h result))
    → GivesOutcome (check_only command) left None a b None None result
unfolding IsOutcome
gives_checked None w is left a b result said = absurd cc
gives_checked (Some command) w is left a b result said = by_task command command.task refl w is
  where
    by_task : (command : Command) (task : Task) → command.task ≡ task → (w : Work) → Some w ≡ work_in (check_only (Some command))
        → GivesOutcome (check_only (Some command)) left None a b None None result
    by_task command (Run inp hot_in hot_out) e w is = let none : Some w ≡ None = rw e at is in absurd cc
    by_task command (Check inp) e w is = rw e (said inp [] None)
    by_task command (Demo number) e w is = let none : Some w ≡ None = rw e at is in absurd cc

pub gives_usage : (command : Option Command) → None ≡ work_in command → (left hot a h : Option (List ℕ)) → GivesOutcome command left hot a a h h (Ok Usage)
unfolding IsOutcome
gives_usage None is left hot a h = (usage, refl, record { status = refl; report = Appends-nil a; hotstart = Appends-nil h; failed = tt; hotstart_failed = λ e. absurd cc })
gives_usage (Some command) is left hot a h = absurd cc

no_memory : (command : Option Command) (input hotstart : List ℕ) (a h : Option (List ℕ))
    → (given : Outcome) × IsOutcome command input hotstart given × Leaves given a a h h (Err OutOfMemory)
no_memory command input hotstart a h =
    let some = outcome_some command input hotstart in
    (some.0, some.1, leaves_nothing some.0 a h OutOfMemory (λ e. let never : ⊥ = cc in never))

pub gives_no_memory : (command : Option Command) (left hot a h : Option (List ℕ)) → GivesOutcome command left hot a a h h (Err OutOfMemory)
gives_no_memory command left hot a h =
    all_told (read_of (reads_input command) left)
    (λ input. IfSome (read_of (reads_hotstart command) hot)
    (λ hotstart. (given : Outcome) × IsOutcome command input hotstart given × Leaves given a a h h (Err OutOfMemory)))
    (λ input. all_told (read_of (reads_hotstart command) hot)
    (λ hotstart. (given : Outcome) × IsOutcome command input hotstart given × Leaves given a a h h (Err OutOfMemory))
    (λ hotstart. no_memory command input hotstart a h))

-- ---- which ports are used
pub uses_is : (uses : Work → Bool) (command : Option Command) (w : Work) → Some w ≡ work_in command → of_work uses command ≡ uses w
uses_is uses None w is = absurd cc
uses_is uses (Some command) w is = ap uses (same is)
  where
    same : {x y : Work} → Some x ≡ Some y → y ≡ x
    same e = cc

pub no_use : (uses : Work → Bool) (command : Option Command) → None ≡ work_in command → of_work uses command ≡ false
no_use uses None is = refl
no_use uses (Some command) is = absurd cc

pub is_command : (command : Option Command) (w : Work) → Some w ≡ work_in command → command ≡ None → ⊥
is_command None w is e = let never : ⊥ = cc in never
is_command (Some command) w is e = let never : ⊥ = cc in never

pub is_none : (command : Option Command) → None ≡ work_in command → command ≡ None
is_none None is = refl
is_none (Some command) is = absurd cc

status_in : Result Status TopFault → Status
status_in (Ok status) = status
status_in (Err fault) = Done

pub not_usage : (result : Result Status TopFault) → IfOk result (λ status. status ≢ Usage) → result ≡ Ok Usage → ⊥
unfolding status_in
not_usage (Ok status) other e = other (ap status_in e)
not_usage (Err fault) other e = let never : ⊥ = cc in never
