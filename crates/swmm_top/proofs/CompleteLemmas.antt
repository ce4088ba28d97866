-- Good words and good bytes have the outcome of work that is done.
use Rattle.std.proofs.Common.{◌≡◌, ◌⊎◌, ℕ, Bool, true, false, List, [], Option, None, Some, IfSome, IfOk, OnErr, IsOk, IsErrOf, is_some, Result, Ok, Err}
use Rattle.std.proofs.Common.{if◌then◌else◌, refl, sym, ap, ◌∙◌, subst, inl, inr}
use Rattle.std.specs.Io.KnownBytes.{Appends}
use Rattle.command_words.specs.declared.command.Command.{Command}
use Rattle.command_words.specs.declared.command.Task.{Task}
use Rattle.command_words.specs.declared.command.Task.TheVariants.{Run, Check, Demo}
use Rattle.fault_ports.specs.Causes.{HasFailed}
use Rattle.fault_ports.specs.declared.faults.Faults.{Faults}
use Rattle.hotstart.specs.declared.read.HotRead.{HotRead}
use Rattle.hotstart.specs.declared.state.HotState.{HotState}
use Rattle.net_types.specs.declared.faults.ProjectFault.{ProjectFault}
use Rattle.net_types.specs.declared.project.Project.{Project}
use Rattle.project_check.specs.ProjectFaults.{project_faults}
use Rattle.inp_lines.specs.Lines.{lines_of}
use Rattle.swmm_top.specs.Answers.{FailsOnlyAt, GivesOutcome, Leaves}
use Rattle.swmm_top.specs.Complete.{Completes, DoesWork, IsGoodHotstart, IsGoodInput, SomeFailed}
use Rattle.swmm_top.specs.Outcome.{Outcome, IsInputOutcome, IsOutcome, answer_of, answer_unless, begun, hot_read_of, input_for, project_outcome, run_of, state_or}
use Rattle.swmm_top.specs.Uses.{read_of, reads_hotstart, reads_input, work_of, work_resumes}
use Rattle.swmm_top.specs.declared.fault.Port.TheVariants.{Inp, HotIn, Rpt, HotOut}
use Rattle.swmm_top.specs.declared.fault.TopFault.{TopFault}
use Rattle.swmm_top.specs.declared.fault.TopFault.TheVariants.{Read, Write, OutOfMemory}
use Rattle.swmm_top.specs.declared.status.Status.{Status}
use Rattle.swmm_top.specs.declared.status.Status.TheVariants.{Done}
use Rattle.swmm_top.proofs.OutcomeLemmas.{input_one, input_short, lines_meant}

-- ---- the outcome of a good input
-- a run that begins with a state is done
begun_is_done : (keeps : Bool) (project : Project) (state : Result HotState HotRead) → IsOk state → (begun keeps project state).status ≡ Done
begun_is_done keeps project (Ok state) good = refl
begun_is_done keeps project (Err refusal) good = let never : ⊥ = cc in absurd never

run_is_done : (resumes keeps : Bool) (project : Project) (hotstart : List ℕ) → (resumes ≡ true → IsOk (state_or (hot_read_of project hotstart)))
    → (run_of resumes keeps project hotstart).status ≡ Done
run_is_done true keeps project hotstart good = begun_is_done keeps project (state_or (hot_read_of project hotstart)) (good refl)
run_is_done false keeps project hotstart good = refl

answer_is_done : (task : Task) (project : Project) (hotstart : List ℕ) → IsGoodHotstart task project hotstart → (answer_of task project hotstart).status ≡ Done
answer_is_done (Run inp hot_in hot_out) project hotstart good = run_is_done (is_some hot_in) (is_some hot_out) project hotstart good
answer_is_done (Check inp) project hotstart good = refl
answer_is_done (Demo number) project hotstart good = refl

-- without a fault there is the answer
without_faults : (faults : List ProjectFault) (answer : Outcome) → faults ≡ [] → answer_unless faults answer ≡ answer
without_faults faults answer none = rw none refl

good_is_answered : (task : Task) (project : Project) (input hotstart : List ℕ) (given : Outcome) → IsGoodInput input project
    → IsInputOutcome task input hotstart given → given ≡ answer_of task project hotstart
good_is_answered task project input hotstart given good is =
    input_one task input hotstart given (project_outcome task project hotstart) is
    (input_short task input hotstart (project_outcome task project hotstart) good.short
    (lines_meant task (lines_of input) hotstart project good.faultless good.means))
    ∙ without_faults (project_faults project) (answer_of task project hotstart) good.good

-- ---- an answer where no port failed
work_is_done : (task : Task) (project : Project) (hotstart : List ℕ) (given : Outcome) (a b h₀ h : Option (List ℕ)) (status : Status)
    → given ≡ answer_of task project hotstart → IsGoodHotstart task project hotstart → Leaves given a b h₀ h (Ok status)
    → DoesWork task project hotstart a b h₀ h (Ok status)
work_is_done task project hotstart given a b h₀ h status is good leaves = record {
  status = ap Ok (leaves.status ∙ ap (λ (o : Outcome). o.status) is ∙ answer_is_done task project hotstart good);
  report = subst (λ (o : Outcome). Appends a b o.report) is leaves.report;
  kept = subst (λ (o : Outcome). Appends h₀ h o.hotstart) is leaves.hotstart;
}

-- what is said of bytes that are told
of_told : (told : Option (List ℕ)) (bytes : List ℕ) (P : List ℕ → Type 0) → told ≡ Some bytes → IfSome told P → P bytes
of_told told bytes P is said = subst (λ t. IfSome t P) is said

pub completes : (words : Option Command) (left hot a b h₀ h : Option (List ℕ)) (failed : Type 0) (result : Result Status TopFault)
    → GivesOutcome words left hot a b h₀ h result → OnErr result (IsErrOf result OutOfMemory ⊎ failed)
    → Completes words left hot a b h₀ h failed result
unfolding IsOutcome
completes words left hot a b h₀ h failed (Err fault) said why command project input hotstart is read resumed good good_hot = inr why
completes words left hot a b h₀ h failed (Ok status) said why command project input hotstart is read resumed good good_hot =
    let given = of_told (read_of (reads_hotstart words) hot) hotstart
    (λ hotstart. (given : Outcome) × IsOutcome words input hotstart given × Leaves given a b h₀ h (Ok status)) resumed
    (of_told (read_of (reads_input words) left) input
    (λ input. IfSome (read_of (reads_hotstart words) hot)
    (λ hotstart. (given : Outcome) × IsOutcome words input hotstart given × Leaves given a b h₀ h (Ok status))) read said) in
    let of_input : IsInputOutcome command.task (input_for command.task input) hotstart given.0 =
    subst (λ w. IsOutcome w input hotstart given.0) is given.1 in
    inl (work_is_done command.task project hotstart given.0 a b h₀ h status
    (good_is_answered command.task project (input_for command.task input) hotstart given.0 good of_input) good_hot given.2)

-- ---- why a call failed
-- a fault of four ports, each of which told it
pub some_failed : (inp₀ inp hot_in₀ hot_in rpt₀ rpt hot_out₀ hot_out : Faults) (result : Result Status TopFault)
    → OnErr result (IsErrOf result OutOfMemory ⊎ (IsErrOf result (Read Inp) ⊎ (IsErrOf result (Read HotIn)
    ⊎ (IsErrOf result (Write Rpt) ⊎ IsErrOf result (Write HotOut)))))
    → FailsOnlyAt (Read Inp) inp₀ inp result → FailsOnlyAt (Read HotIn) hot_in₀ hot_in result
    → FailsOnlyAt (Write Rpt) rpt₀ rpt result → FailsOnlyAt (Write HotOut) hot_out₀ hot_out result
    → OnErr result (IsErrOf result OutOfMemory ⊎ SomeFailed inp₀ inp hot_in₀ hot_in rpt₀ rpt hot_out₀ hot_out)
some_failed inp₀ inp hot_in₀ hot_in rpt₀ rpt hot_out₀ hot_out (Ok status) why a b c d = tt
some_failed inp₀ inp hot_in₀ hot_in rpt₀ rpt hot_out₀ hot_out (Err fault) (inl e) a b c d = inl e
some_failed inp₀ inp hot_in₀ hot_in rpt₀ rpt hot_out₀ hot_out (Err fault) (inr (inl e)) a b c d = inr (inl (a.failed e))
some_failed inp₀ inp hot_in₀ hot_in rpt₀ rpt hot_out₀ hot_out (Err fault) (inr (inr (inl e))) a b c d = inr (inr (inl (b.failed e)))
some_failed inp₀ inp hot_in₀ hot_in rpt₀ rpt hot_out₀ hot_out (Err fault) (inr (inr (inr (inl e)))) a b c d = inr (inr (inr (inl (c.failed e))))
some_failed inp₀ inp hot_in₀ hot_in rpt₀ rpt hot_out₀ hot_out (Err fault) (inr (inr (inr (inr e)))) a b c d = inr (inr (inr (inr (d.failed e))))

-- the same of a call that uses two of them
pub one_failed : (inp₀ inp hot_in₀ hot_in rpt₀ rpt hot_out₀ hot_out : Faults) (result : Result Status TopFault)
    → OnErr result (IsErrOf result OutOfMemory ⊎ (IsErrOf result (Read Inp) ⊎ IsErrOf result (Write Rpt)))
    → FailsOnlyAt (Read Inp) inp₀ inp result → FailsOnlyAt (Write Rpt) rpt₀ rpt result
    → OnErr result (IsErrOf result OutOfMemory ⊎ SomeFailed inp₀ inp hot_in₀ hot_in rpt₀ rpt hot_out₀ hot_out)
one_failed inp₀ inp hot_in₀ hot_in rpt₀ rpt hot_out₀ hot_out (Ok status) why a c = tt
one_failed inp₀ inp hot_in₀ hot_in rpt₀ rpt hot_out₀ hot_out (Err fault) (inl e) a c = inl e
one_failed inp₀ inp hot_in₀ hot_in rpt₀ rpt hot_out₀ hot_out (Err fault) (inr (inl e)) a c = inr (inl (a.failed e))
one_failed inp₀ inp hot_in₀ hot_in rpt₀ rpt hot_out₀ hot_out (Err fault) (inr (inr e)) a c = inr (inr (inr (inl (c.failed e))))
