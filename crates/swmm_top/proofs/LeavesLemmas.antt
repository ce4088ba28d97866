-- What a call leaves, by what its parts left.
use Rattle.std.proofs.Common.{◌≡◌, ◌≢◌, ◌⊎◌, ℕ, Bool, true, false, List, [], ◌++◌, length, take, Option, None, Some, IfSome}
use Rattle.std.proofs.Common.{OnOk, OnErr, IfOk, Result, Ok, Err, IsErrOf, if◌then◌else◌, refl, sym, ap, ◌∙◌, subst, inl, inr, arith}
use Rattle.std.proofs.lemmas.List.{take_all}
use Rattle.std.proofs.KnownBytes.{Appends-nil, Appends-trans}
use Rattle.std.specs.Io.KnownBytes.{Appends}
use Rattle.command_words.specs.declared.command.Task.{Task}
use Rattle.fault_ports.proofs.OutputLemmas.{prefix_after, prefix_stays}
use Rattle.fault_ports.specs.Output.{AppendsPrefix, Puts}
use Rattle.net_types.specs.declared.project.Project.{Project}
use Rattle.swmm_top.specs.Answers.{Leaves}
use Rattle.swmm_top.specs.Outcome.{Outcome, IsInputOutcome, answer_of, demo_of, done, refused, run_of}
use Rattle.swmm_top.specs.Uses.{work_keeps, work_of, work_resumes}
use Rattle.swmm_top.specs.declared.work.Work.TheVariants as work
use Rattle.command_words.specs.declared.command.Task.TheVariants.{Run, Check, Demo}
use Rattle.swmm_top.specs.Taking.{TakesInput}
use Rattle.swmm_top.specs.declared.fault.Port.TheVariants.{Inp, HotIn, Rpt, HotOut}
use Rattle.swmm_top.specs.declared.fault.TopFault.{TopFault}
use Rattle.swmm_top.specs.declared.fault.TopFault.TheVariants.{Read, Write, OutOfMemory}
use Rattle.swmm_top.specs.declared.status.Status.{Status}
use Rattle.swmm_top.specs.declared.status.Status.TheVariants.{Done, Refused}
use Rattle.net_types.specs.declared.account.StepAccount.{StepAccount}
use Rattle.report_writer.specs.DemoReport.{demo_report}
use Rattle.report_writer.specs.declared.counts.RunCounts.{RunCounts}
use Rattle.run_engine.specs.Results.{counts_after, total_after}
use Rattle.run_engine.specs.States.{steps_of}
use Rattle.run_engine.specs.declared.start.Start.{Start}
use Rattle.swmm_top.specs.declared.taken.Taken.TheVariants as taken
use Rattle.swmm_top.proofs.OutcomeLemmas.{input_some, nothing_put}

-- all the bytes are a front of them
whole_prefix : (a b : Option (List ℕ)) (bytes : List ℕ) → Appends a b bytes → AppendsPrefix a b bytes
whole_prefix a b bytes put = (length bytes, omega arith, subst (Appends a b) (sym (take_all (length bytes) bytes (omega arith))) put)

-- a call that put nothing before its fault
pub leaves_nothing : (given : Outcome) (a h : Option (List ℕ)) (fault : TopFault) → (IsErrOf {T = Status} (Err fault) (Write HotOut) → ⊥) → Leaves given a a h h (Err fault)
leaves_nothing given a h fault other = record {
  status = tt;
  report = tt;
  hotstart = tt;
  failed = nothing_put a given.report;
  hotstart_failed = λ e. absurd (other e);
}

-- a call that put one report, or a front of it
pub leaves_report : {T E : Type 0} (status : Status) (report : List ℕ) (a b h : Option (List ℕ)) (put : Result T E) (result : Result Status TopFault)
    → Puts a b report put → OnOk put (result ≡ Ok status) → OnErr put (result ≡ Err (Write Rpt))
    → Leaves (record { status = status; report = report; hotstart = [] }) a b h h result
leaves_report status report a b h (Ok _) result bytes ended failed = rw ended (record {
  status = refl;
  report = bytes;
  hotstart = Appends-nil h;
  failed = tt;
  hotstart_failed = λ e. absurd cc;
})
leaves_report status report a b h (Err _) result bytes ended failed = rw failed (record {
  status = tt;
  report = tt;
  hotstart = tt;
  failed = bytes;
  hotstart_failed = λ e. absurd cc;
})

-- a fault of the input or of the report is none of the hotstart that is kept
pub not_kept : {T : Type 0} (fault : TopFault) → IsErrOf {T = T} (Err fault) OutOfMemory ⊎ (IsErrOf {T = T} (Err fault) (Read Inp) ⊎ IsErrOf {T = T} (Err fault) (Write Rpt))
    → IsErrOf {T = Status} (Err fault) (Write HotOut) → ⊥
not_kept fault (inl e) h = let never : ⊥ = cc in never
not_kept fault (inr (inl e)) h = let never : ⊥ = cc in never
not_kept fault (inr (inr e)) h = let never : ⊥ = cc in never

pub not_read : {T : Type 0} (fault : TopFault) → IsErrOf {T = T} (Err fault) OutOfMemory ⊎ IsErrOf {T = T} (Err fault) (Read HotIn)
    → IsErrOf {T = Status} (Err fault) (Write HotOut) → ⊥
not_read fault (inl e) h = let never : ⊥ = cc in never
not_read fault (inr e) h = let never : ⊥ = cc in never

-- ---- a run
-- the rest of its report follows the front
pub leaves_after : (front rest kept : List ℕ) (a b c h₀ h : Option (List ℕ)) (result : Result Status TopFault) → Appends a b front
    → Leaves (done rest kept) b c h₀ h result → Leaves (done (front ++ rest) kept) a c h₀ h result
leaves_after front rest kept a b c h₀ h (Ok status) put said = record {
  status = said.status;
  report = Appends-trans a b c front rest put said.report;
  hotstart = said.hotstart;
  failed = tt;
  hotstart_failed = λ e. absurd cc;
}
leaves_after front rest kept a b c h₀ h (Err fault) put said = record {
  status = tt;
  report = tt;
  hotstart = tt;
  failed = prefix_after a b c front rest put said.failed;
  hotstart_failed = λ e. (Appends-trans a b c front rest put (said.hotstart_failed e).0, (said.hotstart_failed e).1);
}

-- a front of it was put before the fault
pub leaves_front : (front rest kept : List ℕ) (a b h : Option (List ℕ)) → AppendsPrefix a b front
    → Leaves (done (front ++ rest) kept) a b h h (Err (Write Rpt))
leaves_front front rest kept a b h put = record {
  status = tt;
  report = tt;
  hotstart = tt;
  failed = prefix_stays a b front rest put;
  hotstart_failed = λ e. absurd cc;
}

pub leaves_rest : (rest kept : List ℕ) (a b h : Option (List ℕ)) → AppendsPrefix a b rest → Leaves (done rest kept) a b h h (Err (Write Rpt))
leaves_rest rest kept a b h put = record { status = tt; report = tt; hotstart = tt; failed = put; hotstart_failed = λ e. absurd cc }

-- the hotstart follows the report
pub leaves_hotstart : (report kept : List ℕ) (a b h₀ h : Option (List ℕ)) (result : Result Status TopFault) → Appends a b report
    → IfOk result (λ status. status ≡ (done report kept).status) → Puts h₀ h kept result → Leaves (done report kept) a b h₀ h result
leaves_hotstart report kept a b h₀ h (Ok status) put is bytes = record {
  status = is;
  report = put;
  hotstart = bytes;
  failed = tt;
  hotstart_failed = λ e. absurd cc;
}
leaves_hotstart report kept a b h₀ h (Err fault) put is bytes = record {
  status = tt;
  report = tt;
  hotstart = tt;
  failed = whole_prefix a b report put;
  hotstart_failed = λ e. (put, bytes);
}

-- ---- an input that was taken
-- a call gives an outcome of a task
abbrev pub Gives : Task → (input hotstart : List ℕ) (a b h₀ h : Option (List ℕ)) → Result Status TopFault → Type 0
Gives task input hotstart a b h₀ h result = (given : Outcome) × IsInputOutcome task input hotstart given × Leaves given a b h₀ h result

pub gives_refusal : (task : Task) (input hotstart : List ℕ) (a b h : Option (List ℕ)) → TakesInput input a b (Ok taken.Refused)
    → Gives task input hotstart a b h h (Ok Refused)
gives_refusal task input hotstart a b h said =
    let e = said.ended in (
      refused e.0,
      e.1 task hotstart,
      record { status = refl; report = e.2; hotstart = Appends-nil h; failed = tt; hotstart_failed = λ e. absurd cc },
    )

pub gives_fault : (task : Task) (input hotstart : List ℕ) (a b h : Option (List ℕ)) (fault : TopFault) → (IsErrOf {T = Status} (Err fault) (Write HotOut) → ⊥)
    → TakesInput input a b (Err fault) → Gives task input hotstart a b h h (Err fault)
gives_fault task input hotstart a b h fault other said =
    let some = input_some task input hotstart in (
      some.0,
      some.1,
      record {
        status = tt;
        report = tt;
        hotstart = tt;
        failed = said.failed task hotstart some.0 some.1;
        hotstart_failed = λ e. absurd (other e);
      },
    )

pub gives_answer : (task : Task) (input hotstart : List ℕ) (project : Project) (a b c h₀ h : Option (List ℕ)) (result : Result Status TopFault)
    → TakesInput input a b (Ok (taken.Accepted project)) → Leaves (answer_of task project hotstart) b c h₀ h result
    → Gives task input hotstart a c h₀ h result
gives_answer task input hotstart project a b c h₀ h result said left =
    let e = said.ended in (
      answer_of task project hotstart,
      e.0 task hotstart,
      subst (λ r. Leaves (answer_of task project hotstart) r c h₀ h result) e.1 left,
    )

-- nothing was put before a fault without an input
pub gives_nothing : (task : Task) (input hotstart : List ℕ) (a h : Option (List ℕ)) (fault : TopFault) → (IsErrOf {T = Status} (Err fault) (Write HotOut) → ⊥)
    → Gives task input hotstart a a h h (Err fault)
gives_nothing task input hotstart a h fault other =
    let some = input_some task input hotstart in (some.0, some.1, leaves_nothing some.0 a h fault other)

-- ---- the same of what a source tells
pub lift : (told : Option (List ℕ)) (P Q : List ℕ → Type 0) → ((bytes : List ℕ) → P bytes → Q bytes) → IfSome told P → IfSome told Q
lift None P Q f h = tt
lift (Some bytes) P Q f h = f bytes h

pub lift_both : (told other : Option (List ℕ)) (P Q : List ℕ → Type 0) (R : List ℕ → List ℕ → Type 0)
    → ((bytes more : List ℕ) → P bytes → Q more → R bytes more) → IfSome told P → IfSome other Q
    → IfSome told (λ bytes. IfSome other (λ more. R bytes more))
lift_both None other P Q R f h k = tt
lift_both (Some bytes) None P Q R f h k = tt
lift_both (Some bytes) (Some more) P Q R f h k = f bytes more h k

pub all_told : (told : Option (List ℕ)) (P : List ℕ → Type 0) → ((bytes : List ℕ) → P bytes) → IfSome told P
all_told None P f = tt
all_told (Some bytes) P f = f bytes

-- ---- a run of an input
run_answer : (resumes keeps : Bool) (task : Task) → work_of task ≡ work.Run resumes keeps → (project : Project) (hotstart : List ℕ)
    → answer_of task project hotstart ≡ run_of resumes keeps project hotstart
run_answer resumes keeps (Run inp hot_in hot_out) e project hotstart =
    ap (λ w. run_of (work_resumes w) (work_keeps w) project hotstart) e
run_answer resumes keeps (Check inp) e project hotstart = absurd cc
run_answer resumes keeps (Demo number) e project hotstart = absurd cc

pub run_gives : (resumes keeps : Bool) (task : Task) → work_of task ≡ work.Run resumes keeps → (left hot : Option (List ℕ)) (project : Project)
    (a b c h₀ h : Option (List ℕ)) (result : Result Status TopFault)
    → IfSome left (λ input. TakesInput input a b (Ok (taken.Accepted project)))
    → IfSome hot (λ hotstart. Leaves (run_of resumes keeps project hotstart) b c h₀ h result)
    → IfSome left (λ input. IfSome hot (λ hotstart. Gives task input hotstart a c h₀ h result))
run_gives resumes keeps task is left hot project a b c h₀ h result said leaves =
    lift_both left hot _ _ (λ input hotstart. Gives task input hotstart a c h₀ h result)
    (λ input hotstart taken_is left_is. gives_answer task input hotstart project a b c h₀ h result taken_is
    (subst (λ o. Leaves o b c h₀ h result) (sym (run_answer resumes keeps task is project hotstart)) left_is)) said leaves

pub refusal_gives : (task : Task) (left hot : Option (List ℕ)) (a b h : Option (List ℕ)) → IfSome left (λ input. TakesInput input a b (Ok taken.Refused))
    → IfSome left (λ input. IfSome hot (λ hotstart. Gives task input hotstart a b h h (Ok Refused)))
refusal_gives task left hot a b h said =
    lift left _ _ (λ input taken_is. all_told hot _ (λ hotstart. gives_refusal task input hotstart a b h taken_is)) said

pub fault_gives : (task : Task) (left hot : Option (List ℕ)) (a b h : Option (List ℕ)) (fault : TopFault)
    → (IsErrOf {T = Status} (Err fault) (Write HotOut) → ⊥) → IfSome left (λ input. TakesInput input a b (Err fault))
    → IfSome left (λ input. IfSome hot (λ hotstart. Gives task input hotstart a b h h (Err fault)))
fault_gives task left hot a b h fault other said =
    lift left _ _ (λ input taken_is. all_told hot _ (λ hotstart. gives_fault task input hotstart a b h fault other taken_is)) said

-- ---- the run of a sample
pub leaves_sample : {T E : Type 0} (number : ℕ) (start own : Start) (total : StepAccount) (counts : RunCounts) (a b h : Option (List ℕ)) (put : Result T E)
    (result : Result Status TopFault) → own ≡ start → total ≡ total_after own (steps_of own) → counts ≡ counts_after own (steps_of own)
    → Puts a b (demo_report number total counts) put → OnOk put (result ≡ Ok Done) → OnErr put (result ≡ Err (Write Rpt))
    → Leaves (demo_of number start) a b h h result
leaves_sample number start own total counts a b h put result same total_is counts_is bytes ended failed =
    subst (λ s. Leaves (demo_of number s) a b h h result) same
    (leaves_report Done (demo_report number (total_after own (steps_of own)) (counts_after own (steps_of own))) a b h put result
    (subst (λ t. Puts a b (demo_report number t (counts_after own (steps_of own))) put) total_is
    (subst (λ n. Puts a b (demo_report number total n) put) counts_is bytes)) ended failed)

pub leaves_no_memory : (given : Outcome) (a h : Option (List ℕ)) → Leaves given a a h h (Err OutOfMemory)
leaves_no_memory given a h = leaves_nothing given a h OutOfMemory (λ e. let never : ⊥ = cc in never)

-- nothing was put before memory was wanting
pub gives_no_run : (task : Task) (input hotstart : List ℕ) (a h : Option (List ℕ)) → Gives task input hotstart a a h h (Err OutOfMemory)
gives_no_run task input hotstart a h = gives_nothing task input hotstart a h OutOfMemory (λ e. let never : ⊥ = cc in never)

-- a fault of the report alone
pub not_kept_report : {T : Type 0} (fault : TopFault) → IsErrOf {T = T} (Err fault) OutOfMemory ⊎ IsErrOf {T = T} (Err fault) (Write Rpt)
    → IsErrOf {T = Status} (Err fault) (Write HotOut) → ⊥
not_kept_report fault (inl e) h = let never : ⊥ = cc in never
not_kept_report fault (inr e) h = let never : ⊥ = cc in never
