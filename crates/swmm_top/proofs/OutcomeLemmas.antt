-- The outcome of an input, and of the front of it that is read.
use Rattle.std.proofs.Common.{◌≡◌, ◌≢◌, ℕ, ◌+◌, ◌≤◌, ◌<◌, Bool, true, false, nat_lt, List, [], ◌∷◌}
use Rattle.std.proofs.Common.{length, take, Option, None, Some, IfSome, OnOk, OnErr, IfOk, Result, Ok}
use Rattle.std.proofs.Common.{Err, if◌then◌else◌, refl, sym, ap, ◌∙◌, subst, inl, inr, arith}
use Rattle.std.proofs.lemmas.List.{length-take, take_all}
use Rattle.std.proofs.lemmas.Bool.{cases_lt, lt-ltb}
use Rattle.std.proofs.lemmas.Bool.Decides.{nat_tests}
use Rattle.std.specs.Bool.{MatchBool}
use Rattle.std.specs.Io.KnownBytes.{Appends}
use Rattle.std.proofs.KnownBytes.{Appends-nil}
use Rattle.command_words.specs.declared.command.Command.{Command}
use Rattle.command_words.specs.declared.command.Task.{Task}
use Rattle.net_types.specs.declared.faults.LineFault.{LineFault}
use Rattle.net_types.specs.declared.faults.ProjectFault.{ProjectFault}
use Rattle.net_types.specs.declared.project.Project.{Project}
use Rattle.inp_lines.specs.declared.line.Line.{Line}
use Rattle.inp_lines.specs.Faults.{cut}
use Rattle.inp_lines.specs.Lines.{lines_of}
use Rattle.inp_reader.specs.LineFaults.{line_faults}
use Rattle.inp_reader.specs.Meaning.{Means}
use Rattle.inp_reader.proofs.MeaningLemmas.{means_some, means_unique}
use Rattle.fault_ports.specs.Output.{Puts, AppendsPrefix}
use Rattle.project_check.specs.ProjectFaults.{project_faults}
use Rattle.report_writer.specs.FaultReports.{line_faults_report, project_faults_report, input_too_long_report}
use Rattle.swmm_top.specs.Input.{TakesFront, input_limit}
use Rattle.swmm_top.specs.Outcome.{Outcome, IsOutcome, IsInputOutcome, IsLinesOutcome}
use Rattle.swmm_top.specs.Outcome.{usage, refused, answer_of, answer_unless, input_for, project_outcome}
use Rattle.swmm_top.specs.Taking.{Accepts, IsChecked, IsTaken, Refuses, TakesInput, TakesProject}
use Rattle.swmm_top.specs.declared.fault.TopFault.{TopFault}
use Rattle.swmm_top.specs.declared.taken.Taken.{Taken}
use Rattle.swmm_top.specs.declared.taken.Taken.TheVariants as taken

-- what faults of lines give
lines_refused : (task : Task) (lines : List Line) (hotstart : List ℕ) (faults : List LineFault) → line_faults lines ≢ []
    → faults ≡ cut (line_faults lines) → IsLinesOutcome task lines hotstart (refused (line_faults_report faults))
unfolding IsLinesOutcome
lines_refused task lines hotstart faults some is =
    (λ _. ap (λ l. refused (line_faults_report l)) is, λ bare. absurd (some bare))

-- what lines without a fault give
pub lines_meant : (task : Task) (lines : List Line) (hotstart : List ℕ) (project : Project) → line_faults lines ≡ []
    → Means lines project → IsLinesOutcome task lines hotstart (project_outcome task project hotstart)
unfolding IsLinesOutcome
lines_meant task lines hotstart project bare means = (λ some. absurd (some bare), λ _. (project, means, refl))

-- a list is empty or not
bare_or : {A : Type 0} (xs : List A) (P : Type 0) → (xs ≡ [] → P) → (xs ≢ [] → P) → P
bare_or [] P p q = p refl
bare_or (x ∷ xs) P p q = q (λ e. cc)

-- lines have one outcome
lines_one : (task : Task) (lines : List Line) (hotstart : List ℕ) (a b : Outcome) → IsLinesOutcome task lines hotstart a
    → IsLinesOutcome task lines hotstart b → a ≡ b
unfolding IsLinesOutcome
lines_one task lines hotstart a b p q =
    bare_or (line_faults lines) (a ≡ b)
    (λ bare. let pa = p.1 bare in let pb = q.1 bare in
    pa.2 ∙ ap (λ project. project_outcome task project hotstart) (means_unique lines pa.0 pb.0 pa.1 pb.1) ∙ sym pb.2)
    (λ some. p.0 some ∙ sym (q.0 some))

both_equal : (b : Bool) (P Q P' Q' R : Type 0) → (P → P' → R) → (Q → Q' → R) → MatchBool b P Q → MatchBool b P' Q' → R
both_equal true P Q P' Q' R p q h k = p h k
both_equal false P Q P' Q' R p q h k = q h k

-- an input has one outcome
pub input_one : (task : Task) (input hotstart : List ℕ) (a b : Outcome) → IsInputOutcome task input hotstart a
    → IsInputOutcome task input hotstart b → a ≡ b
unfolding IsInputOutcome
input_one task input hotstart a b p q =
    both_equal (nat_lt input_limit (length input)) _ _ _ _ (a ≡ b) (λ h k. h ∙ sym k)
    (λ h k. lines_one task (lines_of input) hotstart a b h k) p q

not_lt : (m n : ℕ) → n ≤ m → nat_lt m n ≡ false
not_lt m n few = grind (arith, nat_tests)

-- an input within the limit gives what its lines give; another is too long
pub input_short : (task : Task) (input hotstart : List ℕ) (given : Outcome) → length input ≤ input_limit
    → IsLinesOutcome task (lines_of input) hotstart given → IsInputOutcome task input hotstart given
unfolding IsInputOutcome
input_short task input hotstart given few p =
    subst (λ b. MatchBool b (given ≡ refused input_too_long_report) (IsLinesOutcome task (lines_of input) hotstart given))
    (sym (not_lt input_limit (length input) few)) p

input_long : (task : Task) (input hotstart : List ℕ) → input_limit < length input
    → IsInputOutcome task input hotstart (refused input_too_long_report)
unfolding IsInputOutcome
input_long task input hotstart more =
    subst (λ b. MatchBool b (refused input_too_long_report ≡ refused input_too_long_report)
    (IsLinesOutcome task (lines_of input) hotstart (refused input_too_long_report))) (sym (lt-ltb _ _ more)) refl

-- the bytes up to one past a limit tell whether there are more than the limit, and are all of them if not
front_to : (limit : ℕ) (input : List ℕ) (P : Type 0) (Q : List ℕ → Type 0)
    → MatchBool (nat_lt limit (length (take (limit + 1) input))) P (Q (take (limit + 1) input))
    → MatchBool (nat_lt limit (length input)) P (Q input)
front_to limit input P Q h =
    elim (cases_lt limit (length input)) [
      | inl more ↦
          let longer : limit < length (take (limit + 1) input) = simp length-take (omega arith) in
          subst (λ b. MatchBool b P (Q input)) (sym (lt-ltb _ _ more)) (subst (λ b. MatchBool b P (Q (take (limit + 1) input))) (lt-ltb _ _ longer) h)
      | inr few ↦ subst (λ bytes. MatchBool (nat_lt limit (length bytes)) P (Q bytes)) (take_all (limit + 1) input (omega arith)) h
    ]

front_from : (limit : ℕ) (input : List ℕ) (P : Type 0) (Q : List ℕ → Type 0) → MatchBool (nat_lt limit (length input)) P (Q input)
    → MatchBool (nat_lt limit (length (take (limit + 1) input))) P (Q (take (limit + 1) input))
front_from limit input P Q h =
    elim (cases_lt limit (length input)) [
      | inl more ↦
          let longer : limit < length (take (limit + 1) input) = simp length-take (omega arith) in
          subst (λ b. MatchBool b P (Q (take (limit + 1) input))) (sym (lt-ltb _ _ longer)) (subst (λ b. MatchBool b P (Q input)) (lt-ltb _ _ more) h)
      | inr few ↦ subst (λ bytes. MatchBool (nat_lt limit (length bytes)) P (Q bytes)) (sym (take_all (limit + 1) input (omega arith))) h
    ]

outcome_to : (task : Task) (input hotstart : List ℕ) (given : Outcome) → IsInputOutcome task (take (input_limit + 1) input) hotstart given
    → IsInputOutcome task input hotstart given
unfolding IsInputOutcome
outcome_to task input hotstart given h =
    front_to input_limit input (given ≡ refused input_too_long_report) (λ bytes. IsLinesOutcome task (lines_of bytes) hotstart given) h

outcome_from : (task : Task) (input hotstart : List ℕ) (given : Outcome) → IsInputOutcome task input hotstart given
    → IsInputOutcome task (take (input_limit + 1) input) hotstart given
unfolding IsInputOutcome
outcome_from task input hotstart given h =
    front_from input_limit input (given ≡ refused input_too_long_report) (λ bytes. IsLinesOutcome task (lines_of bytes) hotstart given) h

-- ---- taking an input
taken_to : (input : List ℕ) (rpt₀ rpt : Option (List ℕ)) (t : Taken) → IsTaken (take (input_limit + 1) input) rpt₀ rpt t → IsTaken input rpt₀ rpt t
taken_to input rpt₀ rpt taken.Refused (report, refuses, put) = (report, λ task hotstart. outcome_to task input hotstart _ (refuses task hotstart), put)
taken_to input rpt₀ rpt (taken.Accepted project) (accepts, same) = (λ task hotstart. outcome_to task input hotstart _ (accepts task hotstart), same)

-- what was taken of the front that is read was taken of the whole input
front_taken : (input shown : List ℕ) (rpt₀ rpt : Option (List ℕ)) (result : Result Taken TopFault) → shown ≡ take (input_limit + 1) input
    → TakesInput shown rpt₀ rpt result → TakesInput input rpt₀ rpt result
front_taken input shown rpt₀ rpt (Ok t) is said =
    record { ended = taken_to input rpt₀ rpt t (subst (λ bytes. IsTaken bytes rpt₀ rpt t) is said.ended); failed = tt }
front_taken input shown rpt₀ rpt (Err fault) is said =
    record {
      ended = tt;
      failed = λ task hotstart given of. said.failed task hotstart given
          (subst (λ bytes. IsInputOutcome task bytes hotstart given) (sym is) (outcome_from task input hotstart given of));
    }

pub front_is_taken : (told left : Option (List ℕ)) (bytes shown : List ℕ) (rpt₀ rpt : Option (List ℕ)) (result : Result Taken TopFault)
    → TakesFront (input_limit + 1) told left bytes → shown ≡ bytes → TakesInput shown rpt₀ rpt result
    → IfSome told (λ input. TakesInput input rpt₀ rpt result)
front_is_taken None left bytes shown rpt₀ rpt result front same said = tt
front_is_taken (Some input) left bytes shown rpt₀ rpt result front same said =
    front_taken input shown rpt₀ rpt result (same ∙ front.0) said

-- a front of no bytes is put
pub nothing_put : (held : Option (List ℕ)) (bytes : List ℕ) → AppendsPrefix held held bytes
nothing_put held bytes = (0, omega arith, Appends-nil held)

-- nothing was put before a fault
pub nothing_taken : (input : List ℕ) (rpt : Option (List ℕ)) (fault : TopFault) → TakesInput input rpt rpt (Err fault)
nothing_taken input rpt fault = record { ended = tt; failed = λ task hotstart given of. nothing_put rpt given.report }

pub nothing_taken_of : (told rpt₀ rpt : Option (List ℕ)) (fault : TopFault) → rpt ≡ rpt₀ → IfSome told (λ input. TakesInput input rpt₀ rpt (Err fault))
nothing_taken_of None rpt₀ rpt fault same = tt
nothing_taken_of (Some input) rpt₀ rpt fault same = subst (λ r. TakesInput input rpt₀ r (Err fault)) (sym same) (nothing_taken input rpt₀ fault)

-- an input is refused once the report of its outcome was put
pub refusal_is : (input report : List ℕ) (rpt₀ rpt : Option (List ℕ)) (result : Result Taken TopFault)
    → Refuses input report → IfOk result (λ t. t ≡ taken.Refused) → Puts rpt₀ rpt report result → TakesInput input rpt₀ rpt result
refusal_is input report rpt₀ rpt (Ok t) refuses is bytes =
    record { ended = subst (IsTaken input rpt₀ rpt) (sym is) (report, refuses, bytes); failed = tt }
refusal_is input report rpt₀ rpt (Err fault) refuses is bytes =
    record {
      ended = tt;
      failed = λ task hotstart given of.
          subst (λ (o : Outcome). AppendsPrefix rpt₀ rpt o.report) (input_one task input hotstart _ given (refuses task hotstart) of) bytes;
    }

pub refusal_put : {T E : Type 0} (input report : List ℕ) (rpt₀ rpt : Option (List ℕ)) (put : Result T E) (result : Result Taken TopFault) (fault : TopFault)
    → Refuses input report → Puts rpt₀ rpt report put → OnOk put (result ≡ Ok taken.Refused) → OnErr put (result ≡ Err fault)
    → TakesInput input rpt₀ rpt result
refusal_put input report rpt₀ rpt (Ok _) result fault refuses bytes done failed =
    rw done (record { ended = (report, refuses, bytes); failed = tt })
refusal_put input report rpt₀ rpt (Err _) result fault refuses bytes done failed =
    rw failed (refusal_is input report rpt₀ rpt (Err fault) refuses tt bytes)

-- a list of one item at least isn't empty
pub not_bare : {A : Type 0} (xs : List A) → 1 ≤ length xs → xs ≢ []
not_bare [] h = λ e. omega (arith, h)
not_bare (x ∷ xs) h = λ e. cc

-- ---- why an input is refused
pub long_refused : (input : List ℕ) → input_limit < length input → Refuses input input_too_long_report
long_refused input more = λ task hotstart. input_long task input hotstart more

pub lines_are_refused : (input : List ℕ) (faults : List LineFault) → length input ≤ input_limit → line_faults (lines_of input) ≢ []
    → faults ≡ cut (line_faults (lines_of input)) → Refuses input (line_faults_report faults)
lines_are_refused input faults few some is = λ task hotstart.
    input_short task input hotstart _ few (lines_refused task (lines_of input) hotstart faults some is)

-- ---- the project that an input means
unless_faults : (faults : List ProjectFault) (answer : Outcome) → faults ≢ [] → answer_unless faults answer ≡ refused (project_faults_report faults)
unless_faults [] answer some = absurd (some refl)
unless_faults (fault ∷ faults) answer some = refl

project_taken : (input : List ℕ) (project : Project) (rpt₀ rpt : Option (List ℕ)) (t : Taken)
    → ((task : Task) (hotstart : List ℕ) → IsInputOutcome task input hotstart (project_outcome task project hotstart))
    → IsChecked project rpt₀ rpt t → IsTaken input rpt₀ rpt t
project_taken input project rpt₀ rpt taken.Refused means (some, put) = (
  project_faults_report (project_faults project),
  λ task hotstart. subst (IsInputOutcome task input hotstart) (unless_faults (project_faults project) (answer_of task project hotstart) some) (means task hotstart),
  put,
)
project_taken input project rpt₀ rpt (taken.Accepted own) means (same, none, unput) = (
  λ task hotstart. subst (λ p. IsInputOutcome task input hotstart (answer_of task p hotstart)) (sym same)
      (subst (λ faults. IsInputOutcome task input hotstart (answer_unless faults (answer_of task project hotstart))) none (means task hotstart)),
  unput,
)

-- what was taken of the project that an input means was taken of the input
pub meant_is_taken : (input : List ℕ) (project : Project) (rpt₀ rpt : Option (List ℕ)) (result : Result Taken TopFault) → length input ≤ input_limit
    → line_faults (lines_of input) ≡ [] → Means (lines_of input) project → TakesProject project rpt₀ rpt result → TakesInput input rpt₀ rpt result
meant_is_taken input project rpt₀ rpt (Ok t) few bare means said =
    record { ended = project_taken input project rpt₀ rpt t (λ task hotstart. input_short task input hotstart _ few (lines_meant task (lines_of input) hotstart project bare means)) said.ended; failed = tt }
meant_is_taken input project rpt₀ rpt (Err fault) few bare means said =
    record {
      ended = tt;
      failed = λ task hotstart given of.
          subst (λ (o : Outcome). AppendsPrefix rpt₀ rpt o.report)
          (input_one task input hotstart _ given (input_short task input hotstart _ few (lines_meant task (lines_of input) hotstart project bare means)) of)
          (said.failed task hotstart);
    }

-- the faults of a project were reported, or could not be
pub faults_are_reported : {T E : Type 0} (project : Project) (faults : List ProjectFault) (rpt₀ rpt : Option (List ℕ)) (put : Result T E) (result : Result Taken TopFault) (fault : TopFault)
    → faults ≡ project_faults project → faults ≢ [] → Puts rpt₀ rpt (project_faults_report faults) put
    → OnOk put (result ≡ Ok taken.Refused) → OnErr put (result ≡ Err fault) → TakesProject project rpt₀ rpt result
faults_are_reported project faults rpt₀ rpt (Ok _) result fault are some bytes done failed =
    rw done (record { ended = subst (λ l. (l ≢ []) × Appends rpt₀ rpt (project_faults_report l)) are (some, bytes); failed = tt })
faults_are_reported project faults rpt₀ rpt (Err _) result fault are some bytes done failed =
    rw failed (record {
      ended = tt;
      failed = λ task hotstart.
          subst (λ (o : Outcome). AppendsPrefix rpt₀ rpt o.report)
          (sym (ap (λ l. answer_unless l (answer_of task project hotstart)) (sym are) ∙ unless_faults faults (answer_of task project hotstart) some)) bytes;
    })

-- ---- laws
-- the same words and bytes have one outcome
pub outcome_one : (command : Option Command) (input hotstart : List ℕ) (a b : Outcome) → IsOutcome command input hotstart a → IsOutcome command input hotstart b → a ≡ b
unfolding IsOutcome
outcome_one None input hotstart a b p q = p ∙ sym q
outcome_one (Some command) input hotstart a b p q = input_one command.task (input_for command.task input) hotstart a b p q

-- the same words and bytes have an outcome
lines_some : (task : Task) (lines : List Line) (hotstart : List ℕ) → (given : Outcome) × IsLinesOutcome task lines hotstart given
lines_some task lines hotstart =
    bare_or (line_faults lines) _
    (λ bare. let meant = means_some lines bare in (project_outcome task meant.0 hotstart, lines_meant task lines hotstart meant.0 bare meant.1))
    (λ some. (refused (line_faults_report (cut (line_faults lines))), lines_refused task lines hotstart (cut (line_faults lines)) some refl))

pub input_some : (task : Task) (input hotstart : List ℕ) → (given : Outcome) × IsInputOutcome task input hotstart given
input_some task input hotstart =
    elim (cases_lt input_limit (length input)) [
      | inl more ↦ (refused input_too_long_report, input_long task input hotstart more)
      | inr few ↦ let given = lines_some task (lines_of input) hotstart in (given.0, input_short task input hotstart given.0 few given.1)
    ]

pub outcome_some : (command : Option Command) (input hotstart : List ℕ) → (given : Outcome) × IsOutcome command input hotstart given
unfolding IsOutcome
outcome_some None input hotstart = (usage, refl)
outcome_some (Some command) input hotstart = input_some command.task (input_for command.task input) hotstart
