-- What an answer of a top call says of its ports.
use Rattle.std.specs.Prelude.{◌≡◌, ◌≢◌, ◌⊎◌, ℕ, ◌+◌, List, Option, Some, Result}
use Rattle.std.specs.Prelude.{IfSome, IfOk, OnErr, IfErr, IsErrOf, drop}
use Rattle.std.specs.Io.KnownBytes.{Appends}
use Rattle.command_words.specs.declared.command.Command.{Command}
use Rattle.fault_ports.specs.Causes.{HasFailed, HasNotFailed}
use Rattle.fault_ports.specs.Output.{AppendsPrefix}
use Rattle.fault_ports.specs.declared.faults.Faults.{Faults}
use Rattle.swmm_top.specs.Input.{hot_limit, input_limit}
use Rattle.swmm_top.specs.Outcome.{Outcome, IsOutcome}
use Rattle.swmm_top.specs.TopFaults.{IsFaultOfPort}
use Rattle.swmm_top.specs.Uses.{read_of, reads_hotstart, reads_input}
use Rattle.swmm_top.specs.declared.status.Status.{Status}
use Rattle.swmm_top.specs.declared.status.Status.TheVariants.{Done, Usage}
use Rattle.swmm_top.specs.declared.fault.Port.{Port}
use Rattle.swmm_top.specs.declared.fault.Port.TheVariants.{Inp, HotIn, Rpt, HotOut}
use Rattle.swmm_top.specs.declared.fault.TopFault.{TopFault}
use Rattle.swmm_top.specs.declared.fault.TopFault.TheVariants.{Read, Write, OutOfMemory}

-- what a call leaves whose command has this outcome. Where it ended, its status is that of the outcome, and the report
-- and the hotstart gained its bytes; else the report gained a front of its report, all of it where the hotstart could
-- not be written, which gained a front of its bytes.
pub record Leaves (given : Outcome) (rpt₀ rpt hot₀ hot : Option (List ℕ)) (result : Result Status TopFault)
    : Type 0 where
  pub status : IfOk result (λ status. status ≡ given.status)
  pub report : IfOk result (λ status. Appends rpt₀ rpt given.report)
  pub hotstart : IfOk result (λ status. Appends hot₀ hot given.hotstart)
  pub failed : OnErr result (AppendsPrefix rpt₀ rpt given.report)
  pub hotstart_failed : IsErrOf result (Write HotOut)
      → Appends rpt₀ rpt given.report × AppendsPrefix hot₀ hot given.hotstart

-- the call gives an outcome of the command by what its sources had left, where they tell it
abbrev pub GivesOutcome : Option Command → (inp hot_in rpt₀ rpt hot₀ hot : Option (List ℕ)) → Result Status TopFault
    → Type 0
GivesOutcome command inp hot_in rpt₀ rpt hot₀ hot result =
    IfSome (read_of (reads_input command) inp) (λ input.
    IfSome (read_of (reads_hotstart command) hot_in) (λ hotstart.
    (given : Outcome) × IsOutcome command input hotstart given × Leaves given rpt₀ rpt hot₀ hot result))

-- a port failed exactly where the answer is this fault: then one of its calls did, the last of them
pub record FailsOnlyAt {T E : Type 0} (fault : E) (before now : Faults) (result : Result T E) : Type 0 where
  pub failed : IsErrOf result fault → HasFailed before now
  pub kept : (IsErrOf result fault → ⊥) → HasNotFailed before now

-- a fault of a port comes exactly where that port failed. So where the call ended, and where memory was wanting, no
-- port failed; after a fault the other ports haven't; and where no port failed only memory can be wanting
pub record HasCauses (inp₀ inp hot_in₀ hot_in rpt₀ rpt hot_out₀ hot_out : Faults) (result : Result Status TopFault)
    : Type 0 where
  pub read_input : FailsOnlyAt (Read Inp) inp₀ inp result
  pub read_hotstart : FailsOnlyAt (Read HotIn) hot_in₀ hot_in result
  pub write_report : FailsOnlyAt (Write Rpt) rpt₀ rpt result
  pub write_hotstart : FailsOnlyAt (Write HotOut) hot_out₀ hot_out result
  pub ports : IfErr result IsFaultOfPort
  pub complete : OnErr result (IsErrOf result OutOfMemory
      ⊎ (HasFailed inp₀ inp ⊎ (HasFailed hot_in₀ hot_in ⊎ (HasFailed rpt₀ rpt ⊎ HasFailed hot_out₀ hot_out))))

-- where a source could not be read, or memory was wanting, this holds
abbrev pub BeforeWriting : {T : Type 0} → Result T TopFault → Type 0 → Type 0
BeforeWriting result P = ((port : Port) → IsErrOf result (Read port) → P) × (IsErrOf result OutOfMemory → P)

-- a source that tells its bytes was read to its end, or until one byte more than the limit was taken
abbrev pub IsReadToEnd : (limit : ℕ) → Option (List ℕ) → Option (List ℕ) → Type 0
IsReadToEnd limit old new = IfSome old (λ bytes. new ≡ Some (drop (limit + 1) bytes))

-- where the call ended, but for words that are no command, and where the report or the hotstart could not be written,
-- the input was read to its end, and no further
pub record ReadsInput (old new : Option (List ℕ)) (result : Result Status TopFault) : Type 0 where
  pub ended : IfOk result (λ status. status ≢ Usage → IsReadToEnd input_limit old new)
  pub unwritten : (port : Port) → IsErrOf result (Write port) → IsReadToEnd input_limit old new

-- where the work was done, and where the hotstart could not be written, so was the hotstart from which the run began
pub record ReadsHotstart (old new : Option (List ℕ)) (result : Result Status TopFault) : Type 0 where
  pub ended : IfOk result (λ status. status ≡ Done → IsReadToEnd hot_limit old new)
  pub unwritten : IsErrOf result (Write HotOut) → IsReadToEnd hot_limit old new
