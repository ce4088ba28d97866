-- The status that the program ends with.
use Rattle.std.specs.Prelude.{ℕ, Result, Ok, Err}
use Rattle.swmm_top.specs.declared.fault.TopFault.{TopFault}
use Rattle.swmm_top.specs.declared.fault.TopFault.TheVariants.{Read, Write, OutOfMemory}
use Rattle.swmm_top.specs.declared.status.Status.{Status}
use Rattle.swmm_top.specs.declared.status.Status.TheVariants.{Done, Refused, Usage}

-- the status of an answer (this project's profile)
abbrev pub exit_status : Result Status TopFault → ℕ
exit_status (Ok Done) = 0
exit_status (Ok Refused) = 1
exit_status (Ok Usage) = 2
exit_status (Err (Read port)) = 3
exit_status (Err (Write port)) = 4
exit_status (Err OutOfMemory) = 5
