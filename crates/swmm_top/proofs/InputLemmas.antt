-- Reading a source piece after piece.
use Rattle.std.proofs.Common.{◌≡◌, ℕ, ◌≤◌, List, length, Option}
use Rattle.std.specs.Io.KnownBytes.{Consumes}
use Rattle.fault_ports.specs.Causes.{HasNotFailed}
use Rattle.fault_ports.specs.declared.faults.Faults.{Faults}

-- where the reading stands: its bytes are the front of what the source told, and no fault came
pub record Reading (told left : Option (List ℕ)) (faults₀ faults : Faults) (most : ℕ) (bytes : List ℕ) : Type 0 where
  pub within : length bytes ≤ most
  pub taken : Consumes told left bytes
  pub kept : HasNotFailed faults₀ faults
