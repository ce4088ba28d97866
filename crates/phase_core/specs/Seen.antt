-- What contracts see of the machine's program.
use Rattle.phase_machine.specs.Core.{Core}

-- its law, and the core of the machine
pub record Seen (P : Type 0) : Type 0 where
  pub law : P
  pub core : Core
