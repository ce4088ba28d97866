-- The ports over files as their callers see them.
use Rattle.std.specs.Prelude.{ℕ, Bool, true, false, List, Option, None, Some}
use Rattle.fault_ports.specs.declared.faults.Faults.{Faults}

-- a port over a file: the file's name, whether the port has opened it, the bytes that the open file has left or holds
-- where it tells them, and the faults so far
pub record FileState : Type 0 where
  pub name : List ℕ
  pub is_open : Bool
  pub told : Option (List ℕ)
  pub faults : Faults

-- a port has opened its file
abbrev pub has_file : {F : Type 0} → Option F → Bool
has_file None = false
has_file (Some file) = true

-- the bytes that an open file tells
abbrev pub told_by : {F : Type 0} → (F → Option (List ℕ)) → Option F → Option (List ℕ)
told_by tells None = None
told_by tells (Some file) = tells file
