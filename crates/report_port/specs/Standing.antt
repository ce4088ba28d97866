-- How a report stands: what its text is to the sink and to the page that is not yet put. Equations only.
use Rattle.std.specs.Prelude.{◌≡◌, ℕ, ◌-◌, Bool, true, false, List, ◌++◌, length, take, Option, None, Some}
use Rattle.std.specs.Io.KnownBytes.{append_known}
use Rattle.fault_ports.specs.Causes.{HasFailed, HasNotFailed}
use Rattle.fault_ports.specs.declared.faults.Faults.{Faults}

-- what a sink holds now, where it told what it held before
abbrev pub told_since : (before held : Option (List ℕ)) → Option (List ℕ)
told_since None held = None
told_since (Some old) held = held

-- by how many bytes a sink grew
abbrev pub grown : (before held : Option (List ℕ)) → ℕ
grown None held = 0
grown (Some old) None = 0
grown (Some old) (Some new) = length new - length old

-- the text without the page that is its end
abbrev pub put_of : (page text : List ℕ) → List ℕ
put_of page text = take (length text - length page) text

-- no call of the sink failed: all of the text was put but the page, which is its end
pub record Goes (before held : Option (List ℕ)) (faults₀ faults : Faults) (page text : List ℕ) : Type 0 where
  pub split : put_of page text ++ page ≡ text
  pub put : told_since before held ≡ append_known before (put_of page text)
  pub kept : HasNotFailed faults₀ faults

-- a call of the sink failed, which was the last one: a front of the text was put
pub record Stopped (before held : Option (List ℕ)) (faults₀ faults : Faults) (text : List ℕ) : Type 0 where
  pub put : told_since before held ≡ append_known before (take (grown before held) text)
  pub rose : HasFailed faults₀ faults

-- one of the two
pub record Stands (before held : Option (List ℕ)) (faults₀ faults : Faults) (failed : Bool) (page text : List ℕ) : Type 0 where
  pub goes : failed ≡ false → Goes before held faults₀ faults page text
  pub stopped : failed ≡ true → Stopped before held faults₀ faults text
