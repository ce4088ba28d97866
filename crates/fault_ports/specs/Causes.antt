-- When a call of a port may fail.
use Rattle.std.specs.Prelude.{◌≡◌, ℕ, ◌+◌, ◌-◌, ◌^◌, min, true, false, Result, OnOk, OnErr}
use Rattle.fault_ports.specs.declared.faults.Faults.{Faults}

-- one more, in 64 bits: the last value stays (this project's profile)
abbrev pub one_more : ℕ → ℕ
one_more count = min (count + 1) (2 ^ 64 - 1)

-- a port that was never called
abbrev pub no_faults : Faults
no_faults = record { count = 0; failed = false }

-- after one more call, which failed
abbrev pub with_fault : Faults → Faults
with_fault before = record { count = one_more before.count; failed = true }

-- after one more call, which didn't fail
abbrev pub without_fault : Faults → Faults
without_fault before = record { count = before.count; failed = false }

-- of the calls of a port one failed, and no call came after it (this project's profile)
pub record HasFailed (before now : Faults) : Type 0 where
  pub count : now.count ≡ one_more before.count
  pub last : now.failed ≡ true

-- of the calls of a port none failed
abbrev pub HasNotFailed : Faults → Faults → Type 0
HasNotFailed before now = now.count ≡ before.count

-- what a call that calls a port, once or several times, leaves of its faults: it fails only where one of the port's
-- calls did, which was the last of them (this project's profile)
pub record HasCause {T E : Type 0} (before now : Faults) (result : Result T E) : Type 0 where
  pub failed : OnErr result (HasFailed before now)
  pub kept : OnOk result (HasNotFailed before now)
