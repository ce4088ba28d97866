-- The ports over memory as their callers see them.
use Rattle.std.specs.Prelude.{ℕ, ◌==◌, Bool, List, []}
use Rattle.std.specs.List.{list_any}
use Rattle.fault_ports.specs.declared.faults.Faults.{Faults}
use Rattle.fault_ports.specs.Causes.{no_faults, one_more, with_fault}

-- a source over memory: what is left, the numbers of the calls that fail, the most bytes of a call, the calls so
-- far and the faults so far
pub record SourceState : Type 0 where
  pub left : List ℕ
  pub fails : List ℕ
  pub most : ℕ
  pub calls : ℕ
  pub faults : Faults

-- a sink over memory: what it holds, the room that is left, the numbers of the calls that fail, the most bytes of a
-- call, the calls so far and the faults so far
pub record SinkState : Type 0 where
  pub held : List ℕ
  pub room : ℕ
  pub fails : List ℕ
  pub most : ℕ
  pub calls : ℕ
  pub faults : Faults

-- whether the call of this number is one of those that fail (this project's profile)
abbrev pub is_chosen : ℕ → List ℕ → Bool
is_chosen call fails = list_any (λ number. number == call) fails

-- a source of which no call was made yet
abbrev pub fresh_source : List ℕ → List ℕ → ℕ → SourceState
fresh_source bytes fails most = record { left = bytes; fails = fails; most = most; calls = 0; faults = no_faults }

-- a sink that holds nothing, of which no call was made yet
abbrev pub empty_sink : ℕ → List ℕ → ℕ → SinkState
empty_sink room fails most =
    record { held = []; room = room; fails = fails; most = most; calls = 0; faults = no_faults }

-- what a failed call leaves of a source: nothing was read
abbrev pub failed_source : SourceState → SourceState
failed_source before = record before { calls = one_more before.calls; faults = with_fault before.faults }

-- what a failed call leaves of a sink: nothing was put
abbrev pub failed_sink : SinkState → SinkState
failed_sink before = record before { calls = one_more before.calls; faults = with_fault before.faults }
