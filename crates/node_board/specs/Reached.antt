-- The cores that lists of events reach from the start of a board (this project's profile).
use Rattle.std.specs.Prelude.{ℕ}
use Rattle.phase_law.specs.Law.{Law}
use Rattle.trial_model.specs.Start.{resting}
use Rattle.phase_machine.specs.declared.acts.Event.{Event}
use Rattle.phase_machine.specs.Core.{Core, IsStart}
use Rattle.phase_machine.specs.Steps.{Can, after}

-- from a start with so many seats, in which all numbers are 0, by events that have a step
pub data IsReached (law : Law) (seats : ℕ) : Core → Type 0 where
  starts : (c : Core) → IsStart law (resting law.nodes law.links) seats c → IsReached law seats c
  makes : (c : Core) (e : Event) → IsReached law seats c → Can law c e → IsReached law seats (after law c e)
