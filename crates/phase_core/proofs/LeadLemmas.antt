-- What the acts of the lead need follows from what holds of the machine.
use Rattle.std.proofs.Common.{◌≡◌, ℕ, ◌+◌, ◌-◌, ◌*◌, ◌/◌, ◌%◌, ◌<◌, ◌≤◌, ℤ, length, sym, ◌∙◌, arith, Bool, true, false, if◌then◌else◌}
use Rattle.phase_law.specs.Law.{Law}
use Rattle.phase_machine.specs.Places.{word_count, written, is_odd}
use Rattle.phase_machine.specs.Core.{Core}
use Rattle.phase_machine.specs.Steps.{reset_count, reset_place, CanSet}
use Rattle.phase_machine.proofs.PlaceLemmas.{read_within, written_few}
use Rattle.phase_core.specs.Ready.{IsReady}

reset_few : (law : Law) (phase : ℕ) → reset_count law phase ≤ 3 + 3 * law.nodes
reset_few law phase = by_kind (is_odd phase)
  where
    by_kind : (t : Bool) → (if t then 1 else 3 + 3 * law.nodes) ≤ 3 + 3 * law.nodes
    by_kind true = omega arith
    by_kind false = omega arith

pub reset_within : (law : Law) (r phase : ℕ) → r < reset_count law phase → reset_place law r < word_count law
reset_within law r phase left = let few = reset_few law phase in grind (arith, few)

pub set_within : (law : Law) (c : Core) (word : ℕ) (value : ℤ) → IsReady law c → CanSet law c.phase word value
    → (1 ≤ word) × (word ≤ length c.words)
set_within law c word value ready can =
    let h = read_within (written_few c.phase) can.2 in (omega (arith, can.1), omega (arith, can.1, h, ready.kept.words))

pub same_opened : (law : Law) (c : Core) → IsReady law c → length c.opened ≡ length c.words
same_opened law c ready = ready.opened ∙ sym ready.kept.words
