-- Words of proofs alone: what holds of a machine between two steps.
use Rattle.std.specs.Prelude.{◌≡◌, ◌≤◌, length}
use Rattle.phase_law.specs.Law.{Law}
use Rattle.phase_law.specs.Laws.{IsLaw}
use Rattle.trial_model.specs.declared.nets.Nets.{Nets}
use Rattle.phase_machine.specs.Places.{word_count}
use Rattle.phase_machine.specs.Core.{Core}
use Rattle.phase_machine.specs.Kept.{Kept}

-- a state of the network has an item for each link and for each node
pub record HasItems (law : Law) (nets : Nets) : Type 0 where
  pub heads : length nets.heads ≡ law.nodes
  pub flows : length nets.flows ≡ law.links
  pub inflows : length nets.inflows ≡ law.nodes
  pub outflows : length nets.outflows ≡ law.nodes
  pub areas : length nets.areas ≡ law.nodes
  pub read_heads : length nets.read_heads ≡ law.nodes
  pub links : length nets.links ≡ law.links
  pub nodes : length nets.nodes ≡ law.nodes

-- what holds of every core that is reached, for at most 17 seats, and room for what a step keeps
pub record IsReady (law : Law) (c : Core) : Type 0 where
  pub good : IsLaw law
  pub kept : Kept law c
  pub seats : length c.seats ≤ 17
  pub opened : length c.opened ≡ word_count law
  pub closed : HasItems law c.closed
