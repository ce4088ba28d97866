-- A state in which nothing has happened.
use Rattle.std.specs.Prelude.{ℕ, pos, replicate}
use Rattle.phase_law.specs.declared.values.LinkFixed.{LinkFixed}
use Rattle.phase_law.specs.declared.values.NodeFixed.{NodeFixed}
use Rattle.trial_model.specs.declared.nets.Nets.{Nets}

-- a link and a node of which all fixed values are 0
abbrev pub no_link : LinkFixed
no_link = record { q_old = pos 0; a_old = pos 0; setting = pos 0; dt = pos 0 }

abbrev pub no_node : NodeFixed
no_node = record { h_old = pos 0; net_old = pos 0; lateral = pos 0; stage = pos 0; dt = pos 0 }

-- so many nodes and links, and all numbers 0 (this project's profile)
abbrev pub resting : ℕ → ℕ → Nets
resting nodes links = record {
  heads = replicate nodes (pos 0);
  flows = replicate links (pos 0);
  inflows = replicate nodes (pos 0);
  outflows = replicate nodes (pos 0);
  areas = replicate nodes (pos 0);
  read_heads = replicate nodes (pos 0);
  links = replicate links no_link;
  nodes = replicate nodes no_node;
  least = pos 0;
}
