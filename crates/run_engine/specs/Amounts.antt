-- Lists of amounts of water at the nodes: the words of the loop that makes a state ready (this project's profile).
use Rattle.std.specs.Prelude.{◌≡◌, ℕ, ◌*◌, ◌^◌, ◌<◌, ℤ, pos, List, length}
use Rattle.fixed_num.specs.Ranges.{IsBetween, IsFlow}
use Rattle.phase_law.specs.declared.values.NodeFixed.{NodeFixed}
use Rattle.trial_model.specs.Fits.{node_fixed_at}
use Rattle.fixed_num.specs.Lists.{number}

-- so many numbers of 0 to 2·10^16 cm³/s
pub record AreAmounts (count : ℕ) (list : List ℤ) : Type 0 where
  pub many : length list ≡ count
  pub each : (n : ℕ) → n < count → IsBetween (pos 0) (number list n) (pos (2 * 10 ^ 16))

-- so many nodes whose lateral inflows are in range
pub record HaveLaterals (count : ℕ) (nodes : List NodeFixed) : Type 0 where
  pub many : length nodes ≡ count
  pub each : (n : ℕ) → n < count → IsFlow (node_fixed_at nodes n).lateral
