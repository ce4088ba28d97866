-- The meaning of a law: the functions that its methods compute.
use Rattle.std.specs.Prelude.{ℕ, ℤ, Bool}
use Rattle.phase_law.specs.declared.values.Share.{Share}
use Rattle.phase_law.specs.declared.values.LinkFixed.{LinkFixed}
use Rattle.phase_law.specs.declared.values.NodeFixed.{NodeFixed}
use Rattle.phase_law.specs.declared.values.NodeNext.{NodeNext}

-- counts, the head limit (µm), the two ends of a link, the share of a link (number, fixed values, first
-- trial, heads at its first and second end, last flow) and the next head of a node (number, fixed values,
-- first trial, inflow, outflow, area, last head)
-- (Reference Manual volume II, chapter 3)
pub record Law : Type 0 where
  pub nodes : ℕ
  pub links : ℕ
  pub limit : ℕ
  pub ends : ℕ → ℕ × ℕ
  pub share : ℕ → LinkFixed → Bool → ℤ → ℤ → ℤ → Share
  pub next : ℕ → NodeFixed → Bool → ℤ → ℤ → ℤ → ℤ → NodeNext
