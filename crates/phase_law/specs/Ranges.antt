-- The ranges in which a law is asked and answers (this project's profile).
use Rattle.std.specs.Prelude.{◌*◌, ◌^◌, ℤ, pos}
use Rattle.fixed_num.specs.Ranges.{IsWithin, IsBetween, IsFlow, IsPart, IsTravelTime, IsStepLength}
use Rattle.phase_law.specs.Law.{Law}
use Rattle.phase_law.specs.declared.values.Share.{Share}
use Rattle.phase_law.specs.declared.values.LinkFixed.{LinkFixed}
use Rattle.phase_law.specs.declared.values.NodeFixed.{NodeFixed}

-- a head or stage (µm) is within the law's head limit
abbrev pub HeadInRange : Law → ℤ → Type 0
HeadInRange law head = IsWithin law.limit head

-- what stays the same for a link: old flow, old area 0 to 10^12 mm², setting, length of the step
pub record LinkFixedInRange (link : LinkFixed) : Type 0 where
  pub flow : IsFlow link.q_old
  pub area : IsBetween (pos 0) link.a_old (pos (10 ^ 12))
  pub setting : IsPart link.setting
  pub length : IsStepLength link.dt

-- what stays the same for a node: old head, old net inflow within 3·10^16 cm³/s, lateral inflow, stage, length of the
-- step
pub record NodeFixedInRange (law : Law) (node : NodeFixed) : Type 0 where
  pub head : HeadInRange law node.h_old
  pub net : IsWithin (3 * 10 ^ 16) node.net_old
  pub lateral : IsFlow node.lateral
  pub stage : HeadInRange law node.stage
  pub length : IsStepLength node.dt

-- what a node gets of its links: inflow and outflow 0 to 2·10^16 cm³/s, area 0 to 10^17 mm²
pub record SumsInRange (inflow outflow area : ℤ) : Type 0 where
  pub inflow_in : IsBetween (pos 0) inflow (pos (2 * 10 ^ 16))
  pub outflow_in : IsBetween (pos 0) outflow (pos (2 * 10 ^ 16))
  pub area_in : IsBetween (pos 0) area (pos (10 ^ 17))

-- what a link gives: its flow, areas of 0 to 5·10^12 mm² at its ends, and the time of a wave along it
pub record ShareInRange (share : Share) : Type 0 where
  pub flow : IsFlow share.q
  pub area1 : IsBetween (pos 0) share.area1 (pos (5 * 10 ^ 12))
  pub area2 : IsBetween (pos 0) share.area2 (pos (5 * 10 ^ 12))
  pub time : IsTravelTime share.time
