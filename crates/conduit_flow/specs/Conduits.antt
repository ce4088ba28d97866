-- Conduits and section tables that can be routed (User's Manual, sections [CONDUITS] and [XSECTIONS]; the ranges are
-- this project's profile).
use Rattle.std.specs.Prelude.{◌^◌, pos}
use Rattle.fixed_num.specs.Ranges.{IsBetween, IsCoefficient, IsConduitLength, IsFlowLimit, IsRoughness, IsHead}
use Rattle.xsect_tables.specs.SectionTable.{SectionTable, IsTable, RowBetween, full_area}
use Rattle.conduit_flow.specs.declared.conduit.ConduitData.{ConduitData}

-- end heights within 2·10^10 µm, length 10^4 to 10^11 µm, roughness 10^3 to 10^6 millionths, greatest flow 0 (none) to
-- 10^12 cm³/s, loss coefficients 0 to 10^8 millionths
pub record IsConduit (conduit : ConduitData) : Type 0 where
  pub z1 : IsHead conduit.z1
  pub z2 : IsHead conduit.z2
  pub length : IsConduitLength conduit.length
  pub n6 : IsRoughness conduit.n6
  pub q_max : IsFlowLimit conduit.q_max
  pub entry6 : IsCoefficient conduit.entry6
  pub exit6 : IsCoefficient conduit.exit6
  pub avg6 : IsCoefficient conduit.avg6

-- a table with a full area of 1 to 10^11 mm², and no greater area below
pub record IsConduitTable (table : SectionTable) : Type 0 where
  pub rows : IsTable table
  pub full : IsBetween (pos 1) (full_area table) (pos (10 ^ 11))
  pub areas : RowBetween (pos 0) table.areas (full_area table)
