-- The law of a pump, and what it gives in a trial (User's Manual, sections [PUMPS] and [CURVES]; Reference Manual
-- volume II, chapter 6).
use Rattle.std.specs.Prelude.{ℕ, Bool, false, ℤ, ◌-ℤ◌}
use Rattle.fixed_num.specs.Ranges.{IsElevation}
use Rattle.inp_values.specs.Units.{unit_for}
use Rattle.inp_values.specs.declared.quantities.Quantity.TheVariants.{Depth, Flow, Volume}
use Rattle.net_types.specs.declared.options.FlowUnits.{FlowUnits}
use Rattle.net_types.specs.declared.tables.Curve.{Curve}
use Rattle.phase_law.specs.declared.values.LinkFixed.{LinkFixed}
use Rattle.phase_law.specs.declared.values.Share.{Share}
use Rattle.pump_flow.specs.PumpFlow.{ArePumpUnits, pump_flow_of}
use Rattle.pump_flow.specs.declared.flow.PumpInlet.{PumpInlet}
use Rattle.pump_flow.specs.declared.flow.PumpUnits.{PumpUnits}
use Rattle.short_links.specs.ShortShare.{short_share_of}
use Rattle.short_links.specs.declared.share.ShortLink.{ShortLink}
use Rattle.link_eval.specs.Ends.{short_link_of}
use Rattle.link_eval.specs.declared.ends.LinkEnds.{LinkEnds}
use Rattle.link_eval.specs.declared.pump.PumpLaw.{PumpLaw}

-- the units in which the curves of pumps stand
abbrev pub pump_units_of : FlowUnits → PumpUnits
pump_units_of units =
    record { volume = unit_for units Volume; depth = unit_for units Depth; flow = unit_for units Flow }

-- a pump as it is routed; it has no flap gate, but may end at a gated outfall
abbrev pub pump_law_of : (curve : ℕ) → LinkEnds → FlowUnits → PumpLaw
pump_law_of curve ends units =
    record { ends = short_link_of ends false; curve = curve; units = pump_units_of units }

-- what stands at its ends: the volume of its first node, the depth there, and how far it lifts
abbrev pub pump_inlet_of : ShortLink → (volume near far : ℤ) → PumpInlet
pump_inlet_of ends volume near far = record { volume = volume; depth = near -ℤ ends.invert1; lift = far -ℤ near }

-- its share, by its curve and the volume of its first node at the last head
unfoldable pub pump_share_of : PumpLaw → Curve → (volume : ℤ) → LinkFixed → (first : Bool) → (near far last : ℤ) → Share
pump_share_of law curve volume fixed first near far last =
    short_share_of law.ends first near far last
    (pump_flow_of curve law.units fixed.setting (pump_inlet_of law.ends volume near far))

-- units of pumps and a first invert within 10^10 µm
pub record IsPumpLaw (law : PumpLaw) : Type 0 where
  pub units : ArePumpUnits law.units
  pub invert : IsElevation law.ends.invert1
