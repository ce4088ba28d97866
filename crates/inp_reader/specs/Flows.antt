-- The faults of the lines that give flows of nodes.
use Rattle.std.specs.Prelude.{List}
use Rattle.net_types.specs.declared.faults.LineFault.{LineFault}
use Rattle.inp_lines.specs.declared.line.Line.{Line}
use Rattle.inp_lines.specs.Sources.{both_of}
use Rattle.inp_forms.specs.Context.{Context}
use Rattle.inp_inflows.specs.Counted.{counted_fault}
use Rattle.inp_inflows.specs.Inflows.{dry_form, inflow_form}

-- The fault of a line, none or one, by the lines before it: as a direct inflow or a dry weather flow. Source: this
-- project's profile.
unfoldable pub flow_fault : Context → List Line → Line → List LineFault
flow_fault known = both_of (counted_fault known inflow_form) (counted_fault known dry_form)
