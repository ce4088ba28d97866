-- The faults of the lines of an input.
use Rattle.std.specs.Prelude.{List, []}
use Rattle.net_types.specs.declared.faults.LineFault.{LineFault}
use Rattle.inp_lines.specs.declared.line.Line.{Line}
use Rattle.inp_lines.specs.Gather.{gather}
use Rattle.inp_lines.specs.Sources.{both_of}
use Rattle.inp_options.specs.OptionLines.{option_fault}
use Rattle.inp_options.specs.Options.{units_of}
use Rattle.inp_rules.specs.RuleFaults.{rule_fault}
use Rattle.inp_reader.specs.Flows.{flow_fault}
use Rattle.inp_reader.specs.Known.{known_in, method_of, start_of}
use Rattle.inp_reader.specs.Network.{network_fault}
use Rattle.inp_reader.specs.OtherLines.{other_line_fault}
use Rattle.inp_reader.specs.Surface.{surface_fault}
use Rattle.inp_reader.specs.Tables.{table_fault}

-- The fault of a line, none or one, by all lines and the lines before it: as an option, in the network, on the surface,
-- in a table, as a flow of a node, of a control rule, or as a line that none of these reads. Source: this project's
-- profile.
unfoldable pub fault_of_line : List Line → List Line → Line → List LineFault
fault_of_line lines = both_of (both_of (both_of (both_of (both_of (both_of (option_fault (units_of lines))
    (network_fault (known_in lines))) (surface_fault (method_of lines) (known_in lines)))
    (table_fault (start_of lines))) (flow_fault (known_in lines))) (rule_fault (known_in lines) lines)) other_line_fault

-- The faults of all lines, in the order of lines. Source: this project's profile.
abbrev pub line_faults : List Line → List LineFault
line_faults lines = gather (fault_of_line lines) [] lines
