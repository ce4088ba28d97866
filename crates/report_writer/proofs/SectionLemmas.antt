-- The lines of the options, by their kind of steps.
use Rattle.std.proofs.Common.{◌≡◌, true, false, [], pos, refl}
use Rattle.std.specs.Ordering.{int_eq}
use Rattle.net_types.specs.declared.options.Options.{Options}
use Rattle.report_writer.specs.ReportSections.{part_line, variable_line}

pub constant_line : (options : Options) → int_eq options.variable6 (pos 0) ≡ true → variable_line options ≡ []
unfolding variable_line
constant_line options is = rw is refl

pub variable_is : (options : Options) → int_eq options.variable6 (pos 0) ≡ false → variable_line options ≡ part_line options.units options.variable6
unfolding variable_line
variable_is options is = rw is refl
