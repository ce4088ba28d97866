-- What a call adds to the text of a report.
use Rattle.std.specs.Prelude.{◌≡◌, ℕ, false, List, [], ◌++◌}
use Rattle.report_port.specs.declared.report.Report.{Report}

-- the text grows by this part, and the report is that of the same sink
pub record Adds {W : Type 0} {g : _} (old new : Report W g) (part : List ℕ) : Type 0 where
  pub text : new.told.text ≡ old.told.text ++ part
  pub start : new.start.value ≡ old.start.value
  pub same : new.to.ghost_name ≡ old.to.ghost_name

-- the part was added, or a front of it where a call of the sink failed
pub record AddsOrStops {W : Type 0} {g : _} (old new : Report W g) (part : List ℕ) : Type 0 where
  pub rest : List ℕ
  pub text : new.told.text ++ rest ≡ old.told.text ++ part
  pub whole : new.failed ≡ false → rest ≡ []
  pub start : new.start.value ≡ old.start.value
  pub same : new.to.ghost_name ≡ old.to.ghost_name
