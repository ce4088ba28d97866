-- What the rules of a project see at a moment of a run.
use Rattle.std.specs.Prelude.{◌≡◌, List, length, ℤ}
use Rattle.calendar_steps.specs.declared.point.CalendarPoint.{CalendarPoint}
use Rattle.net_types.specs.declared.project.Project.{Project}
use Rattle.control_rules.specs.declared.facts.Facts.{Facts}

-- for each node its head (µm) and its inflow (cm³/s), which is what links bring and its lateral inflow where that is
-- positive; for each link its flow (cm³/s) and its setting (millionths); the time since the start (ms), and what the
-- calendar shows
pub record Conditions : Type 0 where
  pub heads : List ℤ
  pub inflows : List ℤ
  pub flows : List ℤ
  pub settings : List ℤ
  pub elapsed : ℤ
  pub calendar : CalendarPoint

-- what facts show
abbrev pub conditions_of : Facts → Conditions
conditions_of facts = record {
  heads = facts.heads.now;
  inflows = facts.inflows.now;
  flows = facts.flows.now;
  settings = facts.settings.now;
  elapsed = facts.elapsed;
  calendar = facts.at;
}

-- there are as many of each as the project has objects
pub record Fit (project : Project) (seen : Conditions) : Type 0 where
  pub heads : length seen.heads ≡ length project.nodes
  pub inflows : length seen.inflows ≡ length project.nodes
  pub flows : length seen.flows ≡ length project.links
  pub settings : length seen.settings ≡ length project.links
