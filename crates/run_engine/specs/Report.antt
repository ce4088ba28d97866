-- The report of a run (this project's profile).
use Rattle.std.specs.Prelude.{ℕ, List, ◌++◌}
use Rattle.net_types.specs.declared.account.StepAccount.{StepAccount}
use Rattle.net_types.specs.declared.project.Project.{Project}
use Rattle.report_writer.specs.LoadSections.{flood_section, outfall_section, runoff_section, sub_section}
use Rattle.report_writer.specs.ReportSections.{continuity_section, steps_section}
use Rattle.report_writer.specs.RunReport.{head_of}
use Rattle.report_writer.specs.StepLines.{steps_heading}
use Rattle.report_writer.specs.SummarySections.{link_section, node_section}
use Rattle.report_writer.specs.declared.counts.RunCounts.{RunCounts}
use Rattle.summaries.specs.declared.link_summary.LinkSummary.{LinkSummary}
use Rattle.summaries.specs.declared.node_summary.NodeSummary.{NodeSummary}
use Rattle.summaries.specs.declared.outfall_summary.OutfallSummary.{OutfallSummary}
use Rattle.summaries.specs.declared.sub_summary.SubSummary.{SubSummary}
use Rattle.run_engine.specs.Results.{counts_after, link_summaries, node_summaries, outfall_summaries, sub_summaries}
use Rattle.run_engine.specs.Results.{total_after, total_runoff}
use Rattle.run_engine.specs.States.{steps_of}
use Rattle.run_engine.specs.StepLines.{last_line, lines_until}
use Rattle.run_engine.specs.declared.start.Start.{Start}

-- what stands before the figures: the head, and the step lines of the first k steps, of which the last state has one in
-- any case
unfoldable pub front_after : Start → (k : ℕ) → List ℕ
front_after start k = head_of start.project ++ (steps_heading ++ (lines_until start k ++ last_line start k))

-- figures: volumes, depths, floods, outfalls, flows, subcatchments, runoff and counts
abbrev pub tail_with : Project → StepAccount → List NodeSummary → List OutfallSummary → List LinkSummary
    → List SubSummary → RunCounts → List ℕ
tail_with project total nodes outfalls links subs counts =
    let units = project.options.units in
    continuity_section total
    ++ (node_section units project.nodes nodes
    ++ (flood_section project.nodes nodes
    ++ (outfall_section units project.nodes outfalls
    ++ (link_section units project.links links
    ++ (sub_section units project.subs subs
    ++ (runoff_section (total_runoff subs) ++ steps_section counts))))))

-- the figures that the first k steps come to
unfoldable pub tail_after : Start → (k : ℕ) → List ℕ
tail_after start k =
    tail_with start.project (total_after start k) (node_summaries start k) (outfall_summaries start k)
    (link_summaries start k) (sub_summaries start k) (counts_after start k)

-- the text of the report of a run
unfoldable pub report_of : Start → List ℕ
report_of start = front_after start (steps_of start) ++ tail_after start (steps_of start)
