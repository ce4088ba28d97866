use Rattle.std.proofs.Common.{rules, ◌≡◌, sym, subst}
use Rattle.summaries.specs.Figures.{AreFigures, new_figures}
use Rattle.summaries.proofs.FigureLemmas.{new_figures_are}
use Rattle.summaries.proofs.figures.Summaries.with_room.Goals as goal

pub returns-clause-figures : goal.returns-clause-figures
returns-clause-figures c =
    let made : record { inverts = c.in_ok-inverts.field-0; nodes = c.in_ok-new_nodes.field-0; links = c.in_ok-new_links.field-0; states = 0 } ≡ new_figures c.args.project.now = search rules in
    subst AreFigures (sym made) (new_figures_are c.args.project.now c.requires)
