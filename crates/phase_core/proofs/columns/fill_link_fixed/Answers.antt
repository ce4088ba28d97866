use Rattle.std.proofs.Common.{rules, ◌≡◌, ℕ, ◌<◌, FitsSigned, w64, ap, ◌∙◌, arith, pos}
use Rattle.std.proofs.lemmas.Int.{to_z-of_z}
use Rattle.trial_model.specs.Start.{no_link}
use Rattle.phase_machine.specs.Places.{link_fixed_in}
use Rattle.phase_core.proofs.ColumnLemmas.{filled_more}
use Rattle.phase_core.proofs.columns.fill_link_fixed.Goals as goal

pub loop-link-preserved : goal.loop-link-preserved
loop-link-preserved c =
    filled_more (link_fixed_in c.args.words.now) c.loop-link.to c.loop-link.link no_link _ (omega arith) c.link_fixed.ensures c.loop-link.invariant
