use Rattle.phase_core.proofs.AfterLemmas.{laid_start, ready_at_start}
use Rattle.phase_core.proofs.program.Core.start.Goals as goal

pub invariant_of-result : goal.invariant_of-result
invariant_of-result g c =
    let law = g.P.PhaseLaw.law c.args.law in
    let start = laid_start law c.args.nets c.args.seats c.in_ok-words.words c.in_ok-opened.opened c.in_ok-seats.seats.items
    c.in_ok-words.ensures c.in_ok-seats.ensures c.in_ok-opened.ensures in
    ready_at_start law c.args.nets c.args.seats _ (g.met.P.PhaseLaw.good c.args.law) c.requires.fits start c.requires.most
