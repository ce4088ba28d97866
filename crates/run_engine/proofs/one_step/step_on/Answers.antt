use Rattle.std.proofs.lemmas.Int.{to_z-of_z}
use Rattle.run_engine.proofs.KeptLemmas.{end_here, state_next}
use Rattle.run_engine.proofs.RunLemmas.{run_moment}
use Rattle.run_engine.proofs.one_step.step_on.Goals as goal

pub make_step-requires-clause-finish : goal.make_step-requires-clause-finish
make_step-requires-clause-finish c = simp (to_z-of_z, c.ranges.finish) (run_moment c.args.start.now.project c.requires.project c.requires.step.finish_in)

pub returns-clause-next : goal.returns-clause-next
returns-clause-next c =
    let next = simp (to_z-of_z, c.ranges.finish, c.ranges.dt) at c.make_step.ensures.nets in
    record {
      same = state_next c.args.start.now c.args.k c.args.finish c.args.dt c.args.nets.now _ c.requires.now.same c.requires.finish c.requires.length next;
      fits = c.make_step.ensures.fits;
      sums = c.make_step.ensures.sums;
      tops = c.make_step.ensures.tops;
    }

pub returns-clause-end : goal.returns-clause-end
returns-clause-end c =
    let end = simp (to_z-of_z, c.ranges.finish, c.ranges.dt) at c.make_step.ensures.end in
    end_here c.args.start.now c.args.k c.args.finish c.args.dt c.args.nets.now _ c.requires.now.same c.requires.finish c.requires.length end
