use Rattle.std.proofs.Common.{◌≡◌, ◌≤◌}
use Rattle.node_board.specs.Known.{reset_words}
use Rattle.node_board.specs.Plays.{at_plan}
use Rattle.node_board.specs.Seen.{IsOf, plan_of}
use Rattle.node_board.proofs.board.Board.reset_all.Given as goal

abbrev pub invariant-loop-reset : goal.invariant-loop-reset
invariant-loop-reset g l = record {
  most : l.reset ≤ l.reset-end;
  from : IsOf l.self l.lead;
  view : l.lead.view ≡ at_plan l.initial.lead.view (record (plan_of l.initial.lead.view) {
    resets = l.reset;
    known = reset_words (g.P.PhaseLaw.law l.self.law) l.reset (plan_of l.initial.lead.view).known;
  });
}
