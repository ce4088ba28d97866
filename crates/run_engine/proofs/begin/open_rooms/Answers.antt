use Rattle.std.proofs.Common.{◌∙◌, ap, length, sym}
use Rattle.run_engine.specs.States.{project_law}
use Rattle.run_engine.proofs.LawLemmas.{law_links, law_nodes}
use Rattle.run_engine.proofs.begin.open_rooms.Goals as goal

pub returns-clause-before : goal.returns-clause-before
returns-clause-before c =
    let project = c.args.start.now.project in
    c.in_ok-with_room.ensures.fits (project_law project) (law_nodes project ∙ sym (ap length c.as_slice.ensures))
    (law_links project ∙ sym (ap length c.as_slice-2.ensures))

pub returns-clause-settings : goal.returns-clause-settings
returns-clause-settings c = record {
  inflows = rw c.as_slice.ensures at c.in_ok-open_room.ensures.inflows;
  pumped = rw c.as_slice-2.ensures at c.in_ok-open_room.ensures.pumped;
  settings = rw c.as_slice-2.ensures at c.in_ok-open_room.ensures.settings;
}

pub returns-clause-floods : goal.returns-clause-floods
returns-clause-floods c = rw c.as_slice.ensures at c.in_ok-zeros.ensures
