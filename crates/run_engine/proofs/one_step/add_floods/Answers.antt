use Rattle.std.proofs.Common.{◌∙◌, sym, ap}
use Rattle.link_eval.specs.Hydraulics.{law_of}
use Rattle.link_eval.specs.declared.hydraulics.Hydraulics.{Hydraulics}
use Rattle.run_engine.proofs.KeptLemmas.{floods_here}
use Rattle.run_engine.proofs.LawLemmas.{law_nodes}
use Rattle.run_engine.proofs.one_step.add_floods.Goals as goal

pub find_floods-requires-clause-floods : goal.find_floods-requires-clause-floods
find_floods-requires-clause-floods c = c.requires.room ∙ sym (law_nodes c.args.start.now.project) ∙ sym (ap (λ (h : Hydraulics). (law_of h).nodes) c.requires.law)

pub returns : goal.returns
returns c = record {
  floods = record {
    same = floods_here c.args.start.now c.args.law.now.hydraulics c.args.k c.args.nets.now _ c.requires.law c.requires.next c.find_floods.ensures.floods;
    range = c.find_floods.ensures.range;
  };
}
