use Rattle.hotstart.proofs.ReadLemmas.{read_fault, read_good}
use Rattle.hotstart.proofs.read.read_hot.Goals as goal

pub returns-in-Err : goal.returns-in-Err
returns-in-Err c = read_fault c.args.project.now c.args.bytes.now c.shape_of-shape.result c.in-Err.refusal c.refused.result c.shape_of-shape.ensures.value c.in-Err.ensures c.refused.ensures

pub returns-in_ok-state-in-Ok : goal.returns-in_ok-state-in-Ok
returns-in_ok-state-in-Ok c = read_good c.args.project.now c.args.bytes.now c.shape_of-shape.result c.in_ok-state-in-Ok.state c.shape_of-shape.ensures.value c.in-Ok.ensures c.in_ok-state-in-Ok.ensures
