-- A good hotstart is the bytes of a state of the project.
use Rattle.std.proofs.Common.{◌<◌}
use Rattle.std.proofs.lemmas.List.Elements.{All-from_get_or}
use Rattle.swmm_top.proofs.HotLemmas.{read_fits}
use Rattle.swmm_top.proofs.resume.read_state.Goals as goal

pub returns-in-Ok-clause-fits : goal.returns-in-Ok-clause-fits
returns-in-Ok-clause-fits c =
    read_fits c.args.project.now c.args.bytes.now c.in-Ok.read c.requires (All-from_get_or (λ byte. byte < 256) c.args.bytes.now 0 (λ k inside. (c.type_inv.bytes k).fits))
    c.good_file_is_written.ensures.new c.good_file_is_written.ensures.old c.in-Ok.ensures
