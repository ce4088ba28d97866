use Rattle.std.proofs.Common.{refl}
use Rattle.phase_law.specs.FortyLinks.{forty_links}
use Rattle.trial_model.proofs.tests.forty_links_add_up_and_settle.Goals as goal

pub trial_alone-requires : goal.trial_alone-requires
trial_alone-requires g c = c.in_ok-nets.ensures.fits forty_links refl refl
