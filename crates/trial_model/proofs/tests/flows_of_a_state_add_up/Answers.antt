use Rattle.std.proofs.Common.{refl}
use Rattle.phase_law.specs.FortyLinks.{forty_links}
use Rattle.trial_model.proofs.tests.flows_of_a_state_add_up.Goals as goal

pub trial_alone-requires : goal.trial_alone-requires
trial_alone-requires g c = c.in_ok-nets.ensures.fits forty_links refl refl
