use Rattle.inp_inflows.proofs.SoundLemmas.{dry_flows_sound}
use Rattle.inp_inflows.proofs.laws.dry_flows_are_sound.Goals as goal

pub returns : goal.returns
returns c = dry_flows_sound
