use Rattle.std.proofs.Common.{◌∙◌, length}
use Rattle.control_rules.proofs.PlaceLemmas.{acts_in, sound_rules}
use Rattle.control_rules.proofs.places.claim_links.Goals as goal

pub claim-requires-clause-acts : goal.claim-requires-clause-acts
claim-requires-clause-acts c =
    let project = c.args.project.now in
    acts_in (length project.links) project.rules c.as_slice-rules.result.now c.list_taken-list.result (length c.loop-rule.places)
    c.as_slice-rules.ensures (c.loop-rule.auto.places ∙ c.requires.places) (sound_rules project c.requires.sound) (rw c.as_slice-rules.ensures c.list_taken-list.ensures.within)
