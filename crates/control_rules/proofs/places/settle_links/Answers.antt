use Rattle.std.proofs.Common.{◌∙◌, length}
use Rattle.control_rules.proofs.PlaceLemmas.{acts_in, sound_rules}
use Rattle.control_rules.proofs.places.settle_links.Goals as goal

pub settle-requires-clause-acts : goal.settle-requires-clause-acts
settle-requires-clause-acts c =
    let project = c.args.project.now in
    acts_in (length project.links) project.rules c.as_slice-rules.result.now c.loop-list.list (length c.loop-list.places)
    c.as_slice-rules.ensures (c.loop-list.auto.places ∙ c.requires.places) (sound_rules project c.requires.sound) c.loop-list-test.true
