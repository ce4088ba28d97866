use Rattle.std.proofs.Common.{◌≡◌, ◌∙◌, length, ap, arith, List, ℤ}
use Rattle.control_rules.specs.Conditions.{conditions_of}
use Rattle.control_rules.proofs.AnswerLemmas.{answer, all_answers}
use Rattle.control_rules.proofs.settings.settings_after.Goals as goal

pub returns : goal.returns
returns c =
    let seen = conditions_of c.args.facts.now in
    let start : length c.args.settings.now ≡ length seen.settings = ap (λ (l : List ℤ). length l) c.requires.copy in
    let first : length c.clear.new.places ≡ length c.args.settings.now = c.clear.auto.places in
    let second : length c.claim_links.new.places ≡ length c.clear.new.places = c.claim_links.auto.places in
    let third : length c.settle_links.new.places ≡ length c.claim_links.new.places = c.settle_links.auto.places in
    let last : length c.restore.new.places ≡ length c.settle_links.new.places = c.restore.auto.places in
    all_answers c.args.project.now seen c.restore.new.places (last ∙ third ∙ second ∙ first ∙ start)
    (λ link h.
    answer c.args.project.now seen link _ _ _ c.requires.sound
    (c.claim_links.ensures.each link (omega (arith, h, start, first)))
    (c.settle_links.ensures link (omega (arith, h, start, first, second)))
    (c.restore.ensures link (omega (arith, h, start, first, second, third))))
