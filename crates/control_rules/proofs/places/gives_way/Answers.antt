use Rattle.std.proofs.Common.{◌≡◌, ◌≢◌, ◌∙◌, ℕ, ◌-◌, ◌/◌, get_or, ap, sym, rules, arith, FitsSigned, length, ◌<◌}
use Rattle.std.specs.Int.{w64}
use Rattle.std.proofs.lemmas.Int.{ints, to_z-of_z}
use Rattle.net_types.specs.declared.rules.Rule.{Rule}
use Rattle.control_rules.specs.Places.{unclaimed, rule_at}
use Rattle.control_rules.specs.Settings.{outranks}
use Rattle.control_rules.proofs.PlaceLemmas.{gives_way_free, gives_way_held, held_by, rule_is}
use Rattle.control_rules.proofs.places.gives_way.Goals as goal

pub returns-then-place-eq-UNCLAIMED : goal.returns-then-place-eq-UNCLAIMED
returns-then-place-eq-UNCLAIMED c =
    let h = c.if-place-eq-UNCLAIMED.true in
    let free : c.args.place ≡ unclaimed = omega (arith, ints) in
    sym (gives_way_free c.args.rules.now c.args.list c.args.place free)

pub returns : goal.returns
returns c =
    let h = c.if-place-eq-UNCLAIMED.false in
    let fits : FitsSigned w64 c.args.place = search rules in
    let size = simp (to_z-of_z, fits) at c.unsigned_abs.ensures.value in
    let held : c.args.place ≢ unclaimed = λ (e : c.args.place ≡ unclaimed). h (omega (arith, ints)) in
    let rules_now = c.args.rules.now in
    let within = held_by (length rules_now) c.args.place c.requires.place held in
    let own : c.args.list / 2 < length rules_now = omega (arith, c.requires.list) in
    let theirs : (c.unsigned_abs.result - 1) / 2 < length rules_now = omega (arith, size, within) in
    let first = rule_is rules_now (c.args.list / 2) c.index-rules-list.result own c.index-rules-list.is in
    let second = rule_is rules_now ((c.unsigned_abs.result - 1) / 2) c.index-rules-holder.result theirs c.index-rules-holder.is in
    c.outranks.ensures ∙ ap (λ (r : Rule). outranks r.priority6 (get_or rules_now ((c.unsigned_abs.result - 1) / 2) c.index-rules-holder.result).priority6) (sym c.index-rules-list.is ∙ first)
    ∙ ap (λ (r : Rule). outranks (rule_at rules_now (c.args.list / 2)).priority6 r.priority6) (sym c.index-rules-holder.is ∙ second)
    ∙ ap (λ (n : ℕ). outranks (rule_at rules_now (c.args.list / 2)).priority6 (rule_at rules_now ((n - 1) / 2)).priority6) size
    ∙ sym (gives_way_held rules_now c.args.list c.args.place held)
