use Rattle.std.proofs.Common.{◌≡◌, ◌∙◌, ◌<◌, Some, length, slice_index_or, refl, sym, ap, arith}
use Rattle.std.proofs.lemmas.List.{get_or_default, length-set}
use Rattle.net_types.specs.declared.network.Link.{Link}
use Rattle.net_types.specs.Records.{link_at, no_link}
use Rattle.node_update.proofs.EndsLemmas.{ending_more, no_ending}
use Rattle.node_update.proofs.ends.mark_ends.Goals as goal

pub loop-l-init : goal.loop-l-init
loop-l-init c = record { count = refl; each = λ n. c.requires.none n ∙ sym (no_ending c.args.links.now n) }

pub loop-l-preserved : goal.loop-l-preserved
loop-l-preserved c =
    let links = c.args.links.now in
    let l = c.loop-l.l in
    let item = slice_index_or links l c.index-links-l.result in
    let inside : l < length links = omega (arith, c.loop-l-test.true) in
    let is : item ≡ link_at links l = get_or_default links l c.index-links-l.result no_link inside in
    let room : item.second < length c.args.ends.now = c.requires.second l c.index-links-l.result inside in
    let here : item.second < length c.loop-l.ends = omega (arith, room, c.loop-l.invariant.count) in
    record {
      count = length-set c.loop-l.ends item.second (Some l) ∙ c.loop-l.invariant.count;
      each = ending_more links c.loop-l.ends l item.second (ap (λ (x : Link). x.second) is) here c.loop-l.invariant.each;
    }
