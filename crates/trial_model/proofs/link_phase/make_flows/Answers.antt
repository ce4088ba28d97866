use Rattle.std.proofs.Common.{rules, ◌≡◌, ◌*◌, ◌^◌, ◌<◌, ℤ, pos, length, FitsSigned, w64, ap, ◌∙◌, arith}
use Rattle.std.proofs.lemmas.Int.{to_z-of_z}
use Rattle.std.proofs.lemmas.List.{length-replicate}
use Rattle.std.proofs.lemmas.List.FromFn.{fill_by_all}
use Rattle.phase_law.specs.declared.values.Share.{Share}
use Rattle.fixed_num.specs.Lists.{number}
use Rattle.trial_model.specs.Fits.{link_fixed_at}
use Rattle.trial_model.specs.Parts.{in_part, out_part, area_part}
use Rattle.trial_model.specs.Trial.{share_of, inflow_of, outflow_of, area_of}
use Rattle.trial_model.proofs.LoopLemmas.{flows_more, sums_more, least_more}
use Rattle.trial_model.proofs.SumLemmas.{in_parts, out_parts, area_parts}
use Rattle.trial_model.proofs.RangeLemmas.{first_within, second_within, shares_fit, in_most, out_most, area_most, sums_room, sums_done, part_same}
use Rattle.trial_model.proofs.link_phase.make_flows.Goals as goal

pub add_share-requires-clause-near_in : goal.add_share-requires-clause-near_in
add_share-requires-clause-near_in g c =
    let good = g.met.P.PhaseLaw.good c.args.law.now in
    first_within good c.loop-link.link (omega (arith, c.loop-link-test.true, c.links-link-end.ensures)) c.ends-near.ensures c.loop-link.inflows
    (c.loop-link.auto.inflows ∙ ap length c.requires.inflows ∙ length-replicate _ (pos 0))

pub add_share-requires-clause-near_out : goal.add_share-requires-clause-near_out
add_share-requires-clause-near_out g c =
    let good = g.met.P.PhaseLaw.good c.args.law.now in
    first_within good c.loop-link.link (omega (arith, c.loop-link-test.true, c.links-link-end.ensures)) c.ends-near.ensures c.loop-link.outflows
    (c.loop-link.auto.outflows ∙ ap length c.requires.outflows ∙ length-replicate _ (pos 0))

pub add_share-requires-clause-near_area : goal.add_share-requires-clause-near_area
add_share-requires-clause-near_area g c =
    let good = g.met.P.PhaseLaw.good c.args.law.now in
    first_within good c.loop-link.link (omega (arith, c.loop-link-test.true, c.links-link-end.ensures)) c.ends-near.ensures c.loop-link.areas
    (c.loop-link.auto.areas ∙ ap length c.requires.areas ∙ length-replicate _ (pos 0))

pub add_share-requires-clause-far_in : goal.add_share-requires-clause-far_in
add_share-requires-clause-far_in g c =
    let good = g.met.P.PhaseLaw.good c.args.law.now in
    second_within good c.loop-link.link (omega (arith, c.loop-link-test.true, c.links-link-end.ensures)) c.ends-near.ensures c.loop-link.inflows
    (c.loop-link.auto.inflows ∙ ap length c.requires.inflows ∙ length-replicate _ (pos 0))

pub add_share-requires-clause-far_out : goal.add_share-requires-clause-far_out
add_share-requires-clause-far_out g c =
    let good = g.met.P.PhaseLaw.good c.args.law.now in
    second_within good c.loop-link.link (omega (arith, c.loop-link-test.true, c.links-link-end.ensures)) c.ends-near.ensures c.loop-link.outflows
    (c.loop-link.auto.outflows ∙ ap length c.requires.outflows ∙ length-replicate _ (pos 0))

pub add_share-requires-clause-far_area : goal.add_share-requires-clause-far_area
add_share-requires-clause-far_area g c =
    let good = g.met.P.PhaseLaw.good c.args.law.now in
    second_within good c.loop-link.link (omega (arith, c.loop-link-test.true, c.links-link-end.ensures)) c.ends-near.ensures c.loop-link.areas
    (c.loop-link.auto.areas ∙ ap length c.requires.areas ∙ length-replicate _ (pos 0))

pub add_share-requires-clause-inflows : goal.add_share-requires-clause-inflows
add_share-requires-clause-inflows g c =
    let law = g.P.PhaseLaw.law c.args.law.now in
    let good = g.met.P.PhaseLaw.good c.args.law.now in
    let share = share_of law c.args.links.now c.args.heads.now c.args.flows.now c.args.first in
    let shares = shares_fit good c.requires.links c.requires.heads c.requires.flows c.args.first in
    let within : c.loop-link.link < law.links = omega (arith, c.loop-link-test.true, c.links-link-end.ensures) in
    sums_room {part = λ k. in_part (law.ends k) (share k)} c.loop-link.invariant.inflows (10 ^ 12) (10 ^ 18) (omega (arith, good.few_links))
    (λ k n h. in_most good shares k n (omega arith))
    (omega arith)

pub add_share-requires-clause-outflows : goal.add_share-requires-clause-outflows
add_share-requires-clause-outflows g c =
    let law = g.P.PhaseLaw.law c.args.law.now in
    let good = g.met.P.PhaseLaw.good c.args.law.now in
    let share = share_of law c.args.links.now c.args.heads.now c.args.flows.now c.args.first in
    let shares = shares_fit good c.requires.links c.requires.heads c.requires.flows c.args.first in
    let within : c.loop-link.link < law.links = omega (arith, c.loop-link-test.true, c.links-link-end.ensures) in
    sums_room {part = λ k. out_part (law.ends k) (share k)} c.loop-link.invariant.outflows (10 ^ 12) (10 ^ 18) (omega (arith, good.few_links))
    (λ k n h. out_most good shares k n (omega arith))
    (omega arith)

pub add_share-requires-clause-areas : goal.add_share-requires-clause-areas
add_share-requires-clause-areas g c =
    let law = g.P.PhaseLaw.law c.args.law.now in
    let good = g.met.P.PhaseLaw.good c.args.law.now in
    let share = share_of law c.args.links.now c.args.heads.now c.args.flows.now c.args.first in
    let shares = shares_fit good c.requires.links c.requires.heads c.requires.flows c.args.first in
    let within : c.loop-link.link < law.links = omega (arith, c.loop-link-test.true, c.links-link-end.ensures) in
    sums_room {part = λ k. area_part (law.ends k) (share k)} c.loop-link.invariant.areas (5 * 10 ^ 12) (10 ^ 18) (omega (arith, good.few_links))
    (λ k n h. area_most good shares k n (omega arith))
    (omega arith)

pub loop-link-preserved : goal.loop-link-preserved
loop-link-preserved g c =
    let law = g.P.PhaseLaw.law c.args.law.now in
    let share = share_of law c.args.links.now c.args.heads.now c.args.flows.now c.args.first in
    let kept = c.loop-link.invariant in
    let link = c.loop-link.link in
    let last : number c.loop-link.flows link ≡ number c.args.flows.now link = kept.flows.left link (omega arith) in
    let same : c.share_at-share.result ≡ share link =
    c.share_at-share.ensures.value
    ∙ ap
    (λ (q : ℤ).
    law.share link (link_fixed_at c.args.links.now link) c.args.first
    (number c.args.heads.now (law.ends link).0)
    (number c.args.heads.now (law.ends link).1)
    q)
    last in
    let ends = c.ends-near.ensures in
    let fits : FitsSigned w64 c.share_at-share.result.q = search rules in
    let fits_least : FitsSigned w64 c.lesser-least.result = search rules in
    let within : link < length c.loop-link.flows =
    omega (arith, c.loop-link-test.true, c.links-link-end.ensures, c.loop-link.auto.flows, c.requires.flows.count) in
    record {
      flows = flows_more kept.flows _ within (to_z-of_z w64 _ fits ∙ ap (λ (s : Share). s.q) same);
      inflows = sums_more kept.inflows c.add_share.new.inflows
          (λ n. in_part c.ends-near.result c.share_at-share.result n)
          c.add_share.ensures.inflows
          (part_same in_part ends same);
      outflows = sums_more kept.outflows c.add_share.new.outflows
          (λ n. out_part c.ends-near.result c.share_at-share.result n)
          c.add_share.ensures.outflows
          (part_same out_part ends same);
      areas = sums_more kept.areas c.add_share.new.areas
          (λ n. area_part c.ends-near.result c.share_at-share.result n)
          c.add_share.ensures.areas
          (part_same area_part ends same);
      least =
          to_z-of_z w64 _ fits_least ∙ least_more (λ k. (share k).time) link (pos 3_600_000) kept.least c.lesser-least.ensures (ap (λ (s : Share). s.time) same);
    }

pub returns-clause-flows : goal.returns-clause-flows
returns-clause-flows g c =
    let law = g.P.PhaseLaw.law c.args.law.now in
    let share = share_of law c.args.links.now c.args.heads.now c.args.flows.now c.args.first in
    fill_by_all (λ k. (share k).q) c.loop-link.flows law.links (pos 0) (c.loop-link.auto.flows ∙ c.requires.flows.count)
    (λ k h. c.loop-link.invariant.flows.made k (omega (arith, c.links-link-end.ensures, c.loop-link-test.false)))

pub returns-clause-inflows : goal.returns-clause-inflows
returns-clause-inflows g c =
    let law = g.P.PhaseLaw.law c.args.law.now in
    let share = share_of law c.args.links.now c.args.heads.now c.args.flows.now c.args.first in
    let all : c.loop-link.link ≡ law.links =
    omega (arith, c.links-link-end.ensures, c.loop-link-test.false, c.loop-link.auto.link-end) in
    sums_done c.loop-link.invariant.inflows (inflow_of law (λ k. (share k).q)) law.links law.nodes all
    (c.loop-link.auto.inflows ∙ ap length c.requires.inflows ∙ length-replicate law.nodes (pos 0))
    (in_parts law share)

pub returns-clause-outflows : goal.returns-clause-outflows
returns-clause-outflows g c =
    let law = g.P.PhaseLaw.law c.args.law.now in
    let share = share_of law c.args.links.now c.args.heads.now c.args.flows.now c.args.first in
    let all : c.loop-link.link ≡ law.links =
    omega (arith, c.links-link-end.ensures, c.loop-link-test.false, c.loop-link.auto.link-end) in
    sums_done c.loop-link.invariant.outflows (outflow_of law (λ k. (share k).q)) law.links law.nodes all
    (c.loop-link.auto.outflows ∙ ap length c.requires.outflows ∙ length-replicate law.nodes (pos 0))
    (out_parts law share)

pub returns-clause-areas : goal.returns-clause-areas
returns-clause-areas g c =
    let law = g.P.PhaseLaw.law c.args.law.now in
    let share = share_of law c.args.links.now c.args.heads.now c.args.flows.now c.args.first in
    let all : c.loop-link.link ≡ law.links =
    omega (arith, c.links-link-end.ensures, c.loop-link-test.false, c.loop-link.auto.link-end) in
    sums_done c.loop-link.invariant.areas (area_of law share) law.links law.nodes all
    (c.loop-link.auto.areas ∙ ap length c.requires.areas ∙ length-replicate law.nodes (pos 0))
    (area_parts law share)
