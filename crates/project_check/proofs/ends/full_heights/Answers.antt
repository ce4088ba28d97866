use Rattle.std.proofs.Common.{◌≡◌, ◌+◌, ◌<◌, ℕ, length, ap, sym, subst, ◌∙◌, ◌++◌, ◌∷◌}
use Rattle.std.proofs.Common.{[], FitsSigned, rules, arith, ℤ, pos, List, ◌*◌, ◌^◌}
use Rattle.std.specs.Int.{w64}
use Rattle.std.proofs.lemmas.Int.{to_z-of_z}
use Rattle.std.proofs.lemmas.List.FromFn.{map-range_with_len_more}
use Rattle.std.proofs.lemmas.List.{get_or_default}
use Rattle.fixed_num.proofs.Bounds.{within_between, fits64}
use Rattle.fixed_num.specs.Lists.{list_of}
use Rattle.fixed_num.specs.Ranges.{IsBetween}
use Rattle.net_types.specs.declared.network.Node.{Node}
use Rattle.net_types.specs.Records.{no_node, node_at}
use Rattle.project_check.specs.declared.ends.NodeEnds.{NodeEnds}
use Rattle.project_check.specs.Ends.{ends_of, node_ends_at}
use Rattle.project_check.specs.FullHeight.{full_height_of, highest_top, kind_height as height_of}
use Rattle.project_check.proofs.ends.full_heights.Goals as goal
use Rattle.project_check.proofs.ends.full_heights.Goals.{In_ok-push}

inside : (c : In_ok-push) → c.loop-n.n < length c.args.project.now.nodes
inside c = let min = c.min-count.ensures in omega (arith, min, c.loop-n-test.true, ap (λ (l : List Node). length l) c.as_slice-nodes.ensures)

made : (c : In_ok-push) → c.kind_height.result ≡ full_height_of c.args.project.now c.loop-n.n
made c =
    let n = c.loop-n.n in
    let node : c.index-nodes-n.result ≡ node_at c.args.project.now.nodes n =
    c.index-nodes-n.is ∙ (get_or_default c.as_slice-nodes.result.now n c.index-nodes-n.result no_node (omega (arith, inside c, ap (λ (l : List Node). length l) c.as_slice-nodes.ensures)) ∙ ap (λ (l : List Node). node_at l n) c.as_slice-nodes.ensures) in
    let ends : node_ends_at c.as_slice-ends.result.now n ≡ ends_of c.args.project.now.links n =
    ap (λ (l : List NodeEnds). node_ends_at l n) c.as_slice-ends.ensures ∙ c.in_ok-ends.ensures.each n (inside c) in
    let range = subst (λ (l : List NodeEnds). IsBetween (pos 0) (node_ends_at l n).top (pos (2 * 10 ^ 9))) (sym c.as_slice-ends.ensures) (c.in_ok-ends.ensures.tops n) in
    let y_max : FitsSigned w64 c.index-nodes-n.result.y_max = search rules in
    let value = simp (to_z-of_z, y_max, fits64 (within_between range) tt) at c.kind_height.ensures in
    rw (node, ends) at value

pub loop-n-preserved : goal.loop-n-preserved
loop-n-preserved c =
    let n = c.loop-n.n in
    let more = map-range_with_len_more (full_height_of c.args.project.now) 0 n n (omega arith) in
    let fits : FitsSigned w64 c.kind_height.result = search rules in
    let pushed = simp (to_z-of_z, fits) at c.in_ok-push.ensures.ok in
    pushed ∙ (ap (λ (l : List ℤ). l ++ c.kind_height.result ∷ []) c.loop-n.invariant ∙ (ap (λ (z : ℤ). list_of (full_height_of c.args.project.now) n ++ z ∷ []) (made (goal.at.loop-n-preserved c).In_ok-push) ∙ sym more))
