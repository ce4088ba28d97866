-- The parts of the law of a node.
use Rattle.std.proofs.Common.{◌≡◌, ◌∙◌, ℕ, ◌*◌, ◌^◌, ◌<◌, ◌≤◌, Bool, true, false, if◌then◌else◌, List, length, slice_index_or}
use Rattle.std.proofs.Common.{Option, Some, None, IfSome, IsTrue, ℤ, pos, ◌+ℤ◌, ◌≤ℤ◌, refl, sym, ap, subst, arith}
use Rattle.std.proofs.lemmas.Int.{ints}
use Rattle.std.proofs.lemmas.List.{get_or_default}
use Rattle.std.proofs.lemmas.List.FromFn.{get_or-map-range_with_len, length-map-range_with_len}
use Rattle.fixed_num.specs.Lists.{list_of, number}
use Rattle.fixed_num.specs.Ranges.{IsBetween, IsDepth, IsElevation}
use Rattle.fixed_num.specs.Units.{IsUnit}
use Rattle.inp_values.specs.Units.{is_us, unit_for}
use Rattle.inp_values.specs.declared.quantities.Quantity.TheVariants.{Depth, NodeArea}
use Rattle.net_types.specs.Ranges.{NodeInRange, OptionsInRange}
use Rattle.net_types.specs.Records.{no_node, node_at}
use Rattle.net_types.specs.Sound.{IsSound}
use Rattle.net_types.specs.declared.network.Node.{Node}
use Rattle.net_types.specs.declared.options.FlowUnits.{FlowUnits}
use Rattle.net_types.specs.declared.options.Options.{Options}
use Rattle.net_types.specs.declared.project.Project.{Project}
use Rattle.project_check.proofs.EndsLemmas.{full_height_in}
use Rattle.project_check.proofs.LawLemmas.{faultless_good}
use Rattle.project_check.specs.Faultless.{IsFaultless}
use Rattle.project_check.specs.FullHeight.{full_height_of}
use Rattle.project_check.specs.Network.{is_storage_kind}
use Rattle.storage_shapes.specs.ShapeArea.{AreStoreUnits}
use Rattle.node_update.specs.NodeLaws.{IsNodeLaw, IsNodeRule, law_with, node_law_of, room_of, rule_of, store_units_of}
use Rattle.node_update.specs.OutfallConduits.{conduit_to, ending_link, found_end}
use Rattle.node_update.specs.declared.node_law.NodeRule.{NodeRule as Rule}
use Rattle.node_update.specs.declared.node_law.OutfallConduit.{OutfallConduit}
use Rattle.node_update.proofs.EndsLemmas.{ending_inside}

-- ---- the units of storages
foot_or_metre : (b : Bool) → 100_000 ≤ (if b then 304_800 else 1_000_000)
foot_or_metre true = omega arith
foot_or_metre false = omega arith

pub store_units_are : (units : FlowUnits) → IsUnit (unit_for units Depth) → IsUnit (unit_for units NodeArea) → AreStoreUnits (store_units_of units)
unfolding unit_for
store_units_are units d a = record { depth = d; area = a; depth_whole = refl; depth_least = foot_or_metre (is_us units) }

-- ---- a node, its full height and the link that ends there, from the lists of all
module _ (project : Project) (n : ℕ) (inside : n < length project.nodes) where
  pub node_is : (nodes : List Node) (node : Node) → nodes ≡ project.nodes → node ≡ slice_index_or nodes n node → node ≡ node_at project.nodes n
  node_is nodes node e is =
      let here : n < length nodes = omega (arith, inside, ap (λ (l : List Node). length l) e) in
      is ∙ (get_or_default nodes n node no_node here ∙ ap (λ (l : List Node). node_at l n) e)

  pub height_is : (heights : List ℤ) → heights ≡ list_of (full_height_of project) (length project.nodes) → number heights n ≡ full_height_of project n
  height_is heights e =
      ap (λ (l : List ℤ). number l n) e ∙ get_or-map-range_with_len (full_height_of project) 0 (length project.nodes) n n (pos 0) inside (omega arith)

  pub height_in : IsSound project → (heights : List ℤ) → heights ≡ list_of (full_height_of project) (length project.nodes) → IsBetween (pos 0) (number heights n) (pos (2 * 10 ^ 9))
  height_in sound heights e = rw (height_is heights e) (full_height_in project sound n inside)

  pub end_is : (ends : List (Option ℕ)) (d : Option ℕ) → ends ≡ list_of (λ k. ending_link project.links k (length project.links)) (length project.nodes)
      → slice_index_or ends n d ≡ ending_link project.links n (length project.links)
  end_is ends d e =
      ap (λ (l : List (Option ℕ)). slice_index_or l n d) e
      ∙ get_or-map-range_with_len (λ k. ending_link project.links k (length project.links)) 0 (length project.nodes) n n d inside (omega arith)

  pub end_inside : (end : Option ℕ) → end ≡ ending_link project.links n (length project.links) → IfSome end (λ l. l < length project.links)
  end_inside end e = subst (λ (o : Option ℕ). IfSome o (λ l. l < length project.links)) (sym e) (ending_inside project.links n (length project.links) (length project.links) (omega arith))

  pub node_in : IsSound project → (node : Node) → node ≡ node_at project.nodes n → NodeInRange node
  node_in sound node e = subst NodeInRange (sym e) (sound.ranges.nodes n no_node inside)

  pub deep_is : IsFaultless project → (node : Node) → node ≡ node_at project.nodes n → IsTrue (is_storage_kind node.kind) → pos 1_000 ≤ℤ node.y_max
  deep_is f node e =
      let good = (faultless_good project f).nodes n inside in
      subst (λ (m : Node). IsTrue (is_storage_kind m.kind) → pos 1_000 ≤ℤ m.y_max) (sym e) good.deep

pub ends_length : (project : Project) (ends : List (Option ℕ)) → ends ≡ list_of (λ k. ending_link project.links k (length project.links)) (length project.nodes) → length ends ≡ length project.nodes
ends_length project ends e =
    ap (λ (l : List (Option ℕ)). length l) e ∙ length-map-range_with_len (λ k. ending_link project.links k (length project.links)) 0 (length project.nodes)

pub heights_length : (project : Project) (heights : List ℤ) → heights ≡ list_of (full_height_of project) (length project.nodes) → length heights ≡ length project.nodes
heights_length project heights e = ap (λ (l : List ℤ). length l) e ∙ length-map-range_with_len (full_height_of project) 0 (length project.nodes)

-- ---- the whole law
pub conduit_is : (project : Project) (n : ℕ) (end : Option ℕ) (conduit : Option OutfallConduit) → conduit ≡ found_end project end
    → end ≡ ending_link project.links n (length project.links) → conduit ≡ conduit_to project n
unfolding conduit_to
conduit_is project n end conduit e f = e ∙ ap (found_end project) f

pub law_is : (project : Project) (n : ℕ) (node : Node) (rule : Rule) (full room : ℤ) (conduit : Option OutfallConduit) → node ≡ node_at project.nodes n
    → conduit ≡ conduit_to project n → rule ≡ rule_of project node.kind node.y_max conduit → full ≡ full_height_of project n → room ≡ room_of node.kind project.options
    → law_with rule node.invert full room project.options ≡ node_law_of project n
unfolding node_law_of
law_is project n node rule full room conduit e f g h i = rw (g, h, i, f, e) refl

top_in : {invert full room : ℤ} → IsBetween (pos 0) full (pos (2 * 10 ^ 9)) → IsDepth room → IsBetween invert (invert +ℤ full +ℤ room) (invert +ℤ pos (3 * 10 ^ 9))
top_in {invert} {full} {room} f m = record { from = omega (arith, ints, f.from, m.from); to = omega (arith, ints, f.to, m.to) }

pub law_in : {rule : Rule} {invert full room : ℤ} {options : Options} → IsNodeRule rule → IsElevation invert → IsBetween (pos 0) full (pos (2 * 10 ^ 9)) → IsDepth room
    → OptionsInRange options → IsNodeLaw (law_with rule invert full room options)
law_in r i f m o = record {
  rule_in = r;
  invert_in = i;
  full_in = f;
  top_in = top_in f m;
  area_in = o.area_in;
  tolerance_in = record { from = omega (arith, ints, o.tolerance_in.from); to = o.tolerance_in.to };
}
