-- No node but an outfall begins above its top.
use Rattle.std.proofs.Common.{◌≡◌, ◌∙◌, ℕ, ◌<◌, Bool, true, false, if◌then◌else◌, int_lt, ℤ, pos, ◌+ℤ◌, ◌≤ℤ◌, length, sym, subst, ap, arith}
use Rattle.std.proofs.lemmas.Int.{clamps, ints}
use Rattle.fixed_num.specs.Lists.{number}
use Rattle.fixed_num.specs.Ranges.{cut_of}
use Rattle.hotstart.specs.declared.state.HotState.{HotState}
use Rattle.continuity.specs.StepOf.{IsBelowTops}
use Rattle.link_eval.specs.Hydraulics.{hydraulics_of, node_law_at}
use Rattle.net_types.specs.declared.network.NodeKind.{NodeKind}
use Rattle.net_types.specs.declared.network.NodeKind.TheVariants.{Junction, Outfall, Storage}
use Rattle.net_types.specs.declared.project.Project.{Project}
use Rattle.net_types.specs.Ranges.{NodeKindInRange}
use Rattle.std.specs.Prelude.{None, Option, Some}
use Rattle.net_types.specs.Records.{node_at as node_of}
use Rattle.node_update.specs.NodeLaws.{is_outfall_rule, junction_room, node_law_of, ponded_area_of, room_of, rule_of}
use Rattle.node_update.specs.OutfallConduits.{conduit_to}
use Rattle.node_update.specs.declared.node_law.OutfallConduit.{OutfallConduit}
use Rattle.node_update.specs.declared.node_law.NodeLaw.{NodeLaw}
use Rattle.project_check.specs.FullHeight.{full_height_of}
use Rattle.project_check.proofs.LawLemmas.{faultless_good}
use Rattle.trial_model.proofs.RangeLemmas.{listed}
use Rattle.project_check.specs.Faultless.{IsFaultless}
use Rattle.run_engine.specs.States.{head_from, kind_head, opening, opening_head, opening_level, project_law}
use Rattle.run_engine.proofs.LawLemmas.{law_nodes, node_law_is}
use Rattle.run_engine.proofs.RunLemmas.{run_node}
use Rattle.run_engine.specs.declared.start.Start.{Start}

some_room : (b : Bool) (surcharge : ℤ) → pos 0 ≤ℤ surcharge → pos 0 ≤ℤ (if b then pos 1_000_000_000 else surcharge)
some_room true surcharge h = omega (arith, ints)
some_room false surcharge h = h

room_below : (invert y0 full room : ℤ) → pos 0 ≤ℤ room → y0 ≤ℤ full → (invert +ℤ y0) ≤ℤ (invert +ℤ full +ℤ room)
room_below invert y0 full room least below = omega (arith, ints, least, below)

kind_below : (project : Project) (kind : NodeKind) (invert y0 level full y_max : ℤ) (conduit : Option OutfallConduit) → NodeKindInRange kind → y0 ≤ℤ full
    → is_outfall_rule (rule_of project kind y_max conduit) ≡ false → kind_head kind invert y0 level ≤ℤ (invert +ℤ full +ℤ room_of kind project.options)
kind_below project (Junction surcharge pond) invert y0 level full y_max conduit is below e =
    room_below invert y0 full (junction_room surcharge (ponded_area_of project.options pond)) (some_room (int_lt (pos 0) (ponded_area_of project.options pond)) surcharge is.surcharge_in.from) below
kind_below project (Outfall stage gated) invert y0 level full y_max conduit is below e = let never : ⊥ = cc in absurd never
kind_below project (Storage shape) invert y0 level full y_max conduit is below e = room_below invert y0 full (pos 0) (omega (arith, ints)) below

initial_below : (project : Project) (level : ℤ) → IsFaultless project → (n : ℕ) → n < length project.nodes → is_outfall_rule (node_law_of project n).rule ≡ false
    → head_from project None level n ≤ℤ (node_law_of project n).top
unfolding node_law_of
initial_below project level r n inside rule =
    let node = node_of project.nodes n in
    kind_below project node.kind node.invert node.y0 level (full_height_of project n) node.y_max (conduit_to project n)
    (run_node project r n inside).kind_in ((faultless_good project r).nodes n inside).depth rule

-- a head of a hotstart is brought to the top at most
cut_below : (head invert top : ℤ) → cut_of head invert top ≤ℤ top
unfolding cut_of
cut_below head invert top = omega (arith, ints, clamps)

kept_below : (outfall : Bool) (head invert top : ℤ) → outfall ≡ false → (if outfall then head else cut_of head invert top) ≤ℤ top
kept_below true head invert top e = let never : ⊥ = cc in absurd never
kept_below false head invert top e = cut_below head invert top

begins_below : (project : Project) (hot : Option HotState) (level : ℤ) → IsFaultless project → (n : ℕ) → n < length project.nodes
    → is_outfall_rule (node_law_of project n).rule ≡ false → head_from project hot level n ≤ℤ (node_law_of project n).top
begins_below project None level r n inside rule = initial_below project level r n inside rule
begins_below project (Some hot) level r n inside rule =
    kept_below (is_outfall_rule (node_law_of project n).rule) (number hot.heads n) (node_law_of project n).invert (node_law_of project n).top rule

pub opening_tops : (start : Start) → IsFaultless start.project → IsBelowTops (hydraulics_of start.project) (opening start)
unfolding opening
opening_tops start r = record {
  each = λ n inside other.
      let h = hydraulics_of start.project in
      let head : ℕ → ℤ = opening_head start in
      let within : n < length start.project.nodes = omega (arith, inside, law_nodes start.project) in
      let law_is = node_law_is start.project n within in
      let rule : is_outfall_rule (node_law_of start.project n).rule ≡ false = ap (λ (l : NodeLaw). is_outfall_rule l.rule) (sym law_is) ∙ other in
      subst (λ (z : ℤ). z ≤ℤ (node_law_at h n).top) (sym (listed head (project_law start.project).nodes n (pos 0) inside))
      (subst (λ (l : NodeLaw). head n ≤ℤ l.top) (sym law_is) (begins_below start.project start.hot (opening_level start n) r n within rule));
}
