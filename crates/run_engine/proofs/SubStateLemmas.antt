-- The states of subcatchments from step to step.
use Rattle.std.proofs.Common.{◌≡◌, ℕ, suc, ◌+◌, ◌*◌, ◌^◌, ◌<◌, List, length, ℤ, pos, negsuc, ◌+ℤ◌, ◌*ℤ◌, ◌≤ℤ◌}
use Rattle.std.proofs.Common.{refl, sym, ap, ◌∙◌, ◌++◌, subst, take, drop, arith}
use Rattle.std.proofs.lemmas.Int.{ints}
use Rattle.std.proofs.Math.Seq.{take-append_seam}
use Rattle.fixed_num.specs.Ranges.{IsBetween}
use Rattle.infiltration.specs.Infiltration.{IsStateUpTo}
use Rattle.net_types.specs.declared.hydrology.Infil.{Infil}
use Rattle.net_types.specs.declared.hydrology.Infil.TheVariants.{Horton, Number}
use Rattle.infiltration.specs.declared.states.InfilState.{InfilState}
use Rattle.infiltration.specs.declared.states.InfilState.TheVariants.{Horton as HortonAt, Number as NumberAt}
use Rattle.fixed_num.proofs.SignedSums.{sum_same, times_plus}
use Rattle.net_types.specs.declared.hydrology.Sub.{Sub}
use Rattle.net_types.specs.declared.project.Project.{Project}
use Rattle.runoff.specs.RunoffStep.{AreDepths, IsSubStateUpTo}
use Rattle.runoff.specs.Subareas.{infil_or}
use Rattle.runoff.specs.declared.states.SubState.{SubState}
use Rattle.runoff_states.specs.RunoffStates.{AreStates, AreStatesUpTo, moment_of, runoff_state, state_at, sub_at}
use Rattle.runoff_states.specs.RunoffTimes.{flow_to, node_runoff}

-- ---- a range is in every greater one
between_more : {x most more : ℤ} → most ≤ℤ more → IsBetween (pos 0) x most → IsBetween (pos 0) x more
between_more h b = record { from = b.from; to = omega (arith, ints, h, b.to) }

depths_more : {most more : ℤ} {depths : List ℤ} → most ≤ℤ more → AreDepths most depths → AreDepths more depths
depths_more h d = record {
  three = d.three;
  pervious = between_more h d.pervious;
  bare = between_more h d.bare;
  paved = between_more h d.paved;
}

infil_more : (infil : Infil) (state : InfilState) {most more : ℤ} → most ≤ℤ more → IsStateUpTo most infil state
    → IsStateUpTo more infil state
infil_more (Horton max min decay6 dry volume) (HortonAt state) h s = record { above = between_more h s.above; held = s.held }
infil_more (Horton max min decay6 dry volume) (NumberAt state) h s = absurd s
infil_more (Number cn6 dry) (HortonAt state) h s = absurd s
infil_more (Number cn6 dry) (NumberAt state) h s = record {
  room = s.room;
  event_room = s.event_room;
  rain = between_more h s.rain;
  taken = s.taken;
  dry = between_more h s.dry;
}

sub_more : (sub : Sub) (state : SubState) {most more : ℤ} → most ≤ℤ more → IsSubStateUpTo most sub state
    → IsSubStateUpTo more sub state
sub_more sub state h s = record {
  depths = depths_more h s.depths;
  infil = infil_more (infil_or sub.infil) state.infil h s.infil;
  flow = s.flow;
}

pub states_more : {project : Project} {states : List SubState} {most more : ℤ} → most ≤ℤ more
    → AreStatesUpTo most project states → AreStatesUpTo more project states
states_more {project} {states} h s = record {
  each_sub = s.each_sub;
  range = λ k inside. sub_more (sub_at project.subs k) (state_at states k) h (s.range k inside);
}

-- ---- a step more
next_product : (n : ℕ) (x : ℤ) → pos (suc n) *ℤ x ≡ pos n *ℤ x +ℤ x
next_product n (pos x) = omega (arith, ints)
next_product n (negsuc x) = omega (arith, ints)

pub moment_next : (project : Project) (steps : ℕ)
    → moment_of project (suc steps) ≡ moment_of project steps +ℤ project.options.wet_ms
moment_next project steps = next_product steps project.options.wet_ms

pub room_next : (most begin ms : ℤ)
    → most +ℤ pos 2_778 *ℤ begin +ℤ pos 2_778 *ℤ ms ≡ most +ℤ pos 2_778 *ℤ (begin +ℤ ms)
room_next most begin ms = omega (arith, ints)

-- ---- what runs off depends on the states of the project's subcatchments alone
pub runoff_same : (project : Project) (start : ℕ → SubState) (steps : ℕ) (states : List SubState) (node : ℕ)
    → AreStates project start steps states
    → node_runoff project (state_at states) node ≡ node_runoff project (runoff_state project start steps) node
runoff_same project start steps states node are =
    sum_same (λ k. flow_to project node (state_at states k) k) (λ k. flow_to project node (runoff_state project start steps k) k)
    (length project.subs) (λ k inside. ap (λ (s : SubState). flow_to project node s k) (are.is k inside))

-- ---- a step of the whole
-- a list that was lent whole is what was left behind the loan
pub written_back : {A : Type 0} (xs ys : List A) → length ys ≡ length xs → take (length xs) (ys ++ drop (length ys) xs) ≡ ys
written_back xs ys same = rw (sym same) (take-append_seam ys (drop (length ys) xs))
