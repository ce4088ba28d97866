-- The steps that are done at a moment.
use Rattle.std.proofs.Common.{◌≡◌, ℕ, ◌+◌, ◌*◌, ◌/◌, ◌<◌, ◌≤◌, ℤ, pos, negsuc, ◌*ℤ◌, ◌≤ℤ◌, ◌<ℤ◌}
use Rattle.std.proofs.Common.{sym, ap, ◌∙◌, arith}
use Rattle.std.proofs.Math.Nat.{div-eq_of_lt-le, lt-mul-div-succ, mul-div-le}
use Rattle.std.proofs.lemmas.Int.{ints}
use Rattle.infiltration.specs.Depths.{IsRunoffStep}
use Rattle.net_types.specs.declared.project.Project.{Project}
use Rattle.runoff.specs.declared.states.SubState.{SubState}
use Rattle.runoff_states.specs.RunoffStates.{runoff_state}
use Rattle.runoff_states.specs.RunoffTimes.{AreDone, node_runoff, runoff_at, steps_done}

nat_done : (ms moment steps : ℕ) → (pos steps *ℤ pos ms) ≤ℤ pos moment → pos moment <ℤ (pos (steps + 1) *ℤ pos ms)
    → steps ≡ moment / ms
nat_done ms moment steps low high =
    let below : steps * ms ≤ moment = omega (arith, ints, low) in
    let above : moment < (steps + 1) * ms = omega (arith, ints, high) in
    sym (div-eq_of_lt-le ms below above)

pub one_count : (ms moment : ℤ) (steps : ℕ) → IsRunoffStep ms → AreDone ms moment steps → steps ≡ steps_done ms moment
one_count (pos ms) (pos moment) steps h d = nat_done ms moment steps d.ended d.next
one_count (pos ms) (negsuc moment) steps h d = absurd (omega (arith, ints, d.ended))
one_count (negsuc ms) moment steps h d = absurd (omega (arith, ints, h.from))

pub held : (project : Project) (start : ℕ → SubState) (moment later : ℤ) (steps node : ℕ)
    → IsRunoffStep project.options.wet_ms → AreDone project.options.wet_ms moment steps
    → AreDone project.options.wet_ms later steps
    → runoff_at project start moment node ≡ runoff_at project start later node
held project start moment later steps node h a b =
    let first = one_count project.options.wet_ms moment steps h a in
    let second = one_count project.options.wet_ms later steps h b in
    ap (λ (j : ℕ). node_runoff project (runoff_state project start j) node) (sym first ∙ second)

-- the steps that are counted are done
pub count_done : (ms moment : ℤ) → IsRunoffStep ms → pos 0 ≤ℤ moment → AreDone ms moment (steps_done ms moment)
count_done (pos ms) (pos moment) h m =
    let some : 0 < ms = omega (arith, ints, h.from) in
    let low = mul-div-le moment ms in
    let high = lt-mul-div-succ moment some in
    record { ended = omega (arith, ints, low); next = omega (arith, ints, high) }
count_done (pos ms) (negsuc moment) h m = absurd (omega (arith, ints, m))
count_done (negsuc ms) moment h m = absurd (omega (arith, ints, h.from))
