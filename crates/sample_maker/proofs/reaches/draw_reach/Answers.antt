use native.Mathlib.Omega.{arith}
use Rattle.std.proofs.Common.{rules, ◌≡◌, ℕ, ◌+◌, ◌*◌, refl}
use Rattle.sample_maker.specs.Draws.{state_after}
use Rattle.sample_maker.specs.Reaches.{reach_over}
use Rattle.sample_maker.proofs.DrawLemmas.{draw_is, next_is}
use Rattle.sample_maker.proofs.reaches.draw_reach.Goals as goal

pub returns-clause-reach : goal.returns-clause-reach
unfolding reach_over
returns-clause-reach c seed at =
    let n = c.args.number in
    let zero = c.draw_place-place.ensures.state seed at in
    let one = next_is seed (5 * n) (5 * n + 1) c.draw_place-place.new.draws.state c.draw.new.self.state refl zero c.draw.ensures.state in
    let two = next_is seed (5 * n + 1) (5 * n + 2) c.draw.new.self.state c.draw-2.new.self.state (omega arith) one c.draw-2.ensures.state in
    let length = draw_is seed (5 * n) 50 c.draw_place-place.new.draws.state c.draw.new.self.state c.draw.result zero c.draw.ensures.state c.draw.ensures.value in
    let diameter = draw_is seed (5 * n + 1) 5 c.draw.new.self.state c.draw-2.new.self.state c.draw-2.result one c.draw-2.ensures.state c.draw-2.ensures.value in
    let inflow = draw_is seed (5 * n + 2) 9 c.draw-2.new.self.state c.draw-3.new.self.state c.draw-3.result two c.draw-3.ensures.state c.draw-3.ensures.value in
    let below = c.draw_place-place.ensures.below seed at in
    let elevation = c.draw_place-place.ensures.elevation seed at in
    search (rules, length, diameter, inflow, below, elevation)
