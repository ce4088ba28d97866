use native.Mathlib.Omega.{arith}
use Rattle.std.proofs.Common.{rules, ◌≡◌, ◌≢◌, ℕ, ◌+◌, ◌-◌, ◌*◌, min, refl}
use Rattle.sample_maker.specs.Draws.{state_after, draw_after}
use Rattle.sample_maker.specs.Reaches.{elevation_over, elevation_at}
use Rattle.sample_maker.proofs.DrawLemmas.{draw_is, next_is}
use Rattle.sample_maker.proofs.reaches.draw_place.Goals as goal

pub returns-clause-elevation : goal.returns-clause-elevation
returns-clause-elevation c seed at =
    let n = c.args.number in
    let more : 5 * n - 1 ≡ 5 * n - 2 + 1 = omega arith in
    let one = next_is seed (5 * n - 2) (5 * n - 1) c.args.draws.now.state c.draw.new.self.state more at c.draw.ensures.state in
    let below = draw_is seed (5 * n - 2) c.min.result c.args.draws.now.state c.draw.new.self.state c.draw.result at c.draw.ensures.state c.draw.ensures.value in
    let rise = draw_is seed (5 * n - 1) 20 c.draw.new.self.state c.draw-rise.new.self.state c.draw-rise.result one c.draw-rise.ensures.state c.draw-rise.ensures.value in
    search (rules, below, rise)

pub returns-clause-state : goal.returns-clause-state
returns-clause-state c seed at =
    let n = c.args.number in
    let more : 5 * n - 1 ≡ 5 * n - 2 + 1 = omega arith in
    let one = next_is seed (5 * n - 2) (5 * n - 1) c.args.draws.now.state c.draw.new.self.state more at c.draw.ensures.state in
    let last : 5 * n ≡ 5 * n - 1 + 1 = omega arith in
    next_is seed (5 * n - 1) (5 * n) c.draw.new.self.state c.draw-rise.new.self.state last one c.draw-rise.ensures.state
