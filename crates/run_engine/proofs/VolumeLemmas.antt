-- How much water the steps of runoff of a run can move: the sums over all of them are within 10^37 mm³.
use Rattle.std.proofs.Common.{IfSome, None, Option, Some, ◌≡◌, ℕ, zero, suc, ◌+◌, ◌*◌, ◌^◌, ◌<◌, ◌≤◌, List, [], ◌∷◌, length}
use Rattle.std.proofs.Common.{ℤ, pos, ◌+ℤ◌, ◌-ℤ◌, ◌*ℤ◌, ◌≤ℤ◌, unsigned_abs, sym, ap, subst, arith}
use Rattle.std.proofs.lemmas.Int.{ints}
use Rattle.std.proofs.lemmas.List.Elements.{All-get_or}
use Rattle.std.proofs.lemmas.List.FromFn.{get_or-map-range_with_len}
use Rattle.fixed_num.specs.Lists.{number}
use Rattle.fixed_num.specs.Ranges.{IsBetween, IsRate}
use Rattle.fixed_num.specs.Sums.{sum_below, sum_over}
use Rattle.fixed_num.proofs.Bounds.{between_cut}
use Rattle.fixed_num.proofs.SignedSums.{sum_same}
use Rattle.infiltration.specs.Depths.{IsRunoffStep, depth_of}
use Rattle.infiltration.specs.Infiltration.{IsInfil, IsStateUpTo, method_of, start_by, start_of}
use Rattle.net_types.specs.declared.hydrology.Infil.{Infil}
use Rattle.net_types.specs.declared.hydrology.Infil.TheVariants.{Horton as HortonBy, Number as NumberBy}
use Rattle.infiltration.proofs.DepthLemmas.{depth_between, depth_slow}
use Rattle.infiltration.proofs.StateLaws.{growth, start_state as number_start_state}
use Rattle.net_types.specs.Ranges.{SubInRange}
use Rattle.net_types.specs.declared.hydrology.Sub.{Sub}
use Rattle.net_types.specs.declared.project.Project.{Project}
use Rattle.project_check.specs.Faultless.{IsFaultless}
use Rattle.rain_gages.specs.Intensity.{rate_of}
use Rattle.runoff.specs.RunoffStep.{IsSubStateUpTo, bare_step_of, paved_step_of, pervious_step_of, soaked_of, start_of_sub, sub_state_after, sub_step_of}
use Rattle.runoff.specs.Subareas.{bare_of, infil_or, paved_of, pervious_of, plane_of}
use Rattle.runoff.specs.declared.states.SubState.{SubState}
use Rattle.runoff.specs.declared.states.SubStep.{SubStep}
use Rattle.runoff_states.specs.RunoffAccount.{IsClosed}
use Rattle.runoff_states.specs.RunoffStates.{rate_on, runoff_state, runoff_step, sub_at}
use Rattle.hotstart.specs.declared.state.HotState.{HotState}
use Rattle.run_engine.specs.Hot.{IsHotFor}
use Rattle.run_engine.specs.Laterals.{runoff_from, runoff_start}
use Rattle.run_engine.proofs.HotLemmas.{hot_opened}
use Rattle.runoff_states.proofs.BalanceLemmas.{step_closed}
use Rattle.summaries.specs.Runoffs.{HaveSmallSums, Runoffs, runoff_of, summary_at, volumes_at}
use Rattle.summaries.specs.declared.sub_summary.SubSummary.{SubSummary}
use Rattle.run_engine.specs.Kept.{AreRunoffsOf}
use Rattle.run_engine.specs.Results.{runoff_after, runoff_steps}
use Rattle.run_engine.proofs.RunoffLemmas.{run_soil, run_wet}
use Rattle.run_engine.proofs.SoilLemmas.{MovesLittle, bare_cover, bare_within, paved_cover, paved_within, pervious_cover, pervious_within, plane_in, subarea_moves, taken_between}
use Rattle.run_engine.specs.declared.start.Start.{Start}

-- ---- a state: depths that aren't negative, and an infiltration of some range
pub record IsWet (sub : Sub) (s : SubState) : Type 0 where
  pub pervious : pos 0 ≤ℤ number s.depths 0
  pub bare : pos 0 ≤ℤ number s.depths 1
  pub paved : pos 0 ≤ℤ number s.depths 2
  pub most : ℤ
  pub infil : IsStateUpTo most (infil_or sub.infil) s.infil

-- all water on it, in nm
abbrev water : SubState → ℕ
water s = unsigned_abs (number s.depths 0) + unsigned_abs (number s.depths 1) + unsigned_abs (number s.depths 2)

-- ---- a step: rain of up to 10^21 mm³; what the soil takes and what runs off is of the water and of the rain
pub record StepMoves (before after : SubState) (step : SubStep) : Type 0 where
  pub rain : unsigned_abs step.rain ≤ 10 ^ 21
  pub moved : unsigned_abs step.infil + unsigned_abs step.runoff + 30_000_000_000 * water after ≤ 30_000_000_000 * water before + 10 ^ 21
  pub closed : IsClosed step

three_rains : (a b c : ℤ) → unsigned_abs a ≤ 300_000_000_000_000_000_001 → unsigned_abs b ≤ 300_000_000_000_000_000_001 → unsigned_abs c ≤ 300_000_000_000_000_000_001 → unsigned_abs (a +ℤ b +ℤ c) ≤ 10 ^ 21
three_rains a b c p q r = omega (arith, ints, p, q, r)

size_sum : (a b c : ℤ) → unsigned_abs (a +ℤ b +ℤ c) ≤ unsigned_abs a + unsigned_abs b + unsigned_abs c
size_sum a b c = omega (arith, ints)

module _ (sub : Sub) (range : SubInRange sub) (soil : IsInfil (infil_or sub.infil)) (s : SubState) (wet : IsWet sub s) (rate ms : ℤ) (r : IsRate rate) (t : IsRunoffStep ms) where
  rain_in : IsBetween (pos 0) (depth_of rate ms) (pos (10 ^ 10))
  rain_in = depth_between r t

  filled_from : pos 0 ≤ℤ (number s.depths 0 +ℤ depth_of rate ms)
  filled_from = omega (arith, ints, wet.pervious, rain_in.from)

  soaked_in : IsBetween (pos 0) (soaked_of sub s rate ms) (number s.depths 0 +ℤ depth_of rate ms)
  unfolding soaked_of
  soaked_in = taken_between wet.most (infil_or sub.infil) s.infil (depth_of rate ms) (number s.depths 0 +ℤ depth_of rate ms) ms soil wet.infil t rain_in.from filled_from

  pervious_moves : MovesLittle (number s.depths 0) (pervious_step_of sub s rate ms).depth (pervious_step_of sub s rate ms).volumes
  unfolding pervious_step_of
  pervious_moves = subarea_moves (plane_of sub) (pervious_of sub).area (pervious_of sub).cover (depth_of rate ms) (number s.depths 0) (soaked_of sub s rate ms) ms
      (plane_in sub range) (pervious_cover sub range) (pervious_within sub range) t rain_in wet.pervious soaked_in

  bare_moves : MovesLittle (number s.depths 1) (bare_step_of sub s rate ms).depth (bare_step_of sub s rate ms).volumes
  unfolding bare_step_of
  bare_moves = subarea_moves (plane_of sub) (bare_of sub).area (bare_of sub).cover (depth_of rate ms) (number s.depths 1) (pos 0) ms
      (plane_in sub range) (bare_cover sub range) (bare_within sub range) t rain_in wet.bare
      (record { from = omega (arith, ints); to = omega (arith, ints, wet.bare, rain_in.from) })

  paved_moves : MovesLittle (number s.depths 2) (paved_step_of sub s rate ms).depth (paved_step_of sub s rate ms).volumes
  unfolding paved_step_of
  paved_moves = subarea_moves (plane_of sub) (paved_of sub).area (paved_of sub).cover (depth_of rate ms) (number s.depths 2) (pos 0) ms
      (plane_in sub range) (paved_cover sub range) (paved_within sub range) t rain_in wet.paved
      (record { from = omega (arith, ints); to = omega (arith, ints, wet.paved, rain_in.from) })

  step_moves : StepMoves s (sub_state_after sub s rate ms) (sub_step_of sub s rate ms)
  unfolding sub_step_of sub_state_after
  step_moves =
      let a = pervious_moves in
      let b = bare_moves in
      let c = paved_moves in
      let p = (pervious_step_of sub s rate ms).volumes in
      let q = (bare_step_of sub s rate ms).volumes in
      let o = (paved_step_of sub s rate ms).volumes in
      record {
        rain = three_rains p.rain q.rain o.rain a.rain b.rain c.rain;
        moved = omega (arith, a.moved, b.moved, c.moved, size_sum p.infil q.infil o.infil, size_sum p.runoff q.runoff o.runoff);
        closed = step_closed sub s rate ms;
      }

  state_wet : IsWet sub (sub_state_after sub s rate ms)
  unfolding sub_state_after
  state_wet = record {
    pervious = pervious_moves.left;
    bare = bare_moves.left;
    paved = paved_moves.left;
    most = wet.most +ℤ pos 2_778 *ℤ ms;
    infil = growth wet.most (method_of (infil_or sub.infil)) s.infil (depth_of rate ms) (number s.depths 0 +ℤ depth_of rate ms) ms soil wet.infil
        (record { from = rain_in.from; to = omega (arith, ints, wet.pervious) }) t (depth_slow r t);
  }

-- ---- the beginning
start_in : (infil : Infil) → IsInfil infil → IsStateUpTo (pos 0) infil (start_of infil)
unfolding start_by
start_in (HortonBy max min decay6 dry volume) h = record { above = record { from = omega (arith, ints); to = omega (arith, ints) }; held = λ v. omega (arith, ints, v) }
start_in (NumberBy cn6 dry) h = number_start_state (record { cn6 = cn6; dry = dry }) h.0

start_wet : (sub : Sub) → IsInfil (infil_or sub.infil) → IsWet sub (start_of_sub sub)
unfolding start_of_sub
start_wet sub soil = record {
  pervious = omega (arith, ints);
  bare = omega (arith, ints);
  paved = omega (arith, ints);
  most = pos 0;
  infil = start_in (infil_or sub.infil) soil;
}

-- those of a hotstart
kept_wet : (sub : Sub) (s : SubState) → IsSubStateUpTo (pos (10 ^ 15)) sub s → IsWet sub s
kept_wet sub s h = record {
  pervious = h.depths.pervious.from;
  bare = h.depths.bare.from;
  paved = h.depths.paved.from;
  most = pos (10 ^ 15);
  infil = h.infil;
}

-- it holds little water
start_little : (sub : Sub) → water (start_of_sub sub) ≤ 3 * 10 ^ 15
unfolding start_of_sub
start_little sub = omega arith

kept_little : (sub : Sub) (s : SubState) → IsSubStateUpTo (pos (10 ^ 15)) sub s → water s ≤ 3 * 10 ^ 15
kept_little sub s h =
    let a = h.depths.pervious in
    let b = h.depths.bare in
    let c = h.depths.paved in
    omega (arith, ints, a.from, a.to, b.from, b.to, c.from, c.to)

record IsFirst (sub : Sub) (s : SubState) : Type 0 where
  wet : IsWet sub s
  little : water s ≤ 3 * 10 ^ 15

first_of : (project : Project) (hot : Option HotState) → IsFaultless project → IfSome hot (IsHotFor project) → (k : ℕ) → k < length project.subs
    → IsInfil (infil_or (sub_at project.subs k).infil) → IsFirst (sub_at project.subs k) (runoff_from project hot k)
first_of project None r g k inside soil = record { wet = start_wet (sub_at project.subs k) soil; little = start_little (sub_at project.subs k) }
first_of project (Some hot) r g k inside soil =
    let opened = hot_opened project hot r g k inside in
    record { wet = kept_wet (sub_at project.subs k) _ opened; little = kept_little (sub_at project.subs k) _ opened }

-- ---- over the steps of a run, on subcatchment k
rate_in : (project : Project) (moment : ℤ) (k : ℕ) → IsRate (rate_on project moment k)
unfolding rate_of
rate_in project moment k = between_cut _ (omega (arith, ints))

pub record SumsMove (steps : ℕ) (s : SubState) (rain infil runoff stored : ℤ) : Type 0 where
  pub rain_in : unsigned_abs rain ≤ 10 ^ 21 * steps
  pub moved : unsigned_abs infil + unsigned_abs runoff + 30_000_000_000 * water s ≤ 10 ^ 26 + 10 ^ 21 * steps
  pub closed : unsigned_abs (rain -ℤ infil -ℤ runoff -ℤ stored) ≤ 6 * steps

next_sums : (n : ℕ) (before after : SubState) (step : SubStep) (rain infil runoff stored : ℤ) → SumsMove n before rain infil runoff stored → StepMoves before after step
    → SumsMove (suc n) after (rain +ℤ step.rain) (infil +ℤ step.infil) (runoff +ℤ step.runoff) (stored +ℤ step.stored)
next_sums n before after step rain infil runoff stored sums moves = record {
  rain_in = omega (arith, ints, sums.rain_in, moves.rain);
  moved = omega (arith, ints, sums.moved, moves.moved);
  closed = omega (arith, ints, sums.closed, moves.closed.within);
}

module _ (start : Start) (r : IsFaultless start.project) (g : IfSome start.hot (IsHotFor start.project)) (k : ℕ) (inside : k < length start.project.subs) where
  range_k : SubInRange (sub_at start.project.subs k)
  range_k = All-get_or SubInRange start.project.subs k _ inside r.sound.ranges.subs

  soil_k : IsInfil (infil_or (sub_at start.project.subs k).infil)
  soil_k = All-get_or (λ (s : Sub). IsInfil (infil_or s.infil)) start.project.subs k _ inside (run_soil start.project r)

  wet_k : (n : ℕ) → IsWet (sub_at start.project.subs k) (runoff_state start.project (runoff_start start) n k)
  wet_k zero = (first_of start.project start.hot r g k inside soil_k).wet
  wet_k (suc n) = state_wet (sub_at start.project.subs k) range_k soil_k (runoff_state start.project (runoff_start start) n k) (wet_k n) (rate_on start.project _ k) start.project.options.wet_ms (rate_in start.project _ k) (run_wet start.project r)

  moves_k : (n : ℕ) → StepMoves (runoff_state start.project (runoff_start start) n k) (runoff_state start.project (runoff_start start) (suc n) k) (runoff_step start.project (runoff_start start) n k)
  moves_k n = step_moves (sub_at start.project.subs k) range_k soil_k (runoff_state start.project (runoff_start start) n k) (wet_k n) (rate_on start.project _ k) start.project.options.wet_ms (rate_in start.project _ k) (run_wet start.project r)

  sums_k : (n : ℕ) → SumsMove n (runoff_state start.project (runoff_start start) n k)
      (sum_below (λ j. (runoff_step start.project (runoff_start start) j k).rain) n) (sum_below (λ j. (runoff_step start.project (runoff_start start) j k).infil) n)
      (sum_below (λ j. (runoff_step start.project (runoff_start start) j k).runoff) n) (sum_below (λ j. (runoff_step start.project (runoff_start start) j k).stored) n)
  sums_k zero = record { rain_in = omega (arith, ints); moved = omega (arith, ints, (first_of start.project start.hot r g k inside soil_k).little); closed = omega (arith, ints) }
  sums_k (suc n) = next_sums n _ _ (runoff_step start.project (runoff_start start) n k) _ _ _ _ (sums_k n) (moves_k n)

-- ---- the summaries
record IsSmall (s : SubSummary) : Type 0 where
  rain : unsigned_abs s.rain ≤ 10 ^ 32
  infil : unsigned_abs s.infil ≤ 10 ^ 32
  runoff : unsigned_abs s.runoff ≤ 10 ^ 32
  stored : unsigned_abs s.stored ≤ 10 ^ 32

small_by : (n : ℕ) (s : SubState) (rain infil runoff stored : ℤ) (peak : ℤ) → n ≤ 316_224_000 → SumsMove n s rain infil runoff stored
    → IsSmall (record { rain = rain; infil = infil; runoff = runoff; stored = stored; peak = peak })
small_by n s rain infil runoff stored peak few m = record {
  rain = omega (arith, few, m.rain_in);
  infil = omega (arith, few, m.moved);
  runoff = omega (arith, few, m.moved);
  stored = omega (arith, ints, few, m.rain_in, m.moved, m.closed);
}

told : (start : Start) (k j : ℕ) → k < length start.project.subs → runoff_step start.project (runoff_start start) j k ≡ volumes_at (runoff_steps start j) k
told start k j inside = sym (get_or-map-range_with_len (runoff_step start.project (runoff_start start) j) 0 (length start.project.subs) k k _ inside (omega arith))

summary_small : (start : Start) → IsFaultless start.project → IfSome start.hot (IsHotFor start.project) → (n k : ℕ) → n ≤ 316_224_000 → k < length start.project.subs → IsSmall (runoff_of (runoff_steps start) (runoff_after start) n k)
unfolding runoff_of
summary_small start r g n k few inside =
    let same = λ (of : SubStep → ℤ). sum_same (λ j. of (runoff_step start.project (runoff_start start) j k)) (λ j. of (volumes_at (runoff_steps start j) k)) n (λ j h. ap of (told start k j inside)) in
    small_by n (runoff_state start.project (runoff_start start) n k) _ _ _ _ _ few
    (rw (← same (λ (v : SubStep). v.rain), ← same (λ (v : SubStep). v.infil), ← same (λ (v : SubStep). v.runoff), ← same (λ (v : SubStep). v.stored)) (sums_k start r g k inside n))

-- the sum of small numbers, each without its sign
sum_small : (of : SubSummary → ℤ) (subs : List SubSummary) → ((k : ℕ) → k < length subs → unsigned_abs (of (summary_at subs k)) ≤ 10 ^ 32)
    → sum_over (λ (s : SubSummary). pos (unsigned_abs (of s))) subs ≤ℤ pos (10 ^ 32 * length subs)
sum_small of [] each = omega (arith, ints)
sum_small of (s ∷ subs) each =
    let first = each 0 (omega arith) in
    let others = sum_small of subs (λ k h. each (suc k) (omega (arith, h))) in
    omega (arith, ints, first, others)

pub sums_small : {start : Start} {n : ℕ} {runoffs : Runoffs} → IsFaultless start.project → IfSome start.hot (IsHotFor start.project) → n ≤ 316_224_000 → AreRunoffsOf start n runoffs → HaveSmallSums runoffs.subs
sums_small {start} {n} {runoffs} r g few are =
    let each = λ (k : ℕ) (h : k < length runoffs.subs).
    subst IsSmall (sym (are.summaries.each k h)) (summary_small start r g runoffs.steps k (omega (arith, few, are.steps_are)) (omega (arith, h, are.places))) in
    let count : length runoffs.subs ≤ 20_000 = omega (arith, are.places, r.sound.few.subs) in
    record {
      rain = most (λ (s : SubSummary). s.rain) runoffs.subs count (λ k h. (each k h).rain);
      infil = most (λ (s : SubSummary). s.infil) runoffs.subs count (λ k h. (each k h).infil);
      runoff = most (λ (s : SubSummary). s.runoff) runoffs.subs count (λ k h. (each k h).runoff);
      stored = most (λ (s : SubSummary). s.stored) runoffs.subs count (λ k h. (each k h).stored);
    }
  where
    most : (of : SubSummary → ℤ) (subs : List SubSummary) → length subs ≤ 20_000 → ((k : ℕ) → k < length subs → unsigned_abs (of (summary_at subs k)) ≤ 10 ^ 32)
        → sum_over (λ (s : SubSummary). pos (unsigned_abs (of s))) subs ≤ℤ pos (10 ^ 37)
    most of subs few each = omega (arith, ints, sum_small of subs each, few)
