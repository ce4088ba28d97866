-- The runoff of a run: its subcatchments can be stepped, and its steps are those that are done.
use Rattle.std.proofs.Common.{◌≡◌, ◌∙◌, ℕ, suc, ◌+◌, ◌^◌, ◌<◌, [], length, Option, Some, None, IfSome, IsSome}
use Rattle.std.proofs.Common.{ℤ, pos, negsuc, ◌+ℤ◌, ◌-ℤ◌, ◌*ℤ◌, ◌≤ℤ◌, ◌<ℤ◌, sym, ap, subst, arith, true, false}
use Rattle.std.specs.Prelude.{int_le}
use Rattle.std.specs.Int.RustNames.{unsigned_abs}
use Rattle.std.proofs.lemmas.Int.{ints}
use Rattle.std.proofs.lemmas.List.Elements.{All-from_get_or, All-get_or}
use Rattle.fixed_num.specs.Ranges.{IsBetween}
use Rattle.infiltration.specs.Depths.{IsRunoffStep}
use Rattle.infiltration.specs.Infiltration.{IsInfil}
use Rattle.net_types.specs.Ranges.{InfilInRange, SubInRange}
use Rattle.net_types.specs.declared.hydrology.Infil.{Infil}
use Rattle.net_types.specs.declared.hydrology.Infil.TheVariants.{Horton, Number}
use Rattle.net_types.specs.declared.hydrology.Sub.{Sub}
use Rattle.net_types.specs.declared.project.Project.{Project}
use Rattle.project_check.proofs.LawLemmas.{faultless_good}
use Rattle.project_check.specs.Faultless.{HasGoodRates, IsGoodSub}
use Rattle.runoff.specs.Subareas.{infil_or}
use Rattle.runoff.specs.declared.states.SubState.{SubState}
use Rattle.runoff_states.specs.RunoffStates.{AreStates, AreStatesUpTo, AreSubStates, HasInfiltrations, moment_of, runoff_step}
use Rattle.runoff_states.specs.RunoffStates.{state_at, step_on, sub_at}
use Rattle.runoff_states.specs.RunoffTimes.{AreDone, steps_done}
use Rattle.run_engine.specs.declared.subs.SubRunoff.{SubRunoff}
use Rattle.run_engine.proofs.SubStateLemmas.{moment_next, room_next, states_more}
use Rattle.runoff_states.proofs.TimeLemmas.{count_done, one_count}
use Rattle.run_engine.specs.Laterals.{IsRunoffAfter, IsRunoffAt, runoff_start}
use Rattle.project_check.specs.Faultless.{IsFaultless}
use Rattle.run_engine.specs.declared.start.Start.{Start}

-- ---- the soil of each subcatchment
soil_is : (infil : Option Infil) → IfSome infil InfilInRange → IsSome infil → IfSome infil HasGoodRates
    → IsInfil (infil_or infil)
soil_is (Some (Horton max min decay6 dry volume)) r s g = record {
  max = r.max_in;
  min = r.min_in;
  decay = r.decay_in;
  drying = r.dry_in;
  volume = r.volume_in;
  ordered = g;
}
soil_is (Some (Number cn6 dry)) r s g = (r.number_in, r.dry_in)
soil_is None r s g = absurd (nothing s)
  where
    nothing : IsSome {T = Infil} None → ⊥
    nothing h = let never : ⊥ = cc in never

sub_is : (sub : Sub) → SubInRange sub → IsGoodSub sub → IsInfil (infil_or sub.infil)
sub_is sub r g = soil_is sub.infil r.infil_in g.has_infil g.rates

pub run_soil : (project : Project) → IsFaultless project → HasInfiltrations project
run_soil project r =
    let ranges = r.sound.ranges.subs in
    let good = (faultless_good project r).subs in
    let none = sub_at [] 0 in
    All-from_get_or (λ (sub : Sub). IsInfil (infil_or sub.infil)) project.subs none
    (λ k inside. sub_is (sub_at project.subs k) (All-get_or SubInRange project.subs k none inside ranges)
    (All-get_or IsGoodSub project.subs k none inside good))

pub run_wet : (project : Project) → IsFaultless project → IsRunoffStep project.options.wet_ms
run_wet project r = r.sound.options.wet_in

-- ---- the steps that are done
product_next : (n : ℕ) (x : ℤ) → pos (n + 1) *ℤ x ≡ pos n *ℤ x +ℤ x
product_next n (pos x) = omega (arith, ints)
product_next n (negsuc x) = omega (arith, ints)

-- a moment before the end of the longest run, by which all these steps have ended, and which the next one doesn't end by
pub record IsLastAt (start : Start) (moment : ℤ) (steps : ℕ) (runoff : SubRunoff) : Type 0 where
  pub after : IsRunoffAfter start steps runoff
  pub begun : IsBetween (pos 0) runoff.begin moment

-- the runoff of an earlier moment
pub last_of : {start : Start} {earlier moment : ℤ} {runoff : SubRunoff} → IsFaultless start.project → IsBetween (pos 0) earlier moment
    → IsRunoffAt start earlier runoff → IsLastAt start moment (steps_done start.project.options.wet_ms earlier) runoff
last_of {start} {earlier} {moment} {runoff} r between at =
    let done = count_done start.project.options.wet_ms earlier (run_wet start.project r) between.from in
    let begins = at.begins in
    record {
      after = at;
      begun = record {
        from = subst (λ (b : ℤ). pos 0 ≤ℤ b) (sym begins) (no_less (steps_done start.project.options.wet_ms earlier) start.project.options.wet_ms (run_wet start.project r).from);
        to = omega (arith, ints, begins, done.ended, between.to);
      };
    }
  where
    no_less : (n : ℕ) (ms : ℤ) → pos 1_000 ≤ℤ ms → pos 0 ≤ℤ (pos n *ℤ ms)
    no_less n (pos ms) h = omega (arith, ints)
    no_less n (negsuc ms) h = absurd (omega (arith, ints, h))

-- where no step is due at a moment, the steps that were made are those that are done, and the runoff is that of the moment
pub count_of : {start : Start} {moment : ℤ} {steps : ℕ} {runoff : SubRunoff} → IsFaultless start.project
    → IsLastAt start moment steps runoff → moment <ℤ (runoff.begin +ℤ start.project.options.wet_ms)
    → steps ≡ steps_done start.project.options.wet_ms moment
count_of {start} {moment} {steps} {runoff} r last past =
    let ms = start.project.options.wet_ms in
    let more = product_next steps ms in
    let done : AreDone ms moment steps = record {
      ended = subst (λ (b : ℤ). b ≤ℤ moment) last.after.begins last.begun.to;
      next = subst (λ (m : ℤ). moment <ℤ m) (ap (λ (b : ℤ). b +ℤ ms) last.after.begins ∙ sym more) past;
    } in
    one_count ms moment steps (run_wet start.project r) done

pub at_of : {start : Start} {moment : ℤ} {steps : ℕ} {runoff : SubRunoff} → IsFaultless start.project
    → IsLastAt start moment steps runoff → moment <ℤ (runoff.begin +ℤ start.project.options.wet_ms)
    → IsRunoffAt start moment runoff
at_of {start} {moment} {steps} {runoff} r last past =
    subst (λ (k : ℕ). IsRunoffAfter start k runoff) (count_of r last past) last.after

-- a step begins within the run, and its states are within what a step takes
pub step_room : {start : Start} {moment : ℤ} {steps : ℕ} {runoff : SubRunoff} → moment ≤ℤ pos 316_224_000_000
    → IsLastAt start moment steps runoff → AreSubStates start.project runoff.states
step_room few last = states_more (room _ _ last.begun.to few) last.after.range
  where
    room : (begin moment : ℤ) → begin ≤ℤ moment → moment ≤ℤ pos 316_224_000_000
        → (pos (10 ^ 15) +ℤ pos 2_778 *ℤ begin) ≤ℤ pos (10 ^ 16)
    room begin moment h k = omega (arith, ints, h, k)

-- a step that is due ends by the moment
pub last_more : {start : Start} {moment : ℤ} {steps : ℕ} {old new : SubRunoff} → IsFaultless start.project
    → IsLastAt start moment steps old → (old.begin +ℤ start.project.options.wet_ms) ≤ℤ moment
    → IsRunoffAfter start (suc steps) new → IsLastAt start moment (suc steps) new
last_more {start} {moment} {steps} {old} {new} r last due after =
    let begins : new.begin ≡ old.begin +ℤ start.project.options.wet_ms =
    after.begins ∙ moment_next start.project steps ∙ ap (λ (b : ℤ). b +ℤ start.project.options.wet_ms) (sym last.after.begins) in
    record {
      after = after;
      begun = record {
        from = omega (arith, ints, begins, last.begun.from, (run_wet start.project r).from);
        to = omega (arith, ints, begins, due);
      };
    }

-- ---- a step more
pub stepped : {start : Start} {steps : ℕ} {old new : SubRunoff} → IsRunoffAfter start steps old → new.begin ≡ old.begin +ℤ start.project.options.wet_ms
    → AreStates start.project (runoff_start start) (suc steps) new.states
    → AreStatesUpTo (pos (10 ^ 15) +ℤ pos 2_778 *ℤ old.begin +ℤ pos 2_778 *ℤ start.project.options.wet_ms) start.project new.states
    → length new.steps ≡ length start.project.subs → IsRunoffAfter start (suc steps) new
stepped {start} {steps} {old} {new} at begins states range places = record {
  begins = begins ∙ ap (λ (b : ℤ). b +ℤ start.project.options.wet_ms) at.begins ∙ sym (moment_next start.project steps);
  states = states;
  range = subst (λ (m : ℤ). AreStatesUpTo m start.project new.states)
      (room_next (pos (10 ^ 15)) old.begin start.project.options.wet_ms ∙ ap (λ (b : ℤ). pos (10 ^ 15) +ℤ pos 2_778 *ℤ b) (sym begins)) range;
  places = places;
}

-- the step of a subcatchment, where the states before it are those of the run
pub told_by : {start : Start} {steps : ℕ} {old : SubRunoff} {moment : ℤ} → IsRunoffAfter start steps old → moment ≡ old.begin → (k : ℕ) → k < length start.project.subs
    → step_on start.project moment (state_at old.states k) k ≡ runoff_step start.project (runoff_start start) steps k
told_by {start} {steps} {old} {moment} at same k inside =
    ap (λ (m : ℤ). step_on start.project m (state_at old.states k) k) (same ∙ at.begins)
    ∙ ap (λ (s : SubState). step_on start.project (moment_of start.project steps) s k) (at.states.is k inside)

-- in the beginning none is done
pub opened : {start : Start} {runoff : SubRunoff} → IsFaultless start.project
    → IsRunoffAfter start 0 runoff → IsRunoffAt start (pos 0) runoff
opened {start} {runoff} r after = at_of r (record {
  after = after;
  begun = record { from = omega (arith, ints, after.begins, none start.project.options.wet_ms); to = omega (arith, ints, after.begins, none start.project.options.wet_ms) };
}) (first runoff.begin start.project.options.wet_ms (after.begins ∙ none start.project.options.wet_ms) (run_wet start.project r).from)
  where
    none : (ms : ℤ) → pos 0 *ℤ ms ≡ pos 0
    none ms = omega (arith, ints)

    first : (begin ms : ℤ) → begin ≡ pos 0 → pos 1_000 ≤ℤ ms → pos 0 <ℤ (begin +ℤ ms)
    first begin ms e h = omega (arith, ints, e, h)

-- the time that is left falls with each step
pub less_left : (moment old new ms : ℤ) → pos 1_000 ≤ℤ ms → new ≡ old +ℤ ms → (old +ℤ ms) ≤ℤ moment
    → unsigned_abs (moment -ℤ new) < unsigned_abs (moment -ℤ old)
less_left moment old new ms h e k = omega (arith, ints, h, e, k)

pub le_from : (a b : ℤ) → int_le a b ≡ true → a ≤ℤ b
le_from a b e = grind (arith, ints)

pub above_from : (a b : ℤ) → int_le a b ≡ false → b <ℤ a
above_from a b e = grind (arith, ints)

pub step_begins : {start : Start} {steps : ℕ} {old new : SubRunoff} → IsRunoffAfter start steps old
    → IsRunoffAfter start (suc steps) new → new.begin ≡ old.begin +ℤ start.project.options.wet_ms
step_begins {start} {steps} {old} {new} before after =
    after.begins ∙ moment_next start.project steps ∙ ap (λ (b : ℤ). b +ℤ start.project.options.wet_ms) (sym before.begins)
