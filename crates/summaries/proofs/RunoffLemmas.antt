-- The summaries of subcatchments, with one step more, and their sums.
use Rattle.std.proofs.Common.{◌≡◌, ◌∙◌, ℕ, zero, suc, ◌+◌, ◌*◌, ◌^◌, ◌<◌, ◌≤◌, List, [], ◌∷◌, ◌++◌, length, take, drop}
use Rattle.std.proofs.Common.{get_or, replicate, ℤ, pos, ◌+ℤ◌, ◌≤ℤ◌, unsigned_abs, All, refl, sym, ap, subst, arith}
use Rattle.std.proofs.Common.{inl, inr, add-one}
use Rattle.std.specs.Int.{int_max}
use Rattle.std.proofs.lemmas.Bool.{cases_lt}
use Rattle.std.proofs.lemmas.Int.{ints}
use Rattle.fixed_num.specs.Ranges.{IsWithin}
use Rattle.fixed_num.specs.Sums.{sum_below, sum_over}
use Rattle.net_types.specs.declared.project.Project.{Project}
use Rattle.runoff.specs.RunoffStep.{HasVolumesWithin, StepInRange}
use Rattle.runoff.specs.declared.states.SubState.{SubState}
use Rattle.runoff.specs.declared.states.SubStep.{SubStep}
use Rattle.summaries.specs.Runoffs.{AreRunoffs, AreSmall, HaveSmallSums, IsRunoffWithin, IsTotal, Runoffs, flow_at, most_below, no_runoff}
use Rattle.summaries.specs.Runoffs.{no_runoffs, runoff_of, summary_at, volumes_at, with_step}
use Rattle.summaries.specs.declared.sub_summary.SubSummary.{SubSummary}

-- ---- no step
nothing : (count k : ℕ) → summary_at (replicate count no_runoff) k ≡ no_runoff
nothing zero k = refl
nothing (suc count) zero = refl
nothing (suc count) (suc k) = nothing count k

none_within : (most : ℕ) → IsRunoffWithin most no_runoff
none_within most = record {
  rain = record { within = omega (arith, ints) };
  infil = record { within = omega (arith, ints) };
  runoff = record { within = omega (arith, ints) };
  stored = record { within = omega (arith, ints) };
}

pub no_runoffs_are : (project : Project) → AreSmall (no_runoffs project)
no_runoffs_are project = record {
  each = λ k. rw (nothing (length project.subs) k) (none_within (10 ^ 28 * 0));
}

-- ---- one step more
runoff_more : (steps : ℕ → List SubStep) (after : ℕ → List SubState) (count k : ℕ)
    → with_step (runoff_of steps after count k) (volumes_at (steps count) k) (flow_at (after count) k)
    ≡ runoff_of steps after (count + 1) k
unfolding runoff_of
runoff_more steps after count k = ap (λ (n : ℕ). whole n) (sym (add-one count))
  where
    whole : ℕ → SubSummary
    whole n = record {
      rain = sum_below (λ j. (volumes_at (steps j) k).rain) n;
      infil = sum_below (λ j. (volumes_at (steps j) k).infil) n;
      runoff = sum_below (λ j. (volumes_at (steps j) k).runoff) n;
      stored = sum_below (λ j. (volumes_at (steps j) k).stored) n;
      peak = most_below (λ j. flow_at (after j) k) n;
    }

pub runoffs_more : (steps : ℕ → List SubStep) (after : ℕ → List SubState) (old : Runoffs) (new : List SubSummary)
    → AreRunoffs steps after old → length new ≡ length old.subs
    → ((k : ℕ) → k < length old.subs → summary_at new k
    ≡ with_step (summary_at old.subs k) (volumes_at (steps old.steps) k) (flow_at (after old.steps) k))
    → AreRunoffs steps after (record { subs = new; steps = old.steps + 1 })
runoffs_more steps after old new sums same each = record {
  each = λ k h.
      let inside : k < length old.subs = omega (arith, h, same) in
      each k inside
      ∙ ap (λ (s : SubSummary). with_step s (volumes_at (steps old.steps) k) (flow_at (after old.steps) k))
      (sums.each k inside)
      ∙ runoff_more steps after old.steps k;
}

past : (subs : List SubSummary) (k : ℕ) → length subs ≤ k → summary_at subs k ≡ no_runoff
past [] k h = refl
past (s ∷ subs) zero h = absurd (omega (arith, h))
past (s ∷ subs) (suc k) h = past subs k (omega (arith, h))

no_step : SubStep
no_step = record { rain = pos 0; infil = pos 0; runoff = pos 0; stored = pos 0 }

pub small_more : (old : Runoffs) (new : List SubSummary) (steps : List SubStep) (states : List SubState) → AreSmall old
    → All StepInRange steps → length new ≡ length old.subs → length steps ≡ length old.subs
    → ((k : ℕ) → k < length old.subs → summary_at new k
    ≡ with_step (summary_at old.subs k) (volumes_at steps k) (flow_at states k))
    → AreSmall (record { subs = new; steps = old.steps + 1 })
small_more old new steps states small in_range same count each = record {
  each = λ k. elim (cases_lt k (length old.subs)) [
    | inl less ↦ rw (each k less) (within k less)
    | inr over ↦ rw (past new k (omega (arith, over, same))) (none_within (10 ^ 28 * (old.steps + 1)))
  ];
}
  where
    within : (k : ℕ) → k < length old.subs → IsRunoffWithin (10 ^ 28 * (old.steps + 1))
        (with_step (summary_at old.subs k) (volumes_at steps k) (flow_at states k))
    within k h =
        let s = small.each k in
        let v = in_range k (record { rain = pos 0; infil = pos 0; runoff = pos 0; stored = pos 0 }) (omega (arith, h, count)) in
        record {
          rain = record { within = omega (arith, ints, s.rain.within, v.rain.within) };
          infil = record { within = omega (arith, ints, s.infil.within, v.infil.within) };
          runoff = record { within = omega (arith, ints, s.runoff.within, v.runoff.within) };
          stored = record { within = omega (arith, ints, s.stored.within, v.stored.within) };
        }

-- ---- sums over the first so many
pub sum_take : {A : Type 0} (f : A → ℤ) (xs : List A) (n : ℕ) (d : A) → n < length xs
    → sum_over f (take (n + 1) xs) ≡ sum_over f (take n xs) +ℤ f (get_or xs n d)
sum_take f [] n d h = absurd (omega (arith, h))
sum_take f (x ∷ xs) zero d h = swap (f x)
  where
    swap : (a : ℤ) → a +ℤ pos 0 ≡ pos 0 +ℤ a
    swap a = omega (arith, ints)
sum_take {A} f (x ∷ xs) (suc n) d h =
    let up : suc n + 1 ≡ suc (n + 1) = omega arith in
    ap (λ (m : ℕ). sum_over f (take m (x ∷ xs))) up
    ∙ ap (λ (z : ℤ). f x +ℤ z) (sum_take f xs n d (omega (arith, h)))
    ∙ assoc (f x) (sum_over f (take n xs)) (f (get_or xs n d))
  where
    assoc : (a b c : ℤ) → a +ℤ (b +ℤ c) ≡ a +ℤ b +ℤ c
    assoc a b c = omega (arith, ints)

-- a sum of the first so many lies within the whole sum without signs
pub take_within : {A : Type 0} (f : A → ℤ) (xs : List A) (n most : ℕ)
    → sum_over (λ (x : A). pos (unsigned_abs (f x))) xs ≤ℤ pos most → IsWithin most (sum_over f (take n xs))
take_within f xs n most h = record { within = omega (arith, ints, h, below xs n) }
  where
    not_negative : (ys : List _) → pos 0 ≤ℤ sum_over (λ x. pos (unsigned_abs (f x))) ys
    not_negative [] = omega (arith, ints)
    not_negative (y ∷ ys) = omega (arith, ints, not_negative ys)

    below : (ys : List _) (m : ℕ) → pos (unsigned_abs (sum_over f (take m ys)))
        ≤ℤ sum_over (λ x. pos (unsigned_abs (f x))) ys
    below ys zero = omega (arith, ints, not_negative ys)
    below [] (suc m) = omega (arith, ints)
    below (y ∷ ys) (suc m) = omega (arith, ints, below ys m)

-- ---- the sums of all subcatchments, after the first so many
-- the volumes of one subcatchment, and those of two sums
abbrev pub volumes_of : SubSummary → SubStep
volumes_of s = record { rain = s.rain; infil = s.infil; runoff = s.runoff; stored = s.stored }

abbrev pub plus : SubStep → SubStep → SubStep
plus a b = record {
  rain = a.rain +ℤ b.rain;
  infil = a.infil +ℤ b.infil;
  runoff = a.runoff +ℤ b.runoff;
  stored = a.stored +ℤ b.stored;
}

-- the summary of these volumes and of this greatest flow
abbrev pub with_peak : SubStep → ℤ → SubSummary
with_peak v peak = record { rain = v.rain; infil = v.infil; runoff = v.runoff; stored = v.stored; peak = peak }

pub total_within : (subs : List SubSummary) (sums : SubStep) (k : ℕ) → HaveSmallSums subs → IsTotal (take k subs) sums
    → HasVolumesWithin (10 ^ 37) sums
total_within subs sums k h t = record {
  rain = rw (t.rain) (take_within (λ (s : SubSummary). s.rain) subs k (10 ^ 37) h.rain);
  infil = rw (t.infil) (take_within (λ (s : SubSummary). s.infil) subs k (10 ^ 37) h.infil);
  runoff = rw (t.runoff) (take_within (λ (s : SubSummary). s.runoff) subs k (10 ^ 37) h.runoff);
  stored = rw (t.stored) (take_within (λ (s : SubSummary). s.stored) subs k (10 ^ 37) h.stored);
}

pub total_more : (subs : List SubSummary) (sums : SubStep) (k : ℕ) → IsTotal (take k subs) sums → k < length subs
    → IsTotal (take (k + 1) subs) (plus sums (volumes_of (get_or subs k no_runoff)))
total_more subs sums k t h = record {
  rain = rw (t.rain) (sym (sum_take (λ (s : SubSummary). s.rain) subs k no_runoff h));
  infil = rw (t.infil) (sym (sum_take (λ (s : SubSummary). s.infil) subs k no_runoff h));
  runoff = rw (t.runoff) (sym (sum_take (λ (s : SubSummary). s.runoff) subs k no_runoff h));
  stored = rw (t.stored) (sym (sum_take (λ (s : SubSummary). s.stored) subs k no_runoff h));
}

-- the sums so far, the next volumes, and the sums with them are in range
pub record FitSums (sums step : SubStep) : Type 0 where
  pub before : HasVolumesWithin (10 ^ 37) sums
  pub item : HasVolumesWithin (2 * 10 ^ 37) step
  pub next : HasVolumesWithin (10 ^ 37) (plus sums step)

difference : {a b : ℤ} → IsWithin (10 ^ 37) a → IsWithin (10 ^ 37) (a +ℤ b) → IsWithin (2 * 10 ^ 37) b
difference p q = record { within = omega (arith, ints, p.within, q.within) }

pub sums_fit : (subs : List SubSummary) (sums : SubStep) (k : ℕ) → HaveSmallSums subs → IsTotal (take k subs) sums
    → k < length subs → FitSums sums (volumes_of (get_or subs k no_runoff))
sums_fit subs sums k h t g =
    let step = volumes_of (get_or subs k no_runoff) in
    let before = total_within subs sums k h t in
    let next = total_within subs (plus sums step) (k + 1) h (total_more subs sums k t g) in
    record {
      before = before;
      item = record {
        rain = difference before.rain next.rain;
        infil = difference before.infil next.infil;
        runoff = difference before.runoff next.runoff;
        stored = difference before.stored next.stored;
      };
      next = next;
    }
