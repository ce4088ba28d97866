-- What seats have made so far, act by act.
use Rattle.std.proofs.Common.{◌≡◌, ℕ, zero, suc, ◌+◌, ◌≤◌, Bool, true, false, eqb, min, if◌then◌else◌, List, [], ◌∷◌, ◌++◌, refl, sym, ap, subst, ◌∙◌, arith}
use Rattle.std.proofs.lemmas.Bool.{eqb-true, eq-eqb}
use Rattle.std.proofs.lemmas.Bool.Decides.{nat_tests}
use Rattle.fixed_num.specs.Sums.{below}
use Rattle.fixed_num.proofs.SumLemmas.{below_next, at_other}
use Rattle.phase_machine.specs.declared.work.Work.{Work}
use Rattle.phase_machine.specs.Core.{finished_in}
use Rattle.phase_machine.specs.Runs.{total}
use Rattle.phase_machine.specs.Kept.{so_far, finished_sum, claims}
use Rattle.phase_machine.proofs.Totals.{total_end, total_same, total_grows, total_plus}

-- sums that grow with their terms
pub below_less : (f g : ℕ → ℕ) (n : ℕ) → ((k : ℕ) → f k ≤ g k) → below f n ≤ below g n
below_less f g zero less = omega arith
below_less f g (suc n) less = omega (arith, below_less f g n less, less n)

module _ (phase : ℕ) (am : ℕ → ℕ → ℕ) where
  -- a seat of the phase
  pub so_far_now : (w : Work) → w.tag ≡ phase
      → so_far phase am w ≡ below (λ k. am k w.item) w.stage + total (λ x. below (λ k. am k x) 15) w.finished
  so_far_now w e = rw (eq-eqb w.tag phase e) refl

  -- one act more
  pub so_far_next : (w new : Work) → w.tag ≡ phase → new.tag ≡ w.tag → new.item ≡ w.item → new.finished ≡ w.finished
      → new.stage ≡ w.stage + 1 → so_far phase am new ≡ so_far phase am w + am w.stage w.item
  so_far_next w new e tag item finished stage =
      let old = so_far_now w e in
      let now = so_far_now new (tag ∙ e) in
      let more = below_next (λ k. am k w.item) w.stage in
      let same : below (λ k. am k new.item) new.stage + total (λ x. below (λ k. am k x) 15) new.finished
      ≡ below (λ k. am k w.item) (w.stage + 1) + total (λ x. below (λ k. am k x) 15) w.finished = rw (item, finished, stage) refl in
      omega (arith, old, now, more, same)

  -- a seat that finishes its item when nothing is left to make of it
  pub so_far_done : (w new : Work) → w.tag ≡ phase → new.tag ≡ w.tag → new.stage ≡ 0 → new.finished ≡ w.finished ++ w.item ∷ []
      → below (λ k. am k w.item) w.stage ≡ below (λ k. am k w.item) 15 → so_far phase am new ≡ so_far phase am w
  so_far_done w new e tag stage finished all =
      let old = so_far_now w e in
      let now = so_far_now new (tag ∙ e) in
      let more = total_end (λ x. below (λ k. am k x) 15) w.finished w.item in
      let same : below (λ k. am k new.item) new.stage + total (λ x. below (λ k. am k x) 15) new.finished
      ≡ 0 + total (λ x. below (λ k. am k x) 15) (w.finished ++ w.item ∷ []) = rw (finished, stage) refl in
      omega (arith, old, now, more, same, all)

  -- a seat without an item has made what it finished
  pub so_far_free : (w : Work) → w.stage ≡ 0 → so_far phase am w ≡ total (λ x. below (λ k. am k x) 15) (finished_in phase w)
  so_far_free w e = by_tag (eqb w.tag phase) refl
    where
      by_tag : (b : Bool) → eqb w.tag phase ≡ b → so_far phase am w ≡ total (λ x. below (λ k. am k x) 15) (finished_in phase w)
      by_tag true on = rw (on, e) (omega arith)
      by_tag false off = rw off refl

  -- seats of other phases have made nothing in this one
  pub so_far_other : (w : Work) → ¬ (w.tag ≡ phase) → so_far phase am w ≡ 0
  so_far_other w differ = by_tag (eqb w.tag phase) refl
    where
      by_tag : (b : Bool) → eqb w.tag phase ≡ b → so_far phase am w ≡ 0
      by_tag true on = absurd (differ (eqb-true _ _ on))
      by_tag false off = rw off refl

pub finished_other : (phase : ℕ) (f : ℕ → ℕ) (w : Work) → ¬ (w.tag ≡ phase) → finished_sum phase f w ≡ 0
finished_other phase f w differ = by_tag (eqb w.tag phase) refl
  where
    by_tag : (b : Bool) → eqb w.tag phase ≡ b → finished_sum phase f w ≡ 0
    by_tag true on = absurd (differ (eqb-true _ _ on))
    by_tag false off = rw off refl

-- smaller amounts give less
pub so_far_grows : (phase : ℕ) (am bm : ℕ → ℕ → ℕ) → ((k x : ℕ) → am k x ≤ bm k x) → (w : Work) → so_far phase am w ≤ so_far phase bm w
so_far_grows phase am bm less w = by_tag (eqb w.tag phase) refl
  where
    by_tag : (b : Bool) → eqb w.tag phase ≡ b → so_far phase am w ≤ so_far phase bm w
    by_tag true on =
        let held = below_less (λ k. am k w.item) (λ k. bm k w.item) w.stage (λ k. less k w.item) in
        let done = total_grows (λ x. below (λ k. am k x) 15) (λ x. below (λ k. bm k x) 15) w.finished
        (λ x. below_less (λ k. am k x) (λ k. bm k x) 15 (λ k. less k x)) in
        rw on (omega (arith, held, done))
    by_tag false off = rw off (omega arith)

-- the claim of an item counts from its first stage on
pub claimed_once : (f : ℕ → ℕ) (x stage : ℕ) → 1 ≤ stage → below (λ k. claims f k x) stage ≡ f x
claimed_once f x zero h = absurd (omega arith)
claimed_once f x (suc n) h = claimed_more f x n
  where
    claimed_more : (f : ℕ → ℕ) (x n : ℕ) → below (λ k. claims f k x) (suc n) ≡ f x
    claimed_more f x zero = omega arith
    claimed_more f x (suc n) =
        let before : below (λ k. claims f k x) (suc n) ≡ f x = claimed_more f x n in
        let here : claims f (suc n) x ≡ 0 = at_other 0 (f x) (suc n) (λ e. omega arith) in
        omega (arith, before, here)

pub claimed_finished : (f : ℕ → ℕ) (xs : List ℕ) → total (λ x. below (λ k. claims f k x) 15) xs ≡ total f xs
claimed_finished f xs = total_same (λ x. below (λ k. claims f k x) 15) f xs (λ x. claimed_once f x 15 (omega arith))

-- ---- once all items of a phase are done
-- one for a seat that has an item of the phase
abbrev pub holding : ℕ → Work → ℕ
holding phase w = if eqb w.tag phase then (if eqb w.stage 0 then 0 else 1) else 0

claims_split : (phase : ℕ) (w : Work) → so_far phase (claims (λ _. 1)) w ≡ finished_sum phase (λ _. 1) w + holding phase w
claims_split phase w = by_tag (eqb w.tag phase) refl
  where
    by_stage : (b : Bool) → eqb w.stage 0 ≡ b → below (λ k. claims (λ _. 1) k w.item) w.stage ≡ (if eqb w.stage 0 then 0 else 1)
    by_stage true on = let e : w.stage ≡ 0 = eqb-true _ _ on in rw e refl
    by_stage false off = rw off (claimed_once (λ _. 1) w.item w.stage (grind (arith, nat_tests)))

    by_tag : (b : Bool) → eqb w.tag phase ≡ b → so_far phase (claims (λ _. 1)) w ≡ finished_sum phase (λ _. 1) w + holding phase w
    by_tag true on = rw on (omega (arith, claimed_finished (λ _. 1) w.finished, by_stage (eqb w.stage 0) refl))
    by_tag false off = rw off refl

-- where no seat has an item, all that was made was made of finished items
free_total : (phase : ℕ) (am : ℕ → ℕ → ℕ) (seats : List Work) → total (holding phase) seats ≡ 0
    → total (so_far phase am) seats ≡ total (finished_sum phase (λ x. below (λ k. am k x) 15)) seats
free_total phase am [] none = refl
free_total phase am (w ∷ ws) none =
    let rest = free_total phase am ws (omega arith) in
    let free : holding phase w ≡ 0 = omega arith in
    let here : so_far phase am w ≡ finished_sum phase (λ x. below (λ k. am k x) 15) w = by_tag w (eqb w.tag phase) refl free in
    omega (arith, rest, here)
  where
    by_tag : (w : Work) (b : Bool) → eqb w.tag phase ≡ b → holding phase w ≡ 0
        → so_far phase am w ≡ finished_sum phase (λ x. below (λ k. am k x) 15) w
    by_tag w true on free =
        let held : ◌≡◌ {A = ℕ} (if eqb w.stage 0 then 0 else 1) 0 = subst (λ (b : Bool). ◌≡◌ {A = ℕ} (if b then (if eqb w.stage 0 then 0 else 1) else 0) 0) on free in
        let e : w.stage ≡ 0 = grind (arith, nat_tests) in
        so_far_free phase am w e
    by_tag w false off free = rw off refl

-- all items of a phase are finished
module _ (phase index all : ℕ) (seats : List Work)
    (once : (f : ℕ → ℕ) → total (so_far phase (claims f)) seats ≡ below f (min index all))
    (done : total (finished_sum phase (λ _. 1)) seats ≡ all) where
  ones : below (λ _. 1) (min index all) ≡ min index all
  ones = below_ones (min index all)
    where
      below_ones : (n : ℕ) → below (λ _. 1) n ≡ n
      below_ones zero = refl
      below_ones (suc n) = omega (arith, below_ones n)

  split : total (so_far phase (claims (λ _. 1))) seats ≡ total (finished_sum phase (λ _. 1)) seats + total (holding phase) seats
  split =
      total_same (so_far phase (claims (λ _. 1))) (λ w. finished_sum phase (λ _. 1) w + holding phase w) seats (claims_split phase)
      ∙ total_plus (finished_sum phase (λ _. 1)) (holding phase) seats

  pub none_held : total (holding phase) seats ≡ 0
  none_held = let one = once (λ _. 1) in omega (arith, ones, split, one, done)

  pub all_given : all ≤ index
  all_given = let one = once (λ _. 1) in omega (arith, ones, split, one, done)

  pub all_finished : (f : ℕ → ℕ) → total (finished_sum phase f) seats ≡ below f all
  all_finished f =
      let given = all_given in
      let most : min index all ≡ all = omega arith in
      sym (total_same (finished_sum phase (λ x. below (λ k. claims f k x) 15)) (finished_sum phase f) seats
      (λ w. claimed_finished f (finished_in phase w)))
      ∙ sym (free_total phase (claims f) seats none_held)
      ∙ once f
      ∙ ap (below f) most

  -- so all that was made is the sum over all items
  pub all_made : (am : ℕ → ℕ → ℕ) → total (so_far phase am) seats ≡ below (λ x. below (λ k. am k x) 15) all
  all_made am = free_total phase am seats none_held ∙ all_finished (λ x. below (λ k. am k x) 15)
