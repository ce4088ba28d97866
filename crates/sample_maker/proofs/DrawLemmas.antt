-- Draws that follow one another, and how high the junctions lie.
use native.Mathlib.Omega.{arith}
use Rattle.std.proofs.Common.{◌≡◌, ℕ, zero, suc, ◌+◌, ◌≤◌, List, [], ◌∷◌, ◌++◌, ◌∙◌, ap, sym, subst, refl}
use Rattle.sample_maker.specs.Draws.{draw_after, next_state, number_from, state_after}
use Rattle.sample_maker.specs.Reaches.{elevation_at, reach_over, reaches_of}
use Rattle.sample_maker.specs.declared.reaches.Reach.{Reach}

-- the state after one more draw, whose count is told otherwise
pub next_is : (seed count more state next : ℕ) → more ≡ count + 1 → state ≡ state_after seed count
    → next ≡ next_state state → next ≡ state_after seed more
next_is seed count more state next one_more at drawn =
    let after : next ≡ state_after seed (suc count) = subst (λ s. next ≡ next_state s) at drawn in
    let one : suc count ≡ more = omega (arith, one_more) in
    subst (λ k. next ≡ state_after seed k) one after

-- what the draw gives
pub draw_is : (seed count most state next found : ℕ) → state ≡ state_after seed count → next ≡ next_state state
    → found ≡ number_from next most → found ≡ draw_after seed count most
draw_is seed count most state next found at drawn gives =
    subst (λ s. found ≡ number_from s most) (next_is seed count (count + 1) state next refl at drawn) gives

-- no junction lies above a bound that none before lies above, nor the new one
pub low_push : (before : List Reach) (reach : Reach) (most more : ℕ) → most ≤ more → reach.elevation ≤ more
    → ((k : ℕ) → elevation_at before k ≤ most) → (k : ℕ) → elevation_at (before ++ reach ∷ []) k ≤ more
low_push [] reach most more grows new low zero = new
low_push [] reach most more grows new low (suc k) = omega arith
low_push (one ∷ before) reach most more grows new low zero = let first = low zero in omega (arith, first, grows)
low_push (one ∷ before) reach most more grows new low (suc k) =
    low_push before reach most more grows new (λ j. low (suc j)) k

-- one reach more
pub reaches_push : (seed count : ℕ) (before : List Reach) (reach : Reach) → before ≡ reaches_of seed count
    → reach ≡ reach_over seed before count → before ++ reach ∷ [] ≡ reaches_of seed (count + 1)
unfolding reaches_of
reaches_push seed count before reach so_far one =
    let suc_is : suc count ≡ count + 1 = omega arith in
    let new : reach ≡ reach_over seed (reaches_of seed count) count =
    subst (λ list. reach ≡ reach_over seed list count) so_far one in
    let grown : before ++ reach ∷ [] ≡ reaches_of seed (suc count) =
    ap (λ list. list ++ reach ∷ []) so_far ∙ ap (λ r. reaches_of seed count ++ r ∷ []) new in
    subst (λ k. before ++ reach ∷ [] ≡ reaches_of seed k) suc_is grown
