-- The links that end at nodes: one link more, and what an outfall sees of them.
use Rattle.std.proofs.Common.{◌≡◌, ◌∙◌, ℕ, zero, suc, ◌+◌, ◌<◌, ◌≤◌, eqb, cond, Bool, true, false, List, length, slice_set, slice_index_or}
use Rattle.std.proofs.Common.{Option, Some, None, IfSome, inl, inr, refl, sym, ap, subst, add-one, arith}
use Rattle.std.proofs.lemmas.Bool.Decides.{eqb_tells}
use Rattle.std.proofs.lemmas.List.{get_or-set_same, get_or-set_other}
use Rattle.net_types.specs.declared.network.Link.{Link}
use Rattle.net_types.specs.Records.{link_at}
use Rattle.node_update.specs.OutfallConduits.{ending_link}

-- ---- one link more
pub ending_more : (links : List Link) (ends : List (Option ℕ)) (l second : ℕ) → second ≡ (link_at links l).second → second < length ends
    → ((n : ℕ) → slice_index_or ends n None ≡ ending_link links n l)
    → (n : ℕ) → slice_index_or (slice_set ends second (Some l)) n None ≡ ending_link links n (l + 1)
unfolding ending_link
ending_more links ends l second is inside each n =
    rw add-one
    (subst (λ (s : ℕ). slice_index_or (slice_set ends second (Some l)) n None ≡ cond (eqb n s) (Some l) (ending_link links n l)) is
    (elim (eqb_tells n second) [
      | inl same ↦ rw same.0 (subst (λ (k : ℕ). slice_index_or (slice_set ends second (Some l)) k None ≡ Some l) (sym same.1) (get_or-set_same ends second (Some l) None inside))
      | inr other ↦ rw other.0 (get_or-set_other ends second n (Some l) None other.1 ∙ each n)
    ]))

pub no_ending : (links : List Link) (n : ℕ) → ending_link links n 0 ≡ None
unfolding ending_link
no_ending links n = refl

-- a link that was noted is one of them
either_inside : (b : Bool) (l m : ℕ) (o : Option ℕ) → l < m → IfSome o (λ k. k < m) → IfSome (cond b (Some l) o) (λ k. k < m)
either_inside true l m o h i = h
either_inside false l m o h i = i

pub ending_inside : (links : List Link) (n l m : ℕ) → l ≤ m → IfSome (ending_link links n l) (λ k. k < m)
unfolding ending_link
ending_inside links n zero m h = tt
ending_inside links n (suc l) m h = either_inside (eqb n (link_at links l).second) l m (ending_link links n l) (omega (arith, h)) (ending_inside links n l m (omega (arith, h)))
