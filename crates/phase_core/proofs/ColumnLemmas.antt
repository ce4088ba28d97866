-- Lists are filled item by item.
use Rattle.std.proofs.Common.{◌≡◌, ℕ, ◌+◌, ◌<◌, List, length, slice_index_or, slice_set, sym, subst}
use Rattle.std.proofs.lemmas.List.Edits.{fill_by_more}

pub filled_more : {X : Type 0} (f : ℕ → X) (xs : List X) (i : ℕ) (d v : X) → i < length xs → v ≡ f i
    → ((k : ℕ) → k < i → slice_index_or xs k d ≡ f k) → (k : ℕ) → k < i + 1 → slice_index_or (slice_set xs i v) k d ≡ f k
filled_more {X} f xs i d v h e kept k less =
    subst (λ (x : X). slice_index_or (slice_set xs i x) k d ≡ f k) (sym e) (fill_by_more f xs i d h kept k less)
