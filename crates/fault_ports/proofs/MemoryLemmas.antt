-- What a source over memory gives is the front of what was left.
use Rattle.std.proofs.Common.{◌≡◌, ℕ, ◌+◌, ◌-◌, ◌≤◌, ◌<◌, List, [], ◌++◌, length, min, take, drop, sym}
use Rattle.std.proofs.Common.{ap, ◌∙◌, length-append, length-drop, length-take-le, drop-drop, arith}
use Rattle.std.proofs.lemmas.List.{take-append-le, take-append-drop, take_all, nil_from_length}
use Rattle.fault_ports.proofs.OutputLemmas.{whole_rest}

-- the part of the buffer that was written
copied_length : (at n : ℕ) (bytes copied : List ℕ) → copied ≡ take n (take (length bytes - at) (drop at bytes)) → n ≤ length (take (length bytes - at) (drop at bytes)) → length copied ≡ n
copied_length at n bytes copied copy within = ap length copy ∙ length-take-le n (take (length bytes - at) (drop at bytes)) within

-- the copied bytes, and then what is left after them, are what was left
pub taken_front : (at n : ℕ) (bytes copied before : List ℕ) → copied ≡ take n (take (length bytes - at) (drop at bytes))
    → n ≤ length (take (length bytes - at) (drop at bytes)) → drop at bytes ≡ take n (copied ++ drop n before) ++ drop (at + n) bytes
taken_front at n bytes copied before copy within =
    let rest = drop at bytes in
    let front : copied ≡ take n rest = copy ∙ ap (take n) (whole_rest at bytes) in
    let long : length copied ≡ n = copied_length at n bytes copied copy within in
    let same : take n (copied ++ drop n before) ≡ take n rest =
    take-append-le n copied (drop n before) (omega arith) ∙ take_all n copied (omega arith) ∙ front in
    let after : drop (at + n) bytes ≡ drop n rest = sym (drop-drop n at bytes) in
    sym (ap (λ l. l ++ drop (at + n) bytes) same ∙ ap (λ l. take n rest ++ l) after ∙ take-append-drop n rest)

-- nothing is given into a buffer with room only where nothing is left
pub nothing_left : (at n most : ℕ) (bytes copied before : List ℕ) → 1 ≤ most → n ≡ min most (min (length before) (length (take (length bytes - at) (drop at bytes))))
    → copied ≡ take n (take (length bytes - at) (drop at bytes))
    → n ≡ 0 → 0 < length (copied ++ drop n before) → drop (at + n) bytes ≡ []
nothing_left at n most bytes copied before some count copy none room =
    let long : length copied ≡ n = copied_length at n bytes copied copy (omega arith) in
    nil_from_length (drop (at + n) bytes)
    (omega (arith, ap length (whole_rest at bytes), length-append copied (drop n before), length-drop n before, length-drop at bytes, length-drop (at + n) bytes))
