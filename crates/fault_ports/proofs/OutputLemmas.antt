-- Bytes that are put in parts: the parts together are put as one piece would be.
use Rattle.std.proofs.Common.{◌≡◌, ℕ, ◌+◌, ◌-◌, ◌≤◌, ◌<◌, List, ◌++◌, length, get_or, suc, take, drop, Option}
use Rattle.std.proofs.Common.{Result, Ok, Err, sym, ap, ◌∙◌, length-append, drop-cons, length-drop, subst, arith}
use Rattle.std.proofs.lemmas.List.{take-append-le, take-append-drop, take_all}
use Rattle.std.proofs.lemmas.Grind.{flat_map-append}
use Rattle.std.proofs.Math.Seq.{take-add, take-append-add}
use Rattle.std.proofs.KnownBytes.{Appends-trans}
use Rattle.std.specs.Io.KnownBytes.{Appends}
use Rattle.std.specs.List.{flat_map}
use Rattle.fault_ports.specs.Causes.{HasNotFailed}
use Rattle.fault_ports.specs.Output.{AppendsPrefix, Puts}
use Rattle.fault_ports.specs.declared.faults.Faults.{Faults}

-- where a loop over a piece stands: its first bytes are put, and no fault came
pub record Put (held₀ held : Option (List ℕ)) (faults₀ faults : Faults) (bytes : List ℕ) (at : ℕ) : Type 0 where
  pub within : at ≤ length bytes
  pub front : Appends held₀ held (take at bytes)
  pub kept : HasNotFailed faults₀ faults

-- the part of a slice from `at` on, as the code takes it
pub whole_rest : (at : ℕ) (xs : List ℕ) → take (length xs - at) (drop at xs) ≡ drop at xs
whole_rest at xs = take_all (length xs - at) (drop at xs) (omega (arith, length-drop at xs))

-- two pieces, one after the other
pub appends_then : (a b c : Option (List ℕ)) (xs ys : List ℕ) → Appends a b xs → Appends b c ys → Appends a c (xs ++ ys)
appends_then a b c xs ys first second = Appends-trans a b c xs ys first second

-- a front of the first piece is a front of both
pub prefix_stays : (a b : Option (List ℕ)) (xs ys : List ℕ) → AppendsPrefix a b xs → AppendsPrefix a b (xs ++ ys)
prefix_stays a b xs ys p =
    (p.0, omega (arith, p.1, length-append xs ys), subst (Appends a b) (sym (take-append-le p.0 xs ys p.1)) p.2)

-- the first piece and a front of the second are a front of both
pub prefix_after : (a b c : Option (List ℕ)) (xs ys : List ℕ) → Appends a b xs → AppendsPrefix b c ys → AppendsPrefix a c (xs ++ ys)
prefix_after a b c xs ys first p = (
  length xs + p.0,
  omega (arith, p.1, length-append xs ys),
  subst (Appends a c) (sym (take-append-add xs ys p.0)) (Appends-trans a b c xs (take p.0 ys) first p.2),
)

-- a second piece is put after the first
pub puts_after : {T E : Type 0} (a b c : Option (List ℕ)) (xs ys : List ℕ) (result : Result T E) → Appends a b xs → Puts b c ys result → Puts a c (xs ++ ys) result
puts_after a b c xs ys (Ok _) first second = Appends-trans a b c xs ys first second
puts_after a b c xs ys (Err _) first second = prefix_after a b c xs ys first second

-- one more put of a front of what is left of the piece
pub put_more : (held₀ held₁ held₂ : Option (List ℕ)) (faults₀ faults₁ faults₂ : Faults) (bytes : List ℕ) (at count : ℕ) → Put held₀ held₁ faults₀ faults₁ bytes at
    → count ≤ length (take (length bytes - at) (drop at bytes)) → Appends held₁ held₂ (take count (take (length bytes - at) (drop at bytes))) → HasNotFailed faults₁ faults₂
    → Put held₀ held₂ faults₀ faults₂ bytes (at + count)
put_more held₀ held₁ held₂ faults₀ faults₁ faults₂ bytes at count so_far within front kept = record {
  within = omega (arith, so_far.within, within, ap length (whole_rest at bytes), length-drop at bytes);
  front = subst (Appends held₀ held₂) (sym (take-add at count bytes))
      (Appends-trans held₀ held₁ held₂ (take at bytes) (take count (drop at bytes)) so_far.front (rw (whole_rest at bytes) at front));
  kept = kept ∙ so_far.kept;
}

-- a put that fails inside the item of this place
pub prefix_at : {T : Type 0} (bytes_of : T → List ℕ) (a b c : Option (List ℕ)) (items : List T) (place : ℕ) (default : T) → place < length items
    → Appends a b (flat_map bytes_of (take place items)) → AppendsPrefix b c (bytes_of (get_or items place default)) → AppendsPrefix a c (flat_map bytes_of items)
prefix_at bytes_of a b c items place default within first second =
    let item = bytes_of (get_or items place default) in
    let before = flat_map bytes_of (take place items) in
    let later = flat_map bytes_of (drop (suc place) items) in
    let split : flat_map bytes_of items ≡ before ++ (item ++ later) =
    ap (flat_map bytes_of) (sym (take-append-drop place items)) ∙ flat_map-append bytes_of (take place items) (drop place items)
    ∙ ap (λ l. before ++ flat_map bytes_of l) (drop-cons items place default within) in
    subst (AppendsPrefix a c) (sym split) (prefix_after a b c before (item ++ later) first (prefix_stays b c item later second))

-- where a loop over items stands: the bytes of its first items are put, and no fault came
pub record PutItems {T : Type 0} (held₀ held : Option (List ℕ)) (faults₀ faults : Faults) (bytes_of : T → List ℕ) (items : List T) (place : ℕ) : Type 0 where
  pub front : Appends held₀ held (flat_map bytes_of (take place items))
  pub kept : HasNotFailed faults₀ faults
