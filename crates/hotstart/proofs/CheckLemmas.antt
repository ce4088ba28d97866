-- Checks of fields, one after the other.
use Rattle.std.proofs.Common.{◌≡◌, ◌∙◌, ℕ, zero, suc, ◌+◌, ◌-◌, ◌<◌, ◌≤◌, Bool, true, false, cond, nat_lt}
use Rattle.std.proofs.Common.{List, [], ◌∷◌, ◌++◌, length, map, take, drop, get_or, Option, Some, None}
use Rattle.std.proofs.Common.{Result, Ok, Err, refl, sym, ap, subst, arith, append_assoc, drop-cons}
use Rattle.std.specs.Option.{option_or}
use Rattle.std.proofs.lemmas.Bool.Decides.{nat_tests}
use Rattle.std.proofs.lemmas.List.{take_more, take-append-drop, map-append}
use Rattle.hotstart.specs.Checks.{AreGood, HasFault, Passes, IsGoodFile}
use Rattle.hotstart.specs.Layout.{Field, width, widths, field_fault, first_fault, file_fault, times}
use Rattle.hotstart.specs.declared.refusal.Refusal.{Refusal}
use Rattle.hotstart.specs.declared.refusal.Refusal.TheVariants.{GoesOn}

-- widths of some fields and then more
widths-append : (xs ys : List Field) → widths (xs ++ ys) ≡ widths xs + widths ys
widths-append [] ys = omega arith
widths-append (x ∷ xs) ys = omega (arith, widths-append xs ys)

or-assoc : (a b c : Option Refusal) → option_or (option_or a b) c ≡ option_or a (option_or b c)
or-assoc None b c = refl
or-assoc (Some r) b c = refl

-- the first fault of some fields and then more
pub first_fault-append : (file : List ℕ) (place : ℕ) (xs ys : List Field)
    → first_fault file place (xs ++ ys) ≡ option_or (first_fault file place xs) (first_fault file (place + widths xs) ys)
first_fault-append file place [] ys = let same : place ≡ place + 0 = omega arith in ap (λ (p : ℕ). first_fault file p ys) same
first_fault-append file place (x ∷ xs) ys =
    let same : place + width x + widths xs ≡ place + (width x + widths xs) = omega arith in
    ap (option_or (field_fault file place x)) (first_fault-append file (place + width x) xs ys
    ∙ ap (λ (p : ℕ). option_or (first_fault file (place + width x) xs) (first_fault file p ys)) same)
    ∙ sym (or-assoc (field_fault file place x) (first_fault file (place + width x) xs) (first_fault file (place + (width x + widths xs)) ys))

-- no fields are good
pub good_none : (file : List ℕ) (place : ℕ) → place ≤ length file → AreGood file place [] place
good_none file place h = record { no_fault = refl; next_is = omega arith; within = h }

-- good fields and then good fields
pub good_then : {file : List ℕ} {from at next : ℕ} {xs ys : List Field} → AreGood file from xs at → AreGood file at ys next → AreGood file from (xs ++ ys) next
good_then {file} {from} {at} {next} {xs} {ys} a b = record {
  no_fault = first_fault-append file from xs ys ∙ ap (λ (o : Option Refusal). option_or o (first_fault file (from + widths xs) ys)) a.no_fault
      ∙ ap (λ (p : ℕ). first_fault file p ys) (sym a.next_is) ∙ b.no_fault;
  next_is = omega (arith, a.next_is, b.next_is, widths-append xs ys);
  within = b.within;
}

-- a fault after good fields
pub fault_then : {file : List ℕ} {from at : ℕ} {xs ys : List Field} {refusal : Refusal} → AreGood file from xs at → HasFault file at ys refusal
    → HasFault file from (xs ++ ys) refusal
fault_then {file} {from} {at} {xs} {ys} {refusal} a f = record {
  fault = first_fault-append file from xs ys ∙ ap (λ (o : Option Refusal). option_or o (first_fault file (from + widths xs) ys)) a.no_fault
      ∙ ap (λ (p : ℕ). first_fault file p ys) (sym a.next_is) ∙ f.fault;
}

-- a fault before more fields
pub fault_stays : {file : List ℕ} {from : ℕ} {xs : List Field} {refusal : Refusal} → HasFault file from xs refusal → (ys : List Field)
    → HasFault file from (xs ++ ys) refusal
fault_stays {file} {from} {xs} {refusal} f ys = record {
  fault = first_fault-append file from xs ys ∙ ap (λ (o : Option Refusal). option_or o (first_fault file (from + widths xs) ys)) f.fault;
}

-- a check of more fields after good ones
pub passes_then : (file : List ℕ) (from at : ℕ) (xs ys : List Field) (result : Result ℕ Refusal) → AreGood file from xs at → Passes file at ys result → Passes file from (xs ++ ys) result
passes_then file from at xs ys (Ok next) a b = good_then a b
passes_then file from at xs ys (Err refusal) a b = fault_then a b

-- one more item of a row
pub row_more : {A : Type 0} (f : A → Field) (file : List ℕ) (from at next i : ℕ) (items : List A) (d : A) → i < length items
    → AreGood file from (map f (take i items)) at → AreGood file at (f (get_or items i d) ∷ []) next → AreGood file from (map f (take (i + 1) items)) next
row_more {A} f file from at next i items d h a b =
    subst (λ (l : List Field). AreGood file from l next) (sym (ap (map f) (take_more items i d h) ∙ map-append f (take i items) (get_or items i d ∷ []))) (good_then a b)

-- the fault of one item of a row
pub row_fault : {A : Type 0} (f : A → Field) (file : List ℕ) (from at i : ℕ) (items : List A) (d : A) (refusal : Refusal) → i < length items
    → AreGood file from (map f (take i items)) at → HasFault file at (f (get_or items i d) ∷ []) refusal → HasFault file from (map f items) refusal
row_fault {A} f file from at i items d refusal h a e =
    let split : map f items ≡ map f (take i items) ++ (f (get_or items i d) ∷ [] ++ map f (drop (suc i) items)) =
    ap (map f) (sym (take-append-drop i items)) ∙ map-append f (take i items) (drop i items)
    ∙ ap (λ (l : List A). map f (take i items) ++ map f l) (drop-cons items i d h) in
    subst (λ (l : List Field). HasFault file from l refusal) (sym split) (fault_then a (fault_stays e (map f (drop (suc i) items))))

-- a row so many times, and then more times
times-add : (a b : ℕ) (row : List Field) → times (a + b) row ≡ times a row ++ times b row
times-add zero b row = let same : 0 + b ≡ b = omega arith in ap (λ (n : ℕ). times n row) same
times-add (suc a) b row =
    let same : suc a + b ≡ suc (a + b) = omega arith in
    ap (λ (n : ℕ). times n row) same ∙ ap (λ (l : List Field). row ++ l) (times-add a b row) ∙ sym (append_assoc row (times a row) (times b row))

append_none : {A : Type 0} (xs : List A) → xs ++ [] ≡ xs
append_none [] = refl
append_none (x ∷ xs) = ap (λ l. x ∷ l) (append_none xs)

-- one more row
pub rows_more : (file : List ℕ) (from at next k : ℕ) (row : List Field) → AreGood file from (times k row) at → AreGood file at row next → AreGood file from (times (k + 1) row) next
rows_more file from at next k row a b =
    subst (λ (l : List Field). AreGood file from l next) (sym (times-add k 1 row ∙ ap (λ (l : List Field). times k row ++ l) (append_none row))) (good_then a b)

-- the fault of one row
pub rows_fault : (file : List ℕ) (from at k rows : ℕ) (row : List Field) (refusal : Refusal) → k < rows → AreGood file from (times k row) at
    → HasFault file at row refusal → HasFault file from (times rows row) refusal
rows_fault file from at k rows row refusal h a e =
    let count : k + suc (rows - k - 1) ≡ rows = omega (arith, h) in
    subst (λ (n : ℕ). HasFault file from (times n row) refusal) count
    (subst (λ (l : List Field). HasFault file from l refusal) (sym (times-add k (suc (rows - k - 1)) row)) (fault_then a (fault_stays e (times (rows - k - 1) row))))

-- a file that ends with its fields, and one that goes on
pub file_good : (file : List ℕ) (fields : List Field) (end : ℕ) → AreGood file 0 fields end → length file ≤ end → IsGoodFile file fields
file_good file fields end a h = record {
  no_fault = ap (λ (o : Option Refusal). option_or o (cond (nat_lt (widths fields) (length file)) (Some (GoesOn (widths fields))) None)) a.no_fault ∙ by_test (nat_lt (widths fields) (length file)) refl;
  whole = omega (arith, a.next_is, a.within, h);
}
  where
    by_test : (b : Bool) → nat_lt (widths fields) (length file) ≡ b → cond b (Some (GoesOn (widths fields))) None ≡ None
    by_test true e = let lt : widths fields < length file = grind (arith, nat_tests) in absurd (omega (arith, lt, a.next_is, h))
    by_test false e = refl

pub file_goes_on : (file : List ℕ) (fields : List Field) (end : ℕ) → AreGood file 0 fields end → end < length file → file_fault file fields ≡ Some (GoesOn end)
file_goes_on file fields end a h =
    ap (λ (o : Option Refusal). option_or o (cond (nat_lt (widths fields) (length file)) (Some (GoesOn (widths fields))) None)) a.no_fault
    ∙ by_test (nat_lt (widths fields) (length file)) refl
  where
    end_is : end ≡ widths fields
    end_is = omega (arith, a.next_is)

    by_test : (b : Bool) → nat_lt (widths fields) (length file) ≡ b → cond b (Some (GoesOn (widths fields))) None ≡ Some (GoesOn end)
    by_test true e = ap (λ (n : ℕ). Some (GoesOn n)) (sym end_is)
    by_test false e = let le : length file ≤ widths fields = grind (arith, nat_tests) in absurd (omega (arith, le, h, end_is))

-- the fault of a field is that of the file
pub file_fault_is : (file : List ℕ) (fields : List Field) (refusal : Refusal) → HasFault file 0 fields refusal → file_fault file fields ≡ Some refusal
file_fault_is file fields refusal e = ap (λ (o : Option Refusal). option_or o (cond (nat_lt (widths fields) (length file)) (Some (GoesOn (widths fields))) None)) e.fault
