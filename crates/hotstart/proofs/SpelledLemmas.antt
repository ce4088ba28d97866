-- The bytes of a file by the numbers of its fields.
use Rattle.std.proofs.Common.{◌≡◌, ◌∙◌, ℕ, zero, suc, ◌+◌, ◌*◌, ◌/◌, ◌%◌, ◌^◌, ◌<◌, ◌≤◌, List, [], ◌∷◌, ◌++◌}
use Rattle.std.proofs.Common.{length, map, take, drop, slice_index, Option, Some, None, ℤ, All, refl, sym, ap, subst}
use Rattle.std.proofs.Common.{arith, append_assoc, flat_map, take-add}
use Rattle.std.proofs.Math.Nat.{div-div-eq-div-mul, div-one, pow-succ'}
use Rattle.std.specs.Int.{w64, byte_at, bytes_low_first}
use Rattle.std.specs.List.{range_with_len}
use Rattle.std.specs.Option.{option_or}
use Rattle.std.proofs.lemmas.Int.{of_z-to_z}
use Rattle.std.proofs.lemmas.List.{drop-drop, get_or-drop, length-drop, take_all}
use Rattle.byteorder.specs.Endian.{little_bytes, little_number}
use Rattle.byteorder.specs.Numbers.{little_from-cons, little_from-lt}
use Rattle.hotstart.specs.Checks.{AreGood}
use Rattle.hotstart.specs.HotBytes.{value_bytes}
use Rattle.hotstart.specs.Layout.{Field, value, width, widths, number_at, value_at, first_fault, times}
use Rattle.hotstart.specs.WrittenBack.{AreBytes}
use Rattle.hotstart.specs.declared.refusal.Refusal.{Refusal}
use Rattle.hotstart.proofs.CheckLemmas.{first_fault-append}
use Rattle.hotstart.proofs.ColumnLemmas.{widths-append}
use Rattle.hotstart.proofs.EqualLemmas.{later_all}
use Rattle.hotstart.proofs.GoodLemmas.{row_fields}

-- ---- the bytes of a number that was read
low_shift : (i n x : ℕ) → bytes_low_first (suc i) n x ≡ bytes_low_first i n (x / 256)
low_shift i zero x = refl
low_shift i (suc n) x =
    ap (λ (b : ℕ). b ∷ bytes_low_first (suc (suc i)) n x) (byte i)
    ∙ ap (λ (l : List ℕ). byte_at i (x / 256) ∷ l) (low_shift (suc i) n x)
  where
    byte : (j : ℕ) → byte_at (suc j) x ≡ byte_at j (x / 256)
    byte zero = refl
    byte (suc j) =
        ap (λ (p : ℕ). x / p % 256) (pow-succ' 256 (suc j))
        ∙ ap (λ (y : ℕ). y % 256) (sym (div-div-eq-div-mul x 256 (256 ^ suc j)))

bytes_back : (n : ℕ) (xs : List ℕ) → AreBytes xs → n ≤ length xs → little_bytes n (little_number n xs) ≡ take n xs
bytes_back zero xs all h = refl
bytes_back (suc n) [] all h = absurd (omega (arith, h))
bytes_back (suc n) (b ∷ xs) all h =
    let rest = little_number n xs in
    let small : b < 256 = all 0 b (omega arith) in
    let low : (b + 256 * rest) % 256 ≡ b = omega (arith, small) in
    let high : (b + 256 * rest) / 256 ≡ rest = omega (arith, small) in
    ap (λ (r : ℕ). little_bytes (suc n) (b + 256 * r)) (little_from-cons 0 n b xs)
    ∙ ap (λ (x : ℕ). x ∷ bytes_low_first 1 n (b + 256 * rest)) low
    ∙ ap (λ (l : List ℕ). b ∷ l)
    (low_shift 0 n (b + 256 * rest) ∙ ap (little_bytes n) high
    ∙ bytes_back n xs (later_all (λ (x : ℕ). x < 256) b xs all) (omega (arith, h)))

bytes_after : (place : ℕ) (file : List ℕ) → AreBytes file → AreBytes (drop place file)
bytes_after place file bytes k d h =
    subst (λ (b : ℕ). b < 256) (sym (get_or-drop place file k d))
    (bytes (place + k) d (omega (arith, h, length-drop place file)))

byte_small : (xs : List ℕ) → AreBytes xs → (k : ℕ) → slice_index xs k < 256
byte_small [] all k = omega arith
byte_small (x ∷ xs) all zero = all 0 x (omega arith)
byte_small (x ∷ xs) all (suc k) = byte_small xs (later_all (λ (b : ℕ). b < 256) x xs all) k

-- ---- the bytes of fields, by the numbers in a file
abbrev pub spelled : List ℕ → (place : ℕ) → List Field → List ℕ
spelled file place [] = []
spelled file place (field ∷ fields) =
    little_bytes (width field) (number_at file place (width field)) ++ spelled file (place + width field) fields

spelled_is : (file : List ℕ) (place : ℕ) (fields : List Field) → AreBytes file → place + widths fields ≤ length file
    → spelled file place fields ≡ take (widths fields) (drop place file)
spelled_is file place [] bytes h = refl
spelled_is file place (f ∷ fs) bytes h =
    ap (λ (l : List ℕ). l ++ spelled file (place + width f) fs)
    (bytes_back (width f) (drop place file) (bytes_after place file bytes) (omega (arith, h, length-drop place file)))
    ∙ ap (λ (l : List ℕ). take (width f) (drop place file) ++ l)
    (spelled_is file (place + width f) fs bytes (omega (arith, h))
    ∙ ap (take (widths fs)) (sym (drop-drop (width f) place file)))
    ∙ sym (take-add (width f) (widths fs) (drop place file))

-- the fields of a whole file spell it
pub spelled_whole : (file : List ℕ) (fields : List Field) → AreBytes file → widths fields ≡ length file
    → spelled file 0 fields ≡ file
spelled_whole file fields bytes e =
    spelled_is file 0 fields bytes (omega (arith, e)) ∙ take_all (widths fields) file (omega (arith, e))

pub spelled-append : (file : List ℕ) (place : ℕ) (xs ys : List Field)
    → spelled file place (xs ++ ys) ≡ spelled file place xs ++ spelled file (place + widths xs) ys
spelled-append file place [] ys =
    let same : place ≡ place + 0 = omega arith in
    ap (λ (p : ℕ). spelled file p ys) same
spelled-append file place (x ∷ xs) ys =
    let bytes = little_bytes (width x) (number_at file place (width x)) in
    let same : place + width x + widths xs ≡ place + (width x + widths xs) = omega arith in
    ap (λ (l : List ℕ). bytes ++ l) (spelled-append file (place + width x) xs ys
    ∙ ap (λ (p : ℕ). spelled file (place + width x) xs ++ spelled file p ys) same)
    ∙ sym (append_assoc bytes (spelled file (place + width x) xs) (spelled file (place + (width x + widths xs)) ys))

-- ---- so many rows
pub spelled_rows : {A : Type 0} (f : A → List ℕ) (item : ℕ → A) (file : List ℕ) (place : ℕ) (row : List Field)
    (from n : ℕ)
    → ((k : ℕ) → from ≤ k → k < from + n → spelled file (place + widths row * k) row ≡ f (item k))
    → spelled file (place + widths row * from) (times n row) ≡ flat_map f (map item (range_with_len from n))
spelled_rows f item file place row from zero one = refl
spelled_rows f item file place row from (suc n) one =
    let at = place + widths row * from in
    let next : at + widths row ≡ place + widths row * (from + 1) = omega arith in
    spelled-append file at row (times n row)
    ∙ ap (λ (l : List ℕ). l ++ spelled file (at + widths row) (times n row)) (one from (omega arith) (omega arith))
    ∙ ap (λ (p : ℕ). f (item from) ++ spelled file p (times n row)) next
    ∙ ap (λ (l : List ℕ). f (item from) ++ l)
    (spelled_rows f item file place row (from + 1) n (λ k a b. one k (omega (arith, a)) (omega (arith, b))))

-- so many rows, from a place
pub spelled_times : {A : Type 0} (f : A → List ℕ) (item : ℕ → A) (file : List ℕ) (place : ℕ) (row : List Field) (n : ℕ)
    → ((k : ℕ) → k < n → spelled file (place + widths row * k) row ≡ f (item k))
    → spelled file place (times n row) ≡ flat_map f (map item (range_with_len 0 n))
spelled_times f item file place row n one =
    let same : place ≡ place + widths row * 0 = omega arith in
    ap (λ (p : ℕ). spelled file p (times n row)) same
    ∙ spelled_rows f item file place row 0 n (λ k a b. one k (omega (arith, b)))

-- ---- values
append_none : {A : Type 0} (xs : List A) → xs ++ [] ≡ xs
append_none [] = refl
append_none (x ∷ xs) = ap (λ l. x ∷ l) (append_none xs)

value_back : (file : List ℕ) (place : ℕ) → AreBytes file
    → little_bytes 8 (number_at file place 8) ≡ value_bytes (value_at file place)
unfolding value_bytes
value_back file place bytes =
    let small : number_at file place 8 < 2 ^ 64 =
    little_from-lt 0 8 (drop place file) (byte_small (drop place file) (bytes_after place file bytes)) in
    ap (little_bytes 8) (sym (of_z-to_z w64 (number_at file place 8) small))

pub spelled_value : (file : List ℕ) (place : ℕ) (least most : ℤ) → AreBytes file
    → spelled file place (value least most ∷ []) ≡ value_bytes (value_at file place)
spelled_value file place least most bytes =
    append_none (little_bytes 8 (number_at file place 8)) ∙ value_back file place bytes

-- the values of a row, by their numbers
abbrev pub values_from : List ℕ → (place from count : ℕ) → List ℤ
values_from file place from count = map (λ (k : ℕ). value_at file (place + 8 * k)) (range_with_len from count)

spelled_from : (file : List ℕ) (place : ℕ) (rs : List (ℤ × ℤ)) (from : ℕ) → AreBytes file
    → spelled file (place + 8 * from) (row_fields rs) ≡ flat_map value_bytes (values_from file place from (length rs))
spelled_from file place [] from bytes = refl
spelled_from file place (r ∷ rs) from bytes =
    let at = place + 8 * from in
    let next : at + 8 ≡ place + 8 * (from + 1) = omega arith in
    ap (λ (l : List ℕ). l ++ spelled file (at + 8) (row_fields rs)) (value_back file at bytes)
    ∙ ap (λ (p : ℕ). value_bytes (value_at file at) ++ spelled file p (row_fields rs)) next
    ∙ ap (λ (l : List ℕ). value_bytes (value_at file at) ++ l) (spelled_from file place rs (from + 1) bytes)

pub spelled_values : (file : List ℕ) (place : ℕ) (rs : List (ℤ × ℤ)) → AreBytes file
    → spelled file place (row_fields rs) ≡ flat_map value_bytes (values_from file place 0 (length rs))
spelled_values file place rs bytes =
    let same : place ≡ place + 8 * 0 = omega arith in
    ap (λ (p : ℕ). spelled file p (row_fields rs)) same ∙ spelled_from file place rs 0 bytes

-- ---- good fields by their parts
pub or_first : (a b : Option Refusal) → option_or a b ≡ None → a ≡ None
or_first None b e = refl
or_first (Some r) b e = e

pub or_rest : (a b : Option Refusal) → option_or a b ≡ None → b ≡ None
or_rest None b e = e
or_rest (Some r) b e = sym (ap (λ (o : Option Refusal). option_or o b) e) ∙ e

pub good_front : {file : List ℕ} {place next : ℕ} (xs ys : List Field) → AreGood file place (xs ++ ys) next
    → AreGood file place xs (place + widths xs)
good_front {file} {place} {next} xs ys g = record {
  no_fault = or_first (first_fault file place xs) (first_fault file (place + widths xs) ys)
      (sym (first_fault-append file place xs ys) ∙ g.no_fault);
  next_is = refl;
  within = omega (arith, g.next_is, g.within, widths-append xs ys);
}

pub good_rest : {file : List ℕ} {place next : ℕ} (xs ys : List Field) → AreGood file place (xs ++ ys) next
    → AreGood file (place + widths xs) ys next
good_rest {file} {place} {next} xs ys g = record {
  no_fault = or_rest (first_fault file place xs) (first_fault file (place + widths xs) ys)
      (sym (first_fault-append file place xs ys) ∙ g.no_fault);
  next_is = omega (arith, g.next_is, widths-append xs ys);
  within = g.within;
}

pub rows_item : {file : List ℕ} {place next : ℕ} (row : List Field) (n : ℕ) → AreGood file place (times n row) next
    → (k : ℕ) → k < n → AreGood file (place + widths row * k) row (place + widths row * k + widths row)
rows_item row zero g k h = absurd (omega (arith, h))
rows_item {file} {place} row (suc n) g zero h =
    let same : place ≡ place + widths row * 0 = omega arith in
    subst (λ (p : ℕ). AreGood file p row (p + widths row)) same (good_front row (times n row) g)
rows_item {file} {place} row (suc n) g (suc k) h =
    let same : place + widths row + widths row * k ≡ place + widths row * suc k = omega arith in
    subst (λ (p : ℕ). AreGood file p row (p + widths row)) same
    (rows_item {place = place + widths row} row n (good_rest row (times n row) g) k (omega (arith, h)))
