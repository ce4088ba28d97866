-- What good fields say of the numbers in a file.
use Rattle.std.proofs.Common.{◌≡◌, ◌∙◌, ℕ, zero, suc, ◌+◌, ◌*◌, ◌^◌, ◌<◌, ◌==◌, ◌||◌, ◌&&◌, nat_lt, Bool, true, false}
use Rattle.std.proofs.Common.{cond, List, [], ◌∷◌, ◌++◌, length, map, slice_index, drop, codes, Option, Some, None}
use Rattle.std.proofs.Common.{ℤ, pos, neg_ℤ, ◌≤ℤ◌, int_le, All, refl, sym, ap, subst, arith, zip, flat_map}
use Rattle.std.specs.List.{range_with_len}
use Rattle.std.proofs.lemmas.Bool.Decides.{nat_tests}
use Rattle.std.proofs.lemmas.Int.{ints}
use Rattle.std.proofs.lemmas.List.{get_or-drop}
use Rattle.std.proofs.lemmas.List.FromFn.{get_or-map-range_with_len, length-map-range_with_len}
use Rattle.byteorder.specs.Endian.{little_bytes}
use Rattle.fixed_num.specs.Lists.{list_of}
use Rattle.fixed_num.specs.Ranges.{IsBetween, IsFlow, IsHead, IsPart}
use Rattle.infiltration.specs.declared.states.InfilState.{InfilState}
use Rattle.infiltration.specs.declared.states.InfilState.TheVariants.{Horton, Number}
use Rattle.net_types.specs.declared.options.InfilKind.{InfilKind}
use Rattle.net_types.specs.declared.options.InfilKind.TheVariants.{ModifiedHorton, CurveNumber}
use Rattle.hotstart.specs.Checks.{AreGood}
use Rattle.hotstart.specs.HotBytes.{count_bytes, link_bytes, sub_bytes, value_bytes}
use Rattle.hotstart.specs.HotRanges.{IsHotSub, IsKeptSub}
use Rattle.hotstart.specs.Layout.{Field, letter, version, count, kind, value, width, number_at, number_fault, value_at}
use Rattle.hotstart.specs.Layout.{first_fault, field_fault, head_fields, link_fields, is_old, sub_fields, times}
use Rattle.hotstart.specs.Reading.{column, infil_at, sub_at}
use Rattle.hotstart.specs.WrittenBack.{AreBytes}
use Rattle.hotstart.specs.declared.refusal.Refusal.{Refusal}
use Rattle.hotstart.specs.declared.refusal.Refusal.TheVariants.{BadMagic, BadValue, Count, Ends, Kind}
use Rattle.hotstart.specs.declared.state.HotSub.{HotSub}
use Rattle.hotstart.proofs.EqualLemmas.{row_is, three_hot}
use Rattle.hotstart.proofs.GoodLemmas.{AreIn, row_fields}
use Rattle.hotstart.proofs.SpelledLemmas.{good_front, good_rest, or_first, rows_item, spelled, spelled-append}
use Rattle.hotstart.proofs.SpelledLemmas.{spelled_times, spelled_value, spelled_values, values_from}

-- ---- one field
distinct : {r : Refusal} → Some r ≡ None → ⊥
distinct e = cc

-- a test that refuses was passed
after_test : (b : Bool) (r : Refusal) (o : Option Refusal) → cond b (Some r) o ≡ None → o ≡ None
after_test true r o e = absurd (distinct e)
after_test false r o e = e

clear_test : (b : Bool) (r : Refusal) → cond b None (Some r) ≡ None → b ≡ true
clear_test true r e = refl
clear_test false r e = absurd (distinct e)

field_clear : {file : List ℕ} {place next : ℕ} (field : Field) → AreGood file place (field ∷ []) next
    → number_fault field place (number_at file place (width field)) ≡ None
field_clear {file} {place} field g =
    after_test (nat_lt (length file) (place + width field)) (Ends (length file))
    (number_fault field place (number_at file place (width field)))
    (or_first (field_fault file place field) None g.no_fault)

append_none : {A : Type 0} (xs : List A) → xs ++ [] ≡ xs
append_none [] = refl
append_none (x ∷ xs) = ap (λ l. x ∷ l) (append_none xs)

-- ---- the magic word
letter_is : {file : List ℕ} {place next : ℕ} (b : ℕ) → AreGood file place (letter b ∷ []) next
    → number_at file place 1 ≡ b
letter_is {file} {place} b g =
    let test : (number_at file place 1 == b) ≡ true =
    clear_test (number_at file place 1 == b) (BadMagic place) (field_clear (letter b) g) in
    grind (arith, nat_tests, test)

letters_spelled : {file : List ℕ} {place next : ℕ} (bs : List ℕ) → AreGood file place (map letter bs) next
    → spelled file place (map letter bs) ≡ flat_map (little_bytes 1) bs
letters_spelled [] g = refl
letters_spelled {file} {place} (b ∷ bs) g =
    let first = letter_is b (good_front (letter b ∷ []) (map letter bs) g) in
    let rest = letters_spelled {place = place + 1} bs (good_rest (letter b ∷ []) (map letter bs) g) in
    ap (λ (n : ℕ). little_bytes 1 n ++ spelled file (place + 1) (map letter bs)) first
    ∙ ap (λ (l : List ℕ). little_bytes 1 b ++ l) rest

version_is : (file : List ℕ) (old : Bool) → AreGood file 7 (version ∷ []) 8 → is_old file ≡ old
    → number_at file 7 1 ≡ cond old 49 50
version_is file old g e =
    let n = number_at file 7 1 in
    let there : number_at file 7 1 ≡ slice_index file 7 = omega (arith, get_or-drop 7 file 0 0) in
    let test : (number_at file 7 1 == 49 || number_at file 7 1 == 50) ≡ true =
    clear_test (number_at file 7 1 == 49 || number_at file 7 1 == 50) (BadMagic 7) (field_clear version g) in
    by_test n (slice_index file 7) there test old e
  where
    by_test : (n m : ℕ) → n ≡ m → (n == 49 || n == 50) ≡ true → (b : Bool) → (m == 49) ≡ b → n ≡ cond b 49 50
    by_test n m same test true first = grind (arith, nat_tests, same, first)
    by_test n m same test false first = grind (arith, nat_tests, same, test, first)

pub magic_spelled : (file : List ℕ) (old : Bool) → AreGood file 0 (map letter (codes "SWMMFXH") ++ version ∷ []) 8
    → is_old file ≡ old
    → spelled file 0 (map letter (codes "SWMMFXH") ++ version ∷ []) ≡ codes "SWMMFXH" ++ cond old 49 50 ∷ []
magic_spelled file old g e =
    let letters = good_front (map letter (codes "SWMMFXH")) (version ∷ []) g in
    let last = good_rest (map letter (codes "SWMMFXH")) (version ∷ []) g in
    spelled-append file 0 (map letter (codes "SWMMFXH")) (version ∷ [])
    ∙ ap (λ (l : List ℕ). l ++ spelled file 7 (version ∷ [])) (letters_spelled (codes "SWMMFXH") letters)
    ∙ ap (λ (n : ℕ). codes "SWMMFXH" ++ little_bytes 1 n) (version_is file old last e)
    ∙ small old
  where
    small : (b : Bool) → codes "SWMMFXH" ++ little_bytes 1 (cond b 49 50) ≡ codes "SWMMFXH" ++ cond b 49 50 ∷ []
    small true = refl
    small false = refl

-- ---- counts and the kind
pub count_spelled : {file : List ℕ} {place next : ℕ} (what own : ℕ) → AreGood file place (count what own ∷ []) next
    → little_bytes 4 (number_at file place 4) ≡ count_bytes own
unfolding count_bytes
count_spelled {file} {place} what own g =
    let n = number_at file place 4 in
    let test : (number_at file place 4 == own) ≡ true =
    clear_test (n == own) (Count what n own) (field_clear (count what own) g) in
    let same : number_at file place 4 ≡ own = grind (arith, nat_tests, test) in
    ap (little_bytes 4) same

pub kind_spelled : {file : List ℕ} {place next : ℕ} (own : ℕ) → AreGood file place (kind own ∷ []) next
    → little_bytes 4 (number_at file place 4) ≡ count_bytes own
unfolding count_bytes
kind_spelled {file} {place} own g =
    let n = number_at file place 4 in
    let test : (number_at file place 4 == own) ≡ true =
    clear_test (n == own) (Kind n own) (field_clear (kind own) g) in
    let same : number_at file place 4 ≡ own = grind (arith, nat_tests, test) in
    ap (little_bytes 4) same

-- ---- values
pub value_between : {file : List ℕ} {place next : ℕ} (least most : ℤ) → AreGood file place (value least most ∷ []) next
    → IsBetween least (value_at file place) most
value_between {file} {place} least most g =
    in_range least (value_at file place) most
    (clear_test (int_le least (value_at file place) && int_le (value_at file place) most) (BadValue place)
    (field_clear (value least most) g))
  where
    in_range : (l v m : ℤ) → (int_le l v && int_le v m) ≡ true → IsBetween l v m
    in_range l v m test =
        let low : l ≤ℤ v = grind (arith, ints, test) in
        let high : v ≤ℤ m = grind (arith, ints, test) in
        record { from = low; to = high }

pub all_listed : {A : Type 0} (P : A → Type 0) (f : ℕ → A) (n : ℕ) → ((k : ℕ) → k < n → P (f k))
    → All P (list_of f n)
all_listed P f n one k d h =
    let inside : k < n = omega (arith, h, length-map-range_with_len f 0 n) in
    let zero_and : 0 + k ≡ k = omega arith in
    subst P (sym (get_or-map-range_with_len f 0 n k k d inside zero_and)) (one k inside)

zip_maps : {A B : Type 0} (f : ℕ → A) (g : ℕ → B) (ns : List ℕ)
    → zip (map f ns) (map g ns) ≡ map (λ (k : ℕ). (f k, g k)) ns
zip_maps f g [] = refl
zip_maps f g (n ∷ ns) = ap (λ l. (f n, g n) ∷ l) (zip_maps f g ns)

-- ---- heads
pub heads_in : {file : List ℕ} {place next : ℕ} (n : ℕ) → AreGood file place (times n head_fields) next
    → All IsHead (column file place 8 n)
heads_in {file} {place} n g =
    all_listed IsHead (λ k. value_at file (place + 8 * k)) n one
  where
    one : (k : ℕ) → k < n → IsHead (value_at file (place + 8 * k))
    one k h =
        let b = value_between (neg_ℤ (pos (2 * 10 ^ 10))) (pos (2 * 10 ^ 10)) (rows_item head_fields n g k h) in
        record { within = omega (arith, ints, b.from, b.to) }

pub heads_spelled : (file : List ℕ) (place n : ℕ) → AreBytes file
    → spelled file place (times n head_fields) ≡ flat_map value_bytes (column file place 8 n)
heads_spelled file place n bytes =
    spelled_times value_bytes (λ k. value_at file (place + 8 * k)) file place head_fields n
    (λ k h. spelled_value file (place + 8 * k) (neg_ℤ (pos (2 * 10 ^ 10))) (pos (2 * 10 ^ 10)) bytes)

-- ---- links
abbrev flow_fields : List Field
flow_fields = value (neg_ℤ (pos (10 ^ 12))) (pos (10 ^ 12)) ∷ []

abbrev setting_fields : List Field
setting_fields = value (pos 0) (pos (10 ^ 6)) ∷ []

pub flows_in : {file : List ℕ} {place next : ℕ} (n : ℕ) → AreGood file place (times n link_fields) next
    → All IsFlow (column file place 16 n)
flows_in {file} {place} n g =
    all_listed IsFlow (λ k. value_at file (place + 16 * k)) n one
  where
    one : (k : ℕ) → k < n → IsFlow (value_at file (place + 16 * k))
    one k h =
        let item = good_front flow_fields setting_fields (rows_item link_fields n g k h) in
        let b = value_between (neg_ℤ (pos (10 ^ 12))) (pos (10 ^ 12)) item in
        record { within = omega (arith, ints, b.from, b.to) }

pub settings_in : {file : List ℕ} {place next : ℕ} (after n : ℕ) → after ≡ place + 8
    → AreGood file place (times n link_fields) next → All IsPart (column file after 16 n)
settings_in {file} {place} after n e g =
    all_listed IsPart (λ k. value_at file (after + 16 * k)) n one
  where
    one : (k : ℕ) → k < n → IsPart (value_at file (after + 16 * k))
    one k h =
        let item = good_rest flow_fields setting_fields (rows_item link_fields n g k h) in
        let same : place + 16 * k + 8 ≡ after + 16 * k = omega (arith, e) in
        subst (λ (p : ℕ). IsPart (value_at file p)) same (value_between (pos 0) (pos (10 ^ 6)) item)

pub links_spelled : (file : List ℕ) (place after n : ℕ) → AreBytes file → after ≡ place + 8
    → spelled file place (times n link_fields)
    ≡ flat_map link_bytes (zip (column file place 16 n) (column file after 16 n))
links_spelled file place after n bytes e =
    spelled_times link_bytes (λ k. (value_at file (place + 16 * k), value_at file (after + 16 * k))) file place
    link_fields n one
    ∙ ap (flat_map link_bytes) (sym (zip_maps (λ k. value_at file (place + 16 * k))
    (λ k. value_at file (after + 16 * k)) (range_with_len 0 n)))
  where
    one : (k : ℕ) → k < n → spelled file (place + 16 * k) link_fields
        ≡ value_bytes (value_at file (place + 16 * k)) ++ value_bytes (value_at file (after + 16 * k))
    one k h =
        let at = place + 16 * k in
        let same : at + 8 ≡ after + 16 * k = omega (arith, e) in
        spelled-append file at flow_fields setting_fields
        ∙ ap (λ (l : List ℕ). l ++ spelled file (at + 8) setting_fields)
        (spelled_value file at (neg_ℤ (pos (10 ^ 12))) (pos (10 ^ 12)) bytes)
        ∙ ap (λ (l : List ℕ). value_bytes (value_at file at) ++ l)
        (spelled_value file (at + 8) (pos 0) (pos (10 ^ 6)) bytes)
        ∙ ap (λ (p : ℕ). value_bytes (value_at file at) ++ value_bytes (value_at file p)) same
