-- Bytes that stand where they should have no fault.
use Rattle.std.proofs.Common.{◌≡◌, ◌∙◌, ℕ, zero, suc, ◌+◌, ◌*◌, ◌^◌, ◌<◌, ◌≤◌, ◌==◌, ◌&&◌, ◌||◌, ◌%◌, nat_lt, Bool, true, false, cond}
use Rattle.std.proofs.Common.{List, [], ◌∷◌, ◌++◌, length, map, codes, Option, Some, None, ℤ, ◌≤ℤ◌, int_le}
use Rattle.std.proofs.Common.{All, refl, sym, ap, subst, arith, flat_map}
use Rattle.std.proofs.Math.Nat.{mod-eq_of_lt}
use Rattle.std.specs.Int.{w64, cast_signed, cast_unsigned}
use Rattle.std.specs.Option.{option_or}
use Rattle.std.proofs.lemmas.Bool.Decides.{nat_tests}
use Rattle.std.proofs.lemmas.Int.{ints, to_z-of_z}
use Rattle.byteorder.specs.Endian.{little_bytes}
use Rattle.byteorder.specs.Numbers.{length-bytes_low_first}
use Rattle.fixed_num.specs.Ranges.{IsBetween}
use Rattle.hotstart.specs.Checks.{AreGood}
use Rattle.hotstart.specs.HotBytes.{count_bytes, value_bytes}
use Rattle.hotstart.specs.Layout.{Field, letter, version, count, kind, value, width, number_at, number_fault}
use Rattle.hotstart.specs.Layout.{field_fault, magic, times}
use Rattle.hotstart.specs.declared.refusal.Refusal.{Refusal}
use Rattle.hotstart.specs.declared.refusal.Refusal.TheVariants.{BadMagic, BadValue, Count, Ends, Kind}
use Rattle.hotstart.proofs.CheckLemmas.{good_none, good_then}
use Rattle.hotstart.proofs.EqualLemmas.{Fits, value_length, later_all}
use Rattle.hotstart.proofs.StandLemmas.{Stands, number_stands, stands_front, stands_rest, stands_within}

-- a field whose number is good
field_good : {file : List ℕ} {place next : ℕ} (field : Field) (n : ℕ)
    → Stands file place (little_bytes (width field) n) → n < 256 ^ width field
    → number_fault field place n ≡ None → next ≡ place + width field → AreGood file place (field ∷ []) next
field_good {file} {place} {next} field n s h ok e =
    let long = stands_within (little_bytes (width field) n) s in
    let room : place + width field ≤ length file = omega (arith, long, length-bytes_low_first 0 (width field) n) in
    let whole : nat_lt (length file) (place + width field) ≡ false = grind (arith, nat_tests) in
    let reads = number_stands (width field) n s h in
    let none : field_fault file place field ≡ None =
    ap (λ (b : Bool). cond b (Some (Ends (length file))) (number_fault field place
    (number_at file place (width field)))) whole
    ∙ ap (number_fault field place) reads ∙ ok in
    record {
      no_fault = ap (λ (o : Option Refusal). option_or o None) none;
      next_is = omega (arith, e);
      within = omega (arith, room, e);
    }

-- ---- the magic word
letter_good : {file : List ℕ} {place next : ℕ} (b : ℕ) → b < 256 → Stands file place (b ∷ []) → next ≡ place + 1
    → AreGood file place (letter b ∷ []) next
letter_good {file} {place} b h s e =
    let one : b % 256 ≡ b = mod-eq_of_lt h in
    let itself : (b == b) ≡ true = grind (arith, nat_tests) in
    field_good (letter b) b (subst (λ (x : ℕ). Stands file place (x ∷ [])) (sym one) s) h
    (ap (λ (t : Bool). cond t None (Some (BadMagic place))) itself) e

letters_good : {file : List ℕ} {place next : ℕ} (bs : List ℕ) → All (λ (b : ℕ). b < 256) bs → Stands file place bs
    → next ≡ place + length bs → AreGood file place (map letter bs) next
letters_good {file} {place} {next} [] all s e =
    let within = stands_within [] s in
    let same : place ≡ next = omega (arith, e) in
    subst (λ (p : ℕ). AreGood file place [] p) same (good_none file place (omega (arith, within)))
letters_good {file} {place} {next} (b ∷ bs) all s e =
    let first = letter_good {next = place + 1} b (all 0 b (omega arith)) (stands_front (b ∷ []) bs s) refl in
    let rest = letters_good {place = place + 1} {next = next} bs (later_all (λ (x : ℕ). x < 256) b bs all)
    (stands_rest (b ∷ []) bs s refl) (omega (arith, e)) in
    good_then first rest

version_good : {file : List ℕ} {place next : ℕ} (b : ℕ) → b < 256 → (b == 49 || b == 50) ≡ true
    → Stands file place (b ∷ []) → next ≡ place + 1 → AreGood file place (version ∷ []) next
version_good {file} {place} b h ok s e =
    let one : b % 256 ≡ b = mod-eq_of_lt h in
    field_good version b (subst (λ (x : ℕ). Stands file place (x ∷ [])) (sym one) s) h
    (ap (λ (t : Bool). cond t None (Some (BadMagic place))) ok) e

pub magic_good : {file : List ℕ} (b : ℕ) → b < 256 → (b == 49 || b == 50) ≡ true
    → Stands file 0 (codes "SWMMFXH" ++ b ∷ []) → AreGood file 0 magic 8
magic_good {file} b h ok s =
    let bytes : All (λ (x : ℕ). x < 256) (codes "SWMMFXH") = list_bytes in
    good_then (letters_good {next = 7} (codes "SWMMFXH") bytes (stands_front (codes "SWMMFXH") (b ∷ []) s) refl)
    (version_good b h ok (stands_rest (codes "SWMMFXH") (b ∷ []) s refl) refl)
  where
    list_bytes : All (λ (x : ℕ). x < 256) (codes "SWMMFXH")
    list_bytes zero d h = omega arith
    list_bytes (suc zero) d h = omega arith
    list_bytes (suc (suc zero)) d h = omega arith
    list_bytes (suc (suc (suc zero))) d h = omega arith
    list_bytes (suc (suc (suc (suc zero)))) d h = omega arith
    list_bytes (suc (suc (suc (suc (suc zero))))) d h = omega arith
    list_bytes (suc (suc (suc (suc (suc (suc zero)))))) d h = omega arith
    list_bytes (suc (suc (suc (suc (suc (suc (suc k))))))) d h = absurd (omega (arith, h))

-- ---- counts and the kind
pub count_good : {file : List ℕ} {place next : ℕ} (what own n : ℕ) → Stands file place (count_bytes n) → n < 2 ^ 32
    → n ≡ own → next ≡ place + 4 → AreGood file place (count what own ∷ []) next
unfolding count_bytes
count_good {file} {place} what own n s h same e =
    let test : (n == own) ≡ true = grind (arith, nat_tests) in
    field_good (count what own) n s h (ap (λ (t : Bool). cond t None (Some (Count what n own))) test) e

pub kind_good : {file : List ℕ} {place next : ℕ} (own n : ℕ) → Stands file place (count_bytes n) → n < 2 ^ 32
    → n ≡ own → next ≡ place + 4 → AreGood file place (kind own ∷ []) next
unfolding count_bytes
kind_good {file} {place} own n s h same e =
    let test : (n == own) ≡ true = grind (arith, nat_tests) in
    field_good (kind own) n s h (ap (λ (t : Bool). cond t None (Some (Kind n own))) test) e

-- ---- values
in_range : (least v most : ℤ) → least ≤ℤ v → v ≤ℤ most → (int_le least v && int_le v most) ≡ true
in_range least v most low high = grind (arith, ints)

pub value_good : {file : List ℕ} {place next : ℕ} (least most v : ℤ) → Stands file place (value_bytes v) → Fits v
    → IsBetween least v most → next ≡ place + 8 → AreGood file place (value least most ∷ []) next
unfolding value_bytes
value_good {file} {place} least most v s f h e =
    let back : cast_signed w64 (cast_unsigned w64 v) ≡ v = to_z-of_z w64 v f.fits in
    let test = in_range least v most h.from h.to in
    let tested : (int_le least (cast_signed w64 (cast_unsigned w64 v))
    && int_le (cast_signed w64 (cast_unsigned w64 v)) most) ≡ true =
    ap (λ (x : ℤ). int_le least x && int_le x most) back ∙ test in
    field_good (value least most) (cast_unsigned w64 v) s (omega (arith, ints, f.fits))
    (ap (λ (t : Bool). cond t None (Some (BadValue place))) tested) e

-- the values of a row lie within these
abbrev pub AreIn : List ℤ → List (ℤ × ℤ) → Type 0
AreIn [] [] = Unit {0}
AreIn [] (r ∷ rs) = ⊥
AreIn (v ∷ vs) [] = ⊥
AreIn (v ∷ vs) (r ∷ rs) = IsBetween r.0 v r.1 × AreIn vs rs

abbrev pub row_fields : List (ℤ × ℤ) → List Field
row_fields rs = map (λ (r : ℤ × ℤ). value r.0 r.1) rs

pub row_good : {file : List ℕ} {place next : ℕ} (vs : List ℤ) (rs : List (ℤ × ℤ)) → AreIn vs rs → All Fits vs
    → Stands file place (flat_map value_bytes vs) → next ≡ place + 8 * length vs
    → AreGood file place (row_fields rs) next
row_good {file} {place} {next} [] [] h f s e =
    let within = stands_within [] s in
    let same : place ≡ next = omega (arith, e) in
    subst (λ (p : ℕ). AreGood file place [] p) same (good_none file place (omega (arith, within)))
row_good [] (r ∷ rs) h f s e = absurd h
row_good (v ∷ vs) [] h f s e = absurd h
row_good {file} {place} {next} (v ∷ vs) (r ∷ rs) h f s e =
    let first = value_good {next = place + 8} r.0 r.1 v (stands_front (value_bytes v) (flat_map value_bytes vs) s)
    (f 0 v (omega arith)) h.0 refl in
    let rest = row_good {place = place + 8} {next = next} vs rs h.1 (later_all Fits v vs f)
    (stands_rest (value_bytes v) (flat_map value_bytes vs) s (omega (arith, value_length v))) (omega (arith, e)) in
    good_then first rest

-- so many rows of one width
pub rows_good : {A : Type 0} (P : A → Type 0) (f : A → List ℕ) (row : List Field) (wide : ℕ) {file : List ℕ}
    {place next : ℕ} (xs : List A)
    → ((p : ℕ) (x : A) → P x → Stands file p (f x) → AreGood file p row (p + wide))
    → All P xs → All (λ (x : A). length (f x) ≡ wide) xs
    → Stands file place (flat_map f xs) → next ≡ place + wide * length xs
    → AreGood file place (times (length xs) row) next
rows_good P f row wide {file} {place} {next} [] one good long s e =
    let within = stands_within [] s in
    let same : place ≡ next = omega (arith, e) in
    subst (λ (p : ℕ). AreGood file place [] p) same (good_none file place (omega (arith, within)))
rows_good {A} P f row wide {file} {place} {next} (x ∷ xs) one good long s e =
    let width_is : length (f x) ≡ wide = long 0 x (omega arith) in
    let first = one place x (good 0 x (omega arith)) (stands_front (f x) (flat_map f xs) s) in
    let rest = rows_good P f row wide {place = place + wide} {next = next} xs one (later_all P x xs good)
    (later_all (λ (y : A). length (f y) ≡ wide) x xs long)
    (stands_rest (f x) (flat_map f xs) s (omega (arith, width_is))) (omega (arith, e)) in
    good_then first rest
