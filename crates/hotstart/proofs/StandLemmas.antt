-- Where bytes stand in a file, and what is read there.
use Rattle.std.proofs.Common.{◌≡◌, ◌∙◌, ℕ, zero, suc, ◌+◌, ◌*◌, ◌^◌, ◌<◌, ◌≤◌, List, [], ◌∷◌, ◌++◌, length, drop, get_or}
use Rattle.std.proofs.Common.{ℤ, pos, All, refl, sym, ap, subst, arith, append_assoc, zip, flat_map, length-append}
use Rattle.std.specs.Int.{w64, cast_signed, cast_unsigned}
use Rattle.std.proofs.lemmas.Int.{ints, to_z-of_z}
use Rattle.std.proofs.lemmas.List.FromFn.{fill_by_all}
use Rattle.std.proofs.lemmas.Slice.Zip.{get_or-zip, length-zip}
use Rattle.std.proofs.Math.Seq.{drop-append_seam}
use Rattle.byteorder.specs.Endian.{little_bytes, little_number}
use Rattle.byteorder.specs.Numbers.{little_number-reads_back}
use Rattle.hotstart.specs.HotBytes.{count_bytes, value_bytes, link_bytes}
use Rattle.hotstart.specs.Layout.{number_at, value_at}
use Rattle.hotstart.specs.Reading.{column}
use Rattle.hotstart.proofs.EqualLemmas.{Fits, value_length, later_all}

-- these bytes stand in a file from a place
pub record Stands (file : List ℕ) (place : ℕ) (bytes : List ℕ) : Type 0 where
  pub before : List ℕ
  pub after : List ℕ
  pub is : file ≡ before ++ (bytes ++ after)
  pub count : length before ≡ place

pub stands_whole : (file : List ℕ) → Stands file 0 file
stands_whole file = record { before = []; after = []; is = append_none file; count = refl }
  where
    append_none : (xs : List ℕ) → xs ≡ xs ++ []
    append_none [] = refl
    append_none (x ∷ xs) = ap (λ l. x ∷ l) (append_none xs)

-- the front of what stands there, and the rest
pub stands_front : {file : List ℕ} {place : ℕ} (xs ys : List ℕ) → Stands file place (xs ++ ys) → Stands file place xs
stands_front xs ys s = record {
  before = s.before;
  after = ys ++ s.after;
  is = s.is ∙ ap (λ (l : List ℕ). s.before ++ l) (append_assoc xs ys s.after);
  count = s.count;
}

pub stands_rest : {file : List ℕ} {place next : ℕ} (xs ys : List ℕ) → Stands file place (xs ++ ys)
    → next ≡ place + length xs → Stands file next ys
stands_rest {file} {place} {next} xs ys s e = record {
  before = s.before ++ xs;
  after = s.after;
  is = s.is ∙ ap (λ (l : List ℕ). s.before ++ l) (append_assoc xs ys s.after)
      ∙ sym (append_assoc s.before xs (ys ++ s.after));
  count = omega (arith, length-append s.before xs, s.count, e);
}

-- what stands there lies within the file
pub stands_within : {file : List ℕ} {place : ℕ} (bytes : List ℕ) → Stands file place bytes
    → place + length bytes ≤ length file
stands_within {file} {place} bytes s =
    omega (arith, ap length s.is, length-append s.before (bytes ++ s.after), length-append bytes s.after, s.count)

-- one of so many pieces of one width
pub stands_item : {A : Type 0} (f : A → List ℕ) (wide : ℕ) {file : List ℕ} {place : ℕ} (xs : List A)
    → All (λ (x : A). length (f x) ≡ wide) xs
    → Stands file place (flat_map f xs) → (k : ℕ) (d : A) → k < length xs
    → Stands file (place + wide * k) (f (get_or xs k d))
stands_item f wide [] all s k d h = absurd (omega (arith, h))
stands_item f wide {file} {place} (x ∷ xs) all s zero d h =
    let same : place ≡ place + wide * 0 = omega arith in
    subst (λ (p : ℕ). Stands file p (f x)) same (stands_front (f x) (flat_map f xs) s)
stands_item {A} f wide {file} {place} (x ∷ xs) all s (suc k) d h =
    let first : length (f x) ≡ wide = all 0 x (omega arith) in
    let rest = stands_rest {next = place + wide} (f x) (flat_map f xs) s (omega (arith, first)) in
    let same : place + wide + wide * k ≡ place + wide * suc k = omega arith in
    subst (λ (p : ℕ). Stands file p (f (get_or xs k d))) same
    (stands_item f wide {place = place + wide} xs (later_all (λ (y : A). length (f y) ≡ wide) x xs all) rest k d (omega (arith, h)))

-- ---- numbers
pub number_stands : {file : List ℕ} {place : ℕ} (bytes n : ℕ) → Stands file place (little_bytes bytes n)
    → n < 256 ^ bytes → number_at file place bytes ≡ n
number_stands {file} {place} bytes n s h =
    let split : drop (length s.before) (s.before ++ (little_bytes bytes n ++ s.after)) ≡ little_bytes bytes n ++ s.after =
    drop-append_seam s.before (little_bytes bytes n ++ s.after) in
    let there : drop place file ≡ little_bytes bytes n ++ s.after =
    ap (λ (p : ℕ). drop p file) (sym s.count) ∙ ap (drop (length s.before)) s.is ∙ split in
    ap (little_number bytes) there ∙ little_number-reads_back bytes n s.after h

pub count_stands : {file : List ℕ} {place : ℕ} (n : ℕ) → Stands file place (count_bytes n) → n < 2 ^ 32
    → number_at file place 4 ≡ n
unfolding count_bytes
count_stands n s h = number_stands 4 n s h

pub value_stands : {file : List ℕ} {place : ℕ} (v : ℤ) → Stands file place (value_bytes v) → Fits v
    → value_at file place ≡ v
unfolding value_bytes
value_stands v s f =
    ap (cast_signed w64) (number_stands 8 (cast_unsigned w64 v) s (omega (arith, ints, f.fits)))
    ∙ to_z-of_z w64 v f.fits

-- ---- columns
pub values_wide : (vs : List ℤ) → All (λ (v : ℤ). length (value_bytes v) ≡ 8) vs
values_wide vs k d h = value_length (get_or vs k d)

pub column_stands : {file : List ℕ} {place : ℕ} (vs : List ℤ) (count : ℕ) → Stands file place (flat_map value_bytes vs)
    → length vs ≡ count → All Fits vs → vs ≡ column file place 8 count
column_stands {file} {place} vs count s n fits =
    fill_by_all (λ (k : ℕ). value_at file (place + 8 * k)) vs count (pos 0) n
    (λ k h. let inside : k < length vs = omega (arith, h, n) in
    sym (value_stands (get_or vs k (pos 0)) (stands_item value_bytes 8 vs (values_wide vs) s k (pos 0) inside)
    (fits k (pos 0) inside)))

-- the flows and the settings of links
pub link_length : (link : ℤ × ℤ) → length (link_bytes link) ≡ 16
link_length link =
    omega (arith, length-append (value_bytes link.0) (value_bytes link.1), value_length link.0, value_length link.1)

pub link_stands : {file : List ℕ} {place : ℕ} (flows settings : List ℤ)
    → Stands file place (flat_map link_bytes (zip flows settings)) → length settings ≡ length flows
    → (k : ℕ) → k < length flows
    → Stands file (place + 16 * k) (value_bytes (get_or flows k (pos 0)) ++ value_bytes (get_or settings k (pos 0)))
link_stands {file} {place} flows settings s same k h =
    let inside : k < length (zip flows settings) = omega (arith, h, same, length-zip flows settings) in
    let pair = get_or-zip flows settings k (pos 0, pos 0) h (omega (arith, h, same)) in
    subst (λ (l : ℤ × ℤ). Stands file (place + 16 * k) (link_bytes l)) pair
    (stands_item link_bytes 16 (zip flows settings) (λ j d g. link_length (get_or (zip flows settings) j d)) s k
    (pos 0, pos 0) inside)

pub flows_stand : {file : List ℕ} {place : ℕ} (flows settings : List ℤ) (count : ℕ)
    → Stands file place (flat_map link_bytes (zip flows settings)) → length settings ≡ length flows
    → length flows ≡ count → All Fits flows → flows ≡ column file place 16 count
flows_stand {file} {place} flows settings count s same n fits =
    fill_by_all (λ (k : ℕ). value_at file (place + 16 * k)) flows count (pos 0) n
    (λ k h. let inside : k < length flows = omega (arith, h, n) in
    let there = link_stands flows settings s same k inside in
    sym (value_stands (get_or flows k (pos 0)) (stands_front (value_bytes (get_or flows k (pos 0)))
    (value_bytes (get_or settings k (pos 0))) there) (fits k (pos 0) inside)))

pub settings_stand : {file : List ℕ} {place next : ℕ} (flows settings : List ℤ) (count : ℕ)
    → Stands file place (flat_map link_bytes (zip flows settings)) → length settings ≡ length flows
    → length flows ≡ count → next ≡ place + 8 → All Fits settings → settings ≡ column file next 16 count
settings_stand {file} {place} {next} flows settings count s same n e fits =
    fill_by_all (λ (k : ℕ). value_at file (next + 16 * k)) settings count (pos 0) (omega (arith, same, n))
    (λ k h. let inside : k < length flows = omega (arith, h, n) in
    let there = link_stands flows settings s same k inside in
    let flow = get_or flows k (pos 0) in
    let there_too = stands_rest {next = next + 16 * k} (value_bytes flow) (value_bytes (get_or settings k (pos 0))) there
    (omega (arith, e, value_length flow)) in
    sym (value_stands (get_or settings k (pos 0)) there_too (fits k (pos 0) (omega (arith, inside, same)))))
