-- A subcatchment that stands in a file.
use Rattle.std.proofs.Common.{◌≡◌, ◌∙◌, ℕ, suc, ◌+◌, ◌*◌, ◌^◌, ◌<◌, List, [], ◌∷◌, length, map, get_or}
use Rattle.std.proofs.Common.{ℤ, pos, ◌≤ℤ◌, All, refl, sym, ap, subst, arith, flat_map, length-append}
use Rattle.fixed_num.specs.Ranges.{IsBetween}
use Rattle.infiltration.specs.declared.states.InfilState.{InfilState}
use Rattle.infiltration.specs.declared.states.InfilState.TheVariants.{Horton, Number}
use Rattle.net_types.specs.declared.options.InfilKind.{InfilKind}
use Rattle.net_types.specs.declared.options.InfilKind.TheVariants.{ModifiedHorton, CurveNumber}
use Rattle.hotstart.specs.Checks.{AreGood}
use Rattle.hotstart.specs.HotBytes.{kept, sub_bytes, sub_row, value_bytes}
use Rattle.hotstart.specs.HotRanges.{IsHotSub, IsKeptSub, IsStateOf, infil_numbers}
use Rattle.hotstart.specs.Layout.{sub_fields, value_at}
use Rattle.hotstart.specs.Reading.{infil_at, sub_at, sub_width}
use Rattle.hotstart.specs.declared.state.HotSub.{HotSub}
use Rattle.hotstart.proofs.EqualLemmas.{Fits, IsThree, hot_sub, later_all, row_fits, row_is, three_hot, three_parts}
use Rattle.hotstart.proofs.GoodLemmas.{row_good}
use Rattle.hotstart.proofs.StandLemmas.{Stands, stands_item, value_stands, values_wide}

-- the bytes of so many pieces of one width
pub wide_length : {A : Type 0} (f : A → List ℕ) (wide : ℕ) (xs : List A) → All (λ (x : A). length (f x) ≡ wide) xs
    → length (flat_map f xs) ≡ wide * length xs
wide_length f wide [] all = omega arith
wide_length {A} f wide (x ∷ xs) all =
    let first : length (f x) ≡ wide = all 0 x (omega arith) in
    omega (
      arith,
      first,
      length-append (f x) (flat_map f xs),
      wide_length f wide xs (later_all (λ (y : A). length (f y) ≡ wide) x xs all),
    )

pub values_length : (vs : List ℤ) → length (flat_map value_bytes vs) ≡ 8 * length vs
values_length vs = wide_length value_bytes 8 vs (values_wide vs)

-- a value of a row that stands in a file
value_in : {file : List ℕ} {place : ℕ} (vs : List ℤ) → Stands file place (flat_map value_bytes vs) → All Fits vs
    → (k next : ℕ) → k < length vs → next ≡ place + 8 * k → value_at file next ≡ get_or vs k (pos 0)
value_in {file} vs s fits k next h e =
    ap (value_at file) e
    ∙ value_stands (get_or vs k (pos 0)) (stands_item value_bytes 8 vs (values_wide vs) s k (pos 0) h)
    (fits k (pos 0) h)

-- the state of an infiltration
infil_read : {file : List ℕ} {place : ℕ} (method : InfilKind) (d0 d1 d2 flow : ℤ) (i : InfilState)
    → IsStateOf method i → Stands file place (flat_map value_bytes (d0 ∷ d1 ∷ d2 ∷ flow ∷ infil_numbers i))
    → All Fits (d0 ∷ d1 ∷ d2 ∷ flow ∷ infil_numbers i) → infil_at method file (place + 32) ≡ i
infil_read {file} {place} ModifiedHorton d0 d1 d2 flow (Horton s) k st fits =
    ap (λ (x : ℤ). Horton (record { above = x }))
    (value_in (d0 ∷ d1 ∷ d2 ∷ flow ∷ s.above ∷ []) st fits 4 (place + 32) (omega arith) (omega arith))
infil_read ModifiedHorton d0 d1 d2 flow (Number s) k st fits = absurd k
infil_read CurveNumber d0 d1 d2 flow (Horton s) k st fits = absurd k
infil_read {file} {place} CurveNumber d0 d1 d2 flow (Number s) k st fits =
    let row = d0 ∷ d1 ∷ d2 ∷ flow ∷ s.room ∷ s.event_room ∷ s.rain ∷ s.taken ∷ s.dry ∷ [] in
    let room = value_in row st fits 4 (place + 32) (omega arith) (omega arith) in
    let event_room = value_in row st fits 5 (place + 32 + 8) (omega arith) (omega arith) in
    let rain = value_in row st fits 6 (place + 32 + 16) (omega arith) (omega arith) in
    let taken = value_in row st fits 7 (place + 32 + 24) (omega arith) (omega arith) in
    let dry = value_in row st fits 8 (place + 32 + 32) (omega arith) (omega arith) in
    same room event_room rain taken dry
  where
    same : {a b c d e f g h i j : ℤ} → a ≡ b → c ≡ d → e ≡ f → g ≡ h → i ≡ j
        → Number (record { room = a; event_room = c; rain = e; taken = g; dry = i })
        ≡ Number (record { room = b; event_room = d; rain = f; taken = h; dry = j })
    same p q r s t = cc

sub_read_by : {file : List ℕ} {place : ℕ} (method : InfilKind) (d0 d1 d2 flow : ℤ) (i : InfilState)
    → IsStateOf method i → Stands file place (flat_map value_bytes (d0 ∷ d1 ∷ d2 ∷ flow ∷ infil_numbers i))
    → All Fits (d0 ∷ d1 ∷ d2 ∷ flow ∷ infil_numbers i) → sub_at method file place ≡ three_hot d0 d1 d2 flow i
sub_read_by {file} {place} method d0 d1 d2 flow i k st fits =
    let row = d0 ∷ d1 ∷ d2 ∷ flow ∷ infil_numbers i in
    let first = value_in row st fits 0 place (omega arith) (omega arith) in
    let second = value_in row st fits 1 (place + 8) (omega arith) (omega arith) in
    let third = value_in row st fits 2 (place + 16) (omega arith) (omega arith) in
    let fourth = value_in row st fits 3 (place + 24) (omega arith) (omega arith) in
    let infil = infil_read method d0 d1 d2 flow i k st fits in
    same first second third fourth infil
  where
    same : {a b c d e f g h : ℤ} {x y : InfilState} → a ≡ b → c ≡ d → e ≡ f → g ≡ h → x ≡ y
        → three_hot a c e g x ≡ three_hot b d f h y
    same p q r s t = cc

-- ---- a subcatchment by its parts
record Parts (method : InfilKind) (file : List ℕ) (place : ℕ) (sub : HotSub) : Type 0 where
  d0 : ℤ
  d1 : ℤ
  d2 : ℤ
  is : sub ≡ three_hot d0 d1 d2 sub.flow sub.infil
  stands : Stands file place (flat_map value_bytes (d0 ∷ d1 ∷ d2 ∷ sub.flow ∷ infil_numbers sub.infil))
  fits : All Fits (d0 ∷ d1 ∷ d2 ∷ sub.flow ∷ infil_numbers sub.infil)
  low : All (λ value. pos 0 ≤ℤ value) (d0 ∷ d1 ∷ d2 ∷ infil_numbers sub.infil)
  high : All (λ value. value ≤ℤ pos (10 ^ 15)) (d0 ∷ d1 ∷ d2 ∷ infil_numbers sub.infil)

parts_of : (method : InfilKind) (file : List ℕ) (place : ℕ) (sub : HotSub) → IsHotSub method sub → IsKeptSub sub
    → Stands file place (sub_bytes sub) → Parts method file place sub
parts_of method file place sub hot held s = by_parts (three_parts sub.depths held.three)
  where
    by_parts : IsThree sub.depths → Parts method file place sub
    by_parts p =
        let is : sub ≡ three_hot p.one p.two p.three sub.flow sub.infil =
        ap (λ (l : List ℤ). hot_sub l sub.flow sub.infil) p.is in
        let hot3 = subst (IsHotSub method) is hot in
        let held3 = subst IsKeptSub is held in
        let bytes : sub_bytes sub
        ≡ flat_map value_bytes (p.one ∷ p.two ∷ p.three ∷ sub.flow ∷ infil_numbers sub.infil) =
        ap sub_bytes is ∙ ap (flat_map value_bytes) (row_is p.one p.two p.three sub.flow sub.infil held3.most) in
        record {
          d0 = p.one;
          d1 = p.two;
          d2 = p.three;
          is = is;
          stands = subst (Stands file place) bytes s;
          fits = row_fits p.one p.two p.three sub.flow sub.infil hot3.depths held3.most hot3.flow;
          low = hot3.depths;
          high = held3.most;
        }

pub sub_read : (method : InfilKind) (file : List ℕ) (place : ℕ) (sub : HotSub) → IsHotSub method sub → IsKeptSub sub
    → Stands file place (sub_bytes sub) → sub_at method file place ≡ sub
sub_read method file place sub hot held s =
    let p = parts_of method file place sub hot held s in
    sub_read_by method p.d0 p.d1 p.d2 sub.flow sub.infil hot.kind_is p.stands p.fits ∙ sym p.is

-- its fields
abbrev deep : ℤ × ℤ
deep = (pos 0, pos (10 ^ 15))

between : (xs : List ℤ) → All (λ value. pos 0 ≤ℤ value) xs → All (λ value. value ≤ℤ pos (10 ^ 15)) xs
    → (k : ℕ) → k < length xs → IsBetween (pos 0) (get_or xs k (pos 0)) (pos (10 ^ 15))
between xs low high k h = record { from = low k (pos 0) h; to = high k (pos 0) h }

fields_good : {file : List ℕ} {place : ℕ} (method : InfilKind) (d0 d1 d2 flow : ℤ) (i : InfilState)
    → IsStateOf method i → Stands file place (flat_map value_bytes (d0 ∷ d1 ∷ d2 ∷ flow ∷ infil_numbers i))
    → All Fits (d0 ∷ d1 ∷ d2 ∷ flow ∷ infil_numbers i)
    → ((k : ℕ) → k < length (d0 ∷ d1 ∷ d2 ∷ infil_numbers i)
    → IsBetween (pos 0) (get_or (d0 ∷ d1 ∷ d2 ∷ infil_numbers i) k (pos 0)) (pos (10 ^ 15)))
    → IsBetween (pos 0) flow (pos (10 ^ 12)) → AreGood file place (sub_fields method) (place + sub_width method)
fields_good {file} {place} ModifiedHorton d0 d1 d2 flow (Horton s) k st fits b fl =
    row_good {file = file} {place = place} (d0 ∷ d1 ∷ d2 ∷ flow ∷ s.above ∷ [])
    (deep ∷ deep ∷ deep ∷ (pos 0, pos (10 ^ 12)) ∷ deep ∷ [])
    (b 0 (omega arith), (b 1 (omega arith), (b 2 (omega arith), (fl, (b 3 (omega arith), tt))))) fits st (omega arith)
fields_good ModifiedHorton d0 d1 d2 flow (Number s) k st fits b fl = absurd k
fields_good CurveNumber d0 d1 d2 flow (Horton s) k st fits b fl = absurd k
fields_good {file} {place} CurveNumber d0 d1 d2 flow (Number s) k st fits b fl =
    row_good {file = file} {place = place}
    (d0 ∷ d1 ∷ d2 ∷ flow ∷ s.room ∷ s.event_room ∷ s.rain ∷ s.taken ∷ s.dry ∷ [])
    (deep ∷ deep ∷ deep ∷ (pos 0, pos (10 ^ 12)) ∷ deep ∷ deep ∷ deep ∷ deep ∷ deep ∷ []) (
      b 0 (omega arith),
      (
        b 1 (omega arith),
        (
          b 2 (omega arith),
          (
            fl,
            (
              b 3 (omega arith),
              (
                b 4 (omega arith),
                (b 5 (omega arith), (b 6 (omega arith), (b 7 (omega arith), tt))),
              ),
            ),
          ),
        ),
      ),
    ) fits st (omega arith)

pub sub_good : (method : InfilKind) (file : List ℕ) (place : ℕ) (sub : HotSub) → IsHotSub method sub → IsKeptSub sub
    → Stands file place (sub_bytes sub) → AreGood file place (sub_fields method) (place + sub_width method)
sub_good method file place sub hot held s =
    let p = parts_of method file place sub hot held s in
    fields_good method p.d0 p.d1 p.d2 sub.flow sub.infil hot.kind_is p.stands p.fits
    (between (p.d0 ∷ p.d1 ∷ p.d2 ∷ infil_numbers sub.infil) p.low p.high) hot.flow

-- its bytes are as many as its kind says
pub sub_length : (method : InfilKind) (sub : HotSub) → IsStateOf method sub.infil
    → length (sub_bytes sub) ≡ sub_width method
sub_length method sub h = values_length (sub_row sub) ∙ by_kind method sub.infil h
  where
    by_kind : (m : InfilKind) (i : InfilState) → IsStateOf m i
        → 8 * suc (suc (suc (suc (length (map kept (infil_numbers i)))))) ≡ sub_width m
    by_kind ModifiedHorton (Horton s) k = refl
    by_kind ModifiedHorton (Number s) k = absurd k
    by_kind CurveNumber (Horton s) k = absurd k
    by_kind CurveNumber (Number s) k = refl
