-- What good fields say of the subcatchments in a file.
use Rattle.std.proofs.Common.{◌≡◌, ◌∙◌, ℕ, zero, suc, ◌+◌, ◌*◌, ◌^◌, ◌<◌, List, [], ◌∷◌, length, ℤ, pos, ◌≤ℤ◌, All}
use Rattle.std.proofs.Common.{◌++◌, map, refl, sym, ap, subst, arith, flat_map}
use Rattle.std.specs.List.{range_with_len}
use Rattle.fixed_num.specs.Lists.{list_of}
use Rattle.fixed_num.specs.Ranges.{IsBetween}
use Rattle.infiltration.specs.declared.states.InfilState.{InfilState}
use Rattle.infiltration.specs.declared.states.InfilState.TheVariants.{Horton, Number}
use Rattle.net_types.specs.declared.options.InfilKind.{InfilKind}
use Rattle.net_types.specs.declared.options.InfilKind.TheVariants.{ModifiedHorton, CurveNumber}
use Rattle.hotstart.specs.Checks.{AreGood}
use Rattle.hotstart.specs.HotBytes.{sub_bytes, value_bytes}
use Rattle.hotstart.specs.HotRanges.{IsHotSub, IsKeptSub, IsStateOf, infil_numbers}
use Rattle.hotstart.specs.Layout.{Field, sub_fields, times, value_at, widths}
use Rattle.hotstart.specs.Reading.{sub_at, sub_width}
use Rattle.hotstart.specs.WrittenBack.{AreBytes}
use Rattle.hotstart.specs.declared.state.HotSub.{HotSub}
use Rattle.hotstart.proofs.EqualLemmas.{row_is, three_hot}
use Rattle.hotstart.proofs.FoundLemmas.{all_listed, value_between}
use Rattle.hotstart.proofs.GoodLemmas.{AreIn, row_fields}
use Rattle.hotstart.proofs.SpelledLemmas.{good_front, good_rest, rows_item, spelled, spelled_times, spelled_values}
use Rattle.hotstart.proofs.SpelledLemmas.{values_from}

-- ---- the values of a row lie in their ranges
in_from : {file : List ℕ} (place : ℕ) (rs : List (ℤ × ℤ)) (from : ℕ) {next : ℕ}
    → AreGood file (place + 8 * from) (row_fields rs) next → AreIn (values_from file place from (length rs)) rs
in_from place [] from g = tt
in_from {file} place (r ∷ rs) from {next} g =
    let same : place + 8 * from + 8 ≡ place + 8 * (from + 1) = omega arith in
    let rest = good_rest (row_fields (r ∷ [])) (row_fields rs) g in (
      value_between r.0 r.1 (good_front (row_fields (r ∷ [])) (row_fields rs) g),
      in_from place rs (from + 1) (subst (λ (p : ℕ). AreGood file p (row_fields rs) next) same rest),
    )

row_in : {file : List ℕ} {place next : ℕ} (rs : List (ℤ × ℤ)) → AreGood file place (row_fields rs) next
    → AreIn (values_from file place 0 (length rs)) rs
row_in {file} {place} {next} rs g =
    let same : place ≡ place + 8 * 0 = omega arith in
    in_from place rs 0 (subst (λ (p : ℕ). AreGood file p (row_fields rs) next) same g)

-- ---- a subcatchment by its values
abbrev deep : ℤ × ℤ
deep = (pos 0, pos (10 ^ 15))

abbrev ranges_of : InfilKind → List (ℤ × ℤ)
ranges_of ModifiedHorton = deep ∷ deep ∷ deep ∷ (pos 0, pos (10 ^ 12)) ∷ deep ∷ []
ranges_of CurveNumber = deep ∷ deep ∷ deep ∷ (pos 0, pos (10 ^ 12)) ∷ deep ∷ deep ∷ deep ∷ deep ∷ deep ∷ []

abbrev by_value : InfilKind → (ℕ → ℤ) → InfilState
by_value ModifiedHorton v = Horton (record { above = v 4 })
by_value CurveNumber v =
    Number (record { room = v 4; event_room = v 5; rain = v 6; taken = v 7; dry = v 8 })

abbrev by_values : InfilKind → (ℕ → ℤ) → HotSub
by_values method v = three_hot (v 0) (v 1) (v 2) (v 3) (by_value method v)

abbrev value_of : List ℕ → (place : ℕ) → ℕ → ℤ
value_of file place k = value_at file (place + 8 * k)

sub_is : (method : InfilKind) (file : List ℕ) (place : ℕ)
    → sub_at method file place ≡ by_values method (value_of file place)
sub_is ModifiedHorton file place =
    let first : place ≡ place + 8 * 0 = omega arith in
    ap (λ (p : ℕ). three_hot (value_at file p) (value_at file (place + 8)) (value_at file (place + 16))
    (value_at file (place + 24)) (by_value ModifiedHorton (value_of file place))) first
sub_is CurveNumber file place =
    let first : place ≡ place + 8 * 0 = omega arith in
    let event_room : place + 32 + 8 ≡ place + 8 * 5 = omega arith in
    let rain : place + 32 + 16 ≡ place + 8 * 6 = omega arith in
    let taken : place + 32 + 24 ≡ place + 8 * 7 = omega arith in
    let dry : place + 32 + 32 ≡ place + 8 * 8 = omega arith in
    same first event_room rain taken dry
  where
    v : ℕ → ℤ
    v = value_at file

    same : {a b c d e f g h i j : ℕ} → a ≡ b → c ≡ d → e ≡ f → g ≡ h → i ≡ j
        → three_hot (value_at file a) (value_at file (place + 8)) (value_at file (place + 16)) (value_at file (place + 24))
        (Number (record {
          room = value_at file (place + 32);
          event_room = value_at file c;
          rain = value_at file e;
          taken = value_at file g;
          dry = value_at file i;
        }))
        ≡ three_hot (value_at file b) (value_at file (place + 8)) (value_at file (place + 16)) (value_at file (place + 24))
        (Number (record {
          room = value_at file (place + 32);
          event_room = value_at file d;
          rain = value_at file f;
          taken = value_at file h;
          dry = value_at file j;
        }))
    same p q r s t = cc

-- ---- its ranges
record Deep (v : ℤ) : Type 0 where
  low : pos 0 ≤ℤ v
  high : v ≤ℤ pos (10 ^ 15)

is_deep : {v : ℤ} → IsBetween (pos 0) v (pos (10 ^ 15)) → Deep v
is_deep b = record { low = b.from; high = b.to }

all_none : All Deep []
all_none k d h = absurd (omega (arith, h))

all_with : (v : ℤ) (vs : List ℤ) → Deep v → All Deep vs → All Deep (v ∷ vs)
all_with v vs p all zero d h = p
all_with v vs p all (suc k) d h = all k d (omega (arith, h))

three_with : (a b c : ℤ) (vs : List ℤ) → Deep a → Deep b → Deep c → All Deep vs → All Deep (a ∷ b ∷ c ∷ vs)
three_with a b c vs p q r all = all_with a (b ∷ c ∷ vs) p (all_with b (c ∷ vs) q (all_with c vs r all))

record Found (method : InfilKind) (sub : HotSub) : Type 0 where
  pub hot : IsHotSub method sub
  pub held : IsKeptSub sub

found : (method : InfilKind) (sub : HotSub) → length sub.depths ≡ 3 → IsStateOf method sub.infil
    → IsBetween (pos 0) sub.flow (pos (10 ^ 12)) → All Deep (sub.depths ++ infil_numbers sub.infil) → Found method sub
found method sub three kinds flow all = record {
  hot = record { depths = λ k d h. (all k d h).low; flow = flow; kind_is = kinds };
  held = record { three = three; most = λ k d h. (all k d h).high };
}

values_found : (method : InfilKind) (v : ℕ → ℤ)
    → AreIn (map v (range_with_len 0 (length (ranges_of method)))) (ranges_of method)
    → Found method (by_values method v)
values_found ModifiedHorton v a =
    found ModifiedHorton (by_values ModifiedHorton v) refl tt a.1.1.1.0
    (three_with (v 0) (v 1) (v 2) (v 4 ∷ []) (is_deep a.0) (is_deep a.1.0) (is_deep a.1.1.0)
    (all_with (v 4) [] (is_deep a.1.1.1.1.0) all_none))
values_found CurveNumber v a =
    let dry = all_with (v 8) [] (is_deep a.1.1.1.1.1.1.1.1.0) all_none in
    let taken = all_with (v 7) (v 8 ∷ []) (is_deep a.1.1.1.1.1.1.1.0) dry in
    found CurveNumber (by_values CurveNumber v) refl tt a.1.1.1.0
    (three_with (v 0) (v 1) (v 2) (v 4 ∷ v 5 ∷ v 6 ∷ v 7 ∷ v 8 ∷ []) (is_deep a.0) (is_deep a.1.0) (is_deep a.1.1.0)
    (three_with (v 4) (v 5) (v 6) (v 7 ∷ v 8 ∷ []) (is_deep a.1.1.1.1.0) (is_deep a.1.1.1.1.1.0)
    (is_deep a.1.1.1.1.1.1.0) taken))

fields_are : (method : InfilKind) → sub_fields method ≡ row_fields (ranges_of method)
fields_are ModifiedHorton = refl
fields_are CurveNumber = refl

sub_found : {file : List ℕ} {place next : ℕ} (method : InfilKind) → AreGood file place (sub_fields method) next
    → Found method (sub_at method file place)
sub_found {file} {place} {next} method g =
    subst (Found method) (sym (sub_is method file place))
    (values_found method (value_of file place)
    (row_in (ranges_of method) (subst (λ (l : List Field). AreGood file place l next) (fields_are method) g)))

-- ---- its bytes
row_bytes : (method : InfilKind) (v : ℕ → ℤ) → Found method (by_values method v)
    → flat_map value_bytes (map v (range_with_len 0 (length (ranges_of method)))) ≡ sub_bytes (by_values method v)
row_bytes ModifiedHorton v f =
    ap (flat_map value_bytes) (sym (row_is (v 0) (v 1) (v 2) (v 3) (by_value ModifiedHorton v) f.held.most))
row_bytes CurveNumber v f =
    ap (flat_map value_bytes) (sym (row_is (v 0) (v 1) (v 2) (v 3) (by_value CurveNumber v) f.held.most))

sub_spelled : (file : List ℕ) (place : ℕ) (method : InfilKind) → AreBytes file → Found method (sub_at method file place)
    → spelled file place (sub_fields method) ≡ sub_bytes (sub_at method file place)
sub_spelled file place method bytes f =
    let found_too = subst (Found method) (sub_is method file place) f in
    ap (spelled file place) (fields_are method) ∙ spelled_values file place (ranges_of method) bytes
    ∙ row_bytes method (value_of file place) found_too ∙ ap sub_bytes (sym (sub_is method file place))

-- ---- all subcatchments
wide : (method : InfilKind) → widths (sub_fields method) ≡ sub_width method
wide ModifiedHorton = refl
wide CurveNumber = refl

item_found : {file : List ℕ} {place next : ℕ} (method : InfilKind) (n : ℕ)
    → AreGood file place (times n (sub_fields method)) next → (k : ℕ) → k < n
    → Found method (sub_at method file (place + sub_width method * k))
item_found {file} {place} method n g k h =
    subst (λ (w : ℕ). Found method (sub_at method file (place + w * k))) (wide method)
    (sub_found method (rows_item (sub_fields method) n g k h))

pub hot_subs : {file : List ℕ} {place next : ℕ} (method : InfilKind) (n : ℕ)
    → AreGood file place (times n (sub_fields method)) next
    → All (IsHotSub method) (list_of (λ k. sub_at method file (place + sub_width method * k)) n)
hot_subs {file} {place} method n g =
    all_listed (IsHotSub method) (λ k. sub_at method file (place + sub_width method * k)) n
    (λ k h. (item_found method n g k h).hot)

pub held_subs : {file : List ℕ} {place next : ℕ} (method : InfilKind) (n : ℕ)
    → AreGood file place (times n (sub_fields method)) next
    → All IsKeptSub (list_of (λ k. sub_at method file (place + sub_width method * k)) n)
held_subs {file} {place} method n g =
    all_listed IsKeptSub (λ k. sub_at method file (place + sub_width method * k)) n
    (λ k h. (item_found method n g k h).held)

pub subs_spelled : {file : List ℕ} {place next : ℕ} (method : InfilKind) (n : ℕ) → AreBytes file
    → AreGood file place (times n (sub_fields method)) next
    → spelled file place (times n (sub_fields method))
    ≡ flat_map sub_bytes (list_of (λ k. sub_at method file (place + sub_width method * k)) n)
subs_spelled {file} {place} method n bytes g =
    spelled_times sub_bytes (λ k. sub_at method file (place + sub_width method * k)) file place (sub_fields method) n one
  where
    one : (k : ℕ) → k < n → spelled file (place + widths (sub_fields method) * k) (sub_fields method)
        ≡ sub_bytes (sub_at method file (place + sub_width method * k))
    one k h =
        let same : place + widths (sub_fields method) * k ≡ place + sub_width method * k =
        ap (λ (w : ℕ). place + w * k) (wide method) in
        ap (λ (p : ℕ). spelled file p (sub_fields method)) same
        ∙ sub_spelled file (place + sub_width method * k) method bytes (item_found method n g k h)
