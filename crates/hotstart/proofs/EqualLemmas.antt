-- Two states with equal bytes are equal.
use Rattle.std.proofs.Common.{◌≡◌, ◌∙◌, ℕ, zero, suc, ◌*◌, ◌^◌, ◌<◌, ◌≤◌, List, [], ◌∷◌, ◌++◌}
use Rattle.std.proofs.Common.{length, map, ℤ, pos, ◌≤ℤ◌, FitsSigned, All, refl, sym, ap, subst}
use Rattle.std.proofs.Common.{arith, append_assoc, zip, flat_map, length-append, codes}
use Rattle.std.specs.Int.{w64, cast_signed, cast_unsigned}
use Rattle.std.proofs.lemmas.Int.{ints, to_z-of_z, clamps}
use Rattle.std.proofs.lemmas.List.{append_cancel_left}
use Rattle.byteorder.specs.Endian.{little_number}
use Rattle.byteorder.specs.Numbers.{little_number-reads_back, length-bytes_low_first}
use Rattle.fixed_num.specs.Ranges.{IsWithin, IsBetween}
use Rattle.infiltration.specs.declared.states.InfilState.{InfilState}
use Rattle.infiltration.specs.declared.states.InfilState.TheVariants.{Horton, Number}
use Rattle.net_types.specs.declared.options.InfilKind.{InfilKind}
use Rattle.net_types.specs.declared.options.InfilKind.TheVariants.{ModifiedHorton, CurveNumber}
use Rattle.hotstart.specs.HotBytes.{count_bytes, value_bytes, link_bytes, sub_bytes}
use Rattle.hotstart.specs.HotBytes.{kept, kind_number, header, hot_bytes}
use Rattle.hotstart.specs.HotRanges.{IsHotState, IsHotSub, IsKept, IsKeptSub, IsStateOf, infil_numbers}
use Rattle.hotstart.specs.declared.state.HotState.{HotState}
use Rattle.hotstart.specs.declared.state.HotSub.{HotSub}

-- two pieces of one length in front of equal bytes
pub record SameFront {A B : Type 0} (a b : A) (xs ys : B) : Type 0 where
  pub front : a ≡ b
  pub rest : xs ≡ ys

cut_at : (cs bs xs ys : List ℕ) → length cs ≡ length bs → cs ++ xs ≡ bs ++ ys → SameFront cs bs xs ys
cut_at [] [] xs ys n e = record { front = refl; rest = e }
cut_at [] (b ∷ bs) xs ys n e = absurd (omega (arith, n))
cut_at (a ∷ cs) [] xs ys n e = absurd (omega (arith, n))
cut_at (a ∷ cs) (b ∷ bs) xs ys n e =
    let later = cut_at cs bs xs ys (omega (arith, n)) (cc) in
    let first : a ≡ b = cc in
    record { front = ap (λ (x : ℕ). x ∷ cs) first ∙ ap (λ (l : List ℕ). b ∷ l) later.front; rest = later.rest }

-- ---- counts
pub count_length : (n : ℕ) → length (count_bytes n) ≡ 4
unfolding count_bytes
count_length n = length-bytes_low_first 0 4 n

count_is : (a b : ℕ) → a < 2 ^ 32 → b < 2 ^ 32 → count_bytes a ≡ count_bytes b → a ≡ b
unfolding count_bytes
count_is a b h g e =
    sym (little_number-reads_back 4 a [] h) ∙ ap (λ (l : List ℕ). little_number 4 (l ++ [])) e ∙ little_number-reads_back 4 b [] g

count_front : (a b : ℕ) (xs ys : List ℕ) → a < 2 ^ 32 → b < 2 ^ 32 → count_bytes a ++ xs ≡ count_bytes b ++ ys → SameFront a b xs ys
count_front a b xs ys h g e =
    let cut = cut_at (count_bytes a) (count_bytes b) xs ys (count_length a ∙ sym (count_length b)) e in
    record { front = count_is a b h g cut.front; rest = cut.rest }

-- ---- values
-- a value fits 64 bits
pub record Fits (value : ℤ) : Type 0 where
  pub fits : FitsSigned w64 value

pub within_fits : (m : ℕ) (value : ℤ) → m ≤ 10 ^ 15 → IsWithin m value → Fits value
within_fits m value h w = record { fits = omega (arith, ints, h, w.within) }

pub between_fits : (m : ℕ) (value : ℤ) → m ≤ 10 ^ 15 → IsBetween (pos 0) value (pos m) → Fits value
between_fits m value h b = record { fits = omega (arith, ints, h, b.from, b.to) }

pub value_length : (v : ℤ) → length (value_bytes v) ≡ 8
unfolding value_bytes
value_length v = length-bytes_low_first 0 8 (cast_unsigned w64 v)

value_is : (a b : ℤ) → Fits a → Fits b → value_bytes a ≡ value_bytes b → a ≡ b
unfolding value_bytes
value_is a b f g e =
    let same : cast_unsigned w64 a ≡ cast_unsigned w64 b =
    sym (little_number-reads_back 8 (cast_unsigned w64 a) [] (omega (arith, ints, f.fits))) ∙ ap (λ (l : List ℕ). little_number 8 (l ++ [])) e
    ∙ little_number-reads_back 8 (cast_unsigned w64 b) [] (omega (arith, ints, g.fits)) in
    sym (to_z-of_z w64 a f.fits) ∙ ap (cast_signed w64) same ∙ to_z-of_z w64 b g.fits

value_front : (a b : ℤ) (xs ys : List ℕ) → Fits a → Fits b → value_bytes a ++ xs ≡ value_bytes b ++ ys → SameFront a b xs ys
value_front a b xs ys f g e =
    let cut = cut_at (value_bytes a) (value_bytes b) xs ys (value_length a ∙ sym (value_length b)) e in
    record { front = value_is a b f g cut.front; rest = cut.rest }

pub later_all : {A : Type 0} (P : A → Type 0) (x : A) (xs : List A) → All P (x ∷ xs) → All P xs
later_all P x xs all k d h = all (suc k) d (omega (arith, h))

-- so many values
values_front : (cs bs : List ℤ) (xs ys : List ℕ) → length cs ≡ length bs → All Fits cs → All Fits bs → flat_map value_bytes cs ++ xs ≡ flat_map value_bytes bs ++ ys
    → SameFront cs bs xs ys
values_front [] [] xs ys n f g e = record { front = refl; rest = e }
values_front [] (b ∷ bs) xs ys n f g e = absurd (omega (arith, n))
values_front (a ∷ cs) [] xs ys n f g e = absurd (omega (arith, n))
values_front (a ∷ cs) (b ∷ bs) xs ys n f g e =
    let split = sym (append_assoc (value_bytes a) (flat_map value_bytes cs) xs) ∙ e ∙ append_assoc (value_bytes b) (flat_map value_bytes bs) ys in
    let first = value_front a b (flat_map value_bytes cs ++ xs) (flat_map value_bytes bs ++ ys) (f 0 a (omega arith)) (g 0 b (omega arith)) split in
    let later = values_front cs bs xs ys (omega (arith, n)) (later_all Fits a cs f) (later_all Fits b bs g) first.rest in
    record { front = ap (λ (x : ℤ). x ∷ cs) first.front ∙ ap (λ (l : List ℤ). b ∷ l) later.front; rest = later.rest }

-- the flows and the settings of so many links
pub record SameLinks (f g s t : List ℤ) (xs ys : List ℕ) : Type 0 where
  pub flows : f ≡ g
  pub settings : s ≡ t
  pub after : xs ≡ ys

links_front : (f s g t : List ℤ) (xs ys : List ℕ) → length f ≡ length g → length s ≡ length f → length t ≡ length g → All Fits f → All Fits s → All Fits g → All Fits t
    → flat_map link_bytes (zip f s) ++ xs ≡ flat_map link_bytes (zip g t) ++ ys → SameLinks f g s t xs ys
links_front [] [] [] [] xs ys n m o ff fs fg ft e = record { flows = refl; settings = refl; after = e }
links_front [] (b ∷ s) g t xs ys n m o ff fs fg ft e = absurd (omega (arith, m))
links_front [] [] (b ∷ g) t xs ys n m o ff fs fg ft e = absurd (omega (arith, n))
links_front [] [] [] (b ∷ t) xs ys n m o ff fs fg ft e = absurd (omega (arith, o))
links_front (a ∷ f) [] g t xs ys n m o ff fs fg ft e = absurd (omega (arith, m))
links_front (a ∷ f) (b ∷ s) [] t xs ys n m o ff fs fg ft e = absurd (omega (arith, n))
links_front (a ∷ f) (b ∷ s) (c ∷ g) [] xs ys n m o ff fs fg ft e = absurd (omega (arith, o))
links_front (a ∷ f) (b ∷ s) (c ∷ g) (d ∷ t) xs ys n m o ff fs fg ft e =
    let after_f = flat_map link_bytes (zip f s) ++ xs in
    let after_g = flat_map link_bytes (zip g t) ++ ys in
    let split = sym (append_assoc (value_bytes a) (value_bytes b) after_f) ∙ sym (append_assoc (value_bytes a ++ value_bytes b) (flat_map link_bytes (zip f s)) xs) ∙ e
    ∙ append_assoc (value_bytes c ++ value_bytes d) (flat_map link_bytes (zip g t)) ys ∙ append_assoc (value_bytes c) (value_bytes d) after_g in
    let first = value_front a c (value_bytes b ++ after_f) (value_bytes d ++ after_g) (ff 0 a (omega arith)) (fg 0 c (omega arith)) split in
    let second = value_front b d after_f after_g (fs 0 b (omega arith)) (ft 0 d (omega arith)) first.rest in
    let later = links_front f s g t xs ys (omega (arith, n)) (omega (arith, m)) (omega (arith, o)) (later_all Fits a f ff) (later_all Fits b s fs) (later_all Fits c g fg) (later_all Fits d t ft) second.rest in
    record {
      flows = ap (λ (x : ℤ). x ∷ f) first.front ∙ ap (λ (l : List ℤ). c ∷ l) later.flows;
      settings = ap (λ (x : ℤ). x ∷ s) second.front ∙ ap (λ (l : List ℤ). d ∷ l) later.settings;
      after = later.after;
    }

-- ---- subcatchments
pub kept_same : (value : ℤ) → value ≤ℤ pos (10 ^ 15) → kept value ≡ value
unfolding kept
kept_same value h = omega (arith, ints, clamps)

kept_all : (values : List ℤ) → All (λ value. value ≤ℤ pos (10 ^ 15)) values → map kept values ≡ values
kept_all [] all = refl
kept_all (v ∷ vs) all =
    ap (λ (x : ℤ). x ∷ map kept vs) (kept_same v (all 0 v (omega arith))) ∙ ap (λ (l : List ℤ). v ∷ l) (kept_all vs (later_all (λ value. value ≤ℤ pos (10 ^ 15)) v vs all))

amounts_fit : (values : List ℤ) → All (λ value. pos 0 ≤ℤ value) values → All (λ value. value ≤ℤ pos (10 ^ 15)) values → All Fits values
amounts_fit values low high k d h = let from = low k d h in let to = high k d h in record { fits = omega (arith, ints, from, to) }

-- the numbers of an infiltration tell its state
infil_is : (method : InfilKind) (i j : InfilState) → IsStateOf method i → IsStateOf method j → infil_numbers i ≡ infil_numbers j → i ≡ j
infil_is ModifiedHorton (Horton s) (Horton t) a b e = let above : s.above ≡ t.above = cc in ap (λ (x : ℤ). Horton (record { above = x })) above
infil_is ModifiedHorton (Horton s) (Number t) a b e = absurd b
infil_is ModifiedHorton (Number s) j a b e = absurd a
infil_is CurveNumber (Horton s) j a b e = absurd a
infil_is CurveNumber (Number s) (Horton t) a b e = absurd b
infil_is CurveNumber (Number s) (Number t) a b e =
    let room : s.room ≡ t.room = cc in
    let event_room : s.event_room ≡ t.event_room = cc in
    let rain : s.rain ≡ t.rain = cc in
    let taken : s.taken ≡ t.taken = cc in
    let dry : s.dry ≡ t.dry = cc in
    ap (λ (x : ℤ). Number (record { room = x; event_room = s.event_room; rain = s.rain; taken = s.taken; dry = s.dry })) room
    ∙ ap (λ (x : ℤ). Number (record { room = t.room; event_room = x; rain = s.rain; taken = s.taken; dry = s.dry })) event_room
    ∙ ap (λ (x : ℤ). Number (record { room = t.room; event_room = t.event_room; rain = x; taken = s.taken; dry = s.dry })) rain
    ∙ ap (λ (x : ℤ). Number (record { room = t.room; event_room = t.event_room; rain = t.rain; taken = x; dry = s.dry })) taken
    ∙ ap (λ (x : ℤ). Number (record { room = t.room; event_room = t.event_room; rain = t.rain; taken = t.taken; dry = x })) dry

pub infil_count : (method : InfilKind) (i j : InfilState) → IsStateOf method i → IsStateOf method j → length (infil_numbers i) ≡ length (infil_numbers j)
infil_count ModifiedHorton (Horton s) (Horton t) a b = refl
infil_count ModifiedHorton (Horton s) (Number t) a b = absurd b
infil_count ModifiedHorton (Number s) j a b = absurd a
infil_count CurveNumber (Horton s) j a b = absurd a
infil_count CurveNumber (Number s) (Horton t) a b = absurd b
infil_count CurveNumber (Number s) (Number t) a b = refl

-- a subcatchment, and one with three depths; a state
abbrev pub hot_sub : (depths : List ℤ) (flow : ℤ) (infil : InfilState) → HotSub
hot_sub depths flow infil = record { depths = depths; flow = flow; infil = infil }

abbrev pub three_hot : (d0 d1 d2 flow : ℤ) (infil : InfilState) → HotSub
three_hot d0 d1 d2 flow infil = record { depths = d0 ∷ d1 ∷ d2 ∷ []; flow = flow; infil = infil }

abbrev state_of : InfilKind → (heads flows settings : List ℤ) → (least : ℤ) → (subs : List HotSub) → HotState
state_of kind heads flows settings least subs = record { kind = kind; heads = heads; flows = flows; settings = settings; least = least; subs = subs }

pub row_is : (d0 d1 d2 flow : ℤ) (infil : InfilState) → All (λ value. value ≤ℤ pos (10 ^ 15)) (d0 ∷ d1 ∷ d2 ∷ infil_numbers infil)
    → kept d0 ∷ kept d1 ∷ kept d2 ∷ flow ∷ map kept (infil_numbers infil) ≡ d0 ∷ d1 ∷ d2 ∷ flow ∷ infil_numbers infil
row_is d0 d1 d2 flow infil most =
    ap (λ (x : ℤ). x ∷ kept d1 ∷ kept d2 ∷ flow ∷ map kept (infil_numbers infil)) (kept_same d0 (most 0 d0 (omega arith)))
    ∙ ap (λ (x : ℤ). d0 ∷ x ∷ kept d2 ∷ flow ∷ map kept (infil_numbers infil)) (kept_same d1 (most 1 d1 (omega arith)))
    ∙ ap (λ (x : ℤ). d0 ∷ d1 ∷ x ∷ flow ∷ map kept (infil_numbers infil)) (kept_same d2 (most 2 d2 (omega arith)))
    ∙ ap (λ (l : List ℤ). d0 ∷ d1 ∷ d2 ∷ flow ∷ l) (kept_all (infil_numbers infil) (λ k d h. most (suc (suc (suc k))) d (omega (arith, h))))

pub row_fits : (d0 d1 d2 flow : ℤ) (infil : InfilState) → All (λ value. pos 0 ≤ℤ value) (d0 ∷ d1 ∷ d2 ∷ infil_numbers infil)
    → All (λ value. value ≤ℤ pos (10 ^ 15)) (d0 ∷ d1 ∷ d2 ∷ infil_numbers infil) → IsBetween (pos 0) flow (pos (10 ^ 12)) → All Fits (d0 ∷ d1 ∷ d2 ∷ flow ∷ infil_numbers infil)
row_fits d0 d1 d2 flow infil low high f zero d h = amounts_fit (d0 ∷ d1 ∷ d2 ∷ infil_numbers infil) low high 0 d (omega arith)
row_fits d0 d1 d2 flow infil low high f (suc zero) d h = amounts_fit (d0 ∷ d1 ∷ d2 ∷ infil_numbers infil) low high 1 d (omega arith)
row_fits d0 d1 d2 flow infil low high f (suc (suc zero)) d h = amounts_fit (d0 ∷ d1 ∷ d2 ∷ infil_numbers infil) low high 2 d (omega arith)
row_fits d0 d1 d2 flow infil low high f (suc (suc (suc zero))) d h = between_fits (10 ^ 12) flow (omega arith) f
row_fits d0 d1 d2 flow infil low high f (suc (suc (suc (suc k)))) d h = amounts_fit (d0 ∷ d1 ∷ d2 ∷ infil_numbers infil) low high (suc (suc (suc k))) d (omega (arith, h))

-- the parts of a list of three
pub record IsThree (l : List ℤ) : Type 0 where
  pub one : ℤ
  pub two : ℤ
  pub three : ℤ
  pub is : l ≡ one ∷ two ∷ three ∷ []

pub three_parts : (l : List ℤ) → length l ≡ 3 → IsThree l
three_parts [] h = absurd (omega (arith, h))
three_parts (a ∷ []) h = absurd (omega (arith, h))
three_parts (a ∷ b ∷ []) h = absurd (omega (arith, h))
three_parts (a ∷ b ∷ c ∷ []) h = record { one = a; two = b; three = c; is = refl }
three_parts (a ∷ b ∷ c ∷ d ∷ l) h = absurd (omega (arith, h))

sub_same : (method : InfilKind) (a0 a1 a2 f : ℤ) (i : InfilState) (b0 b1 b2 g : ℤ) (j : InfilState) → IsStateOf method i → IsStateOf method j
    → a0 ∷ a1 ∷ a2 ∷ f ∷ infil_numbers i ≡ b0 ∷ b1 ∷ b2 ∷ g ∷ infil_numbers j
    → three_hot a0 a1 a2 f i ≡ three_hot b0 b1 b2 g j
sub_same method a0 a1 a2 f i b0 b1 b2 g j m n e =
    let e0 : a0 ≡ b0 = cc in
    let e1 : a1 ≡ b1 = cc in
    let e2 : a2 ≡ b2 = cc in
    let ef : f ≡ g = cc in
    let ei : infil_numbers i ≡ infil_numbers j = cc in
    let same : i ≡ j = infil_is method i j m n ei in
    ap (λ (x : ℤ). three_hot x a1 a2 f i) e0 ∙ ap (λ (x : ℤ). three_hot b0 x a2 f i) e1 ∙ ap (λ (x : ℤ). three_hot b0 b1 x f i) e2
    ∙ ap (λ (x : ℤ). three_hot b0 b1 b2 x i) ef ∙ ap (λ (x : InfilState). three_hot b0 b1 b2 g x) same

parts_front : (method : InfilKind) (a0 a1 a2 f : ℤ) (i : InfilState) (b0 b1 b2 g : ℤ) (j : InfilState) (s t : HotSub) (xs ys : List ℕ)
    → s ≡ record { depths = a0 ∷ a1 ∷ a2 ∷ []; flow = f; infil = i } → t ≡ record { depths = b0 ∷ b1 ∷ b2 ∷ []; flow = g; infil = j }
    → IsHotSub method s → IsKeptSub s → IsHotSub method t → IsKeptSub t → sub_bytes s ++ xs ≡ sub_bytes t ++ ys → SameFront s t xs ys
parts_front method a0 a1 a2 f i b0 b1 b2 g j s t xs ys p q hs ks ht kt e =
    let hs3 = subst (IsHotSub method) p hs in
    let ks3 = subst IsKeptSub p ks in
    let ht3 = subst (IsHotSub method) q ht in
    let kt3 = subst IsKeptSub q kt in
    let left : sub_bytes s ≡ flat_map value_bytes (a0 ∷ a1 ∷ a2 ∷ f ∷ infil_numbers i) = ap sub_bytes p ∙ ap (flat_map value_bytes) (row_is a0 a1 a2 f i ks3.most) in
    let right : sub_bytes t ≡ flat_map value_bytes (b0 ∷ b1 ∷ b2 ∷ g ∷ infil_numbers j) = ap sub_bytes q ∙ ap (flat_map value_bytes) (row_is b0 b1 b2 g j kt3.most) in
    let rows = values_front (a0 ∷ a1 ∷ a2 ∷ f ∷ infil_numbers i) (b0 ∷ b1 ∷ b2 ∷ g ∷ infil_numbers j) xs ys
    (omega (arith, infil_count method i j hs3.kind_is ht3.kind_is)) (row_fits a0 a1 a2 f i hs3.depths ks3.most hs3.flow) (row_fits b0 b1 b2 g j ht3.depths kt3.most ht3.flow)
    (sym (ap (λ (l : List ℕ). l ++ xs) left) ∙ e ∙ ap (λ (l : List ℕ). l ++ ys) right) in
    record { front = p ∙ sub_same method a0 a1 a2 f i b0 b1 b2 g j hs3.kind_is ht3.kind_is rows.front ∙ sym q; rest = rows.rest }

sub_front : (method : InfilKind) (s t : HotSub) (xs ys : List ℕ) → IsHotSub method s → IsKeptSub s → IsHotSub method t → IsKeptSub t
    → sub_bytes s ++ xs ≡ sub_bytes t ++ ys → SameFront s t xs ys
sub_front method s t xs ys hs ks ht kt e =
    by_parts (three_parts s.depths ks.three) (three_parts t.depths kt.three)
  where
    by_parts : IsThree s.depths → IsThree t.depths → SameFront s t xs ys
    by_parts p q =
        parts_front method p.one p.two p.three s.flow s.infil q.one q.two q.three t.flow t.infil s t xs ys
        (ap (λ (l : List ℤ). hot_sub l s.flow s.infil) p.is) (ap (λ (l : List ℤ). hot_sub l t.flow t.infil) q.is) hs ks ht kt e

-- so many subcatchments
subs_same : (method : InfilKind) (ss ts : List HotSub) → length ss ≡ length ts → All (IsHotSub method) ss → All IsKeptSub ss → All (IsHotSub method) ts → All IsKeptSub ts
    → flat_map sub_bytes ss ≡ flat_map sub_bytes ts → ss ≡ ts
subs_same method [] [] n hs ks ht kt e = refl
subs_same method [] (t ∷ ts) n hs ks ht kt e = absurd (omega (arith, n))
subs_same method (s ∷ ss) [] n hs ks ht kt e = absurd (omega (arith, n))
subs_same method (s ∷ ss) (t ∷ ts) n hs ks ht kt e =
    let first = sub_front method s t (flat_map sub_bytes ss) (flat_map sub_bytes ts) (hs 0 s (omega arith)) (ks 0 s (omega arith)) (ht 0 t (omega arith)) (kt 0 t (omega arith)) e in
    ap (λ (x : HotSub). x ∷ ss) first.front
    ∙ ap (λ (l : List HotSub). t ∷ l) (subs_same method ss ts (omega (arith, n)) (later_all (IsHotSub method) s ss hs) (later_all IsKeptSub s ss ks)
    (later_all (IsHotSub method) t ts ht) (later_all IsKeptSub t ts kt) first.rest)

-- ---- whole files
kind_same : (a b : InfilKind) → kind_number a ≡ kind_number b → a ≡ b
kind_same ModifiedHorton ModifiedHorton e = refl
kind_same ModifiedHorton CurveNumber e = absurd (omega (arith, e))
kind_same CurveNumber ModifiedHorton e = absurd (omega (arith, e))
kind_same CurveNumber CurveNumber e = refl

pub kind_small : (a : InfilKind) → kind_number a < 2 ^ 32
kind_small ModifiedHorton = omega arith
kind_small CurveNumber = omega arith

-- what follows the header
unfoldable pub body : HotState → List ℕ
body state = flat_map value_bytes state.heads ++ (flat_map link_bytes (zip state.flows state.settings) ++ (value_bytes state.least ++ flat_map sub_bytes state.subs))

pub whole_is : (state : HotState) → hot_bytes state ≡ header state ++ body state
unfolding hot_bytes body
whole_is state =
    append_assoc (header state ++ flat_map value_bytes state.heads) (flat_map link_bytes (zip state.flows state.settings)) (value_bytes state.least ++ flat_map sub_bytes state.subs)
    ∙ append_assoc (header state) (flat_map value_bytes state.heads) (flat_map link_bytes (zip state.flows state.settings) ++ (value_bytes state.least ++ flat_map sub_bytes state.subs))

four_counts : (a b c d : ℕ) → length (flat_map count_bytes (a ∷ b ∷ c ∷ d ∷ [])) ≡ 16
four_counts a b c d =
    omega (
      arith,
      length-append (count_bytes a) (count_bytes b ++ (count_bytes c ++ (count_bytes d ++ []))),
      length-append (count_bytes b) (count_bytes c ++ (count_bytes d ++ [])),
      length-append (count_bytes c) (count_bytes d ++ []),
      length-append (count_bytes d) [],
      count_length a,
      count_length b,
      count_length c,
      count_length d,
    )

-- the counts and the kinds of two headers
pub record SameHeader (s t : HotState) : Type 0 where
  pub nodes : length s.heads ≡ length t.heads
  pub links : length s.flows ≡ length t.flows
  pub subs : length s.subs ≡ length t.subs
  pub kinds : s.kind ≡ t.kind

pub header_length : (s : HotState) → length (header s) ≡ 24
header_length s = omega (
  arith,
  length-append (codes "SWMMFXH2") (flat_map count_bytes (length s.heads ∷ length s.flows ∷ length s.subs ∷ kind_number s.kind ∷ [])),
  four_counts (length s.heads) (length s.flows) (length s.subs) (kind_number s.kind),
)

headers_same : (s t : HotState) → IsHotState s → IsHotState t → header s ≡ header t → SameHeader s t
headers_same s t hs ht e =
    let counts = append_cancel_left (codes "SWMMFXH2") (flat_map count_bytes (length s.heads ∷ length s.flows ∷ length s.subs ∷ kind_number s.kind ∷ []))
    (flat_map count_bytes (length t.heads ∷ length t.flows ∷ length t.subs ∷ kind_number t.kind ∷ [])) e in
    let first = count_front (length s.heads) (length t.heads) _ _ (omega (arith, hs.few_nodes)) (omega (arith, ht.few_nodes)) counts in
    let second = count_front (length s.flows) (length t.flows) _ _ (omega (arith, hs.few_links)) (omega (arith, ht.few_links)) first.rest in
    let third = count_front (length s.subs) (length t.subs) _ _ (omega (arith, hs.few_subs)) (omega (arith, ht.few_subs)) second.rest in
    let last = count_front (kind_number s.kind) (kind_number t.kind) [] [] (kind_small s.kind) (kind_small t.kind) third.rest in
    record { nodes = first.front; links = second.front; subs = third.front; kinds = kind_same s.kind t.kind last.front }

pub within_all : (m : ℕ) (values : List ℤ) → m ≤ 10 ^ 15 → All (IsWithin m) values → All Fits values
within_all m values h all k d g = within_fits m _ h (all k d g)

pub between_all : (m : ℕ) (values : List ℤ) → m ≤ 10 ^ 15 → All (λ v. IsBetween (pos 0) v (pos m)) values → All Fits values
between_all m values h all k d g = between_fits m _ h (all k d g)

bodies_same : (s t : HotState) → IsKept s → IsKept t → SameHeader s t → body s ≡ body t → s ≡ t
unfolding body
bodies_same s t ks kt same e =
    let hs = ks.written in
    let ht = kt.written in
    let heads = values_front s.heads t.heads _ _ same.nodes (within_all (2 * 10 ^ 10) s.heads (omega arith) hs.heads) (within_all (2 * 10 ^ 10) t.heads (omega arith) ht.heads) e in
    let links = links_front s.flows s.settings t.flows t.settings _ _ same.links hs.as_many ht.as_many
    (within_all (10 ^ 12) s.flows (omega arith) hs.flows) (between_all (10 ^ 6) s.settings (omega arith) hs.settings)
    (within_all (10 ^ 12) t.flows (omega arith) ht.flows) (between_all (10 ^ 6) t.settings (omega arith) ht.settings) heads.rest in
    let least = value_front s.least t.least (flat_map sub_bytes s.subs) (flat_map sub_bytes t.subs) (between_fits 3_600_000 s.least (omega arith) hs.least)
    (between_fits 3_600_000 t.least (omega arith) ht.least) links.after in
    let subs = subs_same s.kind s.subs t.subs same.subs hs.subs ks.subs (subst (λ (m : InfilKind). All (IsHotSub m) t.subs) (sym same.kinds) ht.subs) kt.subs least.rest in
    ap (λ (x : InfilKind). state_of x s.heads s.flows s.settings s.least s.subs) same.kinds
    ∙ ap (λ (x : List ℤ). state_of t.kind x s.flows s.settings s.least s.subs) heads.front
    ∙ ap (λ (x : List ℤ). state_of t.kind t.heads x s.settings s.least s.subs) links.flows
    ∙ ap (λ (x : List ℤ). state_of t.kind t.heads t.flows x s.least s.subs) links.settings
    ∙ ap (λ (x : ℤ). state_of t.kind t.heads t.flows t.settings x s.subs) least.front
    ∙ ap (λ (x : List HotSub). state_of t.kind t.heads t.flows t.settings t.least x) subs

pub states_same : (s t : HotState) → IsKept s → IsKept t → hot_bytes s ≡ hot_bytes t → s ≡ t
states_same s t ks kt e =
    let cut = cut_at (header s) (header t) (body s) (body t) (header_length s ∙ sym (header_length t)) (sym (whole_is s) ∙ e ∙ whole_is t) in
    bodies_same s t ks kt (headers_same s t ks.written kt.written cut.front) cut.rest
