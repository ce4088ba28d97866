-- Pairs without a fault: what they mean, and that their first values rise.
use Rattle.std.proofs.Common.{◌≡◌, ◌∷◌, ◌++◌, [], ◌≤◌, ◌<◌, length, ℕ, ◌+◌, ◌-◌, ◌*◌, ◌%◌, ◌==◌, ◌||◌, List, Bool, true, false, cond}
use Rattle.std.proofs.Common.{Option, Some, None, refl, ap, ap₂, sym, ◌∙◌, subst, arith, ℤ, pos, ◌<ℤ◌, ◌≤ℤ◌, option_to_list}
use Rattle.std.proofs.Common.{append_assoc, append-nil, length-append, get_or, ◌⊎◌, inl, inr}
use Rattle.std.specs.List.{All, last_or}
use Rattle.std.specs.Option.{option_map, option_or}
use Rattle.std.proofs.lemmas.Bool.Decides.{nat_tests}
use Rattle.std.proofs.lemmas.Int.{ints}
use Rattle.std.proofs.lemmas.List.{get_or_append_left, get_or-append_right}
use Rattle.std.proofs.lemmas.List.Elements.{All-nil, All-cons, All-append}
use Rattle.fixed_num.proofs.DecimalLemmas.{IsStored-scaled_of, IsStored-unique}
use Rattle.net_types.specs.Ranges.{IsRising}
use Rattle.net_types.specs.Records.{pair_at}
use Rattle.inp_values.specs.Duration.{hours_of}
use Rattle.inp_series.specs.declared.pairs.Axis.{Axis}
use Rattle.inp_series.specs.declared.pairs.Axis.TheVariants.{Amounts, Hours}
use Rattle.net_types.specs.Faults.{number_of}
use Rattle.inp_series.specs.Pairs.{order_kind}
use Rattle.inp_series.specs.Pairs.{amount_of, are_no_pairs, follows, moved, pair_fault, pair_of, pairs_fault, values_of, x_of, xs_of, y_fault}
use Rattle.inp_series.specs.Meaning.{ArePairs, IsX}

-- ---- a pair without a fault
record IsGood (axis : Axis) (last : Option ℤ) (x y : Option ℤ) : Type 0 where
  x_value : ℤ
  y_value : ℤ
  x_is : x ≡ Some x_value
  y_is : y ≡ Some y_value
  greater : follows last x_value ≡ true

or_none : {A : Type 0} (a b : Option A) → option_or a b ≡ None → (a ≡ None) × (b ≡ None)
or_none None b e = (refl, e)
or_none (Some a) b e = absurd (cc)

good : (axis : Axis) (last : Option ℤ) (place : ℕ) (x y : Option ℤ) → pair_fault axis last place x y ≡ None → IsGood axis last x y
good axis last place None y e = absurd (cc)
good axis last place (Some x) y e = go (follows last x) refl y e where
  go : (b : Bool) → follows last x ≡ b → (y : Option ℤ) → pair_fault axis last place (Some x) y ≡ None → IsGood axis last (Some x) y
  go false t y e = absurd (let bad = sym (ap (λ b. cond b (y_fault (place + 1) y) (Some (record { number = number_of (order_kind axis); place = place }))) t) ∙ e in cc)
  go true t None e = absurd (let bad = sym (ap (λ b. cond b (y_fault (place + 1) None) (Some (record { number = number_of (order_kind axis); place = place }))) t) ∙ e in cc)
  go true t (Some y) e = record { x_value = x; y_value = y; x_is = refl; y_is = refl; greater = t }

even_rest : (n : ℕ) → (n + 2) % 2 ≡ 0 → n % 2 ≡ 0
even_rest n e = omega (arith, e)

-- ---- what a first item means
x_means : (axis : Axis) (text : List ℕ) (x : ℤ) → x_of axis text ≡ Some x → IsX axis text x
x_means Amounts text x e = IsStored-scaled_of e
x_means (Hours start date) text x e = go (hours_of text) refl e where
  go : (o : Option ℤ) → hours_of text ≡ o → option_map (moved start date) o ≡ Some x → (ms : ℤ) × (hours_of text ≡ Some ms) × (x ≡ moved start date ms)
  go None h e = absurd (cc)
  go (Some ms) h e = (ms, h, cc)

x_unique : (axis : Axis) (text : List ℕ) (a b : ℤ) → IsX axis text a → IsX axis text b → a ≡ b
x_unique Amounts text a b p q = IsStored-unique _ text a b p q
x_unique (Hours start date) text a b p q = let same : p.0 ≡ q.0 = cc in p.2 ∙ (ap (moved start date) same ∙ sym q.2)

-- ---- pairs without a fault mean their values
pub pairs_mean : (axis : Axis) (last : Option ℤ) (place : ℕ) (items : List (List ℕ)) → length items % 2 ≡ 0 → pairs_fault axis last place items ≡ None → ArePairs axis items (values_of axis items)
pairs_mean axis last place [] even none = tt
pairs_mean axis last place (x ∷ []) even none = absurd (omega (arith, even))
pairs_mean axis last place (x ∷ y ∷ items) even none =
    let two = or_none (pair_fault axis last place (x_of axis x) (amount_of y)) (pairs_fault axis (option_or (x_of axis x) last) (place + 2) items) none in
    let one = good axis last place (x_of axis x) (amount_of y) two.0 in
    let rest = pairs_mean axis (option_or (x_of axis x) last) (place + 2) items (even_rest (length items) (omega (arith, even))) two.1 in
    let split : values_of axis (x ∷ y ∷ items) ≡ (one.x_value, one.y_value) ∷ values_of axis items = ap₂ (λ a b. pair_of a b ++ values_of axis items) one.x_is one.y_is in
    subst (ArePairs axis (x ∷ y ∷ items)) (sym split) (x_means axis x one.x_value one.x_is, IsStored-scaled_of one.y_is, rest)

pub pairs_unique : (axis : Axis) (items : List (List ℕ)) (a b : List (ℤ × ℤ)) → ArePairs axis items a → ArePairs axis items b → a ≡ b
pairs_unique axis [] [] [] p q = refl
pairs_unique axis [] [] (b ∷ bs) p q = absurd q
pairs_unique axis [] (a ∷ as_) b p q = absurd p
pairs_unique axis (x ∷ []) a b p q = absurd p
pairs_unique axis (x ∷ y ∷ items) [] b p q = absurd p
pairs_unique axis (x ∷ y ∷ items) (a ∷ as_) [] p q = absurd q
pairs_unique axis (x ∷ y ∷ items) ((ax, ay) ∷ as_) ((bx, by_) ∷ bs) p q =
    ap₂ (λ h t. h ∷ t) (ap₂ (λ u v. (u, v)) (x_unique axis x ax bx p.0 q.0) (IsStored-unique _ y ay by_ p.1 q.1)) (pairs_unique axis items as_ bs p.2 q.2)

-- ---- how many they are
pub values_few : (axis : Axis) (items : List (List ℕ)) → 2 * length (values_of axis items) ≤ length items
values_few axis [] = omega arith
values_few axis (x ∷ []) = omega arith
values_few axis (x ∷ y ∷ items) =
    let one : (a b : Option ℤ) → length (pair_of a b) ≤ 1 = one_at_most in
    omega (arith, length-append (pair_of (x_of axis x) (amount_of y)) (values_of axis items), one (x_of axis x) (amount_of y), values_few axis items) where
      one_at_most : (a b : Option ℤ) → length (pair_of a b) ≤ 1
      one_at_most None b = omega arith
      one_at_most (Some a) None = omega arith
      one_at_most (Some a) (Some b) = omega arith

pub pairs_some : (axis : Axis) (items : List (List ℕ)) (pairs : List (ℤ × ℤ)) → 1 ≤ length items → ArePairs axis items pairs → 1 ≤ length pairs
pairs_some axis [] pairs some are = absurd (omega (arith, some))
pairs_some axis (x ∷ []) pairs some are = absurd are
pairs_some axis (x ∷ y ∷ items) [] some are = absurd are
pairs_some axis (x ∷ y ∷ items) (pair ∷ pairs) some are = omega arith

-- items that are pairs are even in number, and there are some
record AreEven (count : ℕ) : Type 0 where
  even : count % 2 ≡ 0
  some : 1 ≤ count

pub pairs_even : (count : ℕ) → are_no_pairs count ≡ false → (count % 2 ≡ 0) × (1 ≤ count)
pairs_even count e = go (count == 0) (count % 2 == 1) refl refl e where
  go : (a b : Bool) → (count == 0) ≡ a → (count % 2 == 1) ≡ b → (a || b) ≡ false → (count % 2 ≡ 0) × (1 ≤ count)
  go true b p q e = absurd (cc)
  go false true p q e = absurd (cc)
  go false false p q e = (grind (arith, nat_tests), grind (arith, nat_tests))

-- ---- the first values rise
abbrev pub IsBelow : Option ℤ → ℤ → Type 0
IsBelow None x = ⊥
IsBelow (Some last) x = x ≤ℤ last

-- the pairs rise, and none is above the last first value
pub record Rises (pairs : List (ℤ × ℤ)) (last : Option ℤ) : Type 0 where
  pub rising : IsRising pairs
  pub below : (k : ℕ) → k < length pairs → IsBelow last (pair_at pairs k).0

pub rises_none : Rises [] None
rises_none = record { rising = record { each = λ i j lt within. absurd (omega (arith, within)) }; below = λ k within. absurd (omega (arith, within)) }

follows_less : (last : Option ℤ) (x a : ℤ) → follows last x ≡ true → IsBelow last a → a <ℤ x
follows_less None x a e below = absurd below
follows_less (Some last) x a e below = grind (arith, ints, nat_tests)

at_old : (pairs : List (ℤ × ℤ)) (pair : ℤ × ℤ) (k : ℕ) → k < length pairs → pair_at (pairs ++ pair ∷ []) k ≡ pair_at pairs k
at_old pairs pair k within = get_or_append_left pairs (pair ∷ []) (pos 0, pos 0) k within

at_new : (pairs : List (ℤ × ℤ)) (pair : ℤ × ℤ) (k : ℕ) → k ≡ length pairs → pair_at (pairs ++ pair ∷ []) k ≡ pair
at_new pairs pair k e =
    let zero_left : k - length pairs ≡ 0 = omega (arith, e) in
    let past : length pairs ≤ k = omega (arith, e) in
    get_or-append_right pairs (pair ∷ []) (length pairs) k (pos 0, pos 0) refl past ∙ ap (λ n. get_or (pair ∷ []) n (pos 0, pos 0)) zero_left

rises_push : (pairs : List (ℤ × ℤ)) (last : Option ℤ) (x y : ℤ) → Rises pairs last → follows last x ≡ true → Rises (pairs ++ (x, y) ∷ []) (Some x)
rises_push pairs last x y up greater = record {
  rising = record { each = λ i j lt within. rise i j lt (cases j (omega (arith, within, length-append pairs ((x, y) ∷ [])))) };
  below = λ k within. under k (cases k (omega (arith, within, length-append pairs ((x, y) ∷ []))));
} where
  cases : (k : ℕ) → k < length pairs + 1 → (k < length pairs) ⊎ (k ≡ length pairs)
  cases k h = grind (arith, h)

  less : (i : ℕ) → i < length pairs → (pair_at pairs i).0 <ℤ x
  less i within = follows_less last x (pair_at pairs i).0 greater (up.below i within)

  rise : (i j : ℕ) → i < j → (j < length pairs) ⊎ (j ≡ length pairs) → (pair_at (pairs ++ (x, y) ∷ []) i).0 <ℤ (pair_at (pairs ++ (x, y) ∷ []) j).0
  rise i j lt (inl within) =
      subst (λ (p : ℤ × ℤ). p.0 <ℤ (pair_at (pairs ++ (x, y) ∷ []) j).0) (sym (at_old pairs (x, y) i (omega (arith, lt, within))))
      (subst (λ (p : ℤ × ℤ). (pair_at pairs i).0 <ℤ p.0) (sym (at_old pairs (x, y) j within)) (up.rising.each i j lt within))
  rise i j lt (inr end) =
      subst (λ (p : ℤ × ℤ). p.0 <ℤ (pair_at (pairs ++ (x, y) ∷ []) j).0) (sym (at_old pairs (x, y) i (omega (arith, lt, end))))
      (subst (λ (p : ℤ × ℤ). (pair_at pairs i).0 <ℤ p.0) (sym (at_new pairs (x, y) j end)) (less i (omega (arith, lt, end))))

  under : (k : ℕ) → (k < length pairs) ⊎ (k ≡ length pairs) → (pair_at (pairs ++ (x, y) ∷ []) k).0 ≤ℤ x
  under k (inl within) = subst (λ (p : ℤ × ℤ). p.0 ≤ℤ x) (sym (at_old pairs (x, y) k within)) (let lt = less k within in omega (arith, ints, lt))
  under k (inr end) = subst (λ (p : ℤ × ℤ). p.0 ≤ℤ x) (sym (at_new pairs (x, y) k end)) (omega (arith, ints))

-- pairs without a fault go on rising, and each lies in the ranges of its values
pub pairs_rise : (axis : Axis) (last : Option ℤ) (place : ℕ) (items : List (List ℕ)) (pairs : List (ℤ × ℤ)) → pairs_fault axis last place items ≡ None → Rises pairs last → Rises (pairs ++ values_of axis items) (last_or last (xs_of axis items))
pairs_rise axis last place [] pairs none up = subst (λ l. Rises l last) (sym (append-nil pairs)) up
pairs_rise axis last place (x ∷ []) pairs none up = subst (λ l. Rises l last) (sym (append-nil pairs)) up
pairs_rise axis last place (x ∷ y ∷ items) pairs none up =
    let two = or_none (pair_fault axis last place (x_of axis x) (amount_of y)) (pairs_fault axis (option_or (x_of axis x) last) (place + 2) items) none in
    let one = good axis last place (x_of axis x) (amount_of y) two.0 in
    let more : pairs_fault axis (Some one.x_value) (place + 2) items ≡ None = ap (λ o. pairs_fault axis (option_or o last) (place + 2) items) (sym one.x_is) ∙ two.1 in
    let next = pairs_rise axis (Some one.x_value) (place + 2) items (pairs ++ (one.x_value, one.y_value) ∷ []) more (rises_push pairs last one.x_value one.y_value up one.greater) in
    let split : (pairs ++ (one.x_value, one.y_value) ∷ []) ++ values_of axis items ≡ pairs ++ values_of axis (x ∷ y ∷ items) =
    append_assoc pairs ((one.x_value, one.y_value) ∷ []) (values_of axis items) ∙ ap (λ l. pairs ++ l) (sym (ap₂ (λ a b. pair_of a b ++ values_of axis items) one.x_is one.y_is)) in
    let lasts : last_or (Some one.x_value) (xs_of axis items) ≡ last_or last (xs_of axis (x ∷ y ∷ items)) = sym (ap (λ o. last_or last (option_to_list o ++ xs_of axis items)) one.x_is) in
    subst (λ l. Rises l (last_or last (xs_of axis (x ∷ y ∷ items)))) split (subst (Rises ((pairs ++ (one.x_value, one.y_value) ∷ []) ++ values_of axis items)) lasts next)

-- each pair of values has its range where first values and second values have theirs
pub values_in : (axis : Axis) (P : ℤ × ℤ → Type 0) → ((a b : List ℕ) (x y : ℤ) → x_of axis a ≡ Some x → amount_of b ≡ Some y → P (x, y)) → (items : List (List ℕ)) → All P (values_of axis items)
values_in axis P each [] = All-nil P
values_in axis P each (x ∷ []) = All-nil P
values_in axis P each (x ∷ y ∷ items) = All-append P (pair_of (x_of axis x) (amount_of y)) (values_of axis items) (here (x_of axis x) (amount_of y) refl refl) (values_in axis P each items) where
  here : (a b : Option ℤ) → x_of axis x ≡ a → amount_of y ≡ b → All P (pair_of a b)
  here None b p q = All-nil P
  here (Some a) None p q = All-nil P
  here (Some a) (Some b) p q = All-cons P (a, b) [] (each x y a b p q) (All-nil P)
