-- Digits of a text, and the numbers that they write.
use Rattle.std.proofs.Common.{◌≡◌, ℕ, ◌+◌, ◌-◌, ◌*◌, ◌<◌, ◌≤◌, ◌^◌, Bool, true, false, ◌&&◌, cond, nat_le, List, [], ◌∷◌, ◌++◌, length, drop, get_or, drop-cons, add-one, refl, sym, ap, subst, ◌∙◌, arith, mul-le-mul}
use Rattle.std.proofs.Math.Nat.{pow-suc, pow-le-pow_right}
use Rattle.std.specs.Bool.{⊤}
use Rattle.std.specs.Char.{is_ascii_digit}
use Rattle.std.specs.List.{list_all, prefix_len, take_while}
use Rattle.std.specs.Option.{IfSome, IfNone}
use Rattle.std.specs.declared.option.Option.{Option}
use Rattle.std.specs.declared.option.Option.TheVariants.{None, Some}
use Rattle.std.proofs.Math.Seq.{take-append_seam, drop-append_seam}
use Rattle.std.proofs.lemmas.Bool.Decides.{nat_tests}
use Rattle.std.proofs.lemmas.List.{take-append-drop}
use Rattle.fixed_num.specs.Number.{AreDigits, digits_after, past_digits}
use Rattle.inp_values.specs.Field.{IsField, is_field, field_of}

pub both_true : (a b : Bool) → (a && b) ≡ true → (a ≡ true) × (b ≡ true)
both_true true b h = (refl, h)
both_true false b h = absurd (cc)

pub all_digits : (text : List ℕ) → list_all is_ascii_digit text ≡ true → AreDigits text
all_digits [] all = tt
all_digits (c ∷ cs) all =
    let two = both_true (is_ascii_digit c) (list_all is_ascii_digit cs) all in
    (two.0, all_digits cs two.1)

digits_all : (text : List ℕ) → AreDigits text → list_all is_ascii_digit text ≡ true
digits_all [] each = refl
digits_all (c ∷ cs) each = ap (λ b. b && list_all is_ascii_digit cs) each.0 ∙ digits_all cs each.1

-- no digit stands first
abbrev pub Stops : List ℕ → Type 0
Stops [] = ⊤
Stops (c ∷ cs) = is_ascii_digit c ≡ false

front-count : (digits rest : List ℕ) → AreDigits digits → Stops rest → prefix_len is_ascii_digit (digits ++ rest) ≡ length digits
front-count [] [] all stops = refl
front-count [] (c ∷ cs) all stops = ap (λ b. cond b (1 + prefix_len is_ascii_digit cs) 0) stops
front-count (c ∷ cs) rest all stops =
    ap (λ b. cond b (1 + prefix_len is_ascii_digit (cs ++ rest)) 0) all.0 ∙ omega (arith, front-count cs rest all.1 stops)

-- the digits at the front, and what follows them
pub front_digits : (digits rest : List ℕ) → AreDigits digits → Stops rest → take_while is_ascii_digit (digits ++ rest) ≡ digits
front_digits digits rest all stops = rw (front-count digits rest all stops) (take-append_seam digits rest)

pub front_past : (digits rest : List ℕ) → AreDigits digits → Stops rest → past_digits (digits ++ rest) ≡ rest
front_past digits rest all stops = rw (front-count digits rest all stops) (drop-append_seam digits rest)

pub front_parts : (text : List ℕ) → text ≡ take_while is_ascii_digit text ++ past_digits text
front_parts text = sym (take-append-drop (prefix_len is_ascii_digit text) text)

passes : (all : Bool) (least n most : ℕ) → all ≡ true → least ≤ n → n ≤ most → (all && nat_le least n && nat_le n most) ≡ true
passes all least n most a b c = grind (arith, nat_tests)

passed : (all : Bool) (least n most : ℕ) → (all && nat_le least n && nat_le n most) ≡ true → (all ≡ true) × (least ≤ n) × (n ≤ most)
passed all least n most h = grind (arith, nat_tests)

-- the test is passed exactly by a field
pub field_is : (least most : ℕ) (text : List ℕ) (n : ℕ) → IsField least most text n → field_of least most text ≡ Some n
unfolding field_of
field_is least most text n field =
    let pass = passes (list_all is_ascii_digit text) least (length text) most (digits_all text field.digits) field.at_least field.at_most in
    ap (λ b. cond b (Some (digits_after 0 text)) None) pass ∙ ap Some (sym field.value)

-- what an `if` with None in its other arm gave
pub chosen : {A : Type 0} (b : Bool) (o : Option A) (n : A) → cond b o None ≡ Some n → (b ≡ true) × (o ≡ Some n)
chosen true o n e = (refl, e)
chosen false o n e = absurd (cc)

pub same_some : {A : Type 0} (v n : A) → Some v ≡ Some n → n ≡ v
same_some v n e = cc

pub field_told : (least most : ℕ) (text : List ℕ) (n : ℕ) → field_of least most text ≡ Some n → IsField least most text n
unfolding field_of
field_told least most text n e =
    let two = chosen (list_all is_ascii_digit text && nat_le least (length text) && nat_le (length text) most) (Some (digits_after 0 text)) n e in
    let three = passed (list_all is_ascii_digit text) least (length text) most two.0 in
    record { digits = all_digits text three.0; at_least = three.1; at_most = three.2; value = same_some (digits_after 0 text) n two.1 }

pub no_field : (least most : ℕ) (text : List ℕ) → is_field least most text ≡ false → None ≡ field_of least most text
unfolding field_of
no_field least most text off = sym (ap (λ b. cond b (Some (digits_after 0 text)) None) off)

pub the_field : (least most : ℕ) (text : List ℕ) → is_field least most text ≡ true → Some (digits_after 0 text) ≡ field_of least most text
unfolding field_of
the_field least most text on = sym (ap (λ b. cond b (Some (digits_after 0 text)) None) on)

-- a text that passes is digits, and few
pub field_digits : (least most : ℕ) (text : List ℕ) → is_field least most text ≡ true → AreDigits text × (length text ≤ most)
field_digits least most text h =
    let three = passed (list_all is_ascii_digit text) least (length text) most h in
    (all_digits text three.0, three.2)

-- and so are the answers of a function with this value
pub some_field : (least most : ℕ) (text : List ℕ) (o : Option ℕ) → o ≡ field_of least most text → IfSome o (IsField least most text)
some_field least most text None e = tt
some_field least most text (Some n) e = field_told least most text n (sym e)

pub none_field : (least most : ℕ) (text : List ℕ) (o : Option ℕ) → o ≡ field_of least most text → IfNone o ((n : ℕ) → ¬ (IsField least most text n))
none_field least most text None e = λ n field. let clash : None ≡ Some n = e ∙ field_is least most text n field in absurd (cc)
none_field least most text (Some n) e = tt

-- ---- the number that digits write
digit_small : (c : ℕ) → is_ascii_digit c ≡ true → c - 48 ≤ 9
digit_small c h = grind (arith, nat_tests)

pub digits_after_below : (n : ℕ) (digits : List ℕ) → AreDigits digits → digits_after n digits < (n + 1) * 10 ^ length digits
digits_after_below n [] each = omega arith
digits_after_below n (c ∷ cs) each =
    let step = digits_after_below (n * 10 + (c - 48)) cs each.1 in
    let small = digit_small c each.0 in
    let grows : (n * 10 + (c - 48) + 1) * 10 ^ length cs ≤ ((n + 1) * 10) * 10 ^ length cs = mul-le-mul (omega arith) (omega arith) in
    let power : 10 ^ length (c ∷ cs) ≡ 10 ^ length cs * 10 = pow-suc 10 (length cs) in
    rw power (omega (arith, grows, step))

-- one more digit
pub digit_Step : (total next i : ℕ) (digits : List ℕ) → i < length digits → AreDigits (drop i digits) → next ≡ total * 10 + (get_or digits i 0 - 48) → AreDigits (drop (i + 1) digits) × (digits_after next (drop (i + 1) digits) ≡ digits_after total (drop i digits)) × (get_or digits i 0 - 48 ≤ 9)
digit_Step total next i digits within all e =
    let front : drop i digits ≡ get_or digits i 0 ∷ drop (i + 1) digits = rw (add-one, drop-cons digits i 0) in
    let each : AreDigits (get_or digits i 0 ∷ drop (i + 1) digits) = subst AreDigits front all in
    (each.1, rw (e, front) refl, digit_small (get_or digits i 0) each.0)

-- nine digits fit
powers_rise : (i j : ℕ) → i ≤ j → 10 ^ i ≤ 10 ^ j
powers_rise i j h = let ten : 0 < 10 = omega arith in pow-le-pow_right ten h

pub nine_fit : (total read : ℕ) → total < 10 ^ read → read < 9 → total < 10 ^ 8
nine_fit total read small few =
    let power = powers_rise read 8 (omega arith) in
    omega arith

pub count_fits : (n count most : ℕ) → n < 10 ^ count → count ≤ most → n < 10 ^ most
count_fits n count most small few =
    let power = powers_rise count most few in
    omega arith

pub more_small : (total next digit read : ℕ) → total < 10 ^ read → digit ≤ 9 → next ≡ total * 10 + digit → next < 10 ^ (read + 1)
more_small total next digit read small nine e =
    let power : 10 ^ (read + 1) ≡ 10 ^ read * 10 = rw add-one (pow-suc 10 read) in
    rw power (omega arith)
