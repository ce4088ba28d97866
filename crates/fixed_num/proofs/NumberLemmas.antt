-- The parts of a number are what the functions read from its text.
use Rattle.std.proofs.Common.{◌≡◌, ℕ, ◌+◌, ◌-◌, ◌*◌, min, ◌<◌, ◌≤◌, ◌^◌, Bool, true, false, ◌||◌, ◌&&◌, cond, nat_lt, nat_le, eqb, List, [], ◌∷◌, ◌++◌, length, length-append, take, drop, get_or, drop-cons, add-one, ◌⊎◌, inl, inr, ℤ, pos, ◌-ℤ◌, refl, sym, ap, subst, ◌∙◌, arith}
use Rattle.std.specs.Bool.{⊤}
use Rattle.std.specs.Char.{is_ascii_digit}
use Rattle.std.specs.List.{prefix_len, take_while}
use Rattle.std.specs.Option.{IfSome}
use Rattle.std.specs.declared.option.Option.{Option}
use Rattle.std.specs.declared.option.Option.TheVariants.{None, Some}
use Rattle.std.proofs.Math.Numerals.{one-add}
use Rattle.std.proofs.Math.Seq.{take-append_seam, drop-append_seam}
use Rattle.std.proofs.lemmas.Bool.{cases_eq, or_cases, eqb-true}
use Rattle.std.proofs.lemmas.Bool.Decides.{nat_tests}
use Rattle.std.proofs.lemmas.Int.{ints}
use Rattle.std.proofs.lemmas.List.{take-append-drop}
use Rattle.std.proofs.lemmas.List.Folds.{length-prefix_len}
use Rattle.fixed_num.specs.Ranges.{IsWithin}
use Rattle.fixed_num.specs.declared.number.Number.{Number}
use Rattle.fixed_num.specs.Number.{signed, AreDigits, digits_after, IsSign, no_sign, plus_sign, minus_sign, IsFraction, no_point, with_point, IsPower, no_power, with_power, IsNumber, IsSmall, past_digits, is_minus, past_sign, fraction_of, past_fraction, exponent_of, power_of, joined, number_of}

pub front_length : (text : List ℕ) → length (take (prefix_len is_ascii_digit text) text) ≡ prefix_len is_ascii_digit text
front_length text = length-prefix_len is_ascii_digit text

-- no digit stands first
abbrev Stops : List ℕ → Type 0
Stops [] = ⊤
Stops (c ∷ cs) = is_ascii_digit c ≡ false

-- ---- digits
front-count : (digits rest : List ℕ) → AreDigits digits → Stops rest → prefix_len is_ascii_digit (digits ++ rest) ≡ length digits
front-count [] [] all stops = refl
front-count [] (c ∷ cs) all stops = ap (λ b. cond b (1 + prefix_len is_ascii_digit cs) 0) stops
front-count (c ∷ cs) rest all stops =
    ap (λ b. cond b (1 + prefix_len is_ascii_digit (cs ++ rest)) 0) all.0 ∙ omega (arith, front-count cs rest all.1 stops)

front-digits : (digits rest : List ℕ) → AreDigits digits → Stops rest → take_while is_ascii_digit (digits ++ rest) ≡ digits
front-digits digits rest all stops = rw (front-count digits rest all stops) (take-append_seam digits rest)

front-past : (digits rest : List ℕ) → AreDigits digits → Stops rest → past_digits (digits ++ rest) ≡ rest
front-past digits rest all stops = rw (front-count digits rest all stops) (drop-append_seam digits rest)

front-cons : (b : Bool) (c : ℕ) (cs : List ℕ) → is_ascii_digit c ≡ b → AreDigits (take (prefix_len is_ascii_digit cs) cs) → AreDigits (take (cond b (1 + prefix_len is_ascii_digit cs) 0) (c ∷ cs))
front-cons true c cs e rest = rw one-add (e, rest)
front-cons false c cs e rest = tt

pub AreDigits-front : (text : List ℕ) → AreDigits (take_while is_ascii_digit text)
AreDigits-front [] = tt
AreDigits-front (c ∷ cs) = front-cons (is_ascii_digit c) c cs refl (AreDigits-front cs)

pub ruleset fronts = (front_length, AreDigits-front)

front_parts : (text : List ℕ) → text ≡ take_while is_ascii_digit text ++ past_digits text
front_parts text = sym (take-append-drop (prefix_len is_ascii_digit text) text)

-- ---- signs
digit-plain : (c : ℕ) (cs : List ℕ) → is_ascii_digit c ≡ true → (past_sign (c ∷ cs) ≡ c ∷ cs) × (is_minus (c ∷ cs) ≡ false)
digit-plain c cs digit = grind (arith, nat_tests)

-- ---- reads
sign-Read : {sign : List ℕ} {negative : Bool} (whole point fraction power : List ℕ) → IsSign sign negative → AreDigits whole → IsFraction point fraction → 0 < length (whole ++ fraction) → (past_sign (sign ++ (whole ++ (point ++ power))) ≡ whole ++ (point ++ power)) × (is_minus (sign ++ (whole ++ (point ++ power))) ≡ negative)
sign-Read whole point fraction power plus_sign all is some = (refl, refl)
sign-Read whole point fraction power minus_sign all is some = (refl, refl)
sign-Read [] [] [] power no_sign all no_point some = absurd (omega arith)
sign-Read [] [] (_ ∷ _) power no_sign all is some = elim is [ ]
sign-Read [] (c ∷ cs) digits power no_sign all (with_point each) some = (refl, refl)
sign-Read (c ∷ cs) point fraction power no_sign all is some = digit-plain c (cs ++ (point ++ power)) all.0

-- ---- what a power begins with
mark-test : {mark : ℕ} → (mark ≡ 101) ⊎ (mark ≡ 69) → (eqb mark 101 || eqb mark 69) ≡ true
mark-test (inl m) = ap (λ c. eqb c 101 || eqb c 69) m
mark-test (inr m) = ap (λ c. eqb c 101 || eqb c 69) m

mark-other : {mark : ℕ} → (mark ≡ 101) ⊎ (mark ≡ 69) → eqb mark 46 ≡ false
mark-other (inl m) = ap (λ c. eqb c 46) m
mark-other (inr m) = ap (λ c. eqb c 46) m

power-stops : {power : List ℕ} {written : ℤ} → IsPower power written → Stops power
power-stops no_power = tt
power-stops (with_power mark digit sign negative (inl m) s d) = ap is_ascii_digit m
power-stops (with_power mark digit sign negative (inr m) s d) = ap is_ascii_digit m

power-no_point : {power : List ℕ} {written : ℤ} → IsPower power written → (fraction_of power ≡ []) × (past_fraction power ≡ power)
power-no_point no_power = (refl, refl)
power-no_point (with_power mark digit sign negative m s d) = let apart : eqb mark 46 ≡ false = mark-other m in
    (ap (λ b. cond b (take_while is_ascii_digit (sign ++ digit ∷ [])) []) apart, ap (λ b. cond b (past_digits (sign ++ digit ∷ [])) (mark ∷ (sign ++ digit ∷ []))) apart)

fraction-stops : {point fraction power : List ℕ} {written : ℤ} → IsFraction point fraction → IsPower power written → Stops (point ++ power)
fraction-stops no_point p = power-stops p
fraction-stops (with_point each) p = refl

fraction-Read : {point fraction power : List ℕ} {written : ℤ} → IsFraction point fraction → IsPower power written → (fraction_of (point ++ power) ≡ fraction) × (past_fraction (point ++ power) ≡ power)
fraction-Read no_point p = power-no_point p
fraction-Read {power = power} (with_point {digits = digits} each) p = (front-digits digits power each (power-stops p), front-past digits power each (power-stops p))

power-Read : {power : List ℕ} {written : ℤ} → IsPower power written → power_of power ≡ Some written
power-Read no_power = refl
power-Read (with_power mark digit sign negative m s d) =
    let read = sign-Read (digit ∷ []) [] [] [] s (d, tt) no_point (omega arith) in
    ap (λ b. cond b (exponent_of (is_minus (sign ++ digit ∷ [])) (past_sign (sign ++ digit ∷ []))) None) (mark-test m)
    ∙ ap (λ b. exponent_of b (past_sign (sign ++ digit ∷ []))) read.1
    ∙ ap (exponent_of negative) read.0
    ∙ ap (λ b. cond b (Some (signed negative (pos (digit - 48)))) None) d

-- ---- a number is read as such
-- the number with these parts
abbrev number_with : Bool → List ℕ → List ℕ → ℤ → Number
number_with negative whole fraction written = record { negative = negative; digits = digits_after 0 (whole ++ fraction); power = written -ℤ pos (length fraction) }

-- the test that the digits are within the limits
abbrev within_limits : List ℕ → List ℕ → Bool
within_limits whole fraction = nat_lt 0 (length (whole ++ fraction)) && nat_le (length fraction) 18 && nat_lt (digits_after 0 (whole ++ fraction)) (10 ^ 18)

limits-pass : (a b c : ℕ) → 0 < a → b ≤ 18 → c < 10 ^ 18 → (nat_lt 0 a && nat_le b 18 && nat_lt c (10 ^ 18)) ≡ true
limits-pass a b c p q r = grind (arith, nat_tests)

limits-Told : (a b c : ℕ) → (nat_lt 0 a && nat_le b 18 && nat_lt c (10 ^ 18)) ≡ true → (0 < a) × (b ≤ 18) × (c < 10 ^ 18)
limits-Told a b c h = grind (arith, nat_tests)

joined-number : (negative : Bool) (whole fraction : List ℕ) (written : ℤ) → 0 < length (whole ++ fraction) → length fraction ≤ 18 → digits_after 0 (whole ++ fraction) < 10 ^ 18 → joined negative whole fraction (Some written) ≡ Some (number_with negative whole fraction written)
unfolding joined
joined-number negative whole fraction written some places digits =
    ap (λ b. cond b (Some (number_with negative whole fraction written)) None) (limits-pass (length (whole ++ fraction)) (length fraction) (digits_after 0 (whole ++ fraction)) some places digits)

parts-Read : (text sign whole point fraction power : List ℕ) (negative : Bool) (written : ℤ) → text ≡ sign ++ (whole ++ (point ++ power)) → IsSign sign negative → AreDigits whole → IsFraction point fraction → IsPower power written → 0 < length (whole ++ fraction) → length text ≤ 40 → number_of text ≡ joined negative whole fraction (Some written)
unfolding number_of
parts-Read text sign whole point fraction power negative written parts s all f p some short =
    let read : (past_sign text ≡ whole ++ (point ++ power)) × (is_minus text ≡ negative) = rw parts (sign-Read whole point fraction power s all f some) in
    let stops = fraction-stops f p in
    let front : take_while is_ascii_digit (past_sign text) ≡ whole = rw read.0 (front-digits whole (point ++ power) all stops) in
    let rest : past_digits (past_sign text) ≡ point ++ power = rw read.0 (front-past whole (point ++ power) all stops) in
    let behind : fraction_of (past_digits (past_sign text)) ≡ fraction = rw rest (fraction-Read f p).0 in
    let end : past_fraction (past_digits (past_sign text)) ≡ power = rw rest (fraction-Read f p).1 in
    let power_is : power_of (past_fraction (past_digits (past_sign text))) ≡ Some written = ap power_of end ∙ power-Read p in
    let fits : nat_le (length text) 40 ≡ true = grind (arith, nat_tests) in
    ap (λ b. cond b (joined (is_minus text) (take_while is_ascii_digit (past_sign text)) (fraction_of (past_digits (past_sign text))) (power_of (past_fraction (past_digits (past_sign text))))) None) fits
    ∙ ap (λ b. joined b (take_while is_ascii_digit (past_sign text)) (fraction_of (past_digits (past_sign text))) (power_of (past_fraction (past_digits (past_sign text))))) read.1
    ∙ ap (λ ds. joined negative ds (fraction_of (past_digits (past_sign text))) (power_of (past_fraction (past_digits (past_sign text))))) front
    ∙ ap (λ ds. joined negative whole ds (power_of (past_fraction (past_digits (past_sign text))))) behind
    ∙ ap (joined negative whole fraction) power_is

pub number_of-IsNumber : {text : List ℕ} {negative : Bool} {m : ℕ} {e : ℤ} → IsNumber text negative m e → number_of text ≡ Some (record { negative = negative; digits = m; power = e })
number_of-IsNumber {text} {negative} {m} {e} n =
    let below : digits_after 0 (n.whole ++ n.fraction) < 10 ^ 18 = omega (arith, n.value, n.digits) in
    parts-Read text n.sign n.whole n.point n.fraction n.power negative n.written n.parts n.is_sign n.is_whole n.is_fraction n.is_power n.some_digit n.short
    ∙ joined-number negative n.whole n.fraction n.written n.some_digit n.places below
    ∙ rw (n.value, n.exponent)

-- ---- what is read is a number
limit-told : (n : ℕ) → nat_le n 40 ≡ true → n ≤ 40
limit-told n h = grind (arith, nat_tests)

taken_when : {X : Type 0} (b : Bool) (o : Option X) (x : X) → cond b o None ≡ Some x → (b ≡ true) × (o ≡ Some x)
taken_when true o x h = (refl, h)
taken_when false o x h = absurd (cc)

sign-Made : (text : List ℕ) → (sign : List ℕ) × IsSign sign (is_minus text) × (text ≡ sign ++ past_sign text)
sign-Made [] = ([], no_sign, refl)
sign-Made (c ∷ cs) = elim (cases_eq c 43) [
  | inl e ↦ subst (λ k. (sign : List ℕ) × IsSign sign (is_minus (k ∷ cs)) × (k ∷ cs ≡ sign ++ past_sign (k ∷ cs))) (sym e) (43 ∷ [], plus_sign, refl)
  | inr plain ↦ elim (cases_eq c 45) [
    | inl e ↦ subst (λ k. (sign : List ℕ) × IsSign sign (is_minus (k ∷ cs)) × (k ∷ cs ≡ sign ++ past_sign (k ∷ cs))) (sym e) (45 ∷ [], minus_sign, refl)
    | inr other ↦ let none : is_minus (c ∷ cs) ≡ false = grind (arith, nat_tests) in
        let all : c ∷ cs ≡ past_sign (c ∷ cs) = grind (arith, nat_tests) in
        ([], subst (IsSign []) (sym none) no_sign, all)
  ]
]

fraction-Made : (rest : List ℕ) → (point : List ℕ) × IsFraction point (fraction_of rest) × (rest ≡ point ++ past_fraction rest)
fraction-Made [] = ([], no_point, refl)
fraction-Made (c ∷ cs) = elim (cases_eq c 46) [
  | inl e ↦ subst (λ k. (point : List ℕ) × IsFraction point (fraction_of (k ∷ cs)) × (k ∷ cs ≡ point ++ past_fraction (k ∷ cs))) (sym e) (46 ∷ take_while is_ascii_digit cs, with_point (AreDigits-front cs), ap (λ t. 46 ∷ t) (front_parts cs))
  | inr other ↦ let apart : eqb c 46 ≡ false = grind (arith, nat_tests) in
      let none : fraction_of (c ∷ cs) ≡ [] = ap (λ b. cond b (take_while is_ascii_digit cs) []) apart in
      ([], subst (IsFraction []) (sym none) no_point, sym (ap (λ b. cond b (past_digits cs) (c ∷ cs)) apart))
]

exponent-Made : (negative : Bool) (text : List ℕ) (written : ℤ) → exponent_of negative text ≡ Some written → (digit : ℕ) × (text ≡ digit ∷ []) × (is_ascii_digit digit ≡ true) × (signed negative (pos (digit - 48)) ≡ written)
exponent-Made negative [] written h = absurd (cc)
exponent-Made negative (c ∷ []) written h =
    let told = taken_when (is_ascii_digit c) (Some (signed negative (pos (c - 48)))) written h in
    let same : signed negative (pos (c - 48)) ≡ written = cc told.1 in
    (c, refl, told.0, same)
exponent-Made negative (c ∷ d ∷ cs) written h = absurd (cc)

mark-Told : (mark : ℕ) → (eqb mark 101 || eqb mark 69) ≡ true → (mark ≡ 101) ⊎ (mark ≡ 69)
mark-Told mark h = elim (or_cases (eqb mark 101) (eqb mark 69) h) [ inl e ↦ inl (eqb-true mark 101 e) | inr e ↦ inr (eqb-true mark 69 e) ]

power_from : (mark digit : ℕ) (sign text : List ℕ) (negative : Bool) (written : ℤ) → (mark ≡ 101) ⊎ (mark ≡ 69) → IsSign sign negative → is_ascii_digit digit ≡ true → text ≡ sign ++ digit ∷ [] → signed negative (pos (digit - 48)) ≡ written → IsPower (mark ∷ text) written
power_from mark digit sign text negative written m is test whole same = rw (whole, ← same) (with_power mark digit sign negative m is test)

power-Made : (text : List ℕ) (written : ℤ) → power_of text ≡ Some written → IsPower text written
power-Made [] written h = let e : pos 0 ≡ written = cc in subst (IsPower []) e no_power
power-Made (c ∷ cs) written h =
    let told = taken_when (eqb c 101 || eqb c 69) (exponent_of (is_minus cs) (past_sign cs)) written h in
    let (digit, past, test, same) = exponent-Made (is_minus cs) (past_sign cs) written told.1 in
    let (sign, is, parts) = sign-Made cs in
    power_from c digit sign cs (is_minus cs) written (mark-Told c told.0) is test (parts ∙ ap (λ t. sign ++ t) past) same

joined-Made : (negative : Bool) (whole fraction : List ℕ) (power : Option ℤ) (n : Number) → joined negative whole fraction power ≡ Some n → (written : ℤ) × (power ≡ Some written) × (within_limits whole fraction ≡ true) × (number_with negative whole fraction written ≡ n)
unfolding joined
joined-Made negative whole fraction None n h = absurd (cc)
joined-Made negative whole fraction (Some written) n h =
    let told = taken_when (within_limits whole fraction) (Some (number_with negative whole fraction written)) n h in
    let same : number_with negative whole fraction written ≡ n = cc told.1 in
    (written, refl, told.0, same)

number_made : (text sign whole point fraction power : List ℕ) (negative : Bool) (written : ℤ) (n : Number) → text ≡ sign ++ (whole ++ (point ++ power)) → IsSign sign negative → AreDigits whole → IsFraction point fraction → IsPower power written → length text ≤ 40 → within_limits whole fraction ≡ true → number_with negative whole fraction written ≡ n → IsNumber text n.negative n.digits n.power
number_made text sign whole point fraction power negative written n parts s all f p short limits same =
    let told = limits-Told (length (whole ++ fraction)) (length fraction) (digits_after 0 (whole ++ fraction)) limits in
    subst (λ k. IsNumber text k.negative k.digits k.power) same (record {
      sign = sign;
      whole = whole;
      point = point;
      fraction = fraction;
      power = power;
      written = written;
      parts = parts;
      is_sign = s;
      is_whole = all;
      is_fraction = f;
      is_power = p;
      short = short;
      some_digit = told.0;
      places = told.1;
      value = refl;
      digits = told.2;
      exponent = refl;
    })

pub IsNumber-number_of : (text : List ℕ) (n : Number) → number_of text ≡ Some n → IsNumber text n.negative n.digits n.power
unfolding number_of
IsNumber-number_of text n h =
    let front = past_sign text in
    let rest = past_digits front in
    let fits = taken_when (nat_le (length text) 40) (joined (is_minus text) (take_while is_ascii_digit front) (fraction_of rest) (power_of (past_fraction rest))) n h in
    let (written, power, limits, same) = joined-Made (is_minus text) (take_while is_ascii_digit front) (fraction_of rest) (power_of (past_fraction rest)) n fits.1 in
    let (sign, is_sign, sign_part) = sign-Made text in
    let (point, is_fraction, rest_part) = fraction-Made rest in
    let parts : text ≡ sign ++ (take_while is_ascii_digit front ++ (point ++ past_fraction rest)) =
    sign_part ∙ ap (λ t. sign ++ t) (front_parts front ∙ ap (λ t. take_while is_ascii_digit front ++ t) rest_part) in
    let short : length text ≤ 40 = limit-told (length text) fits.0 in
    number_made text sign (take_while is_ascii_digit front) point (fraction_of rest) (past_fraction rest) (is_minus text) written n
    parts is_sign (AreDigits-front front) is_fraction (power-Made (past_fraction rest) written power) short limits same

-- ---- a text is one number
pub IsNumber-unique : {text : List ℕ} {b c : Bool} {m n : ℕ} {e f : ℤ} → IsNumber text b m e → IsNumber text c n f → (b ≡ c) × (m ≡ n) × (e ≡ f)
IsNumber-unique {text} {b} {c} {m} {n} {e} {f} p q =
    let left : Number = record { negative = b; digits = m; power = e } in
    let right : Number = record { negative = c; digits = n; power = f } in
    let both : Some left ≡ Some right = sym (number_of-IsNumber p) ∙ number_of-IsNumber q in
    let same : left ≡ right = cc both in
    (ap (λ k. k.negative) same, ap (λ k. k.digits) same, ap (λ k. k.power) same)

-- ---- the number of many digits, cut at a limit
cut-step : (a k limit : ℕ) → min (min a limit * 10 + k) limit ≡ min (a * 10 + k) limit
cut-step a k limit = omega arith

pub cut-digits : (a limit : ℕ) (digits : List ℕ) → min (digits_after (min a limit) digits) limit ≡ min (digits_after a digits) limit
cut-digits a limit [] = omega arith
cut-digits a limit (c ∷ cs) =
    sym (cut-digits (min a limit * 10 + (c - 48)) limit cs)
    ∙ ap (λ n. min (digits_after n cs) limit) (cut-step a (c - 48) limit)
    ∙ cut-digits (a * 10 + (c - 48)) limit cs

pub digits_after-append : (n : ℕ) (xs ys : List ℕ) → digits_after n (xs ++ ys) ≡ digits_after (digits_after n xs) ys
digits_after-append n [] ys = refl
digits_after-append n (c ∷ cs) ys = digits_after-append (n * 10 + (c - 48)) cs ys

pub add-Step : (total next i : ℕ) (digits : List ℕ) → i < length digits → AreDigits (drop i digits) → next ≡ min (total * 10 + (get_or digits i 0 - 48)) (10 ^ 18) → AreDigits (drop (i + 1) digits) × (min (digits_after next (drop (i + 1) digits)) (10 ^ 18) ≡ min (digits_after total (drop i digits)) (10 ^ 18))
add-Step total next i digits within all e =
    let front : drop i digits ≡ get_or digits i 0 ∷ drop (i + 1) digits = rw (add-one, drop-cons digits i 0) in
    let each : AreDigits (get_or digits i 0 ∷ drop (i + 1) digits) = subst AreDigits front all in
    (each.1, rw (e, front) (cut-digits (total * 10 + (get_or digits i 0 - 48)) (10 ^ 18) (drop (i + 1) digits)))

-- ---- where the digits break a limit there is no number
refused : (negative : Bool) (whole fraction : List ℕ) (written : ℤ) → within_limits whole fraction ≡ false → joined negative whole fraction (Some written) ≡ None
unfolding joined
refused negative whole fraction written h = ap (λ b. cond b (Some (number_with negative whole fraction written)) None) h

limits-fail : (a b c : ℕ) → (a ≡ 0) ⊎ ((18 < b) ⊎ (10 ^ 18 ≤ c)) → (nat_lt 0 a && nat_le b 18 && nat_lt c (10 ^ 18)) ≡ false
limits-fail a b c h = grind (arith, nat_tests)

pub joined-no_digit : (negative : Bool) (whole fraction : List ℕ) (written : ℤ) → length whole + length fraction ≡ 0 → joined negative whole fraction (Some written) ≡ None
joined-no_digit negative whole fraction written h =
    let n = length (whole ++ fraction) in
    let empty : length (whole ++ fraction) ≡ 0 = omega (arith, length-append whole fraction) in
    refused negative whole fraction written (limits-fail (length (whole ++ fraction)) (length fraction) (digits_after 0 (whole ++ fraction)) (inl empty))

pub joined-long : (negative : Bool) (whole fraction : List ℕ) (written : ℤ) → 18 < length fraction → joined negative whole fraction (Some written) ≡ None
joined-long negative whole fraction written h =
    refused negative whole fraction written (limits-fail (length (whole ++ fraction)) (length fraction) (digits_after 0 (whole ++ fraction)) (inr (inl h)))

-- what adding the whole digits, then those of the fraction, gives
pub added : (whole fraction : List ℕ) (first both : ℕ) → first ≡ min (digits_after 0 whole) (10 ^ 18) → both ≡ min (digits_after first fraction) (10 ^ 18) → both ≡ min (digits_after 0 (whole ++ fraction)) (10 ^ 18)
added whole fraction first both p q =
    q ∙ ap (λ n. min (digits_after n fraction) (10 ^ 18)) p ∙ cut-digits (digits_after 0 whole) (10 ^ 18) fraction
    ∙ ap (λ n. min n (10 ^ 18)) (sym (digits_after-append 0 whole fraction))

pub joined-large : (negative : Bool) (whole fraction : List ℕ) (written : ℤ) (both : ℕ) → both ≡ min (digits_after 0 (whole ++ fraction)) (10 ^ 18) → 10 ^ 18 ≤ both → joined negative whole fraction (Some written) ≡ None
joined-large negative whole fraction written both e h =
    let large : 10 ^ 18 ≤ digits_after 0 (whole ++ fraction) = omega arith in
    refused negative whole fraction written (limits-fail (length (whole ++ fraction)) (length fraction) (digits_after 0 (whole ++ fraction)) (inr (inr large)))

pub joined-whole : (negative : Bool) (whole fraction : List ℕ) (written : ℤ) (both : ℕ) → 0 < length whole + length fraction → length fraction ≤ 18 → both ≡ min (digits_after 0 (whole ++ fraction)) (10 ^ 18) → both < 10 ^ 18 → joined negative whole fraction (Some written) ≡ Some (record { negative = negative; digits = both; power = written -ℤ pos (length fraction) })
joined-whole negative whole fraction written both some places e below =
    let all : digits_after 0 (whole ++ fraction) ≡ both = omega arith in
    let any : 0 < length (whole ++ fraction) = omega (arith, length-append whole fraction) in
    rw (← all) (joined-number negative whole fraction written any places (omega arith))

-- ---- the whole reading
pub number_of-long : (text : List ℕ) → 40 < length text → number_of text ≡ None
unfolding number_of
number_of-long text h =
    let front = past_sign text in
    let rest = past_digits front in
    let long : nat_le (length text) 40 ≡ false = grind (arith, nat_tests) in
    ap (λ b. cond b (joined (is_minus text) (take_while is_ascii_digit front) (fraction_of rest) (power_of (past_fraction rest))) None) long

pub number_of-short : (text : List ℕ) → length text ≤ 40 → number_of text ≡ joined (is_minus text) (take_while is_ascii_digit (past_sign text)) (fraction_of (past_digits (past_sign text))) (power_of (past_fraction (past_digits (past_sign text))))
unfolding number_of
number_of-short text h =
    let front = past_sign text in
    let rest = past_digits front in
    let short : nat_le (length text) 40 ≡ true = grind (arith, nat_tests) in
    ap (λ b. cond b (joined (is_minus text) (take_while is_ascii_digit front) (fraction_of rest) (power_of (past_fraction rest))) None) short

pub joined-None : (negative : Bool) (whole fraction : List ℕ) → joined negative whole fraction None ≡ None
unfolding joined
joined-None negative whole fraction = refl

digit-small : (c : ℕ) → is_ascii_digit c ≡ true → c - 48 ≤ 9
digit-small c h = grind (arith, nat_tests)

signed-small : (negative : Bool) (n : ℕ) → n ≤ 9 → IsWithin 9 (signed negative (pos n))
signed-small true n h = record { within = omega (arith, ints) }
signed-small false n h = record { within = omega arith }

power-small : {text : List ℕ} {written : ℤ} → IsPower text written → IsWithin 9 written
power-small no_power = record { within = omega arith }
power-small (with_power mark digit sign negative m s d) = signed-small negative (digit - 48) (digit-small digit d)

pub IsSmall-number_of : (text : List ℕ) (n : Number) → number_of text ≡ Some n → IsSmall n
IsSmall-number_of text n h =
    let number = IsNumber-number_of text n h in
    let small = power-small number.is_power in
    record { digits = number.digits; power = record { from = omega (arith, ints, number.exponent, number.places, small.within); to = omega (arith, ints, number.exponent, number.places, small.within) } }

pub IsSmall-if : (text : List ℕ) (o : Option Number) → o ≡ number_of text → IfSome o IsSmall
IsSmall-if text None e = tt
IsSmall-if text (Some n) e = IsSmall-number_of text n (sym e)

pub read_as : (text front whole rest fraction end : List ℕ) (negative : Bool) (power : Option ℤ) → length text ≤ 40 → front ≡ past_sign text → whole ≡ take_while is_ascii_digit front → rest ≡ past_digits front → fraction ≡ fraction_of rest → end ≡ past_fraction rest → power ≡ power_of end → negative ≡ is_minus text → joined negative whole fraction power ≡ number_of text
read_as text front whole rest fraction end negative power short front_is whole_is rest_is fraction_is end_is power_is negative_is =
    rw (negative_is, power_is, end_is, fraction_is, whole_is, rest_is, front_is) (sym (number_of-short text short))
