-- The bytes that the parts of a decimal text write, put together.
use Rattle.std.proofs.Common.{◌≡◌, ℕ, zero, suc, ◌+◌, ◌-◌, ◌*◌, ◌/◌, ◌%◌, ◌^◌, ◌<◌, ◌≤◌, true, false, cond, eqb, List, [], ◌∷◌, ◌++◌, length, take, drop, decimal, ℤ, pos, ◌*ℤ◌, unsigned_abs, FitsSigned, refl, sym, ap, subst, ◌∙◌, append_assoc, lit<, arith}
use Rattle.std.specs.Int.{w128, is_negative}
use Rattle.std.proofs.Math.ListN.{set}
use Rattle.std.proofs.lemmas.Bool.Decides.{nat_tests}
use Rattle.std.proofs.lemmas.Int.{fits_signed_mul}
use Rattle.std.proofs.lemmas.List.{drop-drop, drop-set-lt, take_more_set}
use Rattle.fixed_num.specs.declared.unit.Unit.{Unit as Scale}
use Rattle.fixed_num.specs.Decimal.{last_digits, placed, decimal_text}
use Rattle.fixed_num.specs.Ranges.{IsWithin}
use Rattle.fixed_num.specs.Rounding.{quo_of}

pub drop_further : (m n : ℕ) (xs ys : List ℕ) → m ≤ n → drop m xs ≡ drop m ys → drop n xs ≡ drop n ys
drop_further m n xs ys le same =
    let e : m + (n - m) ≡ n = omega arith in
    subst (λ k. drop k xs ≡ drop k ys) e (sym (drop-drop (n - m) m xs) ∙ ap (drop (n - m)) same ∙ drop-drop (n - m) m ys)

append-nil : (xs : List ℕ) → xs ++ [] ≡ xs
append-nil [] = refl
append-nil (x ∷ xs) = ap (λ t. x ∷ t) (append-nil xs)

-- ---- the whole digits, and the point
pub placed-whole : (n places power : ℕ) → places ≡ 0 → power ≡ 10 ^ places → placed n places ≡ decimal (n / power)
unfolding placed
placed-whole n places power none e = rw (e, none) (append-nil (decimal (n / 1)))

pub placed-point : (n places power : ℕ) → 0 < places → power ≡ 10 ^ places → placed n places ≡ decimal (n / power) ++ (46 ∷ last_digits places n)
unfolding placed
placed-point n places power some e =
    let test : eqb places 0 ≡ false = grind (arith, nat_tests) in
    rw e (ap (λ b. decimal (n / 10 ^ places) ++ cond b [] (46 ∷ last_digits places n)) test)

pub point_text : (before whole out : List ℕ) (n places power end : ℕ) → end < length whole → take end whole ≡ before ++ decimal (n / power) → power ≡ 10 ^ places → 0 < places → out ≡ take (end + 1) (set whole end 46) ++ last_digits places n → out ≡ before ++ placed n places
point_text before whole out n places power end within text e some last =
    last
    ∙ ap (λ t. t ++ last_digits places n) (take_more_set whole end 46 within ∙ ap (λ t. t ++ 46 ∷ []) text)
    ∙ append_assoc (before ++ decimal (n / power)) (46 ∷ []) (last_digits places n)
    ∙ append_assoc before (decimal (n / power)) (46 ∷ last_digits places n)
    ∙ ap (λ t. before ++ t) (sym (placed-point n places power some e))

pub point_rest : (old whole out : List ℕ) (end r : ℕ) → end < r → drop r out ≡ drop r (set whole end 46) → drop end whole ≡ drop end old → drop r out ≡ drop r old
point_rest old whole out end r less last rest =
    last ∙ drop-set-lt r whole end 46 less ∙ drop_further end r whole old (omega arith) rest

-- ---- the last digits
pub digit_text : (to all : List ℕ) (n left end power : ℕ) → 0 < left → end < length to → power ≡ 10 ^ (left - 1) → take end to ++ last_digits left n ≡ all → take (end + 1) (set to end (48 + n / power % 10)) ++ last_digits (left - 1) n ≡ all
digit_text to all n zero end power some within e text = absurd (omega arith)
digit_text to all n (suc k) end power some within e text =
    let less : suc k - 1 ≡ k = omega arith in
    let power_is : power ≡ 10 ^ k = e ∙ ap (λ j. 10 ^ j) less in
    ap (λ j. take (end + 1) (set to end (48 + n / power % 10)) ++ last_digits j n) less
    ∙ ap (λ t. t ++ last_digits k n) (take_more_set to end (48 + n / power % 10) within)
    ∙ append_assoc (take end to) ((48 + n / power % 10) ∷ []) (last_digits k n)
    ∙ ap (λ p. take end to ++ ((48 + n / p % 10) ∷ last_digits k n)) power_is
    ∙ text

pub digit_rest : (to before : List ℕ) (end k digit : ℕ) → end < k → drop k to ≡ drop k before → drop k (set to end digit) ≡ drop k before
digit_rest to before end k digit less rest = drop-set-lt k to end digit less ∙ rest

-- ---- the sign
pub first_put : (to : List ℕ) → 0 < length to → take 1 (set to 0 45) ≡ 45 ∷ []
first_put [] some = absurd (omega arith)
first_put (c ∷ cs) some = refl

pub decimal_text-below : (value : ℤ) (unit : Scale) (places : ℕ) (n : ℤ) → n ≡ quo_of (value *ℤ pos (unit.den * 10 ^ places)) (pos unit.num) → is_negative n ≡ true → decimal_text value unit places ≡ 45 ∷ placed (unsigned_abs n) places
unfolding decimal_text
decimal_text-below value unit places n e test =
    ap (λ z. cond (is_negative z) (45 ∷ []) [] ++ placed (unsigned_abs z) places) (sym e)
    ∙ ap (λ b. cond b (45 ∷ []) [] ++ placed (unsigned_abs n) places) test

pub decimal_text-above : (value : ℤ) (unit : Scale) (places : ℕ) (n : ℤ) → n ≡ quo_of (value *ℤ pos (unit.den * 10 ^ places)) (pos unit.num) → is_negative n ≡ false → decimal_text value unit places ≡ placed (unsigned_abs n) places
unfolding decimal_text
decimal_text-above value unit places n e test =
    ap (λ z. cond (is_negative z) (45 ∷ []) [] ++ placed (unsigned_abs z) places) (sym e)
    ∙ ap (λ b. cond b (45 ∷ []) [] ++ placed (unsigned_abs n) places) test

-- ---- the scale
pub product-fits : (value : ℤ) (scale : ℕ) → IsWithin (10 ^ 20) value → scale ≤ 10 ^ 14 → FitsSigned w128 (value *ℤ pos scale)
product-fits value scale small le = fits_signed_mul w128 value (pos scale) (10 ^ 20) (10 ^ 14) small.within le (lit< tt)
