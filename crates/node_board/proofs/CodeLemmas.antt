-- The words of numbers, by their places.
use Rattle.std.proofs.Common.{◌≡◌, ℕ, ◌+◌, ◌-◌, ◌*◌, ◌%◌, ◌^◌, ◌<◌, true, false, nat_lt}
use Rattle.std.proofs.Common.{ℤ, pos, negsuc, ◌+ℤ◌, ◌-ℤ◌, ◌≤ℤ◌, min, refl, sym, ap, ◌∙◌, arith}
use Rattle.std.proofs.lemmas.Bool.Decides.{nat_tests}
use Rattle.std.proofs.lemmas.Int.{ints}
use Rattle.std.specs.Int.{int_min}
use Rattle.std.specs.Int.RustNames.{unsigned_abs}
use Rattle.phase_law.specs.Law.{Law}
use Rattle.phase_machine.specs.Places.{done_place, unsettled_place, first_place, link_place, node_place, least_place}
use Rattle.node_board.specs.Coding.{is_plain, coded, decoded}

-- ---- which places are plain
pub done_plain : (law : Law) → is_plain law done_place ≡ true
done_plain law = refl

pub unsettled_plain : (law : Law) → is_plain law unsettled_place ≡ true
unsettled_plain law = refl

pub first_plain : (law : Law) → is_plain law first_place ≡ true
first_plain law = refl

pub least_plain : (law : Law) → is_plain law (least_place law) ≡ true
least_plain law =
    let a : nat_lt (least_place law) 3 ≡ false = grind (arith, nat_tests) in
    let b : nat_lt (least_place law) (3 + 6 * law.links) ≡ false = grind (arith, nat_tests) in
    let c : nat_lt (least_place law) (3 + 6 * law.links + 10 * law.nodes) ≡ false = grind (arith, nat_tests) in
    rw (a, b, c) refl

pub link_signed : (law : Law) (l k : ℕ) → l < law.links → k < 6 → is_plain law (link_place l k) ≡ false
link_signed law l k h few =
    let a : nat_lt (link_place l k) 3 ≡ false = grind (arith, nat_tests) in
    let b : nat_lt (link_place l k) (3 + 6 * law.links) ≡ true = grind (arith, nat_tests) in
    rw (a, b) refl

pub node_kind : (law : Law) (n k : ℕ) → n < law.nodes → k < 10 → is_plain law (node_place law n k) ≡ nat_lt 6 k
node_kind law n k h few =
    let a : nat_lt (node_place law n k) 3 ≡ false = grind (arith, nat_tests) in
    let b : nat_lt (node_place law n k) (3 + 6 * law.links) ≡ false = grind (arith, nat_tests) in
    let c : nat_lt (node_place law n k) (3 + 6 * law.links + 10 * law.nodes) ≡ true = grind (arith, nat_tests) in
    let d : (node_place law n k - 3 - 6 * law.links) % 10 ≡ k = omega arith in
    rw (a, b, c) (ap (λ (m : ℕ). nat_lt 6 m) d)

-- ---- words and numbers
pub plain_word : (law : Law) (place : ℕ) (v : ℤ) → is_plain law place ≡ true → coded law place v ≡ unsigned_abs v
plain_word law place v e = rw e refl

pub signed_word : (law : Law) (place : ℕ) (v : ℤ) → is_plain law place ≡ false
    → coded law place v ≡ unsigned_abs (v +ℤ pos (2 ^ 63))
signed_word law place v e = rw e refl

pub plain_back : (law : Law) (place : ℕ) (v : ℤ) → is_plain law place ≡ true → pos 0 ≤ℤ v
    → decoded law place (coded law place v) ≡ v
plain_back law place v e from = rw e (omega (arith, ints))

abs_is : (x : ℤ) → pos 0 ≤ℤ x → pos (unsigned_abs x) ≡ x
abs_is x from = omega (arith, ints)

add_back : (v p : ℤ) → (v +ℤ p) -ℤ p ≡ v
add_back v p = omega (arith, ints)

signed_number : (law : Law) (place n : ℕ) → is_plain law place ≡ false → decoded law place n ≡ pos n -ℤ pos (2 ^ 63)
signed_number law place n e = rw e refl

pub signed_back : (law : Law) (place : ℕ) (v : ℤ) → is_plain law place ≡ false → pos 0 ≤ℤ (v +ℤ pos (2 ^ 63))
    → decoded law place (coded law place v) ≡ v
signed_back law place v e from =
    ap (λ (n : ℕ). decoded law place n) (signed_word law place v e)
    ∙ signed_number law place (unsigned_abs (v +ℤ pos (2 ^ 63))) e
    ∙ ap (λ (x : ℤ). x -ℤ pos (2 ^ 63)) (abs_is (v +ℤ pos (2 ^ 63)) from)
    ∙ add_back v (pos (2 ^ 63))

-- an amount more
pub plain_more : (law : Law) (place : ℕ) (v : ℤ) (k : ℕ) → is_plain law place ≡ true → pos 0 ≤ℤ v
    → coded law place v + k ≡ coded law place (v +ℤ pos k)
plain_more law place v k e from = rw e (omega (arith, ints))

-- the lesser of two
abs_min : (a b : ℤ) → pos 0 ≤ℤ a → pos 0 ≤ℤ b → min (unsigned_abs a) (unsigned_abs b) ≡ unsigned_abs (int_min a b)
abs_min (pos m) (pos n) from from2 = grind (arith, nat_tests)
abs_min (pos m) (negsuc n) from from2 = absurd (omega (arith, ints))
abs_min (negsuc m) b from from2 = absurd (omega (arith, ints))

pub plain_min : (law : Law) (place : ℕ) (a b : ℤ) → is_plain law place ≡ true → pos 0 ≤ℤ a → pos 0 ≤ℤ b
    → min (coded law place a) (unsigned_abs b) ≡ coded law place (int_min a b)
plain_min law place a b e from from2 =
    ap (λ (m : ℕ). min m (unsigned_abs b)) (plain_word law place a e)
    ∙ abs_min a b from from2
    ∙ sym (plain_word law place (int_min a b) e)
