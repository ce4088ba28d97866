-- Which word is reset when: no two resets name one word, and none names a word that a trial reads.
use Rattle.std.proofs.Common.{◌≡◌, ℕ, zero, suc, ◌+◌, ◌*◌, ◌-◌, ◌/◌, ◌%◌, ◌<◌, ◌≤◌, Bool, true, false, nat_lt, if◌then◌else◌, ℤ, pos, refl, ◌∙◌, arith}
use Rattle.std.proofs.lemmas.Bool.Decides.{nat_tests}
use Rattle.phase_law.specs.Law.{Law}
use Rattle.phase_machine.specs.Places.{done_place, unsettled_place, node_place, least_place, word_count, is_odd, IsRead, IsInRange}
use Rattle.phase_machine.specs.Steps.{reset_count, reset_place, reset_value}
use Rattle.phase_machine.proofs.PlaceLemmas.{read_apart_done, read_apart_unsettled, read_apart_sum, read_apart_least, done_range, unsettled_range, sum_range, least_range}

pub data ResetView (law : Law) (r : ℕ) : Type 0 where
  of_done : r ≡ 0 → reset_place law r ≡ done_place → reset_value law r ≡ pos 0 → ResetView law r
  of_unsettled : r ≡ 1 → reset_place law r ≡ unsettled_place → reset_value law r ≡ pos 0 → ResetView law r
  of_sum : (n s : ℕ) → n < law.nodes → s < 3 → r ≡ 2 + 3 * n + s → reset_place law r ≡ node_place law n (7 + s) → reset_value law r ≡ pos 0
      → ResetView law r
  of_least : r ≡ 2 + 3 * law.nodes → reset_place law r ≡ least_place law → reset_value law r ≡ pos 3_600_000 → ResetView law r

pub reset_view : (law : Law) (r : ℕ) → r < 3 + 3 * law.nodes → ResetView law r
reset_view law r h = by_test (nat_lt r 2) refl (nat_lt r (2 + 3 * law.nodes)) refl
  where
    low : nat_lt r 2 ≡ true → nat_lt r (2 + 3 * law.nodes) ≡ true
    low on = grind (arith, nat_tests)

    by_first : (t : ℕ) → r ≡ t → t < 2 → nat_lt r 2 ≡ true → nat_lt r (2 + 3 * law.nodes) ≡ true → ResetView law r
    by_first zero e few on all = of_done e (rw on e) (rw all refl)
    by_first (suc zero) e few on all = of_unsettled e (rw on e) (rw all refl)
    by_first (suc (suc t)) e few on all = absurd (omega arith)

    by_test : (t : Bool) → nat_lt r 2 ≡ t → (u : Bool) → nat_lt r (2 + 3 * law.nodes) ≡ u → ResetView law r
    by_test true on u e = by_first r refl (grind (arith, nat_tests)) on (low on)
    by_test false off true on =
        let late : 2 ≤ r = grind (arith, nat_tests) in
        let less : r < 2 + 3 * law.nodes = grind (arith, nat_tests) in
        of_sum ((r - 2) / 3) ((r - 2) % 3) (omega (arith, late, less)) (omega arith) (omega (arith, late)) (rw (off, on) refl) (rw on refl)
    by_test false off false out =
        let most : 2 + 3 * law.nodes ≤ r = grind (arith, nat_tests) in
        of_least (omega (arith, most, h)) (rw (off, out) refl) (rw out refl)

module _ {law : Law} where
  pub reset_within : {r : ℕ} → ResetView law r → reset_place law r < word_count law
  reset_within (of_done e p v) = omega arith
  reset_within (of_unsettled e p v) = omega arith
  reset_within (of_sum n s h few e p v) = omega arith
  reset_within (of_least e p v) = omega arith

  pub reset_range : {r : ℕ} → ResetView law r → (value : ℤ) → IsInRange law (reset_place law r) value
  reset_range (of_done e p v) value = rw p (done_range value)
  reset_range (of_unsettled e p v) value = rw p (unsettled_range value)
  reset_range (of_sum n s h few e p v) value = rw p (sum_range n s few value)
  reset_range (of_least e p v) value = rw p (least_range value)

  pub reset_unread : {r b j : ℕ} → ResetView law r → b < 2 → IsRead law b j → ¬ (j ≡ reset_place law r)
  reset_unread (of_done e p v) few read same = read_apart_done read (same ∙ p)
  reset_unread (of_unsettled e p v) few read same = read_apart_unsettled read (same ∙ p)
  reset_unread (of_sum n s h h2 e p v) few read same = read_apart_sum few read n s h h2 (same ∙ p)
  reset_unread (of_least e p v) few read same = read_apart_least few read (same ∙ p)

  pub resets_apart : {r t : ℕ} → ResetView law r → ResetView law t → ¬ (r ≡ t) → ¬ (reset_place law r ≡ reset_place law t)
  resets_apart (of_done e p v) (of_done f q w) differ same = differ (omega arith)
  resets_apart (of_done e p v) (of_unsettled f q w) differ same = omega arith
  resets_apart (of_done e p v) (of_sum n s h few f q w) differ same = omega arith
  resets_apart (of_done e p v) (of_least f q w) differ same = omega arith
  resets_apart (of_unsettled e p v) (of_done f q w) differ same = omega arith
  resets_apart (of_unsettled e p v) (of_unsettled f q w) differ same = differ (omega arith)
  resets_apart (of_unsettled e p v) (of_sum n s h few f q w) differ same = omega arith
  resets_apart (of_unsettled e p v) (of_least f q w) differ same = omega arith
  resets_apart (of_sum m u h1 few1 e p v) (of_done f q w) differ same = omega arith
  resets_apart (of_sum m u h1 few1 e p v) (of_unsettled f q w) differ same = omega arith
  resets_apart (of_sum m u h1 few1 e p v) (of_sum n s h few f q w) differ same = differ (omega arith)
  resets_apart (of_sum m u h1 few1 e p v) (of_least f q w) differ same = omega arith
  resets_apart (of_least e p v) (of_done f q w) differ same = omega arith
  resets_apart (of_least e p v) (of_unsettled f q w) differ same = omega arith
  resets_apart (of_least e p v) (of_sum n s h few f q w) differ same = omega arith
  resets_apart (of_least e p v) (of_least f q w) differ same = differ (omega arith)

-- reset 2 + 3·n + s is that of sum s of node n
pub sum_reset : (law : Law) (n s : ℕ) → n < law.nodes → s < 3
    → (reset_place law (2 + 3 * n + s) ≡ node_place law n (7 + s)) × (reset_value law (2 + 3 * n + s) ≡ pos 0)
sum_reset law n s h few =
    let off : nat_lt (2 + 3 * n + s) 2 ≡ false = grind (arith, nat_tests) in
    let on : nat_lt (2 + 3 * n + s) (2 + 3 * law.nodes) ≡ true = grind (arith, nat_tests) in
    (rw (off, on) (omega arith), rw on refl)

pub least_reset : (law : Law) → (reset_place law (2 + 3 * law.nodes) ≡ least_place law) × (reset_value law (2 + 3 * law.nodes) ≡ pos 3_600_000)
least_reset law =
    let off : nat_lt (2 + 3 * law.nodes) 2 ≡ false = grind (arith, nat_tests) in
    let out : nat_lt (2 + 3 * law.nodes) (2 + 3 * law.nodes) ≡ false = grind (arith, nat_tests) in
    (rw (off, out) refl, rw out refl)

pub few_of : (law : Law) (phase : ℕ) → reset_count law phase ≤ 3 + 3 * law.nodes
few_of law phase = by_kind (is_odd phase)
  where
    by_kind : (t : Bool) → (if t then 1 else 3 + 3 * law.nodes) ≤ 3 + 3 * law.nodes
    by_kind true = omega arith
    by_kind false = omega arith
