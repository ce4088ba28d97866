-- The parts that one link adds to the sums of a node are those of the trial.
use Rattle.std.proofs.Common.{◌≡◌, ℕ, ◌+◌, ◌<◌, ◌≤◌, Bool, true, false, eqb, nat_lt, if◌then◌else◌, ℤ, pos, negsuc, ◌-ℤ◌, ◌≤ℤ◌, List, ◌⊎◌, inl, inr, refl, sym, ap, subst, ◌∙◌, arith}
use Rattle.std.specs.Int.RustNames.{unsigned_abs}
use Rattle.std.proofs.lemmas.Int.{ints}
use Rattle.std.proofs.lemmas.Bool.Decides.{nat_tests}
use Rattle.fixed_num.specs.Sums.{below, at}
use Rattle.fixed_num.proofs.SumLemmas.{below_same, at_other}
use Rattle.phase_law.specs.Law.{Law}
use Rattle.phase_law.specs.declared.values.Share.{Share}
use Rattle.phase_law.specs.declared.values.NodeNext.{NodeNext}
use Rattle.trial_model.specs.Flow.{forward, backward}
use Rattle.trial_model.specs.Parts.{in_part, out_part, area_part}
use Rattle.trial_model.specs.Trial.{inflow_of, outflow_of, area_of, unsettled_part}
use Rattle.trial_model.proofs.SumLemmas.{in_parts, out_parts, area_parts}
use Rattle.fixed_num.specs.Lists.{number}
use Rattle.phase_machine.specs.Places.{link_place, node_place}
use Rattle.phase_machine.proofs.PlaceLemmas.{equal_or_not}
use Rattle.phase_machine.specs.Items.{leaving, reaching}
use Rattle.phase_machine.specs.Kept.{part_of, sum_parts, late, flow_off, head_off, marks}

at_nothing : (place n : ℕ) → at place 0 n ≡ 0
at_nothing place n = grind (arith, nat_tests)

in_by : (a b : ℕ) (q : ℤ) (n : ℕ) → part_of (leaving a q) n 0 + part_of (reaching b q) n 0 ≡ at a (backward q) n + at b (forward q) n
in_by a b (pos x) n = omega (arith, at_nothing a n)
in_by a b (negsuc x) n = omega (arith, at_nothing b n)

out_by : (a b : ℕ) (q : ℤ) (n : ℕ) → part_of (leaving a q) n 1 + part_of (reaching b q) n 1 ≡ at a (forward q) n + at b (backward q) n
out_by a b (pos x) n = omega (arith, at_nothing b n)
out_by a b (negsuc x) n = omega (arith, at_nothing a n)

no_area_by : (a : ℕ) (q : ℤ) (n : ℕ) → (part_of (leaving a q) n 2 ≡ 0) × (part_of (reaching a q) n 2 ≡ 0)
no_area_by a (pos x) n = (refl, refl)
no_area_by a (negsuc x) n = (refl, refl)

module _ (law : Law) (share : ℕ → Share) (n : ℕ) where
  pub parts_in : (l : ℕ) → below (λ k. sum_parts law share n 0 k l) 15 ≡ in_part (law.ends l) (share l) n
  unfolding sum_parts
  parts_in l = omega (arith, in_by (law.ends l).0 (law.ends l).1 (share l).q n)

  pub parts_out : (l : ℕ) → below (λ k. sum_parts law share n 1 k l) 15 ≡ out_part (law.ends l) (share l) n
  unfolding sum_parts
  parts_out l = omega (arith, out_by (law.ends l).0 (law.ends l).1 (share l).q n)

  pub parts_area : (l : ℕ) → below (λ k. sum_parts law share n 2 k l) 15 ≡ area_part (law.ends l) (share l) n
  unfolding sum_parts
  parts_area l = omega (arith, (no_area_by (law.ends l).0 (share l).q n).0, (no_area_by (law.ends l).1 (share l).q n).1)

  -- so the parts of all links are the sums of the trial
  pub all_in : below (λ l. below (λ k. sum_parts law share n 0 k l) 15) law.links ≡ inflow_of law (λ l. (share l).q) n
  all_in =
      below_same (λ l. below (λ k. sum_parts law share n 0 k l) 15) (λ l. in_part (law.ends l) (share l) n) law.links (λ l h. parts_in l)
      ∙ in_parts law share n

  pub all_out : below (λ l. below (λ k. sum_parts law share n 1 k l) 15) law.links ≡ outflow_of law (λ l. (share l).q) n
  all_out =
      below_same (λ l. below (λ k. sum_parts law share n 1 k l) 15) (λ l. out_part (law.ends l) (share l) n) law.links (λ l h. parts_out l)
      ∙ out_parts law share n

  pub all_area : below (λ l. below (λ k. sum_parts law share n 2 k l) 15) law.links ≡ area_of law share n
  all_area =
      below_same (λ l. below (λ k. sum_parts law share n 2 k l) 15) (λ l. area_part (law.ends l) (share l) n) law.links (λ l h. parts_area l)
      ∙ area_parts law share n

-- ---- acts that add nothing to a sum
pub no_parts : (law : Law) (share : ℕ → Share) (n s k l : ℕ) → s < 3 → (k < 9) → sum_parts law share n s k l ≡ 0
unfolding sum_parts
no_parts law share n s k l few early = grind (arith, nat_tests)

pub no_parts_late : (law : Law) (share : ℕ → Share) (n s k l : ℕ) → s < 3 → 13 ≤ k → sum_parts law share n s k l ≡ 0
unfolding sum_parts
no_parts_late law share n s k l few late = grind (arith, nat_tests)

-- ---- what is late or off
pub less_late : (share : ℕ → Share) (least old : ℤ) → least ≤ℤ old → (k l : ℕ) → late share least k l ≤ late share old k l
unfolding late
less_late share least old less k l =
    let lower : (least -ℤ (share l).time) ≤ℤ (old -ℤ (share l).time) = omega (arith, ints) in
    let f : forward (least -ℤ (share l).time) ≤ forward (old -ℤ (share l).time) = forward_less (least -ℤ (share l).time) (old -ℤ (share l).time) lower in
    at_less (forward (least -ℤ (share l).time)) (forward (old -ℤ (share l).time)) f
  where
    at_less : (m n : ℕ) → m ≤ n → at 13 m k ≤ at 13 n k
    at_less m n h = grind (arith, nat_tests)

    forward_less : (a b : ℤ) → a ≤ℤ b → forward a ≤ forward b
    forward_less (pos a) (pos b) h = omega (arith, ints)
    forward_less (pos a) (negsuc b) h = omega (arith, ints)
    forward_less (negsuc a) b h = omega arith

pub not_late : (share : ℕ → Share) (least : ℤ) (k l : ℕ) → (k ≡ 13 → least ≤ℤ (share l).time) → late share least k l ≡ 0
unfolding late
not_late share least k l within = by_test (eqb 13 k) refl
  where
    forward_none : (a : ℤ) → a ≤ℤ pos 0 → forward a ≡ 0
    forward_none (pos a) h = omega (arith, ints)
    forward_none (negsuc a) h = refl

    by_test : (b : Bool) → eqb 13 k ≡ b → late share least k l ≡ 0
    by_test true on =
        let e : k ≡ 13 = grind (arith, nat_tests) in
        let lower : (least -ℤ (share l).time) ≤ℤ pos 0 = omega (arith, ints, within e) in
        rw on (forward_none (least -ℤ (share l).time) lower)
    by_test false off = rw off refl

forward_sign : (d : ℤ) → forward d ≡ 0 → d ≤ℤ pos 0
forward_sign (pos d) h = omega (arith, ints)
forward_sign (negsuc d) h = omega (arith, ints)

pub late_within : (share : ℕ → Share) (least : ℤ) (l : ℕ) → below (λ k. late share least k l) 15 ≡ 0 → least ≤ℤ (share l).time
unfolding late
late_within share least l none =
    let sign = forward_sign (least -ℤ (share l).time) (omega (arith, none)) in
    omega (arith, ints, sign)

-- a word is off by nothing where it is what was put there
apart_none : (a b : ℤ) → unsigned_abs (a -ℤ b) ≡ 0 → a ≡ b
apart_none a b h = omega (arith, ints)

none_apart : (a b : ℤ) → a ≡ b → unsigned_abs (a -ℤ b) ≡ 0
none_apart a b e = omega (arith, ints)

-- words that changed only to what was put are off by no more
module _ (law : Law) (share : ℕ → Share) (words new : List ℤ) (b : ℕ) where
  -- how far the flow word of a link is from its share
  abbrev off : List ℤ → ℕ → ℕ
  off ws l = if nat_lt l law.links then unsigned_abs (number ws (link_place l (4 + b)) -ℤ (share l).q) else 0

  off_none : (l : ℕ) → (l < law.links → number new (link_place l (4 + b)) ≡ (share l).q) → off new l ≡ 0
  off_none l put = by_test (nat_lt l law.links) refl
    where
      by_test : (t : Bool) → nat_lt l law.links ≡ t → off new l ≡ 0
      by_test true on = rw on (none_apart (number new (link_place l (4 + b))) (share l).q (put (grind (arith, nat_tests))))
      by_test false out = rw out refl

  off_same : (l : ℕ) → (l < law.links → number new (link_place l (4 + b)) ≡ number words (link_place l (4 + b))) → off new l ≡ off words l
  off_same l same = by_test (nat_lt l law.links) refl
    where
      by_test : (t : Bool) → nat_lt l law.links ≡ t → off new l ≡ off words l
      by_test true on = rw (on, same (grind (arith, nat_tests))) refl
      by_test false out = rw out refl

  pub flow_off_less : ((l : ℕ) → l < law.links → (number new (link_place l (4 + b)) ≡ number words (link_place l (4 + b))) ⊎ (number new (link_place l (4 + b)) ≡ (share l).q))
      → (k l : ℕ) → flow_off law share new b k l ≤ flow_off law share words b k l
  unfolding flow_off
  flow_off_less changed k l = at_less (off new l) (off words l) (less (nat_lt l law.links) refl)
    where
      at_less : (m n : ℕ) → m ≤ n → at 14 m k ≤ at 14 n k
      at_less m n h = grind (arith, nat_tests)

      less : (t : Bool) → nat_lt l law.links ≡ t → off new l ≤ off words l
      less true on =
          elim (changed l (grind (arith, nat_tests))) [
            | inl same ↦ let e = off_same l (λ _. same) in omega (arith, e)
            | inr put ↦ let e = off_none l (λ _. put) in omega (arith, e)
          ]
      less false out = rw out (omega arith)

  pub flow_off_none : (k l : ℕ) → (k ≡ 14 → number new (link_place l (4 + b)) ≡ (share l).q) → flow_off law share new b k l ≡ 0
  unfolding flow_off
  flow_off_none k l put =
      elim (equal_or_not k 14) [
        | inl e ↦ ap (λ (m : ℕ). at 14 m k) (off_none l (λ _. put e)) ∙ at_nothing 14 k
        | inr differ ↦ at_other 14 (off new l) k (λ e. differ (sym e))
      ]

  pub flow_on : (l : ℕ) → l < law.links → below (λ k. flow_off law share new b k l) 15 ≡ 0 → number new (link_place l (4 + b)) ≡ (share l).q
  unfolding flow_off
  flow_on l h none =
      let on : nat_lt l law.links ≡ true = grind (arith, nat_tests) in
      let all : off new l ≡ 0 = omega (arith, none) in
      apart_none (number new (link_place l (4 + b))) (share l).q (subst (λ (t : Bool). ◌≡◌ {A = ℕ} (if t then unsigned_abs (number new (link_place l (4 + b)) -ℤ (share l).q) else 0) 0) on all)

module _ (law : Law) (next : ℕ → NodeNext) (words new : List ℤ) (b : ℕ) where
  pub head_off_less : ((n : ℕ) → (number new (node_place law n (5 + b)) ≡ number words (node_place law n (5 + b))) ⊎ (number new (node_place law n (5 + b)) ≡ (next n).head))
      → (k n : ℕ) → head_off law next new b k n ≤ head_off law next words b k n
  unfolding head_off
  head_off_less changed k n =
      elim (changed n) [
        | inl same ↦ rw same (omega arith)
        | inr put ↦
            let none : at 11 (unsigned_abs (number new (node_place law n (5 + b)) -ℤ (next n).head)) k ≡ 0 =
            ap (λ (m : ℕ). at 11 m k) (none_apart _ _ put) ∙ at_nothing 11 k in
            omega (arith, none)
      ]

  pub head_off_none : (k n : ℕ) → (k ≡ 11 → number new (node_place law n (5 + b)) ≡ (next n).head) → head_off law next new b k n ≡ 0
  unfolding head_off
  head_off_none k n put =
      elim (equal_or_not k 11) [
        | inl e ↦ ap (λ (m : ℕ). at 11 m k) (none_apart _ _ (put e)) ∙ at_nothing 11 k
        | inr differ ↦ at_other 11 _ k (λ e. differ (sym e))
      ]

  pub head_on : (n : ℕ) → below (λ k. head_off law next new b k n) 15 ≡ 0 → number new (node_place law n (5 + b)) ≡ (next n).head
  unfolding head_off
  head_on n none = apart_none _ _ (omega (arith, none))

-- ---- marks
pub one_mark : (next : ℕ → NodeNext) (n : ℕ) → below (λ k. marks next k n) 15 ≡ unsettled_part (next n).settled
unfolding marks
one_mark next n = omega arith

pub no_mark : (next : ℕ → NodeNext) (k n : ℕ) → ¬ (k ≡ 12) → marks next k n ≡ 0
unfolding marks
no_mark next k n differ = at_other 12 _ k (λ e. differ (sym e))

pub the_mark : (next : ℕ → NodeNext) (n : ℕ) → marks next 12 n ≡ unsettled_part (next n).settled
unfolding marks
the_mark next n = refl
