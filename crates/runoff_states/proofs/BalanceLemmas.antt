-- A step loses and makes no water but for the rounding of volumes.
use Rattle.std.proofs.Common.{◌≡◌, ℕ, zero, suc, ◌*◌, ◌≤◌, ℤ, pos, ◌+ℤ◌, ◌-ℤ◌, ◌*ℤ◌, unsigned_abs, refl, sym, ap, ◌∙◌, arith}
use borrow.Author.Differences.{up, down, sum_is_lem}
use Rattle.std.proofs.lemmas.Int.{ints, unsigned_abs-mul}
use Rattle.fixed_num.specs.Ranges.{IsWithin}
use Rattle.fixed_num.specs.Rounding.{quo_of}
use Rattle.fixed_num.specs.Sums.{sum_below}
use Rattle.fixed_num.proofs.Bounds.{within_add, within_sub, within_up}
use Rattle.fixed_num.proofs.RoundingLemmas.{IsNearest-quo_of}
use Rattle.fixed_num.proofs.SignedSums.{times_plus}
use Rattle.fixed_num.proofs.Between.{lt_number}
use Rattle.net_types.specs.declared.hydrology.Sub.{Sub}
use Rattle.runoff.specs.Overland.{depth_after, left_of, outflow_of, runoff_of, substep_of, substeps}
use Rattle.runoff.specs.RunoffStep.{bare_step_of, paved_step_of, pervious_step_of, sub_step_of, subarea_step_of}
use Rattle.runoff.specs.RunoffStep.{volume_of}
use Rattle.runoff.specs.declared.states.SubState.{SubState}
use Rattle.runoff.specs.declared.states.SubStep.{SubStep}
use Rattle.runoff_states.specs.RunoffAccount.{error_of, IsClosed}

-- what is left after some substeps and what ran off in them is what there was
kept_after : (plane : _) (cover : _) (ms depth : ℤ) (k : ℕ)
    → depth_after plane cover ms depth k
    +ℤ sum_below (λ j. outflow_of plane cover (substep_of ms) (depth_after plane cover ms depth j)) k ≡ depth
kept_after plane cover ms depth zero = omega (arith, ints)
kept_after plane cover ms depth (suc k) = omega (arith, ints, kept_after plane cover ms depth k)

left_and_runoff : (plane : _) (cover : _) (ms depth : ℤ)
    → left_of plane cover ms depth +ℤ runoff_of plane cover ms depth ≡ depth
unfolding left_of runoff_of
left_and_runoff plane cover ms depth = kept_after plane cover ms depth substeps

-- a product is a volume in millionths, and a rest that is at most half a million
record IsNear (product q : ℤ) : Type 0 where
  rest : ℤ
  is : product ≡ q *ℤ pos 1_000_000 +ℤ rest
  small : IsWithin 500_000 rest

back : (x y : ℤ) → x ≡ y +ℤ (x -ℤ y)
back x y = omega (arith, ints)

near_by : (product q : ℤ) → 2 * unsigned_abs (product -ℤ q *ℤ pos 1_000_000) ≤ 1_000_000 → IsNear product q
near_by product q h = record {
  rest = product -ℤ q *ℤ pos 1_000_000;
  is = back product (q *ℤ pos 1_000_000);
  small = record { within = omega (arith, h) };
}

volume_near : (area depth : ℤ) → IsNear (area *ℤ depth) (volume_of area depth)
unfolding volume_of
volume_near area depth =
    near_by (area *ℤ depth) (quo_of (area *ℤ depth) (pos 1_000_000))
    (IsNearest-quo_of (area *ℤ depth) (pos 1_000_000) (lt_number tt)).near

-- a multiple of a million whose rest is within 2,500,000
small_multiple : (e rest : ℤ) → e *ℤ pos 1_000_000 ≡ rest → IsWithin 2_500_000 rest → IsWithin 2 e
small_multiple e rest h w =
    let size : unsigned_abs e * 1_000_000 ≡ unsigned_abs rest =
    sym (unsigned_abs-mul e (pos 1_000_000)) ∙ ap unsigned_abs h in
    record { within = omega (arith, size, w.within) }

less : (a b c : ℤ) → a ≡ b +ℤ c → c ≡ a -ℤ b
less a b c h = omega (arith, ints, h)

plus_times : (a b m : ℤ) → (a +ℤ b) *ℤ m ≡ a *ℤ m +ℤ b *ℤ m
plus_times a b m =
    let e = sum_is_lem a b in
    omega (arith, ints, ap (λ (x : ℕ). x * up m) e, ap (λ (x : ℕ). x * down m) e)

minus_times : (x y m : ℤ) → (x -ℤ y) *ℤ m ≡ x *ℤ m -ℤ y *ℤ m
minus_times x y m =
    less (x *ℤ m) (y *ℤ m) ((x -ℤ y) *ℤ m) (ap (λ (z : ℤ). z *ℤ m) (back x y) ∙ plus_times y (x -ℤ y) m)

-- the rests of five products of which the sums are equal
rests : (p q r s t a b c d e : ℤ) → (t +ℤ e) +ℤ (p +ℤ a) -ℤ (q +ℤ b) ≡ (s +ℤ d) +ℤ (r +ℤ c)
    → p -ℤ q -ℤ r -ℤ (s -ℤ t) ≡ d +ℤ c -ℤ e -ℤ a +ℤ b
rests p q r s t a b c d e h = omega (arith, ints, h)

multiples : (p q r s t m : ℤ)
    → (p -ℤ q -ℤ r -ℤ (s -ℤ t)) *ℤ m ≡ p *ℤ m -ℤ q *ℤ m -ℤ r *ℤ m -ℤ (s *ℤ m -ℤ t *ℤ m)
multiples p q r s t m =
    minus_times (p -ℤ q -ℤ r) (s -ℤ t) m
    ∙ ap (λ (x : ℤ). x -ℤ (s -ℤ t) *ℤ m) (minus_times (p -ℤ q) r m)
    ∙ ap (λ (x : ℤ). x -ℤ r *ℤ m -ℤ (s -ℤ t) *ℤ m) (minus_times p q m)
    ∙ ap (λ (x : ℤ). p *ℤ m -ℤ q *ℤ m -ℤ r *ℤ m -ℤ x) (minus_times s t m)

rounded_sum : {a b c d e p q r s t : ℤ} → IsNear a p → IsNear b q → IsNear c r → IsNear d s → IsNear e t
    → e +ℤ a -ℤ b ≡ d +ℤ c → IsWithin 2 (error_of p q r (s -ℤ t))
rounded_sum {a} {b} {c} {d} {e} {p} {q} {r} {s} {t} na nb nc nd ne h =
    let sums = rw (na.is, nb.is, nc.is, nd.is, ne.is) at h in
    let parts = rests (p *ℤ pos 1_000_000) (q *ℤ pos 1_000_000) (r *ℤ pos 1_000_000) (s *ℤ pos 1_000_000)
    (t *ℤ pos 1_000_000) na.rest nb.rest nc.rest nd.rest ne.rest sums in
    small_multiple (p -ℤ q -ℤ r -ℤ (s -ℤ t)) (nd.rest +ℤ nc.rest -ℤ ne.rest -ℤ na.rest +ℤ nb.rest)
    (multiples p q r s t (pos 1_000_000) ∙ parts)
    (within_up (within_add (within_sub (within_sub (within_add nd.small nc.small) ne.small) na.small) nb.small) tt)

-- the products of an area with depths whose sums are equal
products : (area rain taken runoff left depth : ℤ) → left +ℤ runoff ≡ depth +ℤ rain -ℤ taken
    → area *ℤ depth +ℤ area *ℤ rain -ℤ area *ℤ taken ≡ area *ℤ left +ℤ area *ℤ runoff
products area rain taken runoff left depth h =
    let filled = depth +ℤ rain -ℤ taken in
    let one : filled +ℤ taken ≡ depth +ℤ rain = omega (arith, ints) in
    let first = times_plus area filled taken in
    let second = times_plus area depth rain in
    let third = times_plus area left runoff in
    let same : area *ℤ (left +ℤ runoff) ≡ area *ℤ filled = rw h refl in
    let other : area *ℤ (filled +ℤ taken) ≡ area *ℤ (depth +ℤ rain) = rw one refl in
    omega (arith, ints, first, second, third, same, other)

-- what became of the rain on a subarea
subarea_closed : (plane : _) (subarea : _) (rain depth taken ms : ℤ) → (v : SubStep)
    → v ≡ (subarea_step_of plane subarea rain depth taken ms).volumes
    → IsWithin 2 (error_of v.rain v.infil v.runoff v.stored)
unfolding subarea_step_of
subarea_closed plane subarea rain depth taken ms v e =
    let filled = depth +ℤ rain -ℤ taken in
    let left = left_of plane subarea.cover ms filled in
    let runoff = runoff_of plane subarea.cover ms filled in
    let area = subarea.area in
    let sums = products area rain taken runoff left depth (left_and_runoff plane subarea.cover ms filled) in
    rw e (rounded_sum (volume_near area rain) (volume_near area taken) (volume_near area runoff)
    (volume_near area left) (volume_near area depth) sums)

-- three parts
three : (a b c : SubStep) → IsWithin 2 (error_of a.rain a.infil a.runoff a.stored)
    → IsWithin 2 (error_of b.rain b.infil b.runoff b.stored)
    → IsWithin 2 (error_of c.rain c.infil c.runoff c.stored)
    → IsWithin 6 (error_of (a.rain +ℤ b.rain +ℤ c.rain) (a.infil +ℤ b.infil +ℤ c.infil)
    (a.runoff +ℤ b.runoff +ℤ c.runoff) (a.stored +ℤ b.stored +ℤ c.stored))
three a b c p q r = record { within = omega (arith, ints, p.within, q.within, r.within) }

pervious_closed : (sub : Sub) (state : SubState) (rate ms : ℤ)
    → (v : SubStep) → v ≡ (pervious_step_of sub state rate ms).volumes
    → IsWithin 2 (error_of v.rain v.infil v.runoff v.stored)
unfolding pervious_step_of
pervious_closed sub state rate ms v e = subarea_closed _ _ _ _ _ ms v e

bare_closed : (sub : Sub) (state : SubState) (rate ms : ℤ)
    → (v : SubStep) → v ≡ (bare_step_of sub state rate ms).volumes
    → IsWithin 2 (error_of v.rain v.infil v.runoff v.stored)
unfolding bare_step_of
bare_closed sub state rate ms v e = subarea_closed _ _ _ _ _ ms v e

paved_closed : (sub : Sub) (state : SubState) (rate ms : ℤ)
    → (v : SubStep) → v ≡ (paved_step_of sub state rate ms).volumes
    → IsWithin 2 (error_of v.rain v.infil v.runoff v.stored)
unfolding paved_step_of
paved_closed sub state rate ms v e = subarea_closed _ _ _ _ _ ms v e

pub step_closed : (sub : Sub) (state : SubState) (rate ms : ℤ) → IsClosed (sub_step_of sub state rate ms)
unfolding sub_step_of
step_closed sub state rate ms =
    three (pervious_step_of sub state rate ms).volumes (bare_step_of sub state rate ms).volumes
    (paved_step_of sub state rate ms).volumes
    (pervious_closed sub state rate ms _ refl) (bare_closed sub state rate ms _ refl)
    (paved_closed sub state rate ms _ refl)
