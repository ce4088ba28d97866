-- The ranges of the formulas of orifices and weirs.
use Rattle.std.proofs.Common.{◌≡◌, ℕ, ◌*◌, ◌^◌, ℤ, pos, ◌+ℤ◌, ◌*ℤ◌, ◌≤ℤ◌, arith}
use Rattle.std.proofs.lemmas.Int.{ints}
use Rattle.fixed_num.specs.Ranges.{IsBetween, IsCoefficient, IsDepth, IsFullHeight, IsPart, IsWidth}
use Rattle.fixed_num.specs.declared.constants.TheConstants.{GRAVITY}
use Rattle.fixed_num.proofs.Bounds.{between_mul, between_number, between_quo_by, between_root2, between_up, le_number}
use Rattle.orifice_weir.specs.Heads.{part_of}
use Rattle.orifice_weir.specs.OrificeFlow.{contracted_of, discharge_of, jet_of}
use Rattle.orifice_weir.specs.WeirFlow.{contraction_of, head_power_of, notch_of, scaled_of, side_slope_of}
use Rattle.orifice_weir.specs.WeirFlow.{transverse_of}

pub part-between : {height part6 : ℤ} → IsDepth height → IsPart part6
    → IsBetween (pos 0) (part_of height part6) (pos 1_000_000_000)
unfolding part_of
part-between h p = between_up (between_quo_by {y = pos 1_000_000} 1_000_000 (between_mul h p) (le_number tt) tt) tt tt

pub contracted-between : {cd6 area : ℤ} → IsCoefficient cd6 → IsBetween (pos 0) area (pos 100_000_000_000)
    → IsBetween (pos 0) (contracted_of cd6 area) (pos 10_000_000_000_000)
unfolding contracted_of
contracted-between c a =
    between_up (between_quo_by {y = pos 1_000_000} 1_000_000 (between_mul c a) (le_number tt) tt) tt tt

pub jet-between : {head : ℤ} → IsBetween (pos 0) head (pos 80_000_000_000)
    → IsBetween (pos 0) (jet_of head) (pos 1_300_000_000)
unfolding jet_of
jet-between h = between_root2 (between_mul (between_mul (between_number (pos 2)) (between_number GRAVITY)) h) tt

pub discharge-between : {area speed : ℤ} → IsBetween (pos 0) area (pos 10_000_000_000_000)
    → IsBetween (pos 0) speed (pos 1_300_000_000)
    → IsBetween (pos 0) (discharge_of area speed) (pos (10 ^ 30))
unfolding discharge_of
discharge-between a s =
    between_up (between_quo_by {y = pos 1_000_000} 1_000_000 (between_mul a s) (le_number tt) tt) tt tt

pub contraction-between : {contractions head : ℤ} → IsBetween (pos 0) contractions (pos 2) → IsDepth head
    → IsBetween (pos 0) (contraction_of contractions head) (pos 1_000_000_000)
unfolding contraction_of
contraction-between c h = between_up (between_quo_by {y = pos 10} 10 (between_mul c h) (le_number tt) tt) tt tt

pub transverse-between : {c6 width head root : ℤ} → IsCoefficient c6 → IsWidth width → IsDepth head
    → IsBetween (pos 0) root (pos 31_622_776)
    → IsBetween (pos 0) (transverse_of c6 width head root) (pos (10 ^ 24))
unfolding transverse_of
transverse-between c w h r =
    between_up (between_quo_by {y = pos 1_000_000_000_000_000_000} 1_000_000_000_000_000_000
    (between_mul (between_mul (between_mul c w) h) r) (le_number tt) tt) tt tt

pub side_slope-between : {width full : ℤ} → IsWidth width → IsFullHeight full
    → IsBetween (pos 0) (side_slope_of width full) (pos 5_000_000_000_000)
unfolding side_slope_of
side_slope-between w f =
    between_up (between_quo_by 2_000
    (between_mul w (between_number (pos 1_000_000))) (between_mul (between_number (pos 2)) f).from tt) tt tt

pub scaled-between : {a b : ℤ} → IsBetween (pos 0) a (pos 1_000_000_000)
    → IsBetween (pos 0) b (pos 5_000_000_000_000) → IsBetween (pos 0) (scaled_of a b) (pos 5_000_000_000_000_000)
unfolding scaled_of
scaled-between a b = between_up (between_quo_by {y = pos 1_000_000} 1_000_000 (between_mul a b) (le_number tt) tt) tt tt

pub notch-between : {slope head power : ℤ} → IsBetween (pos 0) slope (pos 5_000_000_000_000_000) → IsDepth head
    → IsBetween (pos 0) power (pos 50_000_000_000)
    → IsBetween (pos 0) (notch_of slope head power) (pos (10 ^ 24))
unfolding notch_of
notch-between s h p =
    between_up (between_quo_by {y = pos 1_000_000_000_000} 1_000_000_000_000
    (between_mul (between_mul s h) p) (le_number tt) tt) tt tt

pub head_power-between : {head root : ℤ} → IsDepth head → IsBetween (pos 0) root (pos 31_622_776)
    → IsBetween (pos 0) (head_power_of head root) (pos 50_000_000_000)
unfolding head_power_of
head_power-between h r =
    between_up (between_quo_by {y = pos 1_000_000} 1_000_000 (between_mul h r) (le_number tt) tt) tt tt
