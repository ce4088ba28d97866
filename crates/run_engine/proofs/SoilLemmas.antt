-- How much water a step of runoff can move: its volumes by the depths on the subareas.
use Rattle.std.proofs.Common.{◌≡◌, ℕ, zero, suc, ◌+◌, ◌*◌, ◌^◌, ◌≤◌, Bool, true, false, if◌then◌else◌, int_lt, Option, Some, None, IfSome}
use Rattle.std.proofs.Common.{ℤ, pos, ◌+ℤ◌, ◌-ℤ◌, ◌*ℤ◌, ◌≤ℤ◌, ◌<ℤ◌, unsigned_abs, refl, subst, arith}
use Rattle.std.specs.Int.{int_min}
use Rattle.std.proofs.lemmas.Int.{ints, clamps, unsigned_abs-mul}
use Rattle.std.proofs.lemmas.Nat.{mul-le}
use Rattle.fixed_num.specs.Ranges.{IsBetween, IsWithin}
use Rattle.fixed_num.specs.Rounding.{quo_of}
use Rattle.fixed_num.specs.Sums.{sum_below}
use Rattle.fixed_num.proofs.Between.{lt_number}
use Rattle.fixed_num.proofs.Bounds.{within_between, within_up}
use Rattle.fixed_num.proofs.RoundingLemmas.{IsNearest-quo_of}
use Rattle.infiltration.specs.CurveNumber.{IsCurveState, rain_taken_of}
use Rattle.infiltration.specs.Depths.{IsRunoffStep, depth_of}
use Rattle.infiltration.specs.Horton.{IsHortonCurve, IsHortonState, rate_of, wet_taken_of, within_volume_of}
use Rattle.infiltration.specs.Infiltration.{IsInfil, IsStateUpTo, taken_by, taken_of}
use Rattle.net_types.specs.declared.hydrology.Infil.{Infil}
use Rattle.net_types.specs.declared.hydrology.Infil.TheVariants.{Horton as HortonBy, Number as NumberBy}
use Rattle.infiltration.specs.declared.states.InfilState.{InfilState}
use Rattle.infiltration.specs.declared.states.InfilState.TheVariants.{Horton as HortonAt, Number as NumberAt}
use Rattle.infiltration.proofs.CurveLemmas.{soaked_more}
use Rattle.infiltration.proofs.DepthLemmas.{depth_between}
use Rattle.infiltration.proofs.HortonLemmas.{rate_between}
use Rattle.net_types.specs.Ranges.{SubAreasInRange, SubInRange}
use Rattle.net_types.specs.declared.hydrology.Sub.{Sub}
use Rattle.net_types.specs.declared.hydrology.SubAreas.{SubAreas}
use Rattle.runoff.specs.Overland.{IsCover, IsPlane, depth_after, left_of, outflow_of, runoff_of, substep_of, substeps}
use Rattle.runoff.specs.RunoffStep.{subarea_step_of, volume_of}
use Rattle.runoff.specs.declared.states.SubStep.{SubStep}
use Rattle.runoff.specs.Subareas.{bare_of, paved_of, pervious_of, plane_of, subareas_or}
use Rattle.runoff.proofs.OverlandLemmas.{breadth-between, outflow-between, slope_root-between}
use Rattle.runoff.proofs.VolumeLemmas.{part-between}

-- ---- what the soil takes is no more than there is
either : (b : Bool) {x y available : ℤ} → IsBetween (pos 0) x available → IsBetween (pos 0) y available → IsBetween (pos 0) (if b then x else y) available
either true h k = h
either false h k = k

nothing_taken : {available : ℤ} → pos 0 ≤ℤ available → IsBetween (pos 0) (pos 0) available
nothing_taken h = record { from = omega (arith, ints); to = h }

in_volume : (b : Bool) (volume x y available : ℤ) → int_lt (pos 0) volume ≡ b → IsBetween (pos 0) x available → (pos 0 <ℤ volume → pos 0 ≤ℤ y)
    → IsBetween (pos 0) (if b then int_min x y else x) available
in_volume true volume x y available e h k =
    let some : pos 0 <ℤ volume = grind (arith, ints, e) in
    let least = k some in
    record { from = omega (arith, ints, clamps, h.from, least); to = omega (arith, ints, clamps, h.to) }
in_volume false volume x y available e h k = h

wet_between : (most : ℤ) (curve : _) (above available ms : ℤ) → IsHortonCurve curve → IsHortonState most curve (record { above = above }) → IsRunoffStep ms → pos 0 ≤ℤ available
    → IsBetween (pos 0) (wet_taken_of curve above available ms) available
unfolding wet_taken_of within_volume_of
wet_between most curve above available ms h k t a =
    let rate = rate_between {curve = curve} above h in
    let low = h.min.from in
    let high = h.max.to in
    let depth = depth_between {rate = rate_of curve above} {ms = ms} (record { from = omega (arith, ints, rate.from, low); to = omega (arith, ints, rate.to, high) }) t in
    let least = depth_between {rate = curve.min} {ms = ms} h.min t in
    in_volume (int_lt (pos 0) curve.volume) curve.volume (int_min available (depth_of (rate_of curve above) ms)) (depth_of curve.min ms +ℤ curve.volume -ℤ above) available refl
    (record { from = omega (arith, ints, clamps, depth.from, a); to = omega (arith, ints, clamps) })
    (λ v. omega (arith, ints, least.from, k.held v))

rain_between : (most cn6 : ℤ) (s : _) (rain available : ℤ) → IsCurveState most cn6 s → pos 0 ≤ℤ rain → pos 0 ≤ℤ available
    → IsBetween (pos 0) (rain_taken_of s rain available) available
unfolding rain_taken_of
rain_between most cn6 s rain available h r a =
    let more = soaked_more s.rain rain s.event_room h.rain.from r h.event_room.from in
    record { from = omega (arith, ints, clamps, more, h.taken.to, a); to = omega (arith, ints, clamps) }

pub taken_between : (most : ℤ) (infil : Infil) (s : InfilState) (rain available ms : ℤ) → IsInfil infil → IsStateUpTo most infil s → IsRunoffStep ms → pos 0 ≤ℤ rain → pos 0 ≤ℤ available
    → IsBetween (pos 0) (taken_of infil s rain available ms) available
unfolding taken_by
taken_between most (HortonBy max min decay6 dry volume) (HortonAt s) rain available ms h k t r a =
    either (int_lt (pos 0) available) (wet_between most (record { max = max; min = min; decay6 = decay6; dry = dry; volume = volume }) s.above available ms h k t a) (nothing_taken a)
taken_between most (HortonBy max min decay6 dry volume) (NumberAt s) rain available ms h k t r a = absurd k
taken_between most (NumberBy cn6 dry) (HortonAt s) rain available ms h k t r a = absurd k
taken_between most (NumberBy cn6 dry) (NumberAt s) rain available ms h k t r a =
    either (int_lt (pos 0) rain) (rain_between most cn6 s rain available k r a) (nothing_taken a)

-- ---- what is left and what ran off is what there was
record Drained (depth left runoff : ℤ) : Type 0 where
  left_from : pos 0 ≤ℤ left
  left_to : left ≤ℤ depth
  runoff_from : pos 0 ≤ℤ runoff
  whole : left +ℤ runoff ≡ depth

drained_some : (plane : _) (cover : _) (part depth : ℤ) → IsPlane plane → IsCover cover → IsBetween (pos 0) part (pos 450_000) → pos 0 ≤ℤ depth → (k : ℕ) (ms : ℤ) → part ≡ substep_of ms
    → Drained depth (depth_after plane cover ms depth k) (sum_below (λ j. outflow_of plane cover (substep_of ms) (depth_after plane cover ms depth j)) k)
drained_some plane cover part depth p c t d zero ms e = record { left_from = d; left_to = omega (arith, ints); runoff_from = omega (arith, ints); whole = omega (arith, ints) }
drained_some plane cover part depth p c t d (suc k) ms e =
    let before = drained_some plane cover part depth p c t d k ms e in
    let out = outflow-between plane cover (substep_of ms) (depth_after plane cover ms depth k) p c (subst (λ (x : ℤ). IsBetween (pos 0) x (pos 450_000)) e t) before.left_from in
    record {
      left_from = omega (arith, ints, out.to);
      left_to = omega (arith, ints, out.from, before.left_to);
      runoff_from = omega (arith, ints, out.from, before.runoff_from);
      whole = omega (arith, ints, before.whole);
    }

substep_between : (ms : ℤ) → IsRunoffStep ms → IsBetween (pos 0) (substep_of ms) (pos 450_000)
unfolding substep_of
substep_between ms t = record { from = omega (arith, ints); to = omega (arith, ints, t.from, t.to) }

drained : (plane : _) (cover : _) (ms depth : ℤ) → IsPlane plane → IsCover cover → IsRunoffStep ms → pos 0 ≤ℤ depth → Drained depth (left_of plane cover ms depth) (runoff_of plane cover ms depth)
unfolding left_of runoff_of
drained plane cover ms depth p c t d = drained_some plane cover (substep_of ms) depth p c (substep_between ms t) d substeps ms refl

-- ---- a volume is at most 3·10^10 mm³ for each nm of its depth, but for its rounding
near_size : (product q : ℤ) (most : ℕ) → 2 * unsigned_abs (product -ℤ q *ℤ pos 1_000_000) ≤ 1_000_000 → unsigned_abs product ≤ 1_000_000 * most → unsigned_abs q ≤ most + 1
near_size product q most near size = omega (arith, ints, near, size)

volume_size : (area depth : ℤ) → IsWithin (3 * 10 ^ 16) area → unsigned_abs (volume_of area depth) ≤ 30_000_000_000 * unsigned_abs depth + 1
unfolding volume_of
volume_size area depth w =
    let size = unsigned_abs-mul area depth in
    let most = mul-le (unsigned_abs area) (unsigned_abs depth) (3 * 10 ^ 16) (unsigned_abs depth) w.within (omega arith) in
    near_size (area *ℤ depth) (quo_of (area *ℤ depth) (pos 1_000_000)) (30_000_000_000 * unsigned_abs depth)
    (IsNearest-quo_of (area *ℤ depth) (pos 1_000_000) (lt_number tt)).near (omega (arith, size, most))

-- ---- a step of a subarea: what it takes of the water that stands there and of the rain
pub record MovesLittle (depth after : ℤ) (volumes : SubStep) : Type 0 where
  pub left : pos 0 ≤ℤ after
  pub rain : unsigned_abs volumes.rain ≤ 300_000_000_000_000_000_001
  pub moved : unsigned_abs volumes.infil + unsigned_abs volumes.runoff + 30_000_000_000 * unsigned_abs after
      ≤ 30_000_000_000 * unsigned_abs depth + 300_000_000_000_000_000_002

sizes : (depth rain taken left runoff : ℤ) → IsBetween (pos 0) rain (pos (10 ^ 10)) → pos 0 ≤ℤ depth → pos 0 ≤ℤ taken → Drained (depth +ℤ rain -ℤ taken) left runoff
    → unsigned_abs taken + unsigned_abs runoff + unsigned_abs left ≤ unsigned_abs depth + 10_000_000_000
sizes depth rain taken left runoff r d t w = omega (arith, ints, r.to, d, t, w.left_from, w.runoff_from, w.whole)

pub subarea_moves : (plane : _) (area : ℤ) (cover : _) (rain depth taken ms : ℤ) → IsPlane plane → IsCover cover → IsWithin (3 * 10 ^ 16) area → IsRunoffStep ms
    → IsBetween (pos 0) rain (pos (10 ^ 10)) → pos 0 ≤ℤ depth → IsBetween (pos 0) taken (depth +ℤ rain) → MovesLittle depth (subarea_step_of plane (record { area = area; cover = cover }) rain depth taken ms).depth (subarea_step_of plane (record { area = area; cover = cover }) rain depth taken ms).volumes
unfolding subarea_step_of
subarea_moves plane area cover rain depth taken ms p c a t r d k =
    let filled = depth +ℤ rain -ℤ taken in
    let water = drained plane cover ms filled p c t (omega (arith, ints, k.to)) in
    let all = sizes depth rain taken (left_of plane cover ms filled) (runoff_of plane cover ms filled) r d k.from water in
    let soil = volume_size area taken a in
    let off = volume_size area (runoff_of plane cover ms filled) a in
    let fell = volume_size area rain a in
    record {
      left = water.left_from;
      rain = omega (arith, ints, fell, r.from, r.to);
      moved = omega (arith, all, soil, off);
    }

-- ---- the subareas of a subcatchment
areas_in : (areas : Option SubAreas) → IfSome areas SubAreasInRange → SubAreasInRange (subareas_or areas)
areas_in (Some areas) h = h
areas_in None h = record {
  n_imperv_in = record { from = omega (arith, ints); to = omega (arith, ints) };
  n_perv_in = record { from = omega (arith, ints); to = omega (arith, ints) };
  s_imperv_in = record { from = omega (arith, ints); to = omega (arith, ints) };
  s_perv_in = record { from = omega (arith, ints); to = omega (arith, ints) };
  zero_in = record { from = omega (arith, ints); to = omega (arith, ints) };
}

module _ (sub : Sub) (h : SubInRange sub) where
  area_between : IsBetween (pos 0) sub.area (pos (10 ^ 16))
  area_between = record { from = omega (arith, ints, h.area_in.from); to = h.area_in.to }

  pervious_area : IsBetween (pos 0) (pervious_of sub).area (pos (10 ^ 16))
  unfolding pervious_of
  pervious_area = part-between area_between (record { from = omega (arith, ints, h.imperv_in.to); to = omega (arith, ints, h.imperv_in.from) })

  bare_area : IsBetween (pos 0) (bare_of sub).area (pos (10 ^ 16))
  unfolding bare_of
  bare_area = part-between (part-between area_between h.imperv_in) (areas_in sub.sub_areas h.sub_areas_in).zero_in

  paved_area : IsWithin (3 * 10 ^ 16) (paved_of sub).area
  unfolding paved_of
  paved_area = rest sub.area (pervious_of sub).area (bare_of sub).area area_between pervious_area bare_area
    where
      rest : (x y z : ℤ) → IsBetween (pos 0) x (pos (10 ^ 16)) → IsBetween (pos 0) y (pos (10 ^ 16)) → IsBetween (pos 0) z (pos (10 ^ 16)) → IsWithin (3 * 10 ^ 16) (x -ℤ y -ℤ z)
      rest x y z p q r = record { within = omega (arith, ints, p.from, p.to, q.from, q.to, r.from, r.to) }

  pub pervious_within : IsWithin (3 * 10 ^ 16) (pervious_of sub).area
  pervious_within = within_up (within_between pervious_area) tt

  pub bare_within : IsWithin (3 * 10 ^ 16) (bare_of sub).area
  bare_within = within_up (within_between bare_area) tt

  pub paved_within : IsWithin (3 * 10 ^ 16) (paved_of sub).area
  paved_within = paved_area

  pub pervious_cover : IsCover (pervious_of sub).cover
  unfolding pervious_of
  pervious_cover = let areas = areas_in sub.sub_areas h.sub_areas_in in record { storage = areas.s_perv_in; roughness = areas.n_perv_in }

  pub bare_cover : IsCover (bare_of sub).cover
  unfolding bare_of
  bare_cover = let areas = areas_in sub.sub_areas h.sub_areas_in in record { storage = record { from = omega (arith, ints); to = omega (arith, ints) }; roughness = areas.n_imperv_in }

  pub paved_cover : IsCover (paved_of sub).cover
  unfolding paved_of
  paved_cover = let areas = areas_in sub.sub_areas h.sub_areas_in in record { storage = areas.s_imperv_in; roughness = areas.n_imperv_in }

  pub plane_in : IsPlane (plane_of sub)
  unfolding plane_of
  plane_in = record { slope_root = slope_root-between h.slope_in; breadth = breadth-between h.width_in h.area_in }
