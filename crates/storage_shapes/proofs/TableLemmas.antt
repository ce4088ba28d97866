-- What holds of the table of a storage, and what is looked up in it.
use Rattle.std.proofs.Common.{◌≡◌, ℕ, zero, suc, ◌+◌, ◌-◌, ◌*◌, ◌^◌, ◌<◌, ◌≤◌, Bool, true, false, if◌then◌else◌, int_lt}
use Rattle.std.proofs.Common.{List, length, slice_index_or, ℤ, pos, ◌+ℤ◌, ◌-ℤ◌, ◌*ℤ◌, ◌≤ℤ◌, ◌<ℤ◌}
use Rattle.std.proofs.Common.{sym, refl, subst, ap, ◌∙◌, arith}
use Rattle.std.proofs.Common.{inl, inr}
use Rattle.std.proofs.Math.Nat.{eq-or-lt_of_le}
use Rattle.std.proofs.lemmas.Int.{ints}
use Rattle.std.proofs.lemmas.List.FromFn.{length-map-range_with_len}
use Rattle.fixed_num.specs.Interpolation.{lerp_of}
use Rattle.fixed_num.specs.Lists.{list_of, number}
use Rattle.fixed_num.specs.Ranges.{IsBetween, IsDepth, IsFall, IsFullHeight, IsNodeArea}
use Rattle.fixed_num.proofs.Bounds.{between_add, between_cut, between_lerp, between_up, le_number}
use Rattle.net_types.specs.Ranges.{IsRising}
use Rattle.net_types.specs.Records.{pair_at}
use Rattle.net_types.specs.declared.network.StoreShape.{StoreShape}
use Rattle.net_types.specs.declared.tables.Curve.{Curve}
use Rattle.rising_pairs.specs.FirstAbove.{IsFirstAbove, first_above}
use Rattle.rising_pairs.specs.Readings.{end_value, held_value}
use Rattle.rising_pairs.proofs.ReadingLemmas.{end_value_is, front_value, middle_value}
use Rattle.rising_pairs.proofs.SearchLemmas.{first_above-parts, first_above_is}
use Rattle.storage_shapes.specs.ShapeArea.{area_of_value, shape_area_of}
use Rattle.storage_shapes.specs.StoreTable.{IsStoreTable, area_points_of, grid_depth_of, grid_point_of, grid_volume_of}
use Rattle.storage_shapes.specs.StoreTable.{middle_of, stored_area_of, strip_volume_of, table_of, volume_below_of, volume_points_of}
use Rattle.storage_shapes.specs.StoreTable.{full_area_of, full_depth_of, prism_of, stored_volume_of, volume_above_of, volume_row_of}
use Rattle.storage_shapes.specs.declared.shapes.StoreUnits.{StoreUnits}
use Rattle.storage_shapes.specs.declared.table.StoreTable.{StoreTable}
use Rattle.storage_shapes.proofs.GridLemmas.{grid_between, grid_order, grid_step, grid_strict}
use Rattle.storage_shapes.proofs.RowLemmas.{at_place, sum_between, sum_most}
use Rattle.storage_shapes.proofs.StripLemmas.{prism_of-between, prism_of-strip}

-- ---- the table of a shape
pub shape_area-in : (curves : List Curve) (units : StoreUnits) (shape : StoreShape) (depth : ℤ)
    → IsNodeArea (shape_area_of curves units shape depth)
unfolding shape_area_of area_of_value
shape_area-in curves units shape depth = between_cut _ (le_number tt)

strip_in : (area : ℤ → ℤ) (full : ℤ) → IsFullHeight full → ((d : ℤ) → IsNodeArea (area d)) → (i : ℕ) → i < 200
    → IsBetween (pos 0) (strip_volume_of area full i) (pos (6 * 10 ^ 16))
unfolding strip_volume_of
strip_in area full h a i less =
    let order = grid_order h i (i + 1) (omega arith) in
    let step = grid_step h i in
    prism_of-strip (a (middle_of (grid_depth_of full i) (grid_depth_of full (i + 1))))
    (record { from = omega (arith, ints, order); to = omega (arith, ints, step) })

volume_in : (area : ℤ → ℤ) (full : ℤ) → IsFullHeight full → ((d : ℤ) → IsNodeArea (area d)) → (k : ℕ) → k ≤ 200
    → IsBetween (pos 0) (grid_volume_of area full k) (pos (2 * 10 ^ 19))
unfolding grid_volume_of
volume_in area full h a k few =
    let sum = sum_between (strip_volume_of area full) (6 * 10 ^ 16) k (λ i less. strip_in area full h a i (omega (arith, less, few))) in
    between_up (sum_most (6 * 10 ^ 16) 200 k _ few sum) tt tt

pub table_is : (area : ℤ → ℤ) (full : ℤ) → IsFullHeight full → ((d : ℤ) → IsNodeArea (area d)) → IsStoreTable (table_of area full)
unfolding area_points_of volume_row_of
table_is area full h a =
    let none : ℤ × ℤ = (pos 0, pos 0) in
    let f : ℕ → ℤ × ℤ = grid_point_of area full in
    let many : length (list_of f 201) ≡ 201 = length-map-range_with_len f 0 201 in
    record {
      as_many_areas = many;
      as_many_volumes = length-map-range_with_len (grid_volume_of area full) 0 201;
      rising = record {
        each = λ i j less inside.
            let j_in : j ≤ 200 = omega (arith, inside, many) in
            rw (at_place (ℤ × ℤ) none f i (omega (arith, less, j_in)), at_place (ℤ × ℤ) none f j j_in) (grid_strict h i j less);
      };
      depths = λ k few. rw (at_place (ℤ × ℤ) none f k few) (grid_between h k few);
      areas = λ k few. rw (at_place (ℤ × ℤ) none f k few) (a (grid_depth_of full k));
      volumes = λ k few. rw (at_place ℤ (pos 0) (grid_volume_of area full) k few) (volume_in area full h a k few);
    }

-- ---- the points of volumes
point_of : StoreTable → ℕ → ℤ × ℤ
point_of table i = ((pair_at table.areas i).0, number table.volumes i)

points_at : (table : StoreTable) (k : ℕ) → k ≤ 200 → pair_at (volume_points_of table) k ≡ point_of table k
unfolding volume_points_of point_of
points_at table k few = at_place (ℤ × ℤ) (pos 0, pos 0) (λ i. ((pair_at table.areas i).0, number table.volumes i)) k few

points_length : (table : StoreTable) → length (volume_points_of table) ≡ 201
unfolding volume_points_of
points_length table =
    length-map-range_with_len {X = ℤ × ℤ} (λ i. ((pair_at table.areas i).0, number table.volumes i)) 0 201

key_at : (table : StoreTable) (k : ℕ) → k ≤ 200 → (pair_at (volume_points_of table) k).0 ≡ (pair_at table.areas k).0
unfolding point_of
key_at table k few = ap (λ (p : ℤ × ℤ). p.0) (points_at table k few)

value_at : (table : StoreTable) (k : ℕ) → k ≤ 200 → (pair_at (volume_points_of table) k).1 ≡ number table.volumes k
unfolding point_of
value_at table k few = ap (λ (p : ℤ × ℤ). p.1) (points_at table k few)

-- a place among the areas is the same place among the volumes
same_first : (table : StoreTable) (depth : ℤ) (place : ℕ) → IsStoreTable table → IsFirstAbove table.areas depth place
    → place ≡ first_above (volume_points_of table) depth
same_first table depth place t h =
    let many = t.as_many_areas in
    let long = points_length table in
    first_above_is (volume_points_of table) depth place (record {
      within = omega (arith, h.within, many, long);
      before = λ k less. rw (key_at table k (omega (arith, less, h.within, many))) (h.before k less);
      after = λ k from inside.
          let few : k ≤ 200 = omega (arith, inside, long) in
          rw (key_at table k few) (h.after k from (omega (arith, few, many)));
    })

-- ---- the volume below a depth
pub at_bottom : (table : StoreTable) (depth : ℤ) (place : ℕ) → IsStoreTable table → IsFirstAbove table.areas depth place → place ≡ 0
    → number table.volumes 0 ≡ volume_below_of table depth
unfolding volume_below_of
at_bottom table depth place t h e =
    let same = same_first table depth place t h in
    let first = front_value (volume_points_of table) depth (pair_at (volume_points_of table) 0).1
    (pair_at (volume_points_of table) (length (volume_points_of table) - 1)).1 (sym e ∙ same) in
    sym (value_at table 0 (omega arith)) ∙ first

last_holds : (last : ℤ × ℤ) (key : ℤ) → end_value last key last.1 ≡ last.1
last_holds last key = either (int_lt last.0 key) last.1
  where
    either : (b : Bool) (x : ℤ) → (if b then x else x) ≡ x
    either true x = refl
    either false x = refl

pub at_top : (table : StoreTable) (depth : ℤ) (place : ℕ) → IsStoreTable table → IsFirstAbove table.areas depth place → 200 < place
    → number table.volumes 200 ≡ volume_below_of table depth
unfolding volume_below_of
at_top table depth place t h e =
    let points = volume_points_of table in
    let long = points_length table in
    let last : length points - 1 ≡ 200 = omega (arith, long) in
    let at : place - 1 ≡ 200 = omega (arith, e, h.within, t.as_many_areas) in
    let same = same_first table depth place t h in
    let end = end_value_is points depth (pair_at points 0).1 (pair_at points (length points - 1)).1 place same (omega (arith, e)) (omega (arith, e, long)) in
    let hold : end_value (pair_at points (place - 1)) depth (pair_at points (length points - 1)).1 ≡ (pair_at points 200).1 =
    rw (at, last) (last_holds (pair_at points 200) depth) in
    sym (value_at table 200 (omega arith)) ∙ (sym hold ∙ end)

pub in_between : (table : StoreTable) (depth : ℤ) (place : ℕ) → IsStoreTable table → IsFirstAbove table.areas depth place → 1 ≤ place → place ≤ 200
    → lerp_of (pair_at table.areas (place - 1)).0 (number table.volumes (place - 1)) (pair_at table.areas place).0 (number table.volumes place) depth
    ≡ volume_below_of table depth
unfolding volume_below_of
in_between table depth place t h some few =
    let points = volume_points_of table in
    let long = points_length table in
    let same = same_first table depth place t h in
    let line = middle_value points depth (pair_at points 0).1 (pair_at points (length points - 1)).1 place same some (omega (arith, few, long)) in
    rw (← key_at table (place - 1) (omega (arith, few)), ← value_at table (place - 1) (omega (arith, few)), ← key_at table place few, ← value_at table place few) line

-- ---- the area at a depth
area_placed : (table : StoreTable) (depth : ℤ) → IsStoreTable table → (place : ℕ) → place ≡ first_above table.areas depth
    → IsFirstAbove table.areas depth place → IsNodeArea (held_value table.areas depth)
area_placed table depth t zero e parts =
    subst (λ (z : ℤ). IsNodeArea z)
    (front_value table.areas depth (pair_at table.areas 0).1 (pair_at table.areas (length table.areas - 1)).1 e)
    (t.areas 0 (omega arith))
area_placed table depth t (suc p) e parts =
    let many = t.as_many_areas in
    let low = (pair_at table.areas 0).1 in
    let high = (pair_at table.areas (length table.areas - 1)).1 in
    elim (eq-or-lt_of_le parts.within) [
      | inl whole ↦
          let last : length table.areas - 1 ≡ 200 = omega (arith, many) in
          let at : suc p - 1 ≡ 200 = omega (arith, whole, many) in
          let end = end_value_is table.areas depth low high (suc p) e (omega arith) (omega (arith, whole)) in
          let hold : end_value (pair_at table.areas (suc p - 1)) depth high ≡ (pair_at table.areas 200).1 =
          rw (at, last) (last_holds (pair_at table.areas 200) depth) in
          subst (λ (z : ℤ). IsNodeArea z) (sym hold ∙ end) (t.areas 200 (omega arith))
      | inr inner ↦
          let up_to = parts.before (suc p - 1) (omega arith) in
          let above = parts.after (suc p) (omega arith) inner in
          let line = between_lerp (t.areas (suc p - 1) (omega (arith, inner, many))) (t.areas (suc p) (omega (arith, inner, many)))
          (record { from = up_to; to = omega (arith, ints, above) }) in
          subst (λ (z : ℤ). IsNodeArea z) (middle_value table.areas depth low high (suc p) e (omega arith) inner) line
    ]

pub area_in : (table : StoreTable) (depth : ℤ) → IsStoreTable table → IsNodeArea (stored_area_of table depth)
unfolding stored_area_of
area_in table depth t =
    area_placed table depth t (first_above table.areas depth) refl (first_above-parts table.areas depth t.rising)

-- ---- the volume above the full depth
pub within_full : (table : StoreTable) (depth : ℤ) → int_lt (full_depth_of table) depth ≡ false → pos 0 ≡ volume_above_of table depth
unfolding volume_above_of
within_full table depth test = rw test refl

pub above_tested : (table : StoreTable) (depth : ℤ) → int_lt (full_depth_of table) depth ≡ true
    → prism_of (full_area_of table) (depth -ℤ full_depth_of table) ≡ volume_above_of table depth
unfolding volume_above_of
above_tested table depth test = rw test refl

-- ---- the ranges of volumes
-- a list that is read at a place, where all its values are in range
placed_in : {m : ℤ} (points : List (ℤ × ℤ)) (depth : ℤ) → IsRising points → ((k : ℕ) → k < length points → IsBetween (pos 0) (pair_at points k).1 m)
    → 1 ≤ length points → (place : ℕ) → place ≡ first_above points depth → IsFirstAbove points depth place → IsBetween (pos 0) (held_value points depth) m
placed_in {m} points depth r each some zero e parts =
    subst (λ (z : ℤ). IsBetween (pos 0) z m)
    (front_value points depth (pair_at points 0).1 (pair_at points (length points - 1)).1 e)
    (each 0 (omega (arith, some)))
placed_in {m} points depth r each some (suc p) e parts =
    let low = (pair_at points 0).1 in
    let high = (pair_at points (length points - 1)).1 in
    elim (eq-or-lt_of_le parts.within) [
      | inl whole ↦
          let at : suc p - 1 ≡ length points - 1 = omega (arith, whole) in
          let end = end_value_is points depth low high (suc p) e (omega arith) (omega (arith, whole)) in
          let hold : end_value (pair_at points (suc p - 1)) depth high ≡ high =
          rw at (last_holds (pair_at points (length points - 1)) depth) in
          subst (λ (z : ℤ). IsBetween (pos 0) z m) (sym hold ∙ end) (each (length points - 1) (omega (arith, some)))
      | inr inner ↦
          let up_to = parts.before (suc p - 1) (omega arith) in
          let above = parts.after (suc p) (omega arith) inner in
          let line = between_lerp (each (suc p - 1) (omega (arith, inner))) (each (suc p) inner)
          (record { from = up_to; to = omega (arith, ints, above) }) in
          subst (λ (z : ℤ). IsBetween (pos 0) z m) (middle_value points depth low high (suc p) e (omega arith) inner) line
    ]

points_rise : (table : StoreTable) → IsStoreTable table → IsRising (volume_points_of table)
points_rise table t = record {
  each = λ i j less inside.
      let few : j ≤ 200 = omega (arith, inside, points_length table) in
      rw (key_at table i (omega (arith, less, few)), key_at table j few) (t.rising.each i j less (omega (arith, few, t.as_many_areas)));
}

pub volume_below-between : (table : StoreTable) (depth : ℤ) → IsStoreTable table → IsBetween (pos 0) (volume_below_of table depth) (pos (2 * 10 ^ 19))
unfolding volume_below_of
volume_below-between table depth t =
    let points = volume_points_of table in
    let rise = points_rise table t in
    placed_in points depth rise
    (λ k inside. let few : k ≤ 200 = omega (arith, inside, points_length table) in rw (value_at table k few) (t.volumes k few))
    (omega (arith, points_length table)) (first_above points depth) refl (first_above-parts points depth rise)

above_in : (b : Bool) {x : ℤ} → (b ≡ true → IsBetween (pos 0) x (pos (8 * 10 ^ 20))) → IsBetween (pos 0) (if b then x else pos 0) (pos (8 * 10 ^ 20))
above_in true h = h refl
above_in false h = record { from = omega (arith, ints); to = omega (arith, ints) }

pub volume_above-between : (table : StoreTable) {depth : ℤ} → IsStoreTable table → IsFall depth → IsBetween (pos 0) (volume_above_of table depth) (pos (8 * 10 ^ 20))
unfolding volume_above_of
volume_above-between table {depth} t d =
    above_in (int_lt (full_depth_of table) depth)
    (λ test. let from = (t.depths 200 (omega arith)).from in
    prism_of-between (t.areas 200 (omega arith)) (record { from = rising (full_depth_of table) depth test; to = omega (arith, ints, d.within, from) }))
  where
    rising : (a b : ℤ) → int_lt a b ≡ true → pos 0 ≤ℤ (b -ℤ a)
    rising a b h = grind (arith, ints, h)

pub stored_volume-between : (table : StoreTable) {depth : ℤ} → IsStoreTable table → IsFall depth → IsBetween (pos 0) (stored_volume_of table depth) (pos (10 ^ 21))
unfolding stored_volume_of
stored_volume-between table {depth} t d = between_up (between_add (volume_below-between table depth t) (volume_above-between table t d)) tt tt
