-- The ranges of what a node gains and of what it would do with it.
use Rattle.std.proofs.Common.{◌≡◌, ℕ, ◌*◌, ◌/◌, ◌^◌, ◌≤◌, Bool, true, false, ◌&&◌, cond, ℤ, pos, negsuc, ◌+ℤ◌}
use Rattle.std.proofs.Common.{◌-ℤ◌, ◌*ℤ◌, ◌≤ℤ◌, unsigned_abs, refl, arith}
use Rattle.std.specs.Prelude.{int_div, int_le, int_lt}
use Rattle.std.specs.Int.{int_max}
use Rattle.std.proofs.lemmas.Int.{ints, clamps}
use Rattle.fixed_num.specs.Ranges.{IsBetween, IsWithin, IsFlow, IsLeastArea, IsNodeArea, IsStepLength, IsHead, IsElevation}
use Rattle.fixed_num.specs.Rounding.{quo_of}
use Rattle.fixed_num.proofs.Between.{product_from_zero}
use Rattle.fixed_num.proofs.Bounds.{within_number, within_up, within_add, within_sub, within_mul, within_between}
use Rattle.fixed_num.proofs.Bounds.{within_quo, within_quo_by, between_up, between_add, le_number, quo_of-from_zero}
use Rattle.phase_law.specs.Ranges.{SumsInRange}
use Rattle.phase_law.specs.declared.values.NodeFixed.{NodeFixed}
use Rattle.storage_shapes.proofs.TableLemmas.{area_in}
use Rattle.storage_shapes.specs.StoreTable.{IsStoreTable}
use Rattle.storage_shapes.specs.declared.table.StoreTable.{StoreTable}
use Rattle.node_update.specs.NodeLaws.{IsNodeLaw, IsNodeRule}
use Rattle.node_update.specs.NodeUpdate.{IsNodeFixed, net_of, gain_of, full_level_of, junction_area_of, storage_area_of}
use Rattle.node_update.specs.NodeUpdate.{own_area_of, surface_of, raised_of, excess_of}
use Rattle.node_update.specs.declared.node_law.NodeLaw.{NodeLaw as Law}
use Rattle.node_update.specs.declared.node_law.NodeRule.{NodeRule as Rule}
use Rattle.node_update.specs.declared.node_law.NodeRule.TheVariants.{Junction as JunctionRule, Outfall as OutfallRule, Storage as StorageRule}

pub flow_within : {flow : ℤ} → IsFlow flow → IsFlow flow
flow_within h = h

-- the sums that a node gets of its links
pub inflow_between : {i o a : ℤ} → SumsInRange i o a → IsBetween (pos 0) i (pos (2 * 10 ^ 16))
inflow_between h = h.inflow_in

pub outflow_between : {i o a : ℤ} → SumsInRange i o a → IsBetween (pos 0) o (pos (2 * 10 ^ 16))
outflow_between h = h.outflow_in

pub area_between : {i o a : ℤ} → SumsInRange i o a → IsBetween (pos 0) a (pos (10 ^ 17))
area_between h = h.area_in

-- half of a step
pub length_within : {dt : ℤ} → IsStepLength dt → IsWithin 3_600_000 dt
length_within {dt} h = let l = h.least in let m = h.most in record { within = omega (arith, ints) }

half_of : (n : ℕ) → int_div (pos n) (pos 2) ≡ pos (n / 2)
half_of n = refl

pub half_within : {dt : ℤ} → IsStepLength dt → IsWithin 1_800_000 (int_div dt (pos 2))
half_within {dt = pos n} h =
    let m = h.most in
    let small : n ≤ 3_600_000 = omega (arith, ints) in
    let half : n / 2 ≤ 1_800_000 = omega arith in
    rw (half_of n) (record { within = omega (arith, ints) })
half_within {dt = negsuc n} h = absurd h.least.le

-- the net inflow
pub net_within : {fixed : NodeFixed} {i o : ℤ} → IsNodeFixed fixed → IsBetween (pos 0) i (pos (2 * 10 ^ 16)) → IsBetween (pos 0) o (pos (2 * 10 ^ 16)) → IsWithin (5 * 10 ^ 16) (net_of fixed i o)
unfolding net_of
net_within h p q = within_up (within_sub (within_add (flow_within h.lateral) (within_between p)) (within_between q)) tt

pub gain_within : {fixed : NodeFixed} {i o : ℤ} → IsNodeFixed fixed → IsBetween (pos 0) i (pos (2 * 10 ^ 16)) → IsBetween (pos 0) o (pos (2 * 10 ^ 16)) → IsWithin (10 ^ 24) (gain_of fixed i o)
unfolding gain_of
gain_within h p q = within_up (within_mul (half_within h.length) (within_add h.net (net_within h p q))) tt

-- ---- the surface
either_area : (a b : Bool) {pond least : ℤ} → (a ≡ true → pos 1 ≤ℤ pond) → IsNodeArea pond → IsLeastArea least → IsBetween (pos 1) (cond (a && b) pond least) (pos (10 ^ 13))
either_area true true some p l = record { from = some refl; to = p.to }
either_area true false some p l = between_up l tt tt
either_area false b some p l = between_up l tt tt

some_area : (pond : ℤ) → int_lt (pos 0) pond ≡ true → pos 1 ≤ℤ pond
some_area pond h = grind (arith, ints, h)

pub junction_area_between : {law : Law} {pond : ℤ} (last : ℤ) → IsNodeLaw law → IsNodeArea pond → IsBetween (pos 1) (junction_area_of law pond last) (pos (10 ^ 13))
unfolding junction_area_of
junction_area_between {law} {pond} last h p = either_area (int_lt (pos 0) pond) (int_le (full_level_of law) last) (some_area pond) p h.area_in

pub storage_area_between : {law : Law} {table : StoreTable} (last : ℤ) → IsNodeLaw law → IsStoreTable table → IsBetween (pos 1) (storage_area_of law table last) (pos (10 ^ 13))
unfolding storage_area_of
storage_area_between {law} {table} last h t = greater (between_up h.area_in tt tt) (area_in table (last -ℤ law.invert) t)
  where
    greater : {x y : ℤ} → IsBetween (pos 1) x (pos (10 ^ 13)) → IsBetween (pos 0) y (pos (10 ^ 13)) → IsBetween (pos 1) (int_max x y) (pos (10 ^ 13))
    greater p q = record { from = omega (arith, ints, clamps, p.from); to = omega (arith, ints, clamps, p.to, q.to) }

pub own_area_between : (rule : Rule) {law : Law} (last : ℤ) → IsNodeRule rule → IsNodeLaw law → IsBetween (pos 1) (own_area_of rule law last) (pos (10 ^ 13))
own_area_between (JunctionRule pond) last r h = junction_area_between last h r
own_area_between (StorageRule table) last r h = storage_area_between last h r
own_area_between (OutfallRule level) last r h = between_up h.area_in tt tt

pub surface_between : {law : Law} {a : ℤ} (last : ℤ) → IsNodeLaw law → IsBetween (pos 0) a (pos (10 ^ 17)) → IsBetween (pos 1) (surface_of law a last) (pos (2 * 10 ^ 17))
unfolding surface_of
surface_between {law} last h p = between_up (between_add (own_area_between law.rule last h.rule_in h) p) tt tt

-- the top of a node
top_within_lemma : (invert top : ℤ) → IsElevation invert → IsBetween invert top (invert +ℤ pos (3 * 10 ^ 9)) → IsHead top
top_within_lemma invert top p q = let l = q.from in let m = q.to in let w = p.within in record { within = omega (arith, ints) }

pub top_within : {law : Law} → IsNodeLaw law → IsHead law.top
top_within {law} h = top_within_lemma law.invert law.top h.invert_in h.top_in

pub invert_within : {law : Law} → IsNodeLaw law → IsHead law.invert
invert_within h = within_up h.invert_in tt

-- the raised head
pub raised_within : {law : Law} {fixed : NodeFixed} {i o a : ℤ} (last : ℤ) → IsNodeLaw law → IsNodeFixed fixed → SumsInRange i o a → IsWithin (10 ^ 28) (raised_of law fixed i o a last)
unfolding raised_of
raised_within {law} {fixed} {i} {o} {a} last l f s =
    let gain = gain_within f (inflow_between s) (outflow_between s) in
    within_up (within_add f.head (within_quo (surface_of law a last) (within_mul gain (within_number 1_000)))) tt

-- the room below the top
pub room_within : {law : Law} {fixed : NodeFixed} {a : ℤ} (last : ℤ) → IsNodeLaw law → IsNodeFixed fixed → IsBetween (pos 0) a (pos (10 ^ 17)) → IsWithin (8 * 10 ^ 27) (surface_of law a last *ℤ (law.top -ℤ fixed.h_old))
room_within last l f p = within_up (within_mul (within_between (surface_between last l p)) (within_sub (top_within l) f.head)) tt

pub excess_within : {law : Law} {fixed : NodeFixed} {i o a : ℤ} (last : ℤ) → IsNodeLaw law → IsNodeFixed fixed → SumsInRange i o a → IsWithin (10 ^ 25) (excess_of law fixed i o a last)
unfolding excess_of
excess_within last l f s =
    let gain = gain_within f (inflow_between s) (outflow_between s) in
    let room = room_within last l f (area_between s) in
    within_up (within_sub gain (within_quo_by 1_000 room (le_number tt) tt)) tt

-- where the old head isn't above the top, there is room, and the excess is no greater than the gain
less : (g q : ℤ) → pos 0 ≤ℤ q → (g -ℤ q) ≤ℤ pos (unsigned_abs g)
less g q h = omega (arith, ints)

room : (t h : ℤ) → h ≤ℤ t → pos 0 ≤ℤ (t -ℤ h)
room t h l = omega (arith, ints)

up_from : {a x b : ℤ} → pos 0 ≤ℤ a → IsBetween a x b → pos 0 ≤ℤ x
up_from {a} {x} {b} h p = let l = p.from in omega (arith, ints)

pub excess_most : {law : Law} (fixed : NodeFixed) {i o a : ℤ} (last : ℤ) → IsNodeLaw law → SumsInRange i o a → fixed.h_old ≤ℤ law.top → excess_of law fixed i o a last ≤ℤ pos (unsigned_abs (gain_of fixed i o))
unfolding excess_of
excess_most {law} fixed {i} {o} {a} last l s h =
    let surface = up_from (le_number tt) (surface_between last l (area_between s)) in
    let filled = product_from_zero (surface_of law a last) (law.top -ℤ fixed.h_old) surface (room law.top fixed.h_old h) in
    less (gain_of fixed i o) (quo_of (surface_of law a last *ℤ (law.top -ℤ fixed.h_old)) (pos 1_000)) (quo_of-from_zero _ (pos 1_000) filled)
