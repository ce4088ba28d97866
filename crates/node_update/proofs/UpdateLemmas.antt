-- What holds of the next head of a node, of its flood and of its volume: ranges, and the place below the top.
use Rattle.std.proofs.Common.{◌≡◌, ◌∙◌, ℕ, ◌*◌, ◌^◌, Bool, true, false, ◌&&◌, cond, ℤ, pos, ◌+ℤ◌}
use Rattle.std.proofs.Common.{◌-ℤ◌, ◌*ℤ◌, ◌≤ℤ◌, unsigned_abs, refl, sym, ap, subst, arith}
use Rattle.std.specs.Prelude.{int_lt}
use Rattle.std.specs.Int.{int_max}
use Rattle.std.proofs.lemmas.Int.{ints, clamps}
use Rattle.fixed_num.specs.Ranges.{IsBetween, IsFall, IsLeastArea, IsNodeArea, IsWithin, cut_of, IsHead}
use Rattle.fixed_num.specs.Relaxation.{relaxed_of}
use Rattle.fixed_num.specs.Rounding.{quo_of}
use Rattle.fixed_num.proofs.Bounds.{within_up, within_add, within_sub, within_mul, within_max}
use Rattle.fixed_num.proofs.Bounds.{within_cut, within_between, within_quo_by, between_cut, between_min, between_up}
use Rattle.fixed_num.proofs.Bounds.{le_number, lt_number, quo_of-mono, quo_of-exact}
use Rattle.phase_law.specs.Ranges.{SumsInRange}
use Rattle.phase_law.specs.declared.values.NodeFixed.{NodeFixed}
use Rattle.storage_shapes.proofs.TableLemmas.{stored_volume-between}
use Rattle.storage_shapes.specs.StoreTable.{prism_of}
use Rattle.node_update.specs.NodeLaws.{IsNodeLaw, IsNodeRule, IsOutfallConduit, IsOutfallLevel, is_outfall_rule}
use Rattle.node_update.specs.NodeUpdate.{IsNodeFixed, gain_of, raised_of, excess_of, filled_head_of, full_level_of}
use Rattle.node_update.specs.NodeUpdate.{free_head_of, uniform_head_of, normal_depth_of, barrel_flow_of, level_head_of}
use Rattle.node_update.specs.NodeUpdate.{rule_next, next_of, overflow_of, rule_flood, flood_of, junction_volume_of}
use Rattle.node_update.specs.NodeUpdate.{rule_volume, volume_of}
use Rattle.node_update.specs.declared.node_law.NodeLaw.{NodeLaw as Law}
use Rattle.node_update.specs.declared.node_law.NodeRule.{NodeRule as Rule}
use Rattle.node_update.specs.declared.node_law.NodeRule.TheVariants.{Junction as JunctionRule, Outfall as OutfallRule, Storage as StorageRule}
use Rattle.node_update.specs.declared.node_law.OutfallConduit.{OutfallConduit}
use Rattle.node_update.specs.declared.node_law.OutfallLevel.{OutfallLevel}
use Rattle.node_update.specs.declared.node_law.OutfallLevel.TheVariants.{AtStage, AtInvert, FreeFall, UniformFlow}
use Rattle.node_update.proofs.DepthLemmas.{critical-depth, normal-depth}
use Rattle.node_update.proofs.GainLemmas.{top_within, invert_within, excess_within, excess_most}

-- ---- a choice that a test has made
pub picked_true : {A : Type 0} (b : Bool) (x y : A) → b ≡ true → x ≡ cond b x y
picked_true b x y e = rw e refl

pub picked_false : {A : Type 0} (b : Bool) (x y : A) → b ≡ false → y ≡ cond b x y
picked_false b x y e = rw e refl

-- ---- the mean of two heads
pub mean_within : {last new : ℤ} → IsHead last → IsHead new → IsHead (quo_of (last +ℤ new) (pos 2))
mean_within p q = within_up (within_quo_by 2 (within_add p q) (le_number tt) tt) tt

twice : (a b top : ℤ) → a ≤ℤ top → b ≤ℤ top → (a +ℤ b) ≤ℤ (top *ℤ pos 2)
twice a b top h k = omega (arith, ints)

pub mean_place : (last new top : ℤ) → last ≤ℤ top → new ≤ℤ top → quo_of (last +ℤ new) (pos 2) ≤ℤ top
mean_place last new top h k =
    subst (λ (z : ℤ). quo_of (last +ℤ new) (pos 2) ≤ℤ z) (quo_of-exact top (pos 2) (lt_number tt))
    (quo_of-mono (last +ℤ new) (top *ℤ pos 2) (pos 2) (twice last new top h k))

pub relaxed_within : (first : Bool) {last new : ℤ} → IsHead last → IsHead new → IsHead (relaxed_of first last new)
unfolding relaxed_of
relaxed_within true p q = q
relaxed_within false p q = mean_within p q

pub relaxed_place : (first : Bool) (last new top : ℤ) → last ≤ℤ top → new ≤ℤ top → relaxed_of first last new ≤ℤ top
unfolding relaxed_of
relaxed_place true last new top h k = k
relaxed_place false last new top h k = mean_place last new top h k

-- ---- a raised head, held between invert and top
pub held_within : {law : Law} (raised : ℤ) → IsNodeLaw law → IsHead (cut_of raised law.invert law.top)
held_within {law} raised l = within_cut raised (rises l.top_in) (invert_within l) (top_within l)
  where
    rises : {a x b : ℤ} → IsBetween a x b → a ≤ℤ x
    rises p = p.from

pub held_place : {law : Law} (raised : ℤ) → IsNodeLaw law → cut_of raised law.invert law.top ≤ℤ law.top
held_place {law} raised l = (between_cut {a = law.invert} {b = law.top} raised l.top_in.from).to

-- ---- the next head of a junction or a storage
pub head_within : {law : Law} (fixed : NodeFixed) (first : Bool) (i o a : ℤ) {last : ℤ} → IsNodeLaw law → IsHead last → IsHead (filled_head_of law fixed first i o a last)
unfolding filled_head_of
head_within {law} fixed first i o a {last} l h = relaxed_within first h (held_within (raised_of law fixed i o a last) l)

pub head_place : {law : Law} (fixed : NodeFixed) (first : Bool) (i o a last : ℤ) → IsNodeLaw law → last ≤ℤ law.top → filled_head_of law fixed first i o a last ≤ℤ law.top
unfolding filled_head_of
head_place {law} fixed first i o a last l h = relaxed_place first last (cut_of (raised_of law fixed i o a last) law.invert law.top) law.top h (held_place (raised_of law fixed i o a last) l)

-- ---- the head at an outfall
pub free_head_within : {conduit : OutfallConduit} (q : ℤ) → IsOutfallConduit conduit → IsHead (free_head_of conduit q)
unfolding free_head_of normal_depth_of
free_head_within {conduit} q c =
    within_up (within_add c.height (within_between (between_min (critical-depth q c.table) (normal-depth q conduit.n6 conduit.drop conduit.length c.table)))) tt

pub uniform_head_within : {conduit : OutfallConduit} (q : ℤ) → IsOutfallConduit conduit → IsHead (uniform_head_of conduit q)
unfolding uniform_head_of normal_depth_of
uniform_head_within {conduit} q c = within_up (within_add c.height (within_between (normal-depth q conduit.n6 conduit.drop conduit.length c.table))) tt

pub level_within : (level : OutfallLevel) {invert stage : ℤ} (i o : ℤ) → IsOutfallLevel level → IsHead invert → IsHead stage → IsHead (level_head_of level invert stage i o)
level_within AtStage i o l p q = within_max p q
level_within AtInvert i o l p q = p
level_within (FreeFall conduit) i o l p q = free_head_within (barrel_flow_of conduit i o) l
level_within (UniformFlow conduit) i o l p q = uniform_head_within (barrel_flow_of conduit i o) l

-- ---- the next head of a node
rule_within : (rule : Rule) {law : Law} {fixed : NodeFixed} (first : Bool) (i o a : ℤ) {last : ℤ} → IsNodeRule rule → IsNodeLaw law → IsNodeFixed fixed → IsHead last → IsHead (rule_next rule law fixed first i o a last).head
rule_within (JunctionRule pond) {law} {fixed} first i o a r l f h = head_within fixed first i o a l h
rule_within (StorageRule table) {law} {fixed} first i o a r l f h = head_within fixed first i o a l h
rule_within (OutfallRule level) {law} {fixed} first i o a r l f h = level_within level i o r (invert_within l) f.stage

pub next_within : {law : Law} {fixed : NodeFixed} (first : Bool) (i o a : ℤ) {last : ℤ} → IsNodeLaw law → IsNodeFixed fixed → IsHead last → IsHead (next_of law fixed first i o a last).head
unfolding next_of
next_within {law} first i o a l f h = rule_within law.rule first i o a l.rule_in l f h

-- a junction or a storage whose last head was not above its top stays there
rule_place : (rule : Rule) {law : Law} (fixed : NodeFixed) (first : Bool) (i o a last : ℤ) → IsNodeLaw law → is_outfall_rule rule ≡ false → last ≤ℤ law.top → (rule_next rule law fixed first i o a last).head ≤ℤ law.top
rule_place (JunctionRule pond) fixed first i o a last l e h = head_place fixed first i o a last l h
rule_place (StorageRule table) fixed first i o a last l e h = head_place fixed first i o a last l h
rule_place (OutfallRule level) fixed first i o a last l e h = let never : ⊥ = cc in absurd never

pub next_place : {law : Law} (fixed : NodeFixed) (first : Bool) (i o a last : ℤ) → IsNodeLaw law → is_outfall_rule law.rule ≡ false → last ≤ℤ law.top → (next_of law fixed first i o a last).head ≤ℤ law.top
unfolding next_of
next_place {law} fixed first i o a last l e h = rule_place law.rule fixed first i o a last l e h

-- ---- the flood
pub at_least_zero : (x : ℤ) (m : ℕ) → IsWithin m x → IsBetween (pos 0) (int_max x (pos 0)) (pos m)
at_least_zero x m h = let w = h.within in record { from = omega (arith, ints, clamps); to = omega (arith, ints, clamps) }

chosen : (b : Bool) (x : ℤ) (m : ℕ) → IsWithin m x → IsBetween (pos 0) (cond b (int_max x (pos 0)) (pos 0)) (pos m)
chosen true x m h = at_least_zero x m h
chosen false x m h = record { from = omega (arith, ints); to = omega (arith, ints) }

chosen_most : (b : Bool) (x : ℤ) (m : ℕ) → x ≤ℤ pos m → cond b (int_max x (pos 0)) (pos 0) ≤ℤ pos m
chosen_most true x m h = omega (arith, ints, clamps)
chosen_most false x m h = omega (arith, ints)

overflow_between : {law : Law} {fixed : NodeFixed} {i o a : ℤ} (last : ℤ) → IsNodeLaw law → IsNodeFixed fixed → SumsInRange i o a → IsBetween (pos 0) (overflow_of law fixed i o a last) (pos (10 ^ 25))
unfolding overflow_of
overflow_between {law} {fixed} {i} {o} {a} last l f s = chosen (int_lt law.top (raised_of law fixed i o a last)) (excess_of law fixed i o a last) (10 ^ 25) (excess_within last l f s)

rule_flood_between : (rule : Rule) {law : Law} {fixed : NodeFixed} {i o a : ℤ} (last : ℤ) → IsNodeLaw law → IsNodeFixed fixed → SumsInRange i o a → IsBetween (pos 0) (rule_flood rule law fixed i o a last) (pos (10 ^ 25))
rule_flood_between (JunctionRule pond) last l f s = overflow_between last l f s
rule_flood_between (StorageRule table) last l f s = overflow_between last l f s
rule_flood_between (OutfallRule level) last l f s = record { from = le_number tt; to = le_number tt }

pub flood_between : {law : Law} {fixed : NodeFixed} {i o a : ℤ} (last : ℤ) → IsNodeLaw law → IsNodeFixed fixed → SumsInRange i o a → IsBetween (pos 0) (flood_of law fixed i o a last) (pos (10 ^ 25))
unfolding flood_of
flood_between {law} last l f s = rule_flood_between law.rule last l f s

pub overflow_most : {law : Law} (fixed : NodeFixed) {i o a : ℤ} (last : ℤ) → IsNodeLaw law → SumsInRange i o a → fixed.h_old ≤ℤ law.top → overflow_of law fixed i o a last ≤ℤ pos (unsigned_abs (gain_of fixed i o))
unfolding overflow_of
overflow_most {law} fixed {i} {o} {a} last l s h = chosen_most (int_lt law.top (raised_of law fixed i o a last)) (excess_of law fixed i o a last) (unsigned_abs (gain_of fixed i o)) (excess_most fixed last l s h)

rule_flood_most : (rule : Rule) {law : Law} (fixed : NodeFixed) {i o a : ℤ} (last : ℤ) → IsNodeLaw law → SumsInRange i o a → fixed.h_old ≤ℤ law.top → rule_flood rule law fixed i o a last ≤ℤ pos (unsigned_abs (gain_of fixed i o))
rule_flood_most (JunctionRule pond) fixed last l s h = overflow_most fixed last l s h
rule_flood_most (StorageRule table) fixed last l s h = overflow_most fixed last l s h
rule_flood_most (OutfallRule level) {law} fixed {i} {o} {a} last l s h = none (unsigned_abs (gain_of fixed i o))
  where
    none : (m : ℕ) → pos 0 ≤ℤ pos m
    none m = omega (arith, ints)

pub flood_most : {law : Law} (fixed : NodeFixed) {i o a : ℤ} (last : ℤ) → IsNodeLaw law → SumsInRange i o a → fixed.h_old ≤ℤ law.top → flood_of law fixed i o a last ≤ℤ pos (unsigned_abs (gain_of fixed i o))
unfolding flood_of
flood_most {law} fixed last l s h = rule_flood_most law.rule fixed last l s h

-- ---- the volume
pub prism_within : {area height : ℤ} → IsNodeArea area → IsFall height → IsWithin (4 * 10 ^ 20) (prism_of area height)
unfolding prism_of
prism_within a h = within_up (within_quo_by 1_000 (within_mul (within_between a) h) (le_number tt) tt) tt

wider_area : {area : ℤ} → IsLeastArea area → IsNodeArea area
wider_area h = between_up h tt tt

wider_full : {full : ℤ} → IsBetween (pos 0) full (pos (2 * 10 ^ 9)) → IsFall full
wider_full h = within_up (within_between h) tt

above_full : {law : Law} {head : ℤ} → IsNodeLaw law → IsHead head → IsFall (head -ℤ full_level_of law)
above_full l h = within_up (within_sub h (within_add l.invert_in (within_between l.full_in))) tt

pub above_invert : {law : Law} {head : ℤ} → IsNodeLaw law → IsHead head → IsFall (head -ℤ law.invert)
above_invert l h = within_up (within_sub h l.invert_in) tt

either_volume : (b : Bool) {x y : ℤ} → IsWithin (10 ^ 21) x → IsWithin (10 ^ 21) y → IsWithin (10 ^ 21) (cond b x y)
either_volume true p q = p
either_volume false p q = q

pub junction_volume_within : {law : Law} {pond head : ℤ} → IsNodeLaw law → IsNodeArea pond → IsHead head → IsWithin (10 ^ 21) (junction_volume_of law pond head)
unfolding junction_volume_of
junction_volume_within {law} {pond} {head} l p h =
    either_volume (int_lt (pos 0) pond && int_lt (full_level_of law) head)
    (within_up (within_add (prism_within (wider_area l.area_in) (wider_full l.full_in)) (prism_within p (above_full l h))) tt)
    (within_up (prism_within (wider_area l.area_in) (above_invert l h)) tt)

rule_volume_within : (rule : Rule) {law : Law} {head : ℤ} → IsNodeRule rule → IsNodeLaw law → IsHead head → IsWithin (10 ^ 21) (rule_volume rule law head)
rule_volume_within (JunctionRule pond) r l h = junction_volume_within l r h
rule_volume_within (StorageRule table) r l h = within_between (stored_volume-between table r (above_invert l h))
rule_volume_within (OutfallRule level) r l h = record { within = omega arith }

pub volume_within : {law : Law} {head : ℤ} → IsNodeLaw law → IsHead head → IsWithin (10 ^ 21) (volume_of law head)
unfolding volume_of
volume_within {law} l h = rule_volume_within law.rule l.rule_in l h

-- an outfall has no flood and no volume
no_flood : (rule : Rule) (law : Law) (fixed : NodeFixed) (i o a last : ℤ) → is_outfall_rule rule ≡ true → rule_flood rule law fixed i o a last ≡ pos 0
no_flood (JunctionRule pond) law fixed i o a last e = let never : ⊥ = cc in absurd never
no_flood (StorageRule table) law fixed i o a last e = let never : ⊥ = cc in absurd never
no_flood (OutfallRule level) law fixed i o a last e = refl

pub dry_flood : (law : Law) (fixed : NodeFixed) (i o a last : ℤ) → is_outfall_rule law.rule ≡ true → flood_of law fixed i o a last ≡ pos 0
unfolding flood_of
dry_flood law fixed i o a last e = no_flood law.rule law fixed i o a last e

no_volume : (rule : Rule) (law : Law) (head : ℤ) → is_outfall_rule rule ≡ true → rule_volume rule law head ≡ pos 0
no_volume (JunctionRule pond) law head e = let never : ⊥ = cc in absurd never
no_volume (StorageRule table) law head e = let never : ⊥ = cc in absurd never
no_volume (OutfallRule level) law head e = refl

pub dry_volume : (law : Law) (head : ℤ) → is_outfall_rule law.rule ≡ true → volume_of law head ≡ pos 0
unfolding volume_of
dry_volume law head e = no_volume law.rule law head e
