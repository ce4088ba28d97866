-- The ranges of critical and normal depths.
use Rattle.std.proofs.Common.{ℕ, zero, suc, ◌≤◌, ◌^◌, Bool, true, false, cond, nat_lt, ℤ, pos, arith}
use Rattle.std.specs.Prelude.{int_le}
use Rattle.std.proofs.lemmas.Int.{ints}
use Rattle.fixed_num.specs.Ranges.{IsBetween, IsDepth}
use Rattle.xsect_tables.specs.FirstPlaces.{first_that}
use Rattle.xsect_tables.specs.NormalFlow.{critical_of, is_carried, is_subcritical, normal_of, slope_of}
use Rattle.xsect_tables.specs.SectionTable.{SectionTable, IsTable, entry}
use Rattle.xsect_tables.proofs.LookUpLemmas.{height_between}

-- a place that is found is no later than the end
one_of : (a b : Bool) (f n : ℕ) → f ≤ n → cond a f (cond b n (suc n)) ≤ suc n
one_of true b f n h = omega (arith, h)
one_of false true f n h = omega arith
one_of false false f n h = omega arith

first_within : (p : ℕ → Bool) (n : ℕ) → first_that p n ≤ n
first_within p zero = omega arith
first_within p (suc n) = one_of (nat_lt (first_that p n) n) (p n) (first_that p n) n (first_within p n)

none_or : (b : Bool) {x : ℤ} → IsDepth x → IsDepth (cond b (pos 0) x)
none_or true h = record { from = omega (arith, ints); to = omega (arith, ints) }
none_or false h = h

pub critical-depth : {table : SectionTable} (q : ℤ) → IsTable table → IsDepth (critical_of table q)
unfolding critical_of
critical-depth {table} q t =
    none_or (int_le q (pos 0)) (height_between t.heights (first_that (is_subcritical table q) 200) (first_within (is_subcritical table q) 200))

pub normal-depth : {table : SectionTable} (q n6 drop length : ℤ) → IsTable table → IsDepth (normal_of table q n6 drop length)
unfolding normal_of
normal-depth {table} q n6 drop length t =
    let passes = is_carried table q n6 (slope_of drop length) in
    none_or (int_le q (pos 0)) (height_between t.heights (first_that passes 200) (first_within passes 200))
