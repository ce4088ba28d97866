-- Totals of accounts, and their ranges.
use Rattle.std.proofs.Common.{◌≡◌, ℕ, ◌+◌, ◌*◌, ◌^◌, ◌≤◌, ℤ, pos, ◌+ℤ◌, refl, sym, ◌∙◌, arith, add-one}
use Rattle.std.proofs.lemmas.Int.{ints}
use Rattle.fixed_num.specs.Ranges.{IsWithin}
use Rattle.net_types.specs.declared.account.StepAccount.{StepAccount}
use Rattle.continuity.specs.Run.{IsTotal, Running, nothing}
use Rattle.continuity.specs.Sums.{FieldsWithin, plus_of, total_of}

-- ---- totals
pub total_none : (f : ℕ → StepAccount) → total_of f 0 ≡ nothing
unfolding total_of
total_none f = refl

pub total_next : (f : ℕ → StepAccount) (n : ℕ) → total_of f (n + 1) ≡ plus_of (total_of f n) (f n)
unfolding total_of
total_next f n = rw add-one refl

-- ---- ranges
within_more : {m n : ℕ} {x : ℤ} → IsWithin m x → m ≤ n → IsWithin n x
within_more {m} {n} {x} p h = record { within = omega (arith, p.within, h) }

pub fields_more : {m n : ℕ} {a : StepAccount} → FieldsWithin m a → m ≤ n → FieldsWithin n a
fields_more p h = record {
  inflow = within_more p.inflow h;
  outfall = within_more p.outfall h;
  flooding = within_more p.flooding h;
  storage = within_more p.storage h;
  error = within_more p.error h;
}

within_next : {m : ℕ} (n : ℕ) {x y : ℤ} → IsWithin (m * n) x → IsWithin m y → IsWithin (m * (n + 1)) (x +ℤ y)
within_next {m} n {x} {y} p q = record { within = omega (arith, ints, p.within, q.within) }

pub fields_next : {m : ℕ} (n : ℕ) {a b : StepAccount} → FieldsWithin (m * n) a → FieldsWithin m b → FieldsWithin (m * (n + 1)) (plus_of a b)
fields_next n p q = record {
  inflow = within_next n p.inflow q.inflow;
  outfall = within_next n p.outfall q.outfall;
  flooding = within_next n p.flooding q.flooding;
  storage = within_next n p.storage q.storage;
  error = within_next n p.error q.error;
}

within_plus : {m n : ℕ} {x y : ℤ} → IsWithin m x → IsWithin n y → IsWithin (m + n) (x +ℤ y)
within_plus {m} {n} {x} {y} p q = record { within = omega (arith, ints, p.within, q.within) }

pub fields_plus : {m n : ℕ} {a b : StepAccount} → FieldsWithin m a → FieldsWithin n b → FieldsWithin (m + n) (plus_of a b)
fields_plus p q = record {
  inflow = within_plus p.inflow q.inflow;
  outfall = within_plus p.outfall q.outfall;
  flooding = within_plus p.flooding q.flooding;
  storage = within_plus p.storage q.storage;
  error = within_plus p.error q.error;
}

nothing_within : (m : ℕ) → IsWithin m (pos 0)
nothing_within m = record { within = omega (arith, ints) }

pub fields_none : (m : ℕ) → FieldsWithin m nothing
fields_none m = record {
  inflow = nothing_within m;
  outfall = nothing_within m;
  flooding = nothing_within m;
  storage = nothing_within m;
  error = nothing_within m;
}

-- ---- the loops over nodes and over links
pub record Summed (f : ℕ → StepAccount) (n : ℕ) (total : StepAccount) : Type 0 where
  pub sum : total ≡ total_of f n
  pub range : FieldsWithin (2 * 10 ^ 23 * n) total

pub summed_none : (f : ℕ → StepAccount) → Summed f 0 nothing
summed_none f = record { sum = sym (total_none f); range = fields_none (2 * 10 ^ 23 * 0) }

pub summed_more : {f : ℕ → StepAccount} {n : ℕ} {total : StepAccount} → Summed f n total → (part new : StepAccount) → part ≡ f n
    → FieldsWithin (2 * 10 ^ 23) part → new ≡ plus_of total part → Summed f (n + 1) new
summed_more {f} {n} {total} s part new same range made = rw made (record {
  sum = rw (s.sum, same) (sym (total_next f n));
  range = fields_next n s.range range;
})

pub summed_room : {f : ℕ → StepAccount} {n : ℕ} {total : StepAccount} → Summed f n total → n ≤ 20_000 → FieldsWithin (10 ^ 37) total
summed_room {f} {n} s few = fields_more s.range (omega arith)

-- ---- a run
pub total_more : (f : ℕ → StepAccount) (running : Running) → IsTotal f running → (step : StepAccount) → step ≡ f running.steps
    → (new : StepAccount) → new ≡ plus_of running.total step → IsTotal f (record { total = new; steps = running.steps + 1 })
total_more f running t step here new made = record { total = made ∙ rw (t.total, here) (sym (total_next f running.steps)) }
