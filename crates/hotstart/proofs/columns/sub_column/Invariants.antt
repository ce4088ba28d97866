-- The subcatchments so far.
use Rattle.std.proofs.Common.{◌≡◌, ℕ, ◌+◌, ◌*◌}
use Rattle.fixed_num.specs.Lists.{list_of}
use Rattle.hotstart.specs.Reading.{sub_at as sub_at_place, sub_width}
use Rattle.hotstart.proofs.columns.sub_column.Given as goal

abbrev pub invariant-loop-k : goal.invariant-loop-k
invariant-loop-k l = l.subs ≡ list_of (λ (k : ℕ). sub_at_place l.kind l.file (l.place + sub_width l.kind * k)) l.k
