use Rattle.std.proofs.Common.{rules, ◌≡◌, ◌^◌, FitsSigned, sym, subst}
use Rattle.std.specs.Int.{w128}
use Rattle.std.proofs.lemmas.Int.{to_z-of_z}
use Rattle.fixed_num.specs.Ranges.{IsWithin}
use Rattle.fixed_num.proofs.Bounds.{fits128, within_up}
use Rattle.time_series.specs.Inflows.{times6}
use Rattle.time_series.proofs.AmountLemmas.{scaled_within}
use Rattle.time_series.proofs.amounts.scaled.Goals as goal
use Rattle.time_series.proofs.amounts.scaled.Goals.{After-times6}

value : (c : After-times6) → c.times6.result ≡ times6 c.args.amount6 c.args.factor6
value c = simp (to_z-of_z, c.ranges.amount6, fits128 c.requires.amount tt, c.ranges.factor6) at c.times6.ensures

pub times6-requires-clause-amount : goal.times6-requires-clause-amount
times6-requires-clause-amount c = simp (to_z-of_z, c.ranges.amount6, fits128 c.requires.amount tt)
    (within_up c.requires.amount tt)

pub returns-clause-value : goal.returns-clause-value
returns-clause-value c =
    let fits : FitsSigned w128 c.times6.result = search rules in
    simp (to_z-of_z, fits) (value c)

pub returns-clause-range : goal.returns-clause-range
returns-clause-range c =
    let fits : FitsSigned w128 c.times6.result = search rules in
    simp (to_z-of_z, fits) (subst (IsWithin (10 ^ 24)) (sym (value c))
    (scaled_within c.requires.amount c.requires.factor))
