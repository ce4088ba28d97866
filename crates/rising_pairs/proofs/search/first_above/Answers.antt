use Rattle.std.proofs.Common.{ℤ, rules}
use Rattle.std.specs.Prelude.{int_le}
use Rattle.std.proofs.lemmas.List.Sorted.{IsPartitionPoint-from_clause}
use Rattle.rising_pairs.specs.FirstAbove.{IsFirstAbove}
use Rattle.rising_pairs.proofs.SearchLemmas.{parted, parts_from_point, first_above_is}
use Rattle.rising_pairs.proofs.search.first_above.Goals as goal

pub returns-clause-parts : goal.returns-clause-parts
returns-clause-parts c =
    let pairs = c.args.pairs.now in
    let key = c.args.key in
    let point = IsPartitionPoint-from_clause (λ (p : ℤ × ℤ). int_le p.0 key) _ _ c.partition_point.ensures.partitioned
    (parted pairs key c.requires) (λ a r q k. search rules) in
    parts_from_point pairs key _ c.partition_point.ensures.bound point

pub returns-clause-value : goal.returns-clause-value
returns-clause-value c = first_above_is _ _ _ (returns-clause-parts c)
