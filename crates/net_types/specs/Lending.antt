-- What a list is once the loan of all its items is over.
use Rattle.std.specs.Prelude.{List as Sequence, ◌++◌, length, take, drop}
use Rattle.std.specs.Borrow.{Lends, MutBor, Fml, Array, RattleType}
use Rattle.net_types.specs.contracts.list.List.{the_row}

-- the items with the first ones replaced by those that were left behind the loan, which are as many
abbrev pub written_back : {T : Type 0} → Sequence T → Sequence T → Sequence T
written_back items w = take (length items) (w ++ drop (length w) items)

-- the list ends with the items that were left behind the loan
abbrev pub LendsAll : (T : RattleType) → MutBor (Sequence T.Denot) → MutBor (Sequence T.Denot) → Fml
LendsAll T list r = Lends (the_row T) (Array T 0) list r (written_back list.now)
