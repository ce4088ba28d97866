use Rattle.std.proofs.Common.{◌≡◌, ◌≤◌, ℕ, List, length, take, filter}
use Rattle.inp_forms.specs.declared.item.Item.{Item}
use Rattle.inp_forms.specs.Items.{is_needed}
use Rattle.inp_forms.proofs.items.least_of.Given as goal

-- the items so far that are needed
pub record CountedSoFar (least : ℕ) (items : List Item) (count : ℕ) : Type 0 where
  pub counted : least ≡ length (filter is_needed items)
  pub few : least ≤ count

abbrev pub invariant-loop-item : goal.invariant-loop-item
invariant-loop-item l = CountedSoFar l.least (take l.item-index l.items) l.item-index
