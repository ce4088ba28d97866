-- What it means that an atomic step keeps the rule of the board (this project's profile).
use Rattle.std.specs.Prelude.{◌≡◌, ℕ, ◌+◌, ◌-◌, ◌*◌, ◌^◌, ◌<◌, ◌≤◌, true, false, [], ◌∷◌, ◌++◌}
use Rattle.atomic_table.specs.Table.{Me, Allows, Splits}
use Rattle.fixed_num.specs.Lists.{number}
use Rattle.phase_law.specs.Law.{Law}
use Rattle.phase_machine.specs.declared.acts.Act.{Act}
use Rattle.phase_machine.specs.declared.work.Work.{Work}
use Rattle.phase_machine.specs.Asks.{AsksLink, AsksNode}
use Rattle.phase_machine.specs.Core.{Core}
use Rattle.phase_machine.specs.Items.{Deposit, input_place}
use Rattle.phase_machine.specs.Places.{link_place, node_place, is_odd, written}
use Rattle.phase_machine.specs.Steps.{CanWork, work_after, words_after, index_after, loaded_more, deposited, further}
use Rattle.phase_machine.specs.Steps.{reset_count}
use Rattle.node_board.specs.declared.views.Plan.{Plan}
use Rattle.node_board.specs.declared.views.View.{View}
use Rattle.node_board.specs.Rule.{IsRuled}

-- ---- steps
module _ {P : Type 0} where
  -- in every state of the board that meets the rule, the seat of this view may change the word so: the rule holds after
  -- it, and `tells` holds of what was found in the word and of what the seat knows then
  abbrev pub Keeps : Law → (key : P) → View P → (word : ℕ) → (ℕ → ℕ) → (ℕ → Me (Unit {0}) (View P) → Type 0) → Type 0
  Keeps law key v word change tells =
      (slots i : ℕ) → Allows {S = Unit {0}} (IsRuled law key) slots i (v, []) word change tells

  -- the same of the split of a new seat: the rule holds if the seat's view is cut in these two
  abbrev pub KeepsSplit : Law → (key : P) → (v left right : View P) → Type 0
  KeepsSplit law key v left right = (i : ℕ) → Splits {S = Unit {0}} (IsRuled law key) i v left right

-- ---- what workers' steps are about
-- the work after an item's last act
abbrev pub ended : Work → Work
ended w = record w { stage = 0; finished = w.finished ++ w.item ∷ [] }

-- the places that an item's flow and head are put in
abbrev pub flow_place : Work → ℕ
flow_place w = link_place w.item (4 + written w.tag)

abbrev pub head_place : Law → Work → ℕ
head_place law w = node_place law w.item (5 + written w.tag)

-- the place that the item's next load reads
abbrev pub load_place : Law → Work → ℕ
load_place law w = input_place law w (w.stage - 1)

-- once all is loaded, the law may be asked
pub record AskedWhenLoaded (law : Law) (w : Work) : Type 0 where
  pub link : is_odd w.tag ≡ true → 9 ≤ w.stage → AsksLink law w
  pub node : is_odd w.tag ≡ false → 11 ≤ w.stage → AsksNode law w

-- an act that has a step and loads the item's next number, and changes nothing but the work of its seat
pub record Loads (law : Law) (w : Work) (act : Act) : Type 0 where
  pub begun : 1 ≤ w.stage
  pub can : CanWork law w act
  pub work : (c : Core) → work_after law c w act ≡ loaded_more w (number c.words (load_place law w))
  pub words : (c : Core) → words_after law c w act ≡ c.words
  pub index : (k : ℕ) → index_after k act ≡ k
  pub links : is_odd w.tag ≡ true → w.stage ≤ 8
  pub most : w.stage ≤ 10

-- an act that has a step and adds an amount to a sum of a node, for the link of its item
pub record Deposits (law : Law) (w : Work) (act : Act) (d : Deposit) : Type 0 where
  pub can : CanWork law w act
  pub odd : is_odd w.tag ≡ true
  pub begun : 1 ≤ w.stage
  pub work : (c : Core) → further w ≡ work_after law c w act
  pub index : (k : ℕ) → index_after k act ≡ k
  pub words : (c : Core) → words_after law c w act ≡ deposited law c.words d
  pub node : d.node < law.nodes
  pub sum : d.sum < 3
  pub amount : d.amount ≤ 10 ^ 13

-- ---- what the lead's steps are about
-- no phase is open, and the board wasn't stopped
abbrev pub Rests : Plan → Type 0
Rests plan = (plan.is_open ≡ false) × (plan.stopped ≡ false)

-- all words are reset that the next phase counts in, and one phase more is few enough
abbrev pub IsReset : Law → Plan → Type 0
IsReset law plan = (plan.resets ≡ reset_count law plan.phase) × (plan.phase ≤ 2 * 10 ^ 9 + 3)
