-- What a seat holds while it acts on an item, and what it loads (this project's profile).
use Rattle.std.specs.Prelude.{◌≡◌, ℕ, ◌+◌, ◌<◌, Bool, ℤ, List}
use Rattle.fixed_num.specs.Lists.{number}
use Rattle.phase_law.specs.Law.{Law}
use Rattle.phase_machine.specs.declared.acts.Act.{Act}
use Rattle.phase_machine.specs.declared.work.Work.{Work}
use Rattle.phase_machine.specs.Asks.{AsksLink, AsksNode}
use Rattle.phase_machine.specs.Items.{Deposit, link_loads, node_loads}
use Rattle.phase_machine.specs.Places.{is_odd, is_first, word_count}
use Rattle.phase_machine.specs.Steps.{HasLink, HasNode}
use Rattle.node_board.specs.declared.inputs.LinkInput.{LinkInput}
use Rattle.node_board.specs.declared.inputs.NodeInput.{NodeInput}
use Rattle.node_board.specs.declared.views.View.{View}
use Rattle.node_board.specs.Plays.{at_work}
use Rattle.node_board.specs.Shows.{work_of}
use Rattle.node_board.specs.Steps.{Deposits, Loads, load_place}

-- a link's item of which all is loaded, at a stage
pub record ReadyLink (law : Law) (stage : ℕ) (w : Work) : Type 0 where
  pub held : HasLink w stage
  pub asks : AsksLink law w

-- a node's item of which all is loaded, at a stage
pub record ReadyNode (law : Law) (stage : ℕ) (w : Work) : Type 0 where
  pub held : HasNode w stage
  pub asks : AsksNode law w

-- the seat's next act is this deposit
abbrev pub CanDeposit : Law → Work → Deposit → Type 0
CanDeposit law w d = (act : Act) × Deposits law w act d

-- ---- loads
-- a seat loads the numbers of an item, a link's or a node's, and has so many of them
pub record IsLoading (is_link : Bool) (most loads : ℕ) (w : Work) : Type 0 where
  pub kind : is_odd w.tag ≡ is_link
  pub item : w.item < most
  pub stage : w.stage ≡ loads + 1

-- the seat's next load reads this word
pub record CanLoad (law : Law) (word : ℕ) (w : Work) : Type 0 where
  pub act : Act
  pub loads : Loads law w act
  pub word_is : word ≡ load_place law w + 1
  pub inside : load_place law w < word_count law

-- the input of a link, as its seat loaded it
abbrev pub link_input_of : Work → LinkInput
link_input_of w = record {
  fixed = link_loads w;
  first = is_first (number w.loaded 4);
  near = number w.loaded 5;
  far = number w.loaded 6;
  last = number w.loaded 7;
}

-- the input of a node
abbrev pub node_input_of : Work → NodeInput
node_input_of w = record {
  fixed = node_loads w;
  first = is_first (number w.loaded 5);
  sums = record { inflow = number w.loaded 7; outflow = number w.loaded 8; area = number w.loaded 9 };
  last = number w.loaded 6;
}

-- the same view with an item's loads at a stage
abbrev pub at_loads : {P : Type 0} → View P → (stage : ℕ) → List ℤ → View P
at_loads v stage loads = at_work v (record (work_of v) { stage = stage; loaded = loads })
