-- Words of proofs alone: what the acts of a worker need of the machine.
use Rattle.std.specs.Prelude.{◌≡◌, ℕ, ◌+◌, ◌-◌, ◌<◌, ◌≤◌, ◌^◌, true, false, ℤ, pos, ◌≤ℤ◌, List, length}
use Rattle.fixed_num.specs.Lists.{number}
use Rattle.phase_law.specs.Law.{Law}
use Rattle.phase_law.specs.Laws.{IsLaw}
use Rattle.phase_machine.specs.declared.work.Work.{Work}
use Rattle.phase_machine.specs.Places.{done_place, unsettled_place, node_place, word_count, is_odd}
use Rattle.phase_machine.specs.Items.{input_place}
use Rattle.phase_machine.specs.Asks.{AsksLink, AsksNode}

-- the item of a seat is one of the network
pub record IsItem (law : Law) (w : Work) : Type 0 where
  pub link : is_odd w.tag ≡ true → w.item < law.links
  pub node : is_odd w.tag ≡ false → w.item < law.nodes
  pub tag : w.tag < 2 ^ 63

-- no sum of a node is so large that a deposit would not fit
pub record HaveRoom (law : Law) (words : List ℤ) : Type 0 where
  pub each : (n s : ℕ) → n < law.nodes → s < 3 → number words (node_place law n (7 + s)) ≤ℤ pos (10 ^ 17)

-- what a deposit, an offer or the storing of a flow needs
pub record ReadyForLink (law : Law) (words : List ℤ) (w : Work) : Type 0 where
  pub good : IsLaw law
  pub all : length words ≡ word_count law
  pub asks : AsksLink law w
  pub room : HaveRoom law words
  pub stage : w.stage ≤ 15
  pub tag : w.tag < 2 ^ 63

-- what the storing of a head or a mark needs
pub record ReadyForNode (law : Law) (words : List ℤ) (w : Work) : Type 0 where
  pub good : IsLaw law
  pub all : length words ≡ word_count law
  pub asks : AsksNode law w
  pub room : number words unsettled_place ≤ℤ pos 20_000
  pub stage : w.stage ≤ 15
  pub tag : w.tag < 2 ^ 63

-- what a load needs
pub record ReadyForLoad (law : Law) (words : List ℤ) (w : Work) : Type 0 where
  pub item : IsItem law w
  pub few : w.item ≤ 20_000
  pub first : 1 ≤ w.stage
  pub stage : w.stage ≤ 10
  pub room : length w.loaded < 10
  pub place : input_place law w (w.stage - 1) < length words

-- what the end of an item needs
pub record ReadyForEnd (law : Law) (words : List ℤ) (w : Work) : Type 0 where
  pub all : length words ≡ word_count law
  pub done : number words done_place ≤ℤ pos 20_000
  pub room : length w.finished < 20_000
