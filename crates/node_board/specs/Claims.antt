-- What a claim tells, and what the seat holds then (this project's profile).
use Rattle.std.specs.Prelude.{◌≡◌, ℕ, ◌<◌, ◌≤◌, Bool, true, false, []}
use Rattle.phase_law.specs.Law.{Law}
use Rattle.phase_machine.specs.declared.work.Work.{Work}
use Rattle.phase_machine.specs.Places.{is_odd, count}
use Rattle.node_board.specs.declared.claims.Claim.{Claim}
use Rattle.node_board.specs.declared.claims.Claim.TheVariants.{Link, Node, NoItem}
use Rattle.node_board.specs.declared.views.View.{View}
use Rattle.node_board.specs.Coding.{phase_in, index_in}
use Rattle.node_board.specs.Plays.{looked, took}

-- the claim word names an item in its phase
abbrev pub NamesItem : Law → (word : ℕ) → Type 0
NamesItem law word = index_in word < count law (phase_in word)

-- the item that a claim word names, or that word where it names none
abbrev pub Names : Law → (word : ℕ) → Claim → Type 0
Names law word (Link l) = (index_in word ≡ l) × NamesItem law word × (is_odd (phase_in word) ≡ true)
Names law word (Node n) = (index_in word ≡ n) × NamesItem law word × (is_odd (phase_in word) ≡ false)
Names law word (NoItem found) = (found ≡ word) × (count law (phase_in word) ≤ index_in word)

-- a seat has an item, a link's or a node's, and made no act on it
pub record HasNew (is_link : Bool) (most : ℕ) (w : Work) : Type 0 where
  pub kind : is_odd w.tag ≡ is_link
  pub item : w.item < most
  pub stage : w.stage ≡ 1
  pub none_loaded : w.loaded ≡ []

-- the seat holds what it was told
abbrev pub Holds : Law → Claim → Work → Type 0
Holds law (Link l) w = (w.item ≡ l) × HasNew true law.links w
Holds law (Node n) w = (w.item ≡ n) × HasNew false law.nodes w
Holds law (NoItem found) w = w.stage ≡ 0

-- a claim looks, and where the word that it found names an item, it takes the item that the next word names
pub data ClaimSteps {P : Type 0} (law : Law) (old new : View P) : Type 0 where
  looks : new ≡ looked law new.last old → count law (phase_in new.last) ≤ index_in new.last → ClaimSteps law old new
  takes : (found : ℕ) → NamesItem law found → new ≡ took law new.last (looked law found old) → ClaimSteps law old new
