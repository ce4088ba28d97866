-- Words of proofs alone: the words at the start, as far as they were laid out.
use Rattle.std.specs.Prelude.{◌≡◌, ℕ, ◌+◌, ◌*◌, ◌<◌, ℤ, pos, List, [], ◌∷◌, length}
use Rattle.fixed_num.specs.Lists.{number}
use Rattle.phase_law.specs.Law.{Law}
use Rattle.phase_law.specs.declared.values.LinkFixed.{LinkFixed}
use Rattle.phase_law.specs.declared.values.NodeFixed.{NodeFixed}
use Rattle.trial_model.specs.declared.nets.Nets.{Nets}
use Rattle.trial_model.specs.Fits.{link_fixed_at, node_fixed_at}
use Rattle.phase_machine.specs.Places.{done_place, unsettled_place, first_place, link_place, node_place, least_place}
use Rattle.phase_machine.specs.Places.{word_count, link_fixed_in, node_fixed_in}

-- the words of a link and of a node
abbrev pub link_words : LinkFixed → ℤ → List ℤ
link_words f flow = f.q_old ∷ f.a_old ∷ f.setting ∷ f.dt ∷ flow ∷ pos 0 ∷ []

abbrev pub node_words : NodeFixed → ℤ → List ℤ
node_words f head =
    f.h_old ∷ f.net_old ∷ f.lateral ∷ f.stage ∷ f.dt ∷ head ∷ pos 0 ∷ pos 0 ∷ pos 0 ∷ pos 0 ∷ []

-- the words of the first so many links were laid out
pub record LinksLaid (nets : Nets) (words : List ℤ) (links : ℕ) : Type 0 where
  pub done : number words done_place ≡ pos 0
  pub unsettled : number words unsettled_place ≡ pos 0
  pub first : number words first_place ≡ pos 1
  pub fixed : (l : ℕ) → l < links → link_fixed_in words l ≡ link_fixed_at nets.links l
  pub flow : (l : ℕ) → l < links → number words (link_place l 4) ≡ number nets.flows l
  pub other : (l : ℕ) → l < links → number words (link_place l 5) ≡ pos 0

-- and those of the first so many nodes
pub record NodesLaid (law : Law) (nets : Nets) (words : List ℤ) (nodes : ℕ) : Type 0 where
  pub links : LinksLaid nets words law.links
  pub fixed : (n : ℕ) → n < nodes → node_fixed_in law words n ≡ node_fixed_at nets.nodes n
  pub head : (n : ℕ) → n < nodes → number words (node_place law n 5) ≡ number nets.heads n
  pub other : (n : ℕ) → n < nodes → number words (node_place law n 6) ≡ pos 0
  pub sums : (n s : ℕ) → n < nodes → s < 3 → number words (node_place law n (7 + s)) ≡ pos 0

-- all words were laid out
pub record AllLaid (law : Law) (nets : Nets) (words : List ℤ) : Type 0 where
  pub size : length words ≡ word_count law
  pub nodes : NodesLaid law nets words law.nodes
  pub least : number words (least_place law) ≡ pos 3_600_000
