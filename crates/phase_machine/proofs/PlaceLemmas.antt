-- Places of the words lie apart, and a word that is stored leaves the others.
use Rattle.std.proofs.Common.{zero, suc, ◌≡◌, ℕ, ◌+◌, ◌<◌, ℤ, List, length, slice_set, refl, sym, subst, arith, Bool, true, false, eqb, ◌⊎◌, inl, inr}
use Rattle.std.proofs.lemmas.Bool.{eqb-true, eq-eqb}
use Rattle.fixed_num.specs.Lists.{number}
use Rattle.fixed_num.specs.Ranges.{IsFlow}
use Rattle.phase_law.specs.Law.{Law}
use Rattle.phase_law.specs.Ranges.{HeadInRange}
use Rattle.trial_model.proofs.LoopLemmas.{number_same, number_other}
use Rattle.phase_machine.specs.Places.{done_place, unsettled_place, first_place, link_place, node_place, least_place, word_count, written, other, IsRead, first, link_fixed, flow, node_fixed, head, LinkWord, NodeWord, IsInRange}

pub equal_or_not : (a b : ℕ) → (a ≡ b) ⊎ (¬ (a ≡ b))
equal_or_not a b = by_test (eqb a b) refl
  where
    by_test : (t : Bool) → eqb a b ≡ t → (a ≡ b) ⊎ (¬ (a ≡ b))
    by_test true on = inl (eqb-true a b on)
    by_test false off = inr (λ e. let on : eqb a b ≡ true = eq-eqb a b e in cc)

pub written_few : (phase : ℕ) → written phase < 2
written_few phase = omega arith

pub other_few : (b : ℕ) → other b < 2
other_few b = omega arith

-- ---- what a trial reads
module _ {law : Law} where
  pub read_within : {b j : ℕ} → b < 2 → IsRead law b j → j < word_count law
  read_within few first = omega arith
  read_within few (link_fixed l k h1 h2) = omega arith
  read_within few (flow l h) = omega arith
  read_within few (node_fixed n k h1 h2) = omega arith
  read_within few (head n h) = omega arith

  pub read_apart_done : {b j : ℕ} → IsRead law b j → ¬ (j ≡ done_place)
  read_apart_done first e = omega arith
  read_apart_done (link_fixed l k h1 h2) e = omega arith
  read_apart_done (flow l h) e = omega arith
  read_apart_done (node_fixed n k h1 h2) e = omega arith
  read_apart_done (head n h) e = omega arith

  pub read_apart_unsettled : {b j : ℕ} → IsRead law b j → ¬ (j ≡ unsettled_place)
  read_apart_unsettled first e = omega arith
  read_apart_unsettled (link_fixed l k h1 h2) e = omega arith
  read_apart_unsettled (flow l h) e = omega arith
  read_apart_unsettled (node_fixed n k h1 h2) e = omega arith
  read_apart_unsettled (head n h) e = omega arith

  pub read_apart_sum : {b j : ℕ} → b < 2 → IsRead law b j → (n s : ℕ) → n < law.nodes → s < 3 → ¬ (j ≡ node_place law n (7 + s))
  read_apart_sum few first n s h h3 e = omega arith
  read_apart_sum few (link_fixed l k h1 h2) n s h h3 e = omega arith
  read_apart_sum few (flow l h1) n s h h3 e = omega arith
  read_apart_sum few (node_fixed m k h1 h2) n s h h3 e = omega arith
  read_apart_sum few (head m h1) n s h h3 e = omega arith

  pub read_apart_least : {b j : ℕ} → b < 2 → IsRead law b j → ¬ (j ≡ least_place law)
  read_apart_least few first e = omega arith
  read_apart_least few (link_fixed l k h1 h2) e = omega arith
  read_apart_least few (flow l h) e = omega arith
  read_apart_least few (node_fixed n k h1 h2) e = omega arith
  read_apart_least few (head n h) e = omega arith

  pub read_apart_flow : {b j : ℕ} → b < 2 → IsRead law (other b) j → (l : ℕ) → l < law.links → ¬ (j ≡ link_place l (4 + b))
  read_apart_flow few first l h e = omega arith
  read_apart_flow few (link_fixed m k h1 h2) l h e = omega arith
  read_apart_flow few (flow m h1) l h e = omega arith
  read_apart_flow few (node_fixed n k h1 h2) l h e = omega arith
  read_apart_flow few (head n h1) l h e = omega arith

  pub read_apart_head : {b j : ℕ} → b < 2 → IsRead law (other b) j → (n : ℕ) → n < law.nodes → ¬ (j ≡ node_place law n (5 + b))
  read_apart_head few first n h e = omega arith
  read_apart_head few (link_fixed m k h1 h2) n h e = omega arith
  read_apart_head few (flow m h1) n h e = omega arith
  read_apart_head few (node_fixed m k h1 h2) n h e = omega arith
  read_apart_head few (head m h1) n h e = omega arith

-- ---- ranges
-- a place without a range takes any value
pub unranged : {law : Law} {place : ℕ} → ¬ (place ≡ first_place) → ((l k : ℕ) → l < law.links → k < 6 → ¬ (place ≡ link_place l k))
    → ((n k : ℕ) → n < law.nodes → k < 7 → ¬ (place ≡ node_place law n k)) → (value : ℤ) → IsInRange law place value
unranged not_first not_link not_node value = record {
  first = λ e. absurd (not_first e);
  link = λ l k h few e. absurd (not_link l k h few e);
  node = λ n k h few e. absurd (not_node n k h few e);
}

-- the words of flows and heads
pub flow_word : (b : ℕ) (value : ℤ) → b < 2 → IsFlow value → LinkWord (4 + b) value
flow_word zero value few range = range
flow_word (suc zero) value few range = range
flow_word (suc (suc b)) value few range = absurd (omega arith)

pub word_flow : (b : ℕ) (value : ℤ) → b < 2 → LinkWord (4 + b) value → IsFlow value
word_flow zero value few range = range
word_flow (suc zero) value few range = range
word_flow (suc (suc b)) value few range = absurd (omega arith)

pub head_word : (law : Law) (b : ℕ) (value : ℤ) → b < 2 → HeadInRange law value → NodeWord law (5 + b) value
head_word law zero value few range = range
head_word law (suc zero) value few range = range
head_word law (suc (suc b)) value few range = absurd (omega arith)

pub word_head : (law : Law) (b : ℕ) (value : ℤ) → b < 2 → NodeWord law (5 + b) value → HeadInRange law value
word_head law zero value few range = range
word_head law (suc zero) value few range = range
word_head law (suc (suc b)) value few range = absurd (omega arith)

module _ {law : Law} where
  -- a word has one number in its link or node
  pub link_range : (l k : ℕ) → l < law.links → k < 6 → (value : ℤ) → LinkWord k value → IsInRange law (link_place l k) value
  link_range l k within few value range = record {
    first = λ e. absurd (omega arith);
    link = λ m j h h2 e. let same : j ≡ k = omega arith in subst (λ (i : ℕ). LinkWord i value) (sym same) range;
    node = λ n j h h2 e. absurd (omega arith);
  }

  pub node_range : (n k : ℕ) → n < law.nodes → k < 7 → (value : ℤ) → NodeWord law k value → IsInRange law (node_place law n k) value
  node_range n k within few value range = record {
    first = λ e. absurd (omega arith);
    link = λ l j h h2 e. absurd (omega arith);
    node = λ m j h h2 e. let same : j ≡ k = omega arith in subst (λ (i : ℕ). NodeWord law i value) (sym same) range;
  }

  pub done_range : (value : ℤ) → IsInRange law done_place value
  done_range value = unranged (λ e. omega arith) (λ l k h1 h2 e. omega arith) (λ n k h1 h2 e. omega arith) value

  pub unsettled_range : (value : ℤ) → IsInRange law unsettled_place value
  unsettled_range value = unranged (λ e. omega arith) (λ l k h1 h2 e. omega arith) (λ n k h1 h2 e. omega arith) value

  pub sum_range : (n s : ℕ) → s < 3 → (value : ℤ) → IsInRange law (node_place law n (7 + s)) value
  sum_range n s few value = unranged (λ e. omega arith) (λ l k h1 h2 e. omega arith) (λ m k h1 h2 e. omega arith) value

  pub least_range : (value : ℤ) → IsInRange law (least_place law) value
  least_range value = unranged (λ e. omega arith) (λ l k h1 h2 e. omega arith) (λ n k h1 h2 e. omega arith) value

  pub flow_range : (l b : ℕ) → l < law.links → b < 2 → (value : ℤ) → IsFlow value → IsInRange law (link_place l (4 + b)) value
  flow_range l b within few value range = link_range l (4 + b) within (omega arith) value (flow_word b value few range)

  pub head_range : (n b : ℕ) → n < law.nodes → b < 2 → (value : ℤ) → HeadInRange law value → IsInRange law (node_place law n (5 + b)) value
  head_range n b within few value range = node_range n (5 + b) within (omega arith) value (head_word law b value few range)

  -- a store of a value in range keeps all words in range
  pub ranges_set : (words : List ℤ) → ((j : ℕ) → IsInRange law j (number words j)) → (place : ℕ) (value : ℤ) → place < length words
      → IsInRange law place value → (j : ℕ) → IsInRange law j (number (slice_set words place value) j)
  ranges_set words ranges place value within range j =
      elim (equal_or_not j place) [
        | inl e ↦ subst (λ (i : ℕ). IsInRange law i (number (slice_set words place value) i)) (sym e)
            (subst (λ (v : ℤ). IsInRange law place v) (sym (number_same words place value within)) range)
        | inr differ ↦ subst (λ (v : ℤ). IsInRange law j v) (sym (number_other words place j value differ)) (ranges j)
      ]
