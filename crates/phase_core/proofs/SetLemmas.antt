-- Which words a trial reads, by their places.
use Rattle.std.proofs.Common.{◌≡◌, ℕ, ◌+◌, ◌-◌, ◌*◌, ◌/◌, ◌%◌, ◌<◌, ◌≤◌, ◌⊎◌, inl, inr, ◌↔◌, ℤ, pos, refl, sym, subst, arith}
use Rattle.fixed_num.specs.Ranges.{IsBetween}
use Rattle.phase_law.specs.Law.{Law}
use Rattle.phase_machine.specs.Places.{first_place, link_place, node_place, least_place, written, IsRead, first, link_fixed, flow, node_fixed, head, LinkWord, NodeWord, IsInRange}
use Rattle.phase_machine.specs.Steps.{CanSet}
use Rattle.phase_machine.proofs.PlaceLemmas.{link_range, node_range}

module _ (law : Law) (b : ℕ) (few : b ≤ 1) where
  -- the words of links
  link_is_read : (l k : ℕ) → l < law.links → (k < 4) ⊎ (k ≡ 4 + b) → IsRead law b (link_place l k)
  link_is_read l k h (inl less) = link_fixed l k h less
  link_is_read l k h (inr same) = subst (λ (i : ℕ). IsRead law b (link_place l i)) (sym same) (flow l h)

  read_is_link : {place : ℕ} (l k : ℕ) → l < law.links → k < 6 → place ≡ link_place l k → IsRead law b place
      → (k < 4) ⊎ (k ≡ 4 + b)
  read_is_link l k h h2 e first = absurd (omega arith)
  read_is_link l k h h2 e (link_fixed m j h3 h4) = inl (omega arith)
  read_is_link l k h h2 e (flow m h3) = inr (omega arith)
  read_is_link l k h h2 e (node_fixed m j h3 h4) = absurd (omega arith)
  read_is_link l k h h2 e (head m h3) = absurd (omega arith)

  -- the words of nodes
  node_is_read : (n k : ℕ) → n < law.nodes → (k < 5) ⊎ (k ≡ 5 + b) → IsRead law b (node_place law n k)
  node_is_read n k h (inl less) = node_fixed n k h less
  node_is_read n k h (inr same) = subst (λ (i : ℕ). IsRead law b (node_place law n i)) (sym same) (head n h)

  read_is_node : {place : ℕ} (n k : ℕ) → n < law.nodes → k < 10 → place ≡ node_place law n k → IsRead law b place
      → (k < 5) ⊎ (k ≡ 5 + b)
  read_is_node n k h h2 e first = absurd (omega arith)
  read_is_node n k h h2 e (link_fixed m j h3 h4) = absurd (omega arith)
  read_is_node n k h h2 e (flow m h3) = absurd (omega arith)
  read_is_node n k h h2 e (node_fixed m j h3 h4) = inl (omega arith)
  read_is_node n k h h2 e (head m h3) = inr (omega arith)

  few_link_word : (k : ℕ) → (k < 4) ⊎ (k ≡ 4 + b) → k < 6
  few_link_word k (inl less) = omega arith
  few_link_word k (inr same) = omega arith

  few_node_word : (k : ℕ) → (k < 5) ⊎ (k ≡ 5 + b) → k < 7
  few_node_word k (inl less) = omega arith
  few_node_word k (inr same) = omega arith

  -- a word by its place
  pub link_holds : (place : ℕ) (value : ℤ) → 3 ≤ place → place < 3 + 6 * law.links
      → (((place - 3) % 6 < 4) ⊎ ((place - 3) % 6 ≡ 4 + b)) → LinkWord ((place - 3) % 6) value
      → IsRead law b place × IsInRange law place value
  link_holds place value from to reads range =
      let l = (place - 3) / 6 in
      let k = (place - 3) % 6 in
      let within : (place - 3) / 6 < law.links = omega arith in
      let e : link_place ((place - 3) / 6) ((place - 3) % 6) ≡ place = omega arith in (
        subst (λ (i : ℕ). IsRead law b i) e (link_is_read ((place - 3) / 6) ((place - 3) % 6) within reads),
        subst (λ (i : ℕ). IsInRange law i value) e
            (link_range ((place - 3) / 6) ((place - 3) % 6) within (few_link_word ((place - 3) % 6) reads) value range),
      )

  pub link_held : (place : ℕ) (value : ℤ) → 3 ≤ place → place < 3 + 6 * law.links → IsRead law b place
      → IsInRange law place value
      → (((place - 3) % 6 < 4) ⊎ ((place - 3) % 6 ≡ 4 + b)) × LinkWord ((place - 3) % 6) value
  link_held place value from to read range =
      let within : (place - 3) / 6 < law.links = omega arith in
      let small : (place - 3) % 6 < 6 = omega arith in
      let e : place ≡ link_place ((place - 3) / 6) ((place - 3) % 6) = omega arith in (
        read_is_link ((place - 3) / 6) ((place - 3) % 6) within small e read,
        range.link ((place - 3) / 6) ((place - 3) % 6) within small e,
      )

  pub node_holds : (place : ℕ) (value : ℤ) → 3 + 6 * law.links ≤ place
      → place < 3 + 6 * law.links + 10 * law.nodes
      → (((place - 3 - 6 * law.links) % 10 < 5) ⊎ ((place - 3 - 6 * law.links) % 10 ≡ 5 + b))
      → NodeWord law ((place - 3 - 6 * law.links) % 10) value → IsRead law b place × IsInRange law place value
  node_holds place value from to reads range =
      let within : (place - 3 - 6 * law.links) / 10 < law.nodes = omega arith in
      let e : node_place law ((place - 3 - 6 * law.links) / 10) ((place - 3 - 6 * law.links) % 10) ≡ place = omega arith in (
        subst (λ (i : ℕ). IsRead law b i) e
            (node_is_read ((place - 3 - 6 * law.links) / 10) ((place - 3 - 6 * law.links) % 10) within reads),
        subst (λ (i : ℕ). IsInRange law i value) e
            (node_range
            ((place - 3 - 6 * law.links) / 10)
            ((place - 3 - 6 * law.links) % 10)
            within
            (few_node_word ((place - 3 - 6 * law.links) % 10) reads)
            value
            range),
      )

  pub node_held : (place : ℕ) (value : ℤ) → 3 + 6 * law.links ≤ place
      → place < 3 + 6 * law.links + 10 * law.nodes → IsRead law b place → IsInRange law place value
      → (((place - 3 - 6 * law.links) % 10 < 5) ⊎ ((place - 3 - 6 * law.links) % 10 ≡ 5 + b))
      × NodeWord law ((place - 3 - 6 * law.links) % 10) value
  node_held place value from to read range =
      let within : (place - 3 - 6 * law.links) / 10 < law.nodes = omega arith in
      let small : (place - 3 - 6 * law.links) % 10 < 10 = omega arith in
      let e : place ≡ node_place law ((place - 3 - 6 * law.links) / 10) ((place - 3 - 6 * law.links) % 10) = omega arith in
      let reads = read_is_node ((place - 3 - 6 * law.links) / 10) ((place - 3 - 6 * law.links) % 10) within small e read in (
        reads,
        range.node
            ((place - 3 - 6 * law.links) / 10)
            ((place - 3 - 6 * law.links) % 10)
            within
            (few_node_word ((place - 3 - 6 * law.links) % 10) reads)
            e,
      )

  -- the first word, and what isn't read
  pub first_holds : (value : ℤ) → IsBetween (pos 0) value (pos 1) → IsRead law b 2 × IsInRange law 2 value
  first_holds value range = (
    first,
    record {
      first = λ e. range;
      link = λ l k h h2 e. absurd (omega arith);
      node = λ n k h h2 e. absurd (omega arith);
    },
  )

  pub none_read : (place : ℕ) → (place < 2) ⊎ (least_place law ≤ place) → ¬ (IsRead law b place)
  none_read place (inl h) first = omega arith
  none_read place (inl h) (link_fixed l k h1 h2) = omega arith
  none_read place (inl h) (flow l h1) = omega arith
  none_read place (inl h) (node_fixed n k h1 h2) = omega arith
  none_read place (inl h) (head n h1) = omega arith
  none_read place (inr h) first = omega arith
  none_read place (inr h) (link_fixed l k h1 h2) = omega arith
  none_read place (inr h) (flow l h1) = omega arith
  none_read place (inr h) (node_fixed n k h1 h2) = omega arith
  none_read place (inr h) (head n h1) = omega arith
