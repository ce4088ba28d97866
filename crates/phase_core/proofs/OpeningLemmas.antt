-- The words at the start are laid out link by link and node by node.
use Rattle.std.proofs.Common.{◌≡◌, ℕ, zero, suc, ◌+◌, ◌-◌, ◌*◌, ◌<◌, ◌≤◌, ℤ, pos, List, [], ◌∷◌, ◌++◌, length, refl, sym, ap, ◌∙◌, arith, inl, inr}
use Rattle.std.proofs.lemmas.List.{get_or_append_left, get_or-append_right, length-append}
use Rattle.std.proofs.Math.Nat.{eq-or-lt_of_le}
use Rattle.fixed_num.specs.Lists.{number}
use Rattle.phase_law.specs.Law.{Law}
use Rattle.phase_law.specs.declared.values.LinkFixed.{LinkFixed}
use Rattle.phase_law.specs.declared.values.NodeFixed.{NodeFixed}
use Rattle.trial_model.specs.declared.nets.Nets.{Nets}
use Rattle.trial_model.specs.Fits.{link_fixed_at, node_fixed_at}
use Rattle.phase_machine.specs.Places.{link_place, node_place, least_place, word_count, link_fixed_in, node_fixed_in}
use Rattle.phase_core.specs.Opening.{link_words, node_words, LinksLaid, NodesLaid, AllLaid}

before : (words more : List ℤ) (k : ℕ) → k < length words → number (words ++ more) k ≡ number words k
before words more k h = get_or_append_left words more (pos 0) k h

behind : (words more : List ℤ) (k i : ℕ) → k ≡ length words + i → number (words ++ more) k ≡ number more i
behind words more k i e =
    let h : length words ≤ k = omega arith in
    let d : k - length words ≡ i = omega arith in
    get_or-append_right words more (length words) k (pos 0) refl h ∙ ap (λ (j : ℕ). number more j) d

-- ---- links
link_kept : (words more : List ℤ) (l : ℕ) → 9 + 6 * l ≤ length words → link_fixed_in (words ++ more) l ≡ link_fixed_in words l
link_kept words more l h =
    let a = before words more (link_place l 0) (omega arith) in
    let b = before words more (link_place l 1) (omega arith) in
    let c = before words more (link_place l 2) (omega arith) in
    let d = before words more (link_place l 3) (omega arith) in
    cc (a, b, c, d)

link_new : (words : List ℤ) (l : ℕ) (f : LinkFixed) (q : ℤ) → length words ≡ 3 + 6 * l
    → link_fixed_in (words ++ link_words f q) l ≡ f
link_new words l f q size =
    let a : number (words ++ link_words f q) (link_place l 0) ≡ f.q_old = behind words (link_words f q) (link_place l 0) 0 (omega arith) in
    let b : number (words ++ link_words f q) (link_place l 1) ≡ f.a_old = behind words (link_words f q) (link_place l 1) 1 (omega arith) in
    let c : number (words ++ link_words f q) (link_place l 2) ≡ f.setting = behind words (link_words f q) (link_place l 2) 2 (omega arith) in
    let d : number (words ++ link_words f q) (link_place l 3) ≡ f.dt = behind words (link_words f q) (link_place l 3) 3 (omega arith) in
    rw (a, b, c, d) refl

pub links_kept : {nets : Nets} {words : List ℤ} {l : ℕ} (more : List ℤ) → 3 + 6 * l ≤ length words → LinksLaid nets words l
    → LinksLaid nets (words ++ more) l
links_kept {nets} {words} {l} more size old = record {
  done = before words more 0 (omega arith) ∙ old.done;
  unsettled = before words more 1 (omega arith) ∙ old.unsettled;
  first = before words more 2 (omega arith) ∙ old.first;
  fixed = λ j h. link_kept words more j (omega arith) ∙ old.fixed j h;
  flow = λ j h. before words more (link_place j 4) (omega arith) ∙ old.flow j h;
  other = λ j h. before words more (link_place j 5) (omega arith) ∙ old.other j h;
}

pub links_more : {nets : Nets} {words : List ℤ} {l : ℕ} → length words ≡ 3 + 6 * l → LinksLaid nets words l
    → LinksLaid nets (words ++ link_words (link_fixed_at nets.links l) (number nets.flows l)) (l + 1)
links_more {nets} {words} {l} size old =
    let more = link_words (link_fixed_at nets.links l) (number nets.flows l) in
    let kept = links_kept (link_words (link_fixed_at nets.links l) (number nets.flows l)) (omega arith) old in
    record {
      done = kept.done;
      unsettled = kept.unsettled;
      first = kept.first;
      fixed = λ j h.
          let few : j ≤ l = omega arith in
          elim (eq-or-lt_of_le few) [
            | inl same ↦ rw same (link_new words l (link_fixed_at nets.links l) (number nets.flows l) size)
            | inr less ↦ kept.fixed j less
          ];
      flow = λ j h.
          let few : j ≤ l = omega arith in
          elim (eq-or-lt_of_le few) [
            | inl same ↦ rw same (behind words (link_words (link_fixed_at nets.links l) (number nets.flows l)) (link_place l 4) 4 (omega arith))
            | inr less ↦ kept.flow j less
          ];
      other = λ j h.
          let few : j ≤ l = omega arith in
          elim (eq-or-lt_of_le few) [
            | inl same ↦ rw same (behind words (link_words (link_fixed_at nets.links l) (number nets.flows l)) (link_place l 5) 5 (omega arith))
            | inr less ↦ kept.other j less
          ];
    }

-- ---- nodes
no_sum : (f : NodeFixed) (h : ℤ) (s : ℕ) → s < 3 → number (node_words f h) (7 + s) ≡ pos 0
no_sum f h zero few = refl
no_sum f h (suc zero) few = refl
no_sum f h (suc (suc zero)) few = refl
no_sum f h (suc (suc (suc s))) few = absurd (omega arith)

module _ (law : Law) where
  node_kept : (words more : List ℤ) (n : ℕ) → 3 + 6 * law.links + 10 * n + 10 ≤ length words
      → node_fixed_in law (words ++ more) n ≡ node_fixed_in law words n
  node_kept words more n h =
      let a = before words more (node_place law n 0) (omega arith) in
      let b = before words more (node_place law n 1) (omega arith) in
      let c = before words more (node_place law n 2) (omega arith) in
      let d = before words more (node_place law n 3) (omega arith) in
      let e = before words more (node_place law n 4) (omega arith) in
      cc (a, b, c, d, e)

  node_new : (words : List ℤ) (n : ℕ) (f : NodeFixed) (h : ℤ) → length words ≡ 3 + 6 * law.links + 10 * n
      → node_fixed_in law (words ++ node_words f h) n ≡ f
  node_new words n f h size =
      let a : number (words ++ node_words f h) (node_place law n 0) ≡ f.h_old = behind words (node_words f h) (node_place law n 0) 0 (omega arith) in
      let b : number (words ++ node_words f h) (node_place law n 1) ≡ f.net_old = behind words (node_words f h) (node_place law n 1) 1 (omega arith) in
      let c : number (words ++ node_words f h) (node_place law n 2) ≡ f.lateral = behind words (node_words f h) (node_place law n 2) 2 (omega arith) in
      let d : number (words ++ node_words f h) (node_place law n 3) ≡ f.stage = behind words (node_words f h) (node_place law n 3) 3 (omega arith) in
      let e : number (words ++ node_words f h) (node_place law n 4) ≡ f.dt = behind words (node_words f h) (node_place law n 4) 4 (omega arith) in
      rw (a, b, c, d, e) refl

  pub nodes_kept : {nets : Nets} {words : List ℤ} {n : ℕ} (more : List ℤ) → 3 + 6 * law.links + 10 * n ≤ length words
      → NodesLaid law nets words n → NodesLaid law nets (words ++ more) n
  nodes_kept {nets} {words} {n} more size old = record {
    links = links_kept more (omega arith) old.links;
    fixed = λ j h. node_kept words more j (omega arith) ∙ old.fixed j h;
    head = λ j h. before words more (node_place law j 5) (omega arith) ∙ old.head j h;
    other = λ j h. before words more (node_place law j 6) (omega arith) ∙ old.other j h;
    sums = λ j s h few. before words more (node_place law j (7 + s)) (omega arith) ∙ old.sums j s h few;
  }

  pub nodes_more : {nets : Nets} {words : List ℤ} {n : ℕ} → length words ≡ 3 + 6 * law.links + 10 * n
      → NodesLaid law nets words n
      → NodesLaid law nets (words ++ node_words (node_fixed_at nets.nodes n) (number nets.heads n)) (n + 1)
  nodes_more {nets} {words} {n} size old =
      let kept = nodes_kept (node_words (node_fixed_at nets.nodes n) (number nets.heads n)) (omega arith) old in
      record {
        links = kept.links;
        fixed = λ j h.
            let few : j ≤ n = omega arith in
            elim (eq-or-lt_of_le few) [
              | inl same ↦ rw same (node_new words n (node_fixed_at nets.nodes n) (number nets.heads n) size)
              | inr less ↦ kept.fixed j less
            ];
        head = λ j h.
            let few : j ≤ n = omega arith in
            elim (eq-or-lt_of_le few) [
              | inl same ↦ rw same (behind words (node_words (node_fixed_at nets.nodes n) (number nets.heads n)) (node_place law n 5) 5 (omega arith))
              | inr less ↦ kept.head j less
            ];
        other = λ j h.
            let few : j ≤ n = omega arith in
            elim (eq-or-lt_of_le few) [
              | inl same ↦ rw same (behind words (node_words (node_fixed_at nets.nodes n) (number nets.heads n)) (node_place law n 6) 6 (omega arith))
              | inr less ↦ kept.other j less
            ];
        sums = λ j s h less3.
            let few : j ≤ n = omega arith in
            elim (eq-or-lt_of_le few) [
              | inl same ↦ rw same (behind words (node_words (node_fixed_at nets.nodes n) (number nets.heads n)) (node_place law n (7 + s)) (7 + s) (omega arith)
                  ∙ no_sum (node_fixed_at nets.nodes n) (number nets.heads n) s less3)
              | inr less ↦ kept.sums j s less less3
            ];
      }

  pub all_laid : {nets : Nets} {words : List ℤ} → length words ≡ 3 + 6 * law.links + 10 * law.nodes
      → NodesLaid law nets words law.nodes → AllLaid law nets (words ++ pos 3_600_000 ∷ [])
  all_laid {nets} {words} size old = record {
    size = omega (arith, size, length-append words (pos 3_600_000 ∷ []));
    nodes = nodes_kept (pos 3_600_000 ∷ []) (omega arith) old;
    least = behind words (pos 3_600_000 ∷ []) (least_place law) 0 (omega arith);
  }

pub none_laid : {nets : Nets} → LinksLaid nets (pos 0 ∷ pos 0 ∷ pos 1 ∷ []) 0
none_laid = record {
  done = refl;
  unsettled = refl;
  first = refl;
  fixed = λ l h. absurd (omega arith);
  flow = λ l h. absurd (omega arith);
  other = λ l h. absurd (omega arith);
}

pub no_node_laid : {law : Law} {nets : Nets} {words : List ℤ} → LinksLaid nets words law.links → NodesLaid law nets words 0
no_node_laid links = record {
  links = links;
  fixed = λ n h. absurd (omega arith);
  head = λ n h. absurd (omega arith);
  other = λ n h. absurd (omega arith);
  sums = λ n s h few. absurd (omega arith);
}
