-- The loads of an item: the words that they read, and what the seat has then.
use Rattle.std.proofs.Common.{◌≡◌, ℕ, ◌+◌, ◌-◌, ◌<◌, ◌≤◌, true, false, eqb, nat_lt}
use Rattle.std.proofs.Common.{refl, ap, sym, subst, ◌∙◌, arith}
use Rattle.std.proofs.lemmas.Bool.Decides.{nat_tests}
use Rattle.phase_law.specs.Law.{Law}
use Rattle.phase_law.specs.Laws.{IsLaw}
use Rattle.phase_machine.specs.declared.acts.Act.TheVariants.{LoadInput, LoadSums}
use Rattle.phase_machine.specs.declared.work.Work.{Work}
use Rattle.phase_machine.specs.Items.{link_input, node_input}
use Rattle.phase_machine.specs.Places.{word_count, written, other}
use Rattle.phase_machine.specs.Steps.{work_after, words_after}
use Rattle.phase_machine.proofs.PlaceLemmas.{other_few, read_within}
use Rattle.phase_machine.proofs.Loaded.{link_input_read, node_input_read}
use Rattle.node_board.specs.Acts.{IsLoading, CanLoad}
use Rattle.node_board.specs.Steps.{load_place}

-- ---- the next load
module _ {law : Law} (good : IsLaw law) (w : Work) (k : ℕ) where
  link_place_is : (most : ℕ) → IsLoading true most k w
      → load_place law w ≡ link_input law (other (written w.tag)) w.item k
  link_place_is most at =
      let j : w.stage - 1 ≡ k = omega (arith, at.stage) in
      rw (at.kind) (ap (λ (m : ℕ). link_input law (other (written w.tag)) w.item m) j)

  node_place_is : (most : ℕ) → IsLoading false most k w
      → load_place law w ≡ node_input law (other (written w.tag)) w.item k
  node_place_is most at =
      let j : w.stage - 1 ≡ k = omega (arith, at.stage) in
      rw (at.kind) (ap (λ (m : ℕ). node_input law (other (written w.tag)) w.item m) j)

  pub link_loads_next : k < 8 → (most word : ℕ) → w.item < law.links → IsLoading true most k w
      → word ≡ link_input law (other (written w.tag)) w.item k + 1 → CanLoad law word w
  unfolding work_after words_after
  link_loads_next few most word within at is = record {
    act = LoadInput;
    loads = record {
      begun = omega (arith, at.stage);
      can = (omega (arith, at.stage), rw (at.kind) (omega (arith, at.stage, few)));
      work = λ c. refl;
      words = λ c. refl;
      index = λ i. refl;
      links = λ odd. omega (arith, at.stage, few);
      most = omega (arith, at.stage, few);
    };
    word_is = is ∙ ap (λ (m : ℕ). m + 1) (sym (link_place_is most at));
    inside =
        subst (λ (j : ℕ). j < word_count law) (sym (link_place_is most at))
        (read_within (other_few (written w.tag)) (link_input_read good (other (written w.tag)) w.item k within few));
  }

  pub node_loads_next : k < 7 → (most word : ℕ) → w.item < law.nodes → IsLoading false most k w
      → word ≡ node_input law (other (written w.tag)) w.item k + 1 → CanLoad law word w
  unfolding work_after words_after
  node_loads_next few most word within at is = record {
    act = LoadInput;
    loads = record {
      begun = omega (arith, at.stage);
      can = (omega (arith, at.stage), rw (at.kind) (omega (arith, at.stage, few)));
      work = λ c. refl;
      words = λ c. refl;
      index = λ i. refl;
      links = λ odd. let no : true ≡ false = sym odd ∙ at.kind in cc;
      most = omega (arith, at.stage, few);
    };
    word_is = is ∙ ap (λ (m : ℕ). m + 1) (sym (node_place_is most at));
    inside =
        subst (λ (j : ℕ). j < word_count law) (sym (node_place_is most at))
        (read_within (other_few (written w.tag)) (node_input_read {law = law} (other (written w.tag)) w.item k within few));
  }

  pub sum_loads_next : 7 ≤ k → k < 10 → (most word : ℕ) → w.item < law.nodes → IsLoading false most k w
      → word ≡ node_input law (other (written w.tag)) w.item k + 1 → CanLoad law word w
  unfolding work_after words_after
  sum_loads_next late few most word within at is = record {
    act = LoadSums;
    loads = record {
      begun = omega (arith, at.stage);
      can = (at.kind, omega (arith, at.stage, late), omega (arith, at.stage, few));
      work = λ c. refl;
      words = λ c. refl;
      index = λ i. refl;
      links = λ odd. let no : true ≡ false = sym odd ∙ at.kind in cc;
      most = omega (arith, at.stage, few);
    };
    word_is = is ∙ ap (λ (m : ℕ). m + 1) (sym (node_place_is most at));
    inside =
        let a : nat_lt k 5 ≡ false = grind (arith, nat_tests, late) in
        let b : eqb k 5 ≡ false = grind (arith, nat_tests, late) in
        let d : eqb k 6 ≡ false = grind (arith, nat_tests, late) in
        subst (λ (j : ℕ). j < word_count law) (sym (node_place_is most at)) (rw (a, b, d) (omega (arith, few, within)));
  }
