-- What words and views show after one word and one view changed.
use Rattle.std.proofs.Common.{◌≡◌, ℕ, zero, suc, ◌+◌, ◌<◌, inl, inr, false, ℤ, pos, List, [], ◌∷◌, map}
use Rattle.std.proofs.Common.{length, slice_set, slice_index, slice_index_or, refl, sym, ap, subst, ◌∙◌, arith}
use Rattle.std.proofs.lemmas.List.{length-set, length-map, map-set, set-get_or, get_or-set_same, get_or-set_other}
use mathlib.Core.Option.{some, some-injective, some-ne-none}
use lib.ListN.{get_elem?}
use Rattle.fixed_num.specs.Lists.{number}
use Rattle.phase_law.specs.Law.{Law}
use Rattle.phase_machine.specs.declared.work.Work.{Work}
use Rattle.phase_machine.specs.Places.{word_count}
use Rattle.phase_machine.specs.Core.{Core, idle, seat_of}
use Rattle.phase_machine.proofs.PlaceLemmas.{equal_or_not}
use Rattle.trial_model.proofs.LoopLemmas.{number_same, number_other}
use Rattle.node_board.specs.declared.views.View.{View}
use Rattle.node_board.specs.Coding.{claim_word, coded}
use Rattle.node_board.specs.Shows.{Shows, work_of}

-- ---- lists by their places
pub some_within : {A : Type 0} (l : List A) (i : ℕ) (a : A) → get_elem? l i ≡ some a → i < length l
some_within [] i a e = absurd (some-ne-none a (sym e))
some_within (x ∷ xs) zero a e = omega arith
some_within (x ∷ xs) (suc i) a e = let h = some_within xs i a e in omega (arith, h)

pub mapped_at : {A B : Type 0} (f : A → B) (l : List A) (i : ℕ) (a : A) (d : B) → get_elem? l i ≡ some a
    → slice_index_or (map f l) i d ≡ f a
mapped_at f [] i a d e = absurd (some-ne-none a (sym e))
mapped_at f (x ∷ xs) zero a d e = ap f (some-injective x a e)
mapped_at f (x ∷ xs) (suc i) a d e = mapped_at f xs i a d e

module _ {P : Type 0} {law : Law} {words : List ℕ} {views : List (View P)} {c : Core} (shows : Shows law words views c) where
  -- what the seat of a view does
  pub seat_is : (i : ℕ) (v : View P) → get_elem? views i ≡ some v → seat_of c i ≡ work_of v
  seat_is i v at = ap (λ (xs : List Work). slice_index_or xs i idle) (sym shows.seats) ∙ mapped_at work_of views i v idle at

  pub seats_size : length c.seats ≡ length views
  seats_size = ap length (sym shows.seats) ∙ length-map views work_of

  pub seat_in : (i : ℕ) (v : View P) → get_elem? views i ≡ some v → i < length c.seats
  seat_in i v at = let h = some_within views i v at in omega (arith, h, seats_size)

  set_seats : (i : ℕ) (new : View P) (w : Work) → work_of new ≡ w → map work_of (slice_set views i new) ≡ slice_set c.seats i w
  set_seats i new w e =
      map-set work_of views i new
      ∙ ap (λ (xs : List Work). slice_set xs i (work_of new)) shows.seats
      ∙ ap (λ (x : Work). slice_set c.seats i x) e

  -- a word of the machine that is stored, with one view
  pub show_word : (j i n : ℕ) (value : ℤ) (new : View P) (d : Core) → j < word_count law → length c.words ≡ word_count law
      → d.words ≡ slice_set c.words j value → d.seats ≡ slice_set c.seats i (work_of new)
      → d.stopped ≡ c.stopped → d.phase ≡ c.phase → d.index ≡ c.index → n ≡ coded law j value
      → Shows law (slice_set words (j + 1) n) (slice_set views i new) d
  show_word j i n value new d within size ws ss stopped phase index e = record {
    size = length-set words (j + 1) n ∙ shows.size;
    claim = λ on.
        get_or-set_other words (j + 1) 0 n 0 (λ h. omega arith)
        ∙ shows.claim (sym stopped ∙ on)
        ∙ ap (λ (p : ℕ). claim_word p c.index) (sym phase)
        ∙ ap (λ (k : ℕ). claim_word d.phase k) (sym index);
    word = word;
    seats = set_seats i new (work_of new) refl ∙ sym ss;
  }
    where
      word : (k : ℕ) → k < word_count law → slice_index (slice_set words (j + 1) n) (k + 1) ≡ coded law k (number d.words k)
      word k less =
          elim (equal_or_not k j) [
            | inl same ↦
                let here : slice_index (slice_set words (j + 1) n) (j + 1) ≡ n = get_or-set_same words (j + 1) n 0 (omega (arith, shows.size)) in
                let value_is : number d.words j ≡ value = ap (λ (xs : List ℤ). number xs j) ws ∙ number_same c.words j value (omega (arith, size)) in
                subst
                (λ (m : ℕ). slice_index (slice_set words (j + 1) n) (m + 1) ≡ coded law m (number d.words m))
                (sym same)
                (here ∙ e ∙ ap (λ (x : ℤ). coded law j x) (sym value_is))
            | inr differ ↦
                get_or-set_other words (j + 1) (k + 1) n 0 (λ h. differ (omega arith))
                ∙ shows.word k less
                ∙ ap (λ (x : ℤ). coded law k x) (sym (ap (λ (xs : List ℤ). number xs k) ws ∙ number_other c.words j k value differ))
          ]

  -- the claim word, with one view
  pub show_claim : (i n : ℕ) (new : View P) (d : Core) → d.words ≡ c.words → d.seats ≡ slice_set c.seats i (work_of new)
      → (d.stopped ≡ false → n ≡ claim_word d.phase d.index) → Shows law (slice_set words 0 n) (slice_set views i new) d
  show_claim i n new d ws ss e = record {
    size = length-set words 0 n ∙ shows.size;
    claim = λ on. get_or-set_same words 0 n 0 (omega (arith, shows.size)) ∙ e on;
    word = λ k less.
        get_or-set_other words 0 (k + 1) n 0 (λ h. omega arith)
        ∙ shows.word k less
        ∙ ap (λ (x : ℤ). coded law k x) (ap (λ (xs : List ℤ). number xs k) (sym ws));
    seats = set_seats i new (work_of new) refl ∙ sym ss;
  }

  -- a word that is loaded, with one view
  pub show_load : (j i : ℕ) (new : View P) (d : Core) → j < word_count law → length c.words ≡ word_count law
      → d.words ≡ c.words → d.seats ≡ slice_set c.seats i (work_of new) → d.stopped ≡ c.stopped
      → d.phase ≡ c.phase → d.index ≡ c.index
      → Shows law (slice_set words (j + 1) (slice_index words (j + 1))) (slice_set views i new) d
  show_load j i new d within size ws ss stopped phase index =
      show_word j i (slice_index words (j + 1)) (number c.words j) new d within size
      (ws ∙ sym (set-get_or c.words j (pos 0))) ss stopped phase index (shows.word j within)
