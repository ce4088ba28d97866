-- A board that was opened meets its rule.
use Rattle.std.proofs.Common.{◌≡◌, ℕ, zero, suc, ◌+◌, ◌<◌, true, false, eqb, ℤ, pos, [], ◌∷◌}
use Rattle.std.proofs.Common.{replicate, refl, sym, ap, subst, ◌∙◌, add-one, arith}
use Rattle.std.proofs.lemmas.Bool.Decides.{nat_tests}
use Rattle.std.proofs.lemmas.List.{get_or-replicate}
use Rattle.std.proofs.lemmas.List.FromFn.{get_or-map-range_with_len, length-map-range_with_len}
use mathlib.Core.Option.{some, some-injective, some-ne-none}
use lib.ListN.{get_elem?}
use Rattle.atomic_table.specs.Table.{opening}
use Rattle.fixed_num.specs.Lists.{number}
use Rattle.phase_law.specs.Law.{Law}
use Rattle.trial_model.specs.Fits.{link_fixed_at, node_fixed_at}
use Rattle.trial_model.specs.Start.{resting, no_link, no_node}
use Rattle.phase_machine.specs.Places.{done_place, unsettled_place, first_place, link_place, node_place, least_place}
use Rattle.phase_machine.specs.Places.{word_count, link_fixed_in, node_fixed_in}
use Rattle.phase_machine.specs.Core.{Core, IsStart, idle}
use Rattle.node_board.specs.declared.views.View.{View}
use Rattle.node_board.specs.Coding.{coded}
use Rattle.node_board.specs.Opening.{first_number, first_numbers, first_words, first_view}
use Rattle.node_board.specs.Reached.{starts}
use Rattle.node_board.specs.Rule.{ViewFits, IsRuled}
use Rattle.node_board.specs.Shows.{Shows}

module _ (law : Law) where
  first_at : (j : ℕ) → j < word_count law → number (first_numbers law) j ≡ first_number law j
  first_at j h = get_or-map-range_with_len (first_number law) 0 (word_count law) j j (pos 0) h (omega arith)

  none_at : (j : ℕ) → j < word_count law → ¬ (j ≡ first_place) → ¬ (j ≡ least_place law) → number (first_numbers law) j ≡ pos 0
  none_at j h first least =
      let a : eqb j first_place ≡ false = grind (arith, nat_tests, first) in
      let b : eqb j (least_place law) ≡ false = grind (arith, nat_tests, least) in
      first_at j h ∙ rw (a, b) refl

  link_none : (l k : ℕ) → l < law.links → k < 6 → number (first_numbers law) (link_place l k) ≡ pos 0
  link_none l k h few = none_at (link_place l k) (omega arith) (λ e. omega arith) (λ e. omega arith)

  node_none : (n k : ℕ) → n < law.nodes → k < 10 → number (first_numbers law) (node_place law n k) ≡ pos 0
  node_none n k h few = none_at (node_place law n k) (omega arith) (λ e. omega arith) (λ e. omega arith)

  abbrev pub first_core : Core
  first_core = record {
    phase = 0;
    is_open = false;
    index = 0;
    words = first_numbers law;
    seats = idle ∷ [];
    resets = 0;
    stopped = false;
    opened = first_numbers law;
    closed = resting law.nodes law.links;
  }

  link_rests : (l : ℕ) → l < law.links → link_fixed_in (first_numbers law) l ≡ link_fixed_at (replicate law.links no_link) l
  link_rests l h =
      let a = link_none l 0 h (omega arith) in
      let b = link_none l 1 h (omega arith) in
      let c = link_none l 2 h (omega arith) in
      let d = link_none l 3 h (omega arith) in
      rw (a, b, c, d) (sym (get_or-replicate law.links l no_link no_link h))

  node_rests : (n : ℕ) → n < law.nodes → node_fixed_in law (first_numbers law) n ≡ node_fixed_at (replicate law.nodes no_node) n
  node_rests n h =
      let a = node_none n 0 h (omega arith) in
      let b = node_none n 1 h (omega arith) in
      let c = node_none n 2 h (omega arith) in
      let d = node_none n 3 h (omega arith) in
      let e = node_none n 4 h (omega arith) in
      rw (a, b, c, d, e) (sym (get_or-replicate law.nodes n no_node no_node h))

  pub first_start : IsStart law (resting law.nodes law.links) 1 first_core
  first_start = record {
    phase = refl;
    is_open = refl;
    index = refl;
    resets = refl;
    stopped = refl;
    seats_idle = refl;
    opened = refl;
    closed = refl;
    words = length-map-range_with_len (first_number law) 0 (word_count law);
    done = none_at done_place (omega arith) (λ e. omega arith) (λ e. omega arith);
    unsettled = none_at unsettled_place (omega arith) (λ e. omega arith) (λ e. omega arith);
    first = first_at first_place (omega arith);
    link_fixed = link_rests;
    flow = λ l h. link_none l 4 h (omega arith) ∙ sym (get_or-replicate law.links l (pos 0) (pos 0) h);
    other_flow = λ l h. link_none l 5 h (omega arith);
    node_fixed = node_rests;
    head = λ n h. node_none n 5 h (omega arith) ∙ sym (get_or-replicate law.nodes n (pos 0) (pos 0) h);
    other_head = λ n h. node_none n 6 h (omega arith);
    sums = λ n s h few. node_none n (7 + s) h (omega (arith, few));
    least =
        let a : eqb (least_place law) first_place ≡ false = grind (arith, nat_tests) in
        let b : eqb (least_place law) (least_place law) ≡ true = grind (arith, nat_tests) in
        first_at (least_place law) (omega arith) ∙ rw (a, b) refl;
  }

  module _ {P : Type 0} (key : P) where
    first_shows : Shows law (first_words law) (first_view law key ∷ []) first_core
    first_shows = record {
      size = omega (arith, length-map-range_with_len (λ j. coded law j (first_number law j)) 0 (word_count law));
      claim = λ _. refl;
      word = λ j h.
          rw (add-one j)
          (get_or-map-range_with_len (λ k. coded law k (first_number law k)) 0 (word_count law) j j 0 h (omega arith)
          ∙ ap (λ (x : ℤ). coded law j x) (sym (first_at j h)));
      seats = refl;
    }

    view_fits : (i : ℕ) (u : View P) → get_elem? (first_view law key ∷ []) i ≡ some u → ViewFits key first_core 1 i u
    view_fits zero u e =
        subst (λ (x : View P). ViewFits key first_core 1 0 x) (some-injective (first_view law key) u e) (record {
          law = refl;
          number = refl;
          role = (
            refl,
            record {
              splits = refl;
              phase = refl;
              is_open = refl;
              resets = refl;
              stopped = refl;
              opened = refl;
              known = λ _. refl;
            },
          );
        })
    view_fits (suc i) u e = absurd (some-ne-none u (sym e))

    pub opening_ruled : IsRuled law key (opening {S = Unit {0}} (first_words law) [] (first_view law key))
    opening_ruled = record {
      core = first_core;
      reached = starts first_core first_start;
      shows = first_shows;
      few_seats = omega arith;
      few_phases = omega arith;
      views = view_fits;
      behind = λ on. let no : true ≡ false = sym on in cc;
    }
