-- What the acts of a worker need follows from what holds of the machine.
use Rattle.std.proofs.Common.{refl, if◌then◌else◌, ◌≡◌, ℕ, zero, suc, ◌+◌, ◌-◌, ◌<◌, ◌≤◌, ◌^◌, Bool, true, false, length, sym, ap, subst, ◌∙◌, arith}
use Rattle.std.proofs.lemmas.Int.{ints}
use Rattle.phase_law.specs.Law.{Law}
use Rattle.phase_law.specs.Laws.{IsLaw}
use Rattle.phase_law.specs.Ranges.{ShareInRange}
use Rattle.phase_law.specs.declared.values.Share.{Share}
use Rattle.phase_machine.specs.declared.work.Work.{Work}
use Rattle.phase_machine.specs.Places.{is_odd, count, word_count, other, written}
use Rattle.phase_machine.specs.Core.{Core, seat_of}
use Rattle.phase_machine.specs.Items.{input_place, input_count, link_input, node_input, share_at}
use Rattle.phase_machine.specs.Asks.{AsksLink, AsksNode}
use Rattle.phase_machine.specs.Kept.{loads_at, HasItem}
use Rattle.phase_machine.proofs.Bounds.{share_range, done_few, finished_few, index_few, unsettled_few, sum_few, asks_link, asks_node, running, tag_is, some_phase, stage_few, loads_few}
use Rattle.phase_machine.proofs.Loaded.{links_count, nodes_count}
use Rattle.phase_machine.specs.declared.acts.Act.TheVariants.{LoadInput, LoadSums}
use Rattle.phase_machine.specs.Steps.{HasLink, HasNode, CanWork}
use Rattle.phase_core.specs.Ready.{IsReady}
use Rattle.phase_core.specs.Room.{IsItem, HaveRoom, ReadyForLink, ReadyForNode, ReadyForLoad, ReadyForEnd}

pub share_in_range : (law : Law) (w : Work) (s : Share) → IsLaw law → AsksLink law w → s ≡ share_at law w → ShareInRange s
share_in_range law w s good asks e = subst (λ (t : Share). ShareInRange t) (sym e) (share_range good w asks)

-- an input stands among the words
module _ {law : Law} (good : IsLaw law) where
  link_input_in : (b l k : ℕ) → b ≤ 1 → l < law.links → k < 8 → link_input law b l k < word_count law
  link_input_in b l k few within less = let ends = good.ends_in l within in grind (arith, ends.first, ends.second)

  node_input_in : (b n k : ℕ) → b ≤ 1 → n < law.nodes → k < 10 → node_input law b n k < word_count law
  node_input_in b n k few within less = grind arith

module _ {law : Law} {c : Core} (ready : IsReady law c) (i : ℕ) (within : i < length c.seats) where
  module _ (held : 1 ≤ (seat_of c i).stage) where
    tag_few : (seat_of c i).tag ≡ c.phase
    tag_few = tag_is ready.good c ready.kept i held

    has_item : HasItem law c.opened c.phase c.is_open (seat_of c i)
    has_item = (ready.kept.seats i).item held

    is_item : c.phase < 2 ^ 63 → IsItem law (seat_of c i)
    is_item few = record {
      link = λ odd.
          subst (λ (m : ℕ). (seat_of c i).item < m) (links_count law c.phase (ap is_odd (sym tag_few) ∙ odd)) has_item.item;
      node = λ even.
          subst
          (λ (m : ℕ). (seat_of c i).item < m)
          (nodes_count law c.phase (ap is_odd (sym tag_few) ∙ even) (some_phase ready.good c ready.kept i held))
          has_item.item;
      tag = omega (arith, tag_few);
    }

  pub ready_for_link : c.phase < 2 ^ 63 → is_odd (seat_of c i).tag ≡ true → 9 ≤ (seat_of c i).stage
      → ReadyForLink law c.words (seat_of c i)
  ready_for_link few odd late =
      let held : 1 ≤ (seat_of c i).stage = omega arith in
      record {
        good = ready.good;
        all = ready.kept.words;
        asks = asks_link ready.good c ready.kept i held odd late;
        room = record {
          each = sum_few ready.good c ready.kept (ap is_odd (sym (tag_few held)) ∙ odd);
        };
        stage = stage_few ready.good c ready.kept i held;
        tag = omega (arith, tag_few held);
      }

  pub ready_for_node : c.phase < 2 ^ 63 → is_odd (seat_of c i).tag ≡ false → 11 ≤ (seat_of c i).stage
      → ReadyForNode law c.words (seat_of c i)
  ready_for_node few even late =
      let held : 1 ≤ (seat_of c i).stage = omega arith in
      record {
        good = ready.good;
        all = ready.kept.words;
        asks = asks_node ready.good c ready.kept i held even late;
        room = unsettled_few ready.good c ready.kept (ap is_odd (sym (tag_few held)) ∙ even) (running ready.good c ready.kept i held);
        stage = stage_few ready.good c ready.kept i held;
        tag = omega (arith, tag_few held);
      }

  pub asks_of_node : is_odd (seat_of c i).tag ≡ false → 12 ≤ (seat_of c i).stage → AsksNode law (seat_of c i)
  asks_of_node even late = asks_node ready.good c ready.kept i (omega arith) even (omega arith)

  pub ready_for_end : 1 ≤ (seat_of c i).stage → ReadyForEnd law c.words (seat_of c i)
  ready_for_end held = record {
    all = ready.kept.words;
    done = done_few ready.good c ready.kept (running ready.good c ready.kept i held);
    room = finished_few ready.good c ready.kept i within held;
  }

  few_item : 1 ≤ (seat_of c i).stage → c.phase < 2 ^ 63 → (seat_of c i).item ≤ 20_000
  few_item held few = by_kind (is_odd (seat_of c i).tag) refl
    where
      by_kind : (t : Bool) → is_odd (seat_of c i).tag ≡ t → (seat_of c i).item ≤ 20_000
      by_kind true e = let h = (is_item held few).link e in omega (arith, h, ready.good.few_links)
      by_kind false e = let h = (is_item held few).node e in omega (arith, h, ready.good.few_nodes)

  loads_most : 1 ≤ (seat_of c i).stage → length (seat_of c i).loaded ≤ (seat_of c i).stage - 1
  loads_most held = let e = loads_few ready.good c ready.kept i held in omega (arith, e)

  pub ready_for_load : c.phase < 2 ^ 63 → 1 ≤ (seat_of c i).stage
      → (is_odd (seat_of c i).tag ≡ true → (seat_of c i).stage ≤ 8)
      → (seat_of c i).stage ≤ 10
      → ReadyForLoad law c.words (seat_of c i)
  ready_for_load few held links most = record {
    item = is_item held few;
    few = few_item held few;
    first = held;
    stage = most;
    room = omega (arith, loads_most held);
    place = by_kind (is_odd (seat_of c i).tag) refl;
  }
    where
      buffer_few : other (written (seat_of c i).tag) ≤ 1
      buffer_few = omega arith

      by_kind : (t : Bool) → is_odd (seat_of c i).tag ≡ t
          → input_place law (seat_of c i) ((seat_of c i).stage - 1) < length c.words
      by_kind true e =
          let h = link_input_in ready.good (other (written (seat_of c i).tag)) (seat_of c i).item ((seat_of c i).stage - 1) buffer_few ((is_item held few).link e) (let s = links e in omega arith) in
          rw e (omega (arith, h, ready.kept.words))
      by_kind false e =
          let h = node_input_in ready.good (other (written (seat_of c i).tag)) (seat_of c i).item ((seat_of c i).stage - 1) buffer_few ((is_item held few).node e) (omega arith) in
          rw e (omega (arith, h, ready.kept.words))

  -- ---- by the acts of a worker
  pub link_acts : c.phase < 2 ^ 63 → (k : ℕ) → 9 ≤ k → HasLink (seat_of c i) k → ReadyForLink law c.words (seat_of c i)
  link_acts few k late has = ready_for_link few has.0 (omega (arith, has.1))

  pub node_acts : c.phase < 2 ^ 63 → (k : ℕ) → 11 ≤ k → HasNode (seat_of c i) k → ReadyForNode law c.words (seat_of c i)
  node_acts few k late has = ready_for_node few has.0 (omega (arith, has.1))

  pub input_acts : c.phase < 2 ^ 63 → CanWork law (seat_of c i) LoadInput → ReadyForLoad law c.words (seat_of c i)
  input_acts few can = ready_for_load few can.0 links most
    where
      links : is_odd (seat_of c i).tag ≡ true → (seat_of c i).stage ≤ 8
      links odd = let e : input_count (seat_of c i).tag ≡ 8 = rw odd refl in omega (arith, e, can.1)

      most : (seat_of c i).stage ≤ 10
      most = omega (arith, can.1, input_most (is_odd (seat_of c i).tag))
        where
          input_most : (t : Bool) → (if t then 8 else 7) ≤ 8
          input_most true = omega arith
          input_most false = omega arith

  pub sum_acts : c.phase < 2 ^ 63 → CanWork law (seat_of c i) LoadSums → ReadyForLoad law c.words (seat_of c i)
  sum_acts few can =
      ready_for_load few (omega (arith, can.1)) (λ odd. let e : true ≡ false = sym odd ∙ can.0 in cc) (omega (arith, can.2))

  pub end_acts : 1 ≤ (seat_of c i).stage → ReadyForEnd law c.words (seat_of c i)
  end_acts held = ready_for_end held

pub index_room : {law : Law} {c : Core} → IsReady law c → c.index < 2 ^ 63
index_room ready = omega (arith, index_few ready.good _ ready.kept, ready.seats)

pub ruleset worker_room = (input_acts, sum_acts, index_room)
