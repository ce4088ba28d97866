-- The four deposits of a link.
use Rattle.std.proofs.Common.{◌≡◌, ℕ, ◌+◌, ◌<◌, ℤ, pos, negsuc, ◌≤ℤ◌, refl, arith}
use Rattle.std.proofs.lemmas.Int.{ints}
use Rattle.std.specs.Int.RustNames.{unsigned_abs}
use Rattle.phase_law.specs.Law.{Law}
use Rattle.phase_law.specs.Laws.{IsLaw}
use Rattle.phase_machine.specs.declared.acts.Act.TheVariants.{AddFirst, AddSecond, AddAreaFirst, AddAreaSecond}
use Rattle.phase_machine.specs.declared.work.Work.{Work}
use Rattle.phase_machine.specs.Items.{Deposit, leaving, reaching, covering, share_at}
use Rattle.phase_machine.specs.Places.{node_place, word_count}
use Rattle.phase_machine.specs.Steps.{work_after, words_after}
use Rattle.phase_machine.proofs.Bounds.{share_range}
use Rattle.node_board.specs.Acts.{ReadyLink, CanDeposit}

-- a deposit of a flow at a node
record FlowDeposit (node : ℕ) (q : ℤ) (d : Deposit) : Type 0 where
  node_is : d.node ≡ node
  sum : d.sum < 3
  amount : d.amount ≡ unsigned_abs q

leaves : (node : ℕ) (q : ℤ) → FlowDeposit node q (leaving node q)
leaves node (pos q) = record { node_is = refl; sum = omega arith; amount = refl }
leaves node (negsuc q) = record { node_is = refl; sum = omega arith; amount = refl }

reaches : (node : ℕ) (q : ℤ) → FlowDeposit node q (reaching node q)
reaches node (pos q) = record { node_is = refl; sum = omega arith; amount = refl }
reaches node (negsuc q) = record { node_is = refl; sum = omega arith; amount = refl }

-- the deposit of a flow, by its direction
pub leaving_is : (node : ℕ) (q : ℤ) → pos 0 ≤ℤ q → leaving node q ≡ record { node = node; sum = 1; amount = unsigned_abs q }
leaving_is node (pos q) from = refl
leaving_is node (negsuc q) from = absurd (omega (arith, ints, from))

pub leaving_back : (node : ℕ) (q : ℤ) → ¬ (pos 0 ≤ℤ q) → leaving node q ≡ record { node = node; sum = 0; amount = unsigned_abs q }
leaving_back node (pos q) below = absurd (below (omega (arith, ints)))
leaving_back node (negsuc q) below = refl

pub reaching_is : (node : ℕ) (q : ℤ) → pos 0 ≤ℤ q → reaching node q ≡ record { node = node; sum = 0; amount = unsigned_abs q }
reaching_is node (pos q) from = refl
reaching_is node (negsuc q) from = absurd (omega (arith, ints, from))

pub reaching_back : (node : ℕ) (q : ℤ) → ¬ (pos 0 ≤ℤ q) → reaching node q ≡ record { node = node; sum = 1; amount = unsigned_abs q }
reaching_back node (pos q) below = absurd (below (omega (arith, ints)))
reaching_back node (negsuc q) below = refl

module _ {law : Law} (good : IsLaw law) (w : Work) where
  pub first_deposit : ReadyLink law 9 w → CanDeposit law w (leaving (law.ends w.item).0 (share_at law w).q)
  unfolding work_after words_after
  first_deposit ready =
      let f = leaves (law.ends w.item).0 (share_at law w).q in
      let range = (share_range good w ready.asks).flow.within in
      let ends = good.ends_in w.item ready.asks.link in (
        AddFirst,
        record {
          can = ready.held;
          odd = ready.held.0;
          begun = omega (arith, ready.held.1);
          work = λ c. refl;
          index = λ k. refl;
          words = λ c. refl;
          node = omega (arith, f.node_is, ends.first);
          sum = f.sum;
          amount = omega (arith, f.amount, range);
        },
      )

  pub second_deposit : ReadyLink law 10 w → CanDeposit law w (reaching (law.ends w.item).1 (share_at law w).q)
  unfolding work_after words_after
  second_deposit ready =
      let f = reaches (law.ends w.item).1 (share_at law w).q in
      let range = (share_range good w ready.asks).flow.within in
      let ends = good.ends_in w.item ready.asks.link in (
        AddSecond,
        record {
          can = ready.held;
          odd = ready.held.0;
          begun = omega (arith, ready.held.1);
          work = λ c. refl;
          index = λ k. refl;
          words = λ c. refl;
          node = omega (arith, f.node_is, ends.second);
          sum = f.sum;
          amount = omega (arith, f.amount, range);
        },
      )

  pub first_area_deposit : ReadyLink law 11 w → CanDeposit law w (covering (law.ends w.item).0 (share_at law w).area1)
  unfolding work_after words_after
  first_area_deposit ready =
      let range = (share_range good w ready.asks).area1 in
      let ends = good.ends_in w.item ready.asks.link in (
        AddAreaFirst,
        record {
          can = ready.held;
          odd = ready.held.0;
          begun = omega (arith, ready.held.1);
          work = λ c. refl;
          index = λ k. refl;
          words = λ c. refl;
          node = ends.first;
          sum = omega arith;
          amount = omega (arith, ints, range.from, range.to);
        },
      )

  pub second_area_deposit : ReadyLink law 12 w → CanDeposit law w (covering (law.ends w.item).1 (share_at law w).area2)
  unfolding work_after words_after
  second_area_deposit ready =
      let range = (share_range good w ready.asks).area2 in
      let ends = good.ends_in w.item ready.asks.link in (
        AddAreaSecond,
        record {
          can = ready.held;
          odd = ready.held.0;
          begun = omega (arith, ready.held.1);
          work = λ c. refl;
          index = λ k. refl;
          words = λ c. refl;
          node = ends.second;
          sum = omega arith;
          amount = omega (arith, ints, range.from, range.to);
        },
      )

-- the word of a deposit is one of the board's
pub deposit_inside : (law : Law) (w : Work) (d : Deposit) → CanDeposit law w d → node_place law d.node (7 + d.sum) < word_count law
deposit_inside law w d can = let a = can.1.node in let b = can.1.sum in omega (arith, a, b)
