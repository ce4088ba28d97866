-- An act that loads nothing changes nothing of what the law is asked, and after the last one the item may end.
use Rattle.std.proofs.Common.{◌≡◌, true, false, refl, ap, sym, subst, ◌∙◌, arith}
use Rattle.phase_law.specs.Law.{Law}
use Rattle.phase_law.specs.declared.values.NodeNext.{NodeNext}
use Rattle.phase_machine.specs.declared.acts.Act.TheVariants.{Done}
use Rattle.phase_machine.specs.declared.work.Work.{Work}
use Rattle.phase_machine.specs.Items.{share_at, next_at}
use Rattle.phase_machine.specs.Steps.{CanWork, HasLink, HasNode, further}
use Rattle.node_board.specs.declared.views.View.{View}
use Rattle.node_board.specs.Acts.{link_input_of, node_input_of}
use Rattle.node_board.specs.Plays.{at_work}
use Rattle.node_board.specs.Shows.{work_of}

module _ (law : Law) (w : Work) where
  pub share_further : share_at law (further w) ≡ share_at law w
  unfolding share_at
  share_further = refl

  pub next_further : next_at law (further w) ≡ next_at law w
  unfolding next_at
  next_further = refl

  pub share_of_input : let i = link_input_of w in share_at law w ≡ law.share w.item i.fixed i.first i.near i.far i.last
  unfolding share_at
  share_of_input = refl

  pub next_of_input : let i = node_input_of w in
      next_at law w ≡ law.next w.item i.fixed i.first i.sums.inflow i.sums.outflow i.sums.area i.last
  unfolding next_at
  next_of_input = refl

  pub link_made : HasLink w 15 → CanWork law w Done
  link_made has = (omega (arith, has.1), rw (has.0) (has.1))

  pub node_made : HasNode w 12 → (next_at law w).settled ≡ true → CanWork law w Done
  node_made has on = (omega (arith, has.1), rw (has.0, on) (has.1))

  pub marked_made : HasNode w 13 → (next_at law w).settled ≡ false → CanWork law w Done
  marked_made has off = (omega (arith, has.1), rw (has.0, off) (has.1))

module _ {P : Type 0} (law : Law) (old new : View P) (is : new ≡ at_work old (further (work_of old))) where
  pub same_share : share_at law (work_of new) ≡ share_at law (work_of old)
  same_share = ap (λ (v : View P). share_at law (work_of v)) is ∙ share_further law (work_of old)

  pub same_next : next_at law (work_of new) ≡ next_at law (work_of old)
  same_next = ap (λ (v : View P). next_at law (work_of v)) is ∙ next_further law (work_of old)

  pub flow_made : HasLink (work_of old) 14 → CanWork law (work_of new) Done
  flow_made has =
      subst (λ (v : View P). CanWork law (work_of v) Done) (sym is)
      (link_made law (further (work_of old)) (has.0, omega (arith, has.1)))

  pub head_made : HasNode (work_of old) 11 → (next_at law (work_of new)).settled ≡ true → CanWork law (work_of new) Done
  head_made has on =
      node_made law (work_of new) (subst (λ (v : View P). HasNode (work_of v) 12) (sym is) (has.0, omega (arith, has.1))) on

  pub mark_made : HasNode (work_of old) 12 → (next_at law (work_of old)).settled ≡ false → CanWork law (work_of new) Done
  mark_made has off =
      marked_made law (work_of new) (subst (λ (v : View P). HasNode (work_of v) 13) (sym is) (has.0, omega (arith, has.1)))
      (ap (λ (n : NodeNext). n.settled) same_next ∙ off)
