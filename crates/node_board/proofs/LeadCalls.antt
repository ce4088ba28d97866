-- What the atomic steps ask, for the lead of a board.
use Rattle.std.proofs.Common.{◌≡◌, ℕ, ◌+◌, ◌-◌, ◌≤◌, true, false, ℤ, [], length, slice_set}
use Rattle.std.proofs.Common.{ap, sym, subst, arith}
use Rattle.atomic_table.specs.Table.{Me, Allows}
use Rattle.phase_law.specs.Law.{Law}
use Rattle.phase_law.specs.Laws.{IsLaw}
use Rattle.phase_machine.specs.Places.{is_odd, word_count, written, IsRead, IsInRange}
use Rattle.node_board.specs.declared.views.Role.{Role}
use Rattle.node_board.specs.declared.views.View.{View}
use Rattle.node_board.specs.Coding.{coded, decoded, claim_word, stop_word}
use Rattle.node_board.specs.Known.{at_known, begun_links, begun_nodes, CanReset, CanBegin, IsTold, Tells}
use Rattle.node_board.specs.Plays.{at_plan, reset_once, DonePlay}
use Rattle.node_board.specs.Rule.{IsRuled}
use Rattle.node_board.specs.Seen.{IsLead, plan_of}
use Rattle.node_board.specs.Steps.{Rests}
use Rattle.node_board.proofs.Calls.{lead_is, may}
use Rattle.node_board.proofs.DoneSteps.{done_allowed}
use Rattle.node_board.proofs.LeadSteps.{reset_allowed, set_allowed, open_links_allowed, open_nodes_allowed, stop_allowed}
use Rattle.node_board.proofs.ReadSteps.{told_allowed}

-- the lead's view is that of what it knows
pub lead_view : {P : Type 0} (v : View P) → IsLead v.role → v ≡ at_plan v (plan_of v)
lead_view v lead = ap (λ (o : Role). record v { role = o }) (lead_is v.role lead)

module _ {P : Type 0} (lawof : P → Law) (good : (p : P) → IsLaw (lawof p)) (key : P) (me : Me (Unit {0}) (View P))
    (none : me.1 ≡ []) (same : me.0.law ≡ key) (slots i : ℕ) (lead : IsLead me.0.role) where
  pub done_look_call : (plan_of me.0).is_open ≡ true
      → Allows {S = Unit {0}} (IsRuled (lawof key) key) slots i me 1 (λ m. m)
      (λ m after. DonePlay (lawof me.0.law) (plan_of me.0) me.0 m after)
  done_look_call on =
      may lawof good key me none same slots i 1 (λ m. m) (λ m after. DonePlay (lawof me.0.law) (plan_of me.0) me.0 m after)
      (λ n j. done_allowed (lawof me.0.law) (good me.0.law) me.0.law n j me.0 (plan_of me.0) (lead_is me.0.role lead) on)

  pub reset_call : (word code : ℕ) → CanReset (lawof me.0.law) word code (plan_of me.0)
      → Allows {S = Unit {0}} (IsRuled (lawof key) key) slots i me word (λ m. code)
      (λ m after. after ≡ (at_plan me.0 (reset_once (lawof me.0.law) (plan_of me.0)), []))
  reset_call word code can =
      subst
      (λ (w : ℕ). Allows {S = Unit {0}} (IsRuled (lawof key) key) slots i me w (λ m. code)
      (λ m after. after ≡ (at_plan me.0 (reset_once (lawof me.0.law) (plan_of me.0)), [])))
      (sym can.word_is)
      (may lawof good key me none same slots i _ (λ m. code)
      (λ m after. after ≡ (at_plan me.0 (reset_once (lawof me.0.law) (plan_of me.0)), []))
      (λ n j. reset_allowed (lawof me.0.law) (good me.0.law) me.0.law n j me.0 (plan_of me.0) (lead_is me.0.role lead)
      can.rests.0 can.rests.1 can.left code can.code_is))

  -- a value that is set in a word, by the number that stands for it
  set_place : Rests (plan_of me.0) → is_odd (plan_of me.0).phase ≡ false → (j : ℕ) (value : ℤ) (code : ℕ)
      → IsRead (lawof me.0.law) (written (plan_of me.0).phase) j → IsInRange (lawof me.0.law) j value
      → code ≡ coded (lawof me.0.law) j value
      → Allows {S = Unit {0}} (IsRuled (lawof key) key) slots i me (j + 1) (λ m. code)
      (λ m after. (after ≡ (at_known me.0 (slice_set (plan_of me.0).known j value), []))
      × (length (plan_of me.0).known ≡ word_count (lawof me.0.law)))
  set_place rests even j value code reads range is =
      may lawof good key me none same slots i (j + 1) (λ m. code)
      (λ m after. (after ≡ (at_known me.0 (slice_set (plan_of me.0).known j value), []))
      × (length (plan_of me.0).known ≡ word_count (lawof me.0.law)))
      (λ n k. set_allowed (lawof me.0.law) (good me.0.law) me.0.law n k me.0 (plan_of me.0) (lead_is me.0.role lead)
      rests.0 rests.1 even j value reads range code is)

  pub set_call : Rests (plan_of me.0) → is_odd (plan_of me.0).phase ≡ false → (word : ℕ) (value : ℤ) (code : ℕ) → 1 ≤ word
      → IsRead (lawof me.0.law) (written (plan_of me.0).phase) (word - 1) → IsInRange (lawof me.0.law) (word - 1) value
      → code ≡ coded (lawof me.0.law) (word - 1) value → decoded (lawof me.0.law) (word - 1) code ≡ value
      → Allows {S = Unit {0}} (IsRuled (lawof key) key) slots i me word (λ m. code)
      (λ m after. (after ≡ (at_known me.0 (slice_set (plan_of me.0).known (word - 1) (decoded (lawof me.0.law) (word - 1) code)), []))
      × (length (plan_of me.0).known ≡ word_count (lawof me.0.law)))
  set_call rests even word value code behind reads range is back =
      let at : word - 1 + 1 ≡ word = omega (arith, behind) in
      subst
      (λ (x : ℤ). Allows {S = Unit {0}} (IsRuled (lawof key) key) slots i me word (λ m. code)
      (λ m after. (after ≡ (at_known me.0 (slice_set (plan_of me.0).known (word - 1) x), []))
      × (length (plan_of me.0).known ≡ word_count (lawof me.0.law))))
      (sym back)
      (subst
      (λ (w : ℕ). Allows {S = Unit {0}} (IsRuled (lawof key) key) slots i me w (λ m. code)
      (λ m after. (after ≡ (at_known me.0 (slice_set (plan_of me.0).known (word - 1) value), []))
      × (length (plan_of me.0).known ≡ word_count (lawof me.0.law))))
      at
      (set_place rests even (word - 1) value code reads range is))

  pub links_call : (code : ℕ) → CanBegin (lawof me.0.law) false (plan_of me.0) → code ≡ claim_word ((plan_of me.0).phase + 1) 0
      → Allows {S = Unit {0}} (IsRuled (lawof key) key) slots i me 0 (λ m. code)
      (λ m after. after ≡ (at_plan me.0 (begun_links (plan_of me.0)), []))
  links_call code can is =
      may lawof good key me none same slots i 0 (λ m. code)
      (λ m after. after ≡ (at_plan me.0 (begun_links (plan_of me.0)), []))
      (λ n j. open_links_allowed (lawof me.0.law) (good me.0.law) me.0.law n j me.0 (plan_of me.0) (lead_is me.0.role lead)
      can.rests.0 can.rests.1 can.kind can.reset.0 can.reset.1 code is)

  pub nodes_call : (code : ℕ) → CanBegin (lawof me.0.law) true (plan_of me.0) → code ≡ claim_word ((plan_of me.0).phase + 1) 0
      → Allows {S = Unit {0}} (IsRuled (lawof key) key) slots i me 0 (λ m. code)
      (λ m after. after ≡ (at_plan me.0 (begun_nodes (plan_of me.0)), []))
  nodes_call code can is =
      may lawof good key me none same slots i 0 (λ m. code)
      (λ m after. after ≡ (at_plan me.0 (begun_nodes (plan_of me.0)), []))
      (λ n j. open_nodes_allowed (lawof me.0.law) (good me.0.law) me.0.law n j me.0 (plan_of me.0) (lead_is me.0.role lead)
      can.rests.0 can.rests.1 can.kind can.reset.0 can.reset.1 code is)

  pub stop_call : Rests (plan_of me.0)
      → Allows {S = Unit {0}} (IsRuled (lawof key) key) slots i me 0 (λ m. stop_word)
      (λ m after. after ≡ (at_plan me.0 (record (plan_of me.0) { stopped = true }), []))
  stop_call rests =
      may lawof good key me none same slots i 0 (λ m. stop_word)
      (λ m after. after ≡ (at_plan me.0 (record (plan_of me.0) { stopped = true }), []))
      (λ n j. stop_allowed (lawof me.0.law) (good me.0.law) me.0.law n j me.0 (plan_of me.0) (lead_is me.0.role lead)
      rests.0 rests.1)

  pub read_call : (plan_of me.0).is_open ≡ false → (word : ℕ) → 1 ≤ word → IsTold (lawof me.0.law) (word - 1)
      → Allows {S = Unit {0}} (IsRuled (lawof key) key) slots i me word (λ m. m)
      (λ m after. (after ≡ (me.0, [])) × Tells (lawof me.0.law) (plan_of me.0) (word - 1) m)
  read_call off word behind told =
      let at : word - 1 + 1 ≡ word = omega (arith, behind) in
      subst
      (λ (w : ℕ). Allows {S = Unit {0}} (IsRuled (lawof key) key) slots i me w (λ m. m)
      (λ m after. (after ≡ (me.0, [])) × Tells (lawof me.0.law) (plan_of me.0) (word - 1) m))
      at
      (may lawof good key me none same slots i (word - 1 + 1) (λ m. m)
      (λ m after. (after ≡ (me.0, [])) × Tells (lawof me.0.law) (plan_of me.0) (word - 1) m)
      (λ n j. told_allowed (lawof me.0.law) (good me.0.law) me.0.law n j me.0 (plan_of me.0) (lead_is me.0.role lead)
      off (word - 1) told))
