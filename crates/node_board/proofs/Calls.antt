-- What the atomic steps ask, for the seats of a board.
use Rattle.std.proofs.Common.{◌≡◌, ℕ, ◌+◌, ◌%◌, ◌^◌, ◌<◌, ◌≤◌, pos, min, [], List, refl, ap, sym, subst, ◌∙◌, arith}
use Rattle.atomic_table.specs.Table.{Me, Allows, Splits}
use Rattle.phase_law.specs.Law.{Law}
use Rattle.phase_law.specs.Laws.{IsLaw}
use Rattle.phase_machine.specs.declared.acts.Act.TheVariants.{MarkUnsettled, Done}
use Rattle.phase_machine.specs.Items.{Deposit, share_at, next_at}
use Rattle.phase_machine.specs.Places.{node_place, least_place}
use Rattle.phase_machine.specs.Steps.{CanWork, loaded_more, further}
use Rattle.node_board.specs.declared.views.Plan.{Plan}
use Rattle.node_board.specs.declared.views.Role.{Role}
use Rattle.node_board.specs.declared.views.Role.TheVariants.{Leads, Works}
use Rattle.node_board.specs.declared.views.View.{View}
use Rattle.node_board.specs.Acts.{ReadyLink, ReadyNode, CanDeposit, CanLoad}
use Rattle.node_board.specs.Coding.{coded, decoded}
use Rattle.node_board.specs.Plays.{looked, took, at_work, after_split, new_seat}
use Rattle.node_board.specs.Rule.{IsRuled}
use Rattle.node_board.specs.Seen.{BoardSeen, SeatSeen, IsOf, IsWorker, IsLead, seats_split, plan_in}
use Rattle.node_board.specs.Shows.{work_in, work_of}
use Rattle.node_board.specs.Steps.{Keeps, ended, flow_place, head_place, load_place, AskedWhenLoaded}
use Rattle.node_board.proofs.AmountSteps.{mark_allowed, end_allowed, deposit_allowed, offer_allowed}
use Rattle.node_board.proofs.ClaimSteps.{look_allowed, claim_allowed}
use Rattle.node_board.proofs.LoadSteps.{load_allowed}
use Rattle.node_board.proofs.PutSteps.{flow_allowed, head_allowed}
use Rattle.node_board.proofs.SplitSteps.{split_allowed}

pub leads_is : (o : Role) → IsLead o → (plan : Plan) × (o ≡ Leads plan) × (plan.splits ≡ seats_split o)
leads_is (Leads plan) lead = (plan, refl, refl)
leads_is (Works w) lead = absurd lead

pub lead_is : (o : Role) → IsLead o → o ≡ Leads (plan_in o)
lead_is (Leads plan) lead = refl
lead_is (Works w) lead = absurd lead

pub work_is : (o : Role) → IsWorker o → o ≡ Works (work_in o)
work_is (Works w) worker = refl
work_is (Leads plan) worker = absurd worker

-- what is made from a board is still so, seen otherwise
pub is_of : {P : Type 0} {b c : BoardSeen P} {s t : SeatSeen P} → b ≡ c → s ≡ t → IsOf c t → IsOf b s
is_of {P} {b} {c} {s} {t} board seat of =
    subst (λ (x : BoardSeen P). IsOf x s) (sym board) (subst (λ (y : SeatSeen P). IsOf c y) (sym seat) of)

-- what holds of the board's law and of a seat, by what the seat holds
pub here : {P : Type 0} (F : P → View P → Type 0) {c : BoardSeen P} {s t : SeatSeen P} → s ≡ t → IsOf c t → F c.law t.view
    → F s.view.law s.view
here {P} F {c} {s} {t} seat of x =
    subst (λ (y : SeatSeen P). F y.view.law y.view) (sym seat) (subst (λ (k : P). F k t.view) (sym of.1) x)

-- the ends of a seat's item
pub ends_are : {P : Type 0} (lawof : P → Law) {b c : BoardSeen P} {s t : SeatSeen P} → b ≡ c → s ≡ t → (item : ℕ)
    → item ≡ (work_of s.view).item → (ends : ℕ × ℕ) → ends ≡ (lawof b.law).ends item
    → ends ≡ (lawof c.law).ends (work_of t.view).item
ends_are {P} lawof {b} {c} {s} {t} board seat item is ends of =
    of
    ∙ ap (λ (x : BoardSeen P). (lawof x.law).ends item) board
    ∙ ap (λ (n : ℕ). (lawof c.law).ends n) is
    ∙ ap (λ (y : SeatSeen P). (lawof c.law).ends (work_of y.view).item) seat

-- what is computed from the board's law and the seat's item
pub input_is : {P : Type 0} (lawof : P → Law) (F : Law → (tag item : ℕ) → ℕ) {b c : BoardSeen P} {s t : SeatSeen P} → b ≡ c → s ≡ t
    → (tag item : ℕ) → tag ≡ (work_of s.view).tag → item ≡ (work_of s.view).item → (word : ℕ) → word ≡ F (lawof b.law) tag item
    → word ≡ F (lawof c.law) (work_of t.view).tag (work_of t.view).item
input_is {P} lawof F {b} {c} {s} {t} board seat tag item tag_is item_is word is =
    is
    ∙ ap (λ (x : BoardSeen P). F (lawof x.law) tag item) board
    ∙ ap (λ (n : ℕ). F (lawof c.law) n item) tag_is
    ∙ ap (λ (n : ℕ). F (lawof c.law) (work_of s.view).tag n) item_is
    ∙ ap (λ (y : SeatSeen P). F (lawof c.law) (work_of y.view).tag (work_of y.view).item) seat

module _ {P : Type 0} (lawof : P → Law) (good : (p : P) → IsLaw (lawof p)) (key : P) (me : Me (Unit {0}) (View P))
    (none : me.1 ≡ []) (same : me.0.law ≡ key) (slots i : ℕ) where
  -- a step that keeps the rule for the seat's view may be made
  pub may : (word : ℕ) (change : ℕ → ℕ) (tells : ℕ → Me (Unit {0}) (View P) → Type 0)
      → Keeps (lawof me.0.law) me.0.law me.0 word change tells
      → Allows {S = Unit {0}} (IsRuled (lawof key) key) slots i me word change tells
  may word change tells keeps =
      subst (λ (k : P). Allows {S = Unit {0}} (IsRuled (lawof k) k) slots i me word change tells) same
      (subst
      (λ (xs : List (ℕ × Unit {0})). Allows {S = Unit {0}} (IsRuled (lawof me.0.law) me.0.law) slots i (me.0, xs) word change tells)
      (sym none)
      (keeps slots i))

  module _ (worker : IsWorker me.0.role) where
    pub look_call : (work_of me.0).stage ≡ 0 → Allows {S = Unit {0}} (IsRuled (lawof key) key) slots i me 0 (λ m. m)
        (λ m after. after ≡ (looked (lawof me.0.law) m me.0, []))
    look_call free =
        may 0 (λ m. m) (λ m after. after ≡ (looked (lawof me.0.law) m me.0, []))
        (λ n j. look_allowed (lawof me.0.law) (good me.0.law) me.0.law n j me.0 (work_of me.0) (work_is me.0.role worker) free)

    pub take_call : (work_of me.0).stage ≡ 0 → 1 ≤ (work_of me.0).look
        → Allows {S = Unit {0}} (IsRuled (lawof key) key) slots i me 0 (λ m. (m + 1) % 2 ^ 64)
        (λ m after. after ≡ (took (lawof me.0.law) m me.0, []))
    take_call free look =
        may 0 (λ m. (m + 1) % 2 ^ 64) (λ m after. after ≡ (took (lawof me.0.law) m me.0, []))
        (λ n j. claim_allowed (lawof me.0.law) (good me.0.law) me.0.law n j me.0 (work_of me.0) (work_is me.0.role worker) free look)

    pub done_call : CanWork (lawof me.0.law) (work_of me.0) Done
        → Allows {S = Unit {0}} (IsRuled (lawof key) key) slots i me 1 (λ m. (m + 1) % 2 ^ 64)
        (λ m after. after ≡ (at_work me.0 (ended (work_of me.0)), []))
    done_call can =
        may 1 (λ m. (m + 1) % 2 ^ 64) (λ m after. after ≡ (at_work me.0 (ended (work_of me.0)), []))
        (λ n j. end_allowed (lawof me.0.law) (good me.0.law) me.0.law n j me.0 (work_of me.0) (work_is me.0.role worker) can)

    pub deposit_call : (d : Deposit) → CanDeposit (lawof me.0.law) (work_of me.0) d → (word : ℕ)
        → word ≡ node_place (lawof me.0.law) d.node (7 + d.sum) + 1
        → Allows {S = Unit {0}} (IsRuled (lawof key) key) slots i me word (λ m. (m + d.amount) % 2 ^ 64)
        (λ m after. after ≡ (at_work me.0 (further (work_of me.0)), []))
    deposit_call d can word at =
        let l = can.1 in
        subst
        (λ (j : ℕ). Allows {S = Unit {0}} (IsRuled (lawof key) key) slots i me j (λ m. (m + d.amount) % 2 ^ 64)
        (λ m after. after ≡ (at_work me.0 (further (work_of me.0)), [])))
        (sym at)
        (may (node_place (lawof me.0.law) d.node (7 + d.sum) + 1) (λ m. (m + d.amount) % 2 ^ 64)
        (λ m after. after ≡ (at_work me.0 (further (work_of me.0)), []))
        (λ n j. deposit_allowed (lawof me.0.law) (good me.0.law) me.0.law n j me.0 (work_of me.0) (work_is me.0.role worker)
        can.0 l.can l.odd l.begun d l.work l.index l.words l.node l.sum l.amount))

    pub offer_call : ReadyLink (lawof me.0.law) 13 (work_of me.0) → (time : ℕ) → pos time ≡ (share_at (lawof me.0.law) (work_of me.0)).time
        → (word : ℕ) → word ≡ least_place (lawof me.0.law) + 1
        → Allows {S = Unit {0}} (IsRuled (lawof key) key) slots i me word (λ m. min m time)
        (λ m after. after ≡ (at_work me.0 (further (work_of me.0)), []))
    offer_call ready time is word at =
        subst
        (λ (j : ℕ). Allows {S = Unit {0}} (IsRuled (lawof key) key) slots i me j (λ m. min m time)
        (λ m after. after ≡ (at_work me.0 (further (work_of me.0)), [])))
        (sym at)
        (may (least_place (lawof me.0.law) + 1) (λ m. min m time) (λ m after. after ≡ (at_work me.0 (further (work_of me.0)), []))
        (λ n j. offer_allowed (lawof me.0.law) (good me.0.law) me.0.law n j me.0 (work_of me.0) (work_is me.0.role worker)
        ready.held ready.asks time is))

    pub flow_call : ReadyLink (lawof me.0.law) 14 (work_of me.0) → (code : ℕ)
        → code ≡ coded (lawof me.0.law) (flow_place (work_of me.0)) (share_at (lawof me.0.law) (work_of me.0)).q
        → (word : ℕ) → word ≡ flow_place (work_of me.0) + 1
        → Allows {S = Unit {0}} (IsRuled (lawof key) key) slots i me word (λ m. code)
        (λ m after. after ≡ (at_work me.0 (further (work_of me.0)), []))
    flow_call ready code is word at =
        subst
        (λ (j : ℕ). Allows {S = Unit {0}} (IsRuled (lawof key) key) slots i me j (λ m. code)
        (λ m after. after ≡ (at_work me.0 (further (work_of me.0)), [])))
        (sym at)
        (may (flow_place (work_of me.0) + 1) (λ m. code) (λ m after. after ≡ (at_work me.0 (further (work_of me.0)), []))
        (λ n j. flow_allowed (lawof me.0.law) (good me.0.law) me.0.law n j me.0 (work_of me.0) (work_is me.0.role worker)
        ready.held ready.asks code is))

    pub load_call : (word : ℕ) → CanLoad (lawof me.0.law) word (work_of me.0)
        → Allows {S = Unit {0}} (IsRuled (lawof key) key) slots i me word (λ m. m)
        (λ m after. (after ≡ (
          at_work me.0 (loaded_more (work_of me.0)
              (decoded (lawof me.0.law) (load_place (lawof me.0.law) (work_of me.0)) m)),
          [],
        ))
        × AskedWhenLoaded (lawof me.0.law) (loaded_more (work_of me.0)
        (decoded (lawof me.0.law) (load_place (lawof me.0.law) (work_of me.0)) m)))
    load_call word can =
        let l = can.loads in
        subst
        (λ (j : ℕ). Allows {S = Unit {0}} (IsRuled (lawof key) key) slots i me j (λ m. m)
        (λ m after. (after ≡ (
          at_work me.0 (loaded_more (work_of me.0)
              (decoded (lawof me.0.law) (load_place (lawof me.0.law) (work_of me.0)) m)),
          [],
        ))
        × AskedWhenLoaded (lawof me.0.law) (loaded_more (work_of me.0)
        (decoded (lawof me.0.law) (load_place (lawof me.0.law) (work_of me.0)) m))))
        (sym can.word_is)
        (may (load_place (lawof me.0.law) (work_of me.0) + 1) (λ m. m)
        (λ m after. (after ≡ (
          at_work me.0 (loaded_more (work_of me.0)
              (decoded (lawof me.0.law) (load_place (lawof me.0.law) (work_of me.0)) m)),
          [],
        ))
        × AskedWhenLoaded (lawof me.0.law) (loaded_more (work_of me.0)
        (decoded (lawof me.0.law) (load_place (lawof me.0.law) (work_of me.0)) m)))
        (λ n j. load_allowed (lawof me.0.law) (good me.0.law) me.0.law n j me.0 (work_of me.0) (work_is me.0.role worker)
        l.begun can.act l.can l.work l.words l.index l.links l.most))

    pub head_call : ReadyNode (lawof me.0.law) 11 (work_of me.0) → (code : ℕ)
        → code ≡ coded (lawof me.0.law) (head_place (lawof me.0.law) (work_of me.0)) (next_at (lawof me.0.law) (work_of me.0)).head
        → (word : ℕ) → word ≡ head_place (lawof me.0.law) (work_of me.0) + 1
        → Allows {S = Unit {0}} (IsRuled (lawof key) key) slots i me word (λ m. code)
        (λ m after. after ≡ (at_work me.0 (further (work_of me.0)), []))
    head_call ready code is word at =
        subst
        (λ (j : ℕ). Allows {S = Unit {0}} (IsRuled (lawof key) key) slots i me j (λ m. code)
        (λ m after. after ≡ (at_work me.0 (further (work_of me.0)), [])))
        (sym at)
        (may (head_place (lawof me.0.law) (work_of me.0) + 1) (λ m. code)
        (λ m after. after ≡ (at_work me.0 (further (work_of me.0)), []))
        (λ n j. head_allowed (lawof me.0.law) (good me.0.law) me.0.law n j me.0 (work_of me.0) (work_is me.0.role worker)
        ready.held ready.asks code is))

    pub mark_call : CanWork (lawof me.0.law) (work_of me.0) MarkUnsettled
        → Allows {S = Unit {0}} (IsRuled (lawof key) key) slots i me 2 (λ m. (m + 1) % 2 ^ 64)
        (λ m after. after ≡ (at_work me.0 (further (work_of me.0)), []))
    mark_call can =
        may 2 (λ m. (m + 1) % 2 ^ 64) (λ m after. after ≡ (at_work me.0 (further (work_of me.0)), []))
        (λ n j. mark_allowed (lawof me.0.law) (good me.0.law) me.0.law n j me.0 (work_of me.0) (work_is me.0.role worker) can)

pub split_call : {P : Type 0} (law : Law) → IsLaw law → (key : P) (i : ℕ) (v : View P) → IsLead v.role → seats_split v.role < 1_000_000
    → Splits {S = Unit {0}} (IsRuled law key) i v (after_split v) (new_seat v)
split_call law good key i v lead few =
    let is = leads_is v.role lead in
    split_allowed law good key i v is.0 is.1 (omega (arith, is.2, few))
