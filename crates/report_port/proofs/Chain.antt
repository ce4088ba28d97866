-- What several calls add, one after another.
use Rattle.std.proofs.Common.{◌≡◌, ℕ, true, List, [], ◌++◌, refl, sym, ap, ◌∙◌, append-nil, append_assoc}
use Rattle.report_port.specs.Adding.{Adds, AddsOrStops}
use Rattle.report_port.specs.declared.report.Report.{Report}

infixr 20 ◌⨾◌
pub ◌⨾◌ : {W : Type 0} {g : _} {a b c : Report W g} {xs ys : List ℕ} → Adds a b xs → Adds b c ys → Adds a c (xs ++ ys)
◌⨾◌ {a = a} {xs = xs} {ys = ys} first second = record {
  text = second.text ∙ ap (λ l. l ++ ys) first.text ∙ append_assoc a.told.text xs ys;
  start = second.start ∙ first.start;
  same = second.same ∙ first.same;
}

-- no call adds nothing
pub no_more : {W : Type 0} {g : _} {a : Report W g} → Adds a a []
no_more {a = a} = record { text = sym (append-nil a.told.text); start = refl; same = refl }

-- a call of the sink failed after a front of a part was added
pub stops : {W : Type 0} {g : _} {a b : Report W g} {front part : List ℕ} (rest : List ℕ) → Adds a b front → front ++ rest ≡ part → b.failed ≡ true → AddsOrStops a b part
stops {a = a} {front = front} rest so_far all failed = record {
  rest = rest;
  text = ap (λ l. l ++ rest) so_far.text ∙ append_assoc a.told.text front rest ∙ ap (λ l. a.told.text ++ l) all;
  whole = λ h. let never : ⊥ = cc in absurd never;
  start = so_far.start;
  same = so_far.same;
}

pub does_not_stop : {W : Type 0} {g : _} {a b : Report W g} {part : List ℕ} → Adds a b part → AddsOrStops a b part
does_not_stop {b = b} all = record { rest = []; text = append-nil b.told.text ∙ all.text; whole = λ _. refl; start = all.start; same = all.same }

-- what was added before it
pub after : {W : Type 0} {g : _} {a b c : Report W g} {xs ys : List ℕ} → Adds a b xs → AddsOrStops b c ys → AddsOrStops a c (xs ++ ys)
after {a = a} {xs = xs} {ys = ys} first second = record {
  rest = second.rest;
  text = second.text ∙ ap (λ l. l ++ ys) first.text ∙ append_assoc a.told.text xs ys;
  whole = second.whole;
  start = second.start ∙ first.start;
  same = second.same ∙ first.same;
}
