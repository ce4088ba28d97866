-- How a report stands after a piece, and at its end.
use Rattle.std.proofs.Common.{◌≡◌, ℕ, ◌-◌, ◌≤◌, true, false, List, [], ◌++◌, length, take, Option, None, Some}
use Rattle.std.proofs.Common.{Result, Ok, Err, refl, sym, ap, ◌∙◌, subst, append-nil, append_assoc, arith, length-append, length-take}
use Rattle.std.proofs.Math.Seq.{take-append_seam}
use Rattle.std.proofs.lemmas.List.{take-append-le}
use Rattle.std.specs.Io.KnownBytes.{Appends, append_known}
use Rattle.std.specs.Prelude.{is_err}
use Rattle.fault_ports.proofs.OutputLemmas.{appends_then, prefix_after}
use Rattle.fault_ports.specs.Causes.{HasCause, HasFailed}
use Rattle.fault_ports.specs.Output.{AppendsPrefix}
use Rattle.fault_ports.specs.declared.faults.Faults.{Faults}
use Rattle.report_port.specs.Pages.{Passes}
use Rattle.report_port.specs.Standing.{Goes, Stands, Stopped, grown, put_of, told_since}

-- ---- the two forms of what was put
pub told_of : (before held : Option (List ℕ)) (text : List ℕ) → Appends before held text → told_since before held ≡ append_known before text
told_of None held text h = refl
told_of (Some x) None text h = absurd h
told_of (Some x) (Some y) text h = ap (λ (l : List ℕ). Some l) h

some_is : (x y : List ℕ) → Some x ≡ Some y → x ≡ y
some_is x y h = cc

pub appends_of : (before held : Option (List ℕ)) (text : List ℕ) → told_since before held ≡ append_known before text → Appends before held text
appends_of None held text h = tt
appends_of (Some x) None text h = let never : ⊥ = cc in absurd never
appends_of (Some x) (Some y) text h = some_is y (x ++ text) h

-- ---- the page is the end of the text
pub put_is : (front page : List ℕ) → put_of page (front ++ page) ≡ front
put_is front page =
    let count : length (front ++ page) - length page ≡ length front = omega (arith, length-append front page) in
    ap (λ n. take n (front ++ page)) count ∙ take-append_seam front page

-- ---- a front of the text
front_told : (before held : Option (List ℕ)) (text : List ℕ) → AppendsPrefix before held text → told_since before held ≡ append_known before (take (grown before held) text)
front_told None held text p = refl
front_told (Some x) None text p = absurd p.2
front_told (Some x) (Some y) text p =
    let count : p.0 ≡ length y - length x = omega (arith, ap length p.2, length-append x (take p.0 text), length-take p.0 text, p.1) in
    ap (λ (l : List ℕ). Some l) (p.2 ∙ ap (λ n. x ++ take n text) count)

front_within : (before held : Option (List ℕ)) (text : List ℕ) → told_since before held ≡ append_known before (take (grown before held) text) → grown before held ≤ length text
front_within None held text h = omega arith
front_within (Some x) None text h = omega arith
front_within (Some x) (Some y) text h =
    let n = length y - length x in
    let same = some_is y (x ++ take n text) h in
    omega (arith, ap length same, length-append x (take n text), length-take n text)

-- ---- after a piece
pub begins : (held : Option (List ℕ)) (faults : Faults) → Stands held held faults faults false [] []
begins held faults = record {
  goes = λ _. record { split = refl; put = told_nil held; kept = refl };
  stopped = λ h. let never : ⊥ = cc in absurd never;
}
  where
    told_nil : (known : Option (List ℕ)) → told_since known known ≡ append_known known []
    told_nil None = refl
    told_nil (Some x) = ap (λ (l : List ℕ). Some l) (sym (append-nil x))

goes_further : (before held₀ held₁ : Option (List ℕ)) (faults₀ faults₁ faults₂ : Faults) (page₀ page₁ text piece : List ℕ) → Goes before held₀ faults₀ faults₁ page₀ text
    → (front : List ℕ) → page₀ ++ piece ≡ front ++ page₁ → Appends held₀ held₁ front → faults₂.count ≡ faults₁.count → Goes before held₁ faults₀ faults₂ page₁ (text ++ piece)
goes_further before held₀ held₁ faults₀ faults₁ faults₂ page₀ page₁ text piece so_far front passed put kept =
    let first = put_of page₀ text in
    let whole : text ++ piece ≡ (first ++ front) ++ page₁ =
    ap (λ l. l ++ piece) (sym so_far.split) ∙ append_assoc first page₀ piece ∙ ap (λ l. first ++ l) passed ∙ sym (append_assoc first front page₁) in
    let now : put_of page₁ (text ++ piece) ≡ first ++ front = ap (put_of page₁) whole ∙ put_is (first ++ front) page₁ in
    record {
      split = ap (λ l. l ++ page₁) now ∙ sym whole;
      put = told_of before held₁ (first ++ front) (appends_then before held₀ held₁ first front (appends_of before held₀ first so_far.put) put) ∙ ap (append_known before) (sym now);
      kept = kept ∙ so_far.kept;
    }

stops_here : (before held₀ held₁ : Option (List ℕ)) (faults₀ faults₁ faults₂ : Faults) (page₀ text piece : List ℕ) → Goes before held₀ faults₀ faults₁ page₀ text
    → AppendsPrefix held₀ held₁ (page₀ ++ piece) → HasFailed faults₁ faults₂ → Stopped before held₁ faults₀ faults₂ (text ++ piece)
stops_here before held₀ held₁ faults₀ faults₁ faults₂ page₀ text piece so_far front rose =
    let first = put_of page₀ text in
    let whole : first ++ (page₀ ++ piece) ≡ text ++ piece = sym (append_assoc first page₀ piece) ∙ ap (λ l. l ++ piece) so_far.split in
    let all = prefix_after before held₀ held₁ first (page₀ ++ piece) (appends_of before held₀ first so_far.put) front in
    record {
      put = front_told before held₁ (text ++ piece) (subst (AppendsPrefix before held₁) whole all);
      rose = record { count = rw so_far.kept at rose.count; last = rose.last };
    }

pub goes_on : {T E : Type 0} (before held₀ held₁ : Option (List ℕ)) (faults₀ faults₁ faults₂ : Faults) (page₀ page₁ text piece : List ℕ) (r : Result T E) → Goes before held₀ faults₀ faults₁ page₀ text
    → Passes held₀ held₁ page₀ page₁ piece r → HasCause faults₁ faults₂ r → Stands before held₁ faults₀ faults₂ (is_err r) page₁ (text ++ piece)
goes_on before held₀ held₁ faults₀ faults₁ faults₂ page₀ page₁ text piece (Ok _) so_far passed cause = record {
  goes = λ _. goes_further before held₀ held₁ faults₀ faults₁ faults₂ page₀ page₁ text piece so_far passed.0 passed.1 passed.2 cause.kept;
  stopped = λ h. let never : ⊥ = cc in absurd never;
}
goes_on before held₀ held₁ faults₀ faults₁ faults₂ page₀ page₁ text piece (Err _) so_far passed cause = record {
  goes = λ h. let never : ⊥ = cc in absurd never;
  stopped = λ _. stops_here before held₀ held₁ faults₀ faults₁ faults₂ page₀ text piece so_far passed cause.failed;
}

-- after a failure the text grows, and nothing is put
pub stays : (before held : Option (List ℕ)) (faults₀ faults : Faults) (page text piece : List ℕ) → Stopped before held faults₀ faults text
    → Stands before held faults₀ faults true page (text ++ piece)
stays before held faults₀ faults page text piece so_far = record {
  goes = λ h. let never : ⊥ = cc in absurd never;
  stopped = λ _. record {
    put = so_far.put ∙ ap (append_known before) (sym (take-append-le (grown before held) text piece (front_within before held text so_far.put)));
    rose = so_far.rose;
  };
}

-- the page is put
pub flushed : {T E : Type 0} (before held₀ held₁ : Option (List ℕ)) (faults₀ faults₁ faults₂ : Faults) (page₀ page₁ text : List ℕ) (r : Result T E) → Goes before held₀ faults₀ faults₁ page₀ text
    → Passes held₀ held₁ page₀ page₁ [] r → HasCause faults₁ faults₂ r → Stands before held₁ faults₀ faults₂ (is_err r) page₁ text
flushed before held₀ held₁ faults₀ faults₁ faults₂ page₀ page₁ text r so_far passed cause =
    subst (Stands before held₁ faults₀ faults₂ (is_err r) page₁) (append-nil text) (goes_on before held₀ held₁ faults₀ faults₁ faults₂ page₀ page₁ text [] r so_far passed cause)

-- ---- at the end
pub ends_whole : (before held : Option (List ℕ)) (faults₀ faults : Faults) (page text : List ℕ) → Goes before held faults₀ faults page text → page ≡ [] → Appends before held text
ends_whole before held faults₀ faults page text so_far none =
    let all : put_of page text ≡ text = sym (append-nil (put_of page text)) ∙ ap (λ l. put_of page text ++ l) (sym none) ∙ so_far.split in
    subst (Appends before held) all (appends_of before held (put_of page text) so_far.put)

pub ends_stopped : (before held : Option (List ℕ)) (faults₀ faults : Faults) (text : List ℕ) → Stopped before held faults₀ faults text → AppendsPrefix before held text
ends_stopped before held faults₀ faults text so_far =
    (grown before held, front_within before held text so_far.put, appends_of before held (take (grown before held) text) so_far.put)

-- of a part of which the text is all, or of which it is a front
pub part_whole : (before held : Option (List ℕ)) (text part rest : List ℕ) → text ++ rest ≡ part → rest ≡ [] → Appends before held text → Appends before held part
part_whole before held text part rest is none put =
    subst (Appends before held) (sym (append-nil text) ∙ ap (λ l. text ++ l) (sym none) ∙ is) put

pub part_stopped : (before held : Option (List ℕ)) (faults₀ faults : Faults) (text part rest : List ℕ) → text ++ rest ≡ part → Stopped before held faults₀ faults text → AppendsPrefix before held part
part_stopped before held faults₀ faults text part rest is so_far =
    let front = ends_stopped before held faults₀ faults text so_far in (
      front.0,
      omega (arith, front.1, ap length is, length-append text rest),
      subst (Appends before held) (sym (take-append-le front.0 text rest front.1) ∙ ap (take front.0) is) front.2,
    )
