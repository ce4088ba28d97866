-- Pieces that pass over a page.
use Rattle.std.proofs.Common.{ℕ, List, [], ◌++◌, Option, Result, Ok, Err, sym, ap, ◌∙◌, append-nil, append_assoc, ◌≡◌, subst}
use Rattle.std.specs.Io.KnownBytes.{Appends}
use Rattle.fault_ports.proofs.OutputLemmas.{appends_then, prefix_after}
use Rattle.report_port.specs.Pages.{Passes}

-- the page is put, and then the piece passes over the empty page
pub passes_after : {T E : Type 0} (a b c : Option (List ℕ)) (page new piece : List ℕ) (r : Result T E) → Appends a b page → Passes b c [] new piece r → Passes a c page new piece r
passes_after a b c page new piece (Ok _) first second = (
  page ++ second.0,
  ap (λ l. page ++ l) second.1 ∙ sym (append_assoc page second.0 new),
  appends_then a b c page second.0 first second.2,
)
passes_after a b c page new piece (Err _) first second = prefix_after a b c page piece first second

-- the page was passed on, so that it is put
pub page_was_put : (a b : Option (List ℕ)) (page new : List ℕ) → new ≡ [] → ((front : List ℕ) × (page ++ [] ≡ front ++ new) × Appends a b front) → Appends a b page
page_was_put a b page new none passed =
    subst (Appends a b) (sym (append-nil passed.0) ∙ ap (λ l. passed.0 ++ l) (sym none) ∙ sym passed.1 ∙ append-nil page) passed.2
