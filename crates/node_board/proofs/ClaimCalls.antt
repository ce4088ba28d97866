-- What a claim's two steps are together, and what the seat holds after them.
use Rattle.std.proofs.Common.{◌≡◌, ℕ, ap, sym, ◌∙◌}
use Rattle.phase_law.specs.Law.{Law}
use Rattle.node_board.specs.declared.views.View.{View}
use Rattle.node_board.specs.Claims.{NamesItem, ClaimSteps, takes}
use Rattle.node_board.specs.Plays.{looked, took}

pub took_steps : {P : Type 0} (law : Law) (old mid new : View P) (seen found : ℕ) → NamesItem law seen → mid ≡ looked law seen old
    → new ≡ took law found mid → ClaimSteps law old new
took_steps {P} law old mid new seen found names look take =
    takes seen names (
    take
    ∙ ap (λ (v : View P). took law found v) look
    ∙ ap (λ (n : ℕ). took law n (looked law seen old)) (sym (ap (λ (v : View P). v.last) take))
    )
