-- A mode that is none of the three.
use Rattle.std.proofs.Common.{◌≡◌, Bool, true, false, List, ℕ, Option, None, if◌then◌else◌, bytes_eq, codes, refl, sym, ap, ◌∙◌}
use Rattle.std.proofs.lemmas.Slice.Eq.{bytes_eq-Decides}
use Rattle.command_words.specs.declared.command.Command.{Command}
use Rattle.command_words.proofs.modes.command_in.Goals as goal

differs : (a b : List ℕ) (t : Bool) → bytes_eq a b ≡ t → (a ≡ b → ⊥) → bytes_eq a b ≡ false
differs a b true e no_match = absurd (no_match ((bytes_eq-Decides a b).0 e))
differs a b false e no_match = e

none_of : (mode : List ℕ) (run check demo : Option Command) → (mode ≡ codes "run" → ⊥) → (mode ≡ codes "check" → ⊥) → (mode ≡ codes "demo" → ⊥)
    → None ≡ (if bytes_eq mode (codes "run") then run else (if bytes_eq mode (codes "check") then check else (if bytes_eq mode (codes "demo") then demo else None)))
none_of mode run check demo no_run no_check no_demo =
    sym (ap (λ b. if b then run else (if bytes_eq mode (codes "check") then check else (if bytes_eq mode (codes "demo") then demo else None))) (differs mode (codes "run") _ refl no_run)
    ∙ ap (λ b. if b then check else (if bytes_eq mode (codes "demo") then demo else None)) (differs mode (codes "check") _ refl no_check)
    ∙ ap (λ b. if b then demo else None) (differs mode (codes "demo") _ refl no_demo))

pub returns-in_default : goal.returns-in_default
returns-in_default c = none_of c.args.mode.now _ _ _ c.in_default.not-run c.in_default.not-check c.in_default.not-demo
