use Rattle.std.proofs.Common.{◌≡◌, ℕ, ◌+◌, ◌*◌, length}
use Rattle.phase_core.specs.Opening.{LinksLaid}
use Rattle.phase_core.proofs.opening.push_links.Given as goal

abbrev pub invariant-loop-link : goal.invariant-loop-link
invariant-loop-link l = record { size : length l.words ≡ 3 + 6 * l.link; laid : LinksLaid l.nets l.words l.link }
