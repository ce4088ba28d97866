-- The lines of the reaches so far were added.
use Rattle.std.proofs.Common.{◌≡◌, ◌++◌, string_bytes, take}
use Rattle.std.specs.List.{flat_map}
use Rattle.sample_maker.specs.SampleText.{xsection_line}
use Rattle.sample_maker.proofs.sample.put_xsections.Given as goal

abbrev pub invariant-loop-reach : goal.invariant-loop-reach
invariant-loop-reach l =
    string_bytes l.text ≡ string_bytes l.initial.text ++ flat_map xsection_line (take l.reach-index l.reaches)
