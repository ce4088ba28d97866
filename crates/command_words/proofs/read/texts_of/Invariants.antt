use Rattle.std.proofs.Common.{◌≡◌, true, take}
use Rattle.std.specs.List.{list_all}
use Rattle.std.specs.Str.{is_utf8}
use Rattle.clap.specs.Walk.{texts}
use Rattle.command_words.proofs.read.texts_of.Given as goal

abbrev pub invariant-loop-word : goal.invariant-loop-word
invariant-loop-word l =
    (texts l.found.items ≡ take l.word-index l.word-items) × (list_all is_utf8 (take l.word-index l.word-items) ≡ true)
