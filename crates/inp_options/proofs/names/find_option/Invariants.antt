use Rattle.std.proofs.Common.{◌≡◌, map, drop}
use Rattle.inp_options.specs.Keywords.{choice_of}
use Rattle.inp_options.proofs.names.find_option.Given as goal

abbrev pub invariant-loop-word : goal.invariant-loop-word
invariant-loop-word l = choice_of (map (λ entry. (entry.0.now, entry.1)) (drop l.word-index l.table)) l.name ≡ choice_of (map (λ entry. (entry.0.now, entry.1)) l.table) l.name
