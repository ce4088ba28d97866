use Rattle.std.proofs.Common.{◌∙◌, ap, rules, FitsSigned, List, ℕ}
use Rattle.std.specs.Int.{w64, cast_signed}
use Rattle.std.proofs.lemmas.Int.{to_z-of_z}
use Rattle.byteorder.specs.Endian.{little_number}
use Rattle.fault_ports.proofs.OutputLemmas.{whole_rest}
use Rattle.hotstart.proofs.columns.value_at.Goals as goal

pub returns : goal.returns
returns c =
    let fits : FitsSigned w64 c.cast_signed.result = search rules in
    let rest = whole_rest c.args.place c.args.file.now in
    simp (to_z-of_z, fits) (c.cast_signed.ensures ∙ ap (λ (n : ℕ). cast_signed w64 n) (c.read_u64.ensures ∙ ap (λ (l : List ℕ). little_number 8 l) rest))
