use Rattle.std.specs.Prelude.{List, [], ◌∷◌, nat_le, cond}
use Rattle.net_types.specs.declared.faults.LineFault.{LineFault}

-- Two lists of faults in the order of lines as one in that order; of the same line, the left list's first.
-- Source: this project's profile.
abbrev pub insert_among : LineFault → (List LineFault → List LineFault) → List LineFault → List LineFault
insert_among x more [] = x ∷ more []
insert_among x more (y ∷ ys) = cond (nat_le x.line y.line) (x ∷ more (y ∷ ys)) (y ∷ insert_among x more ys)

abbrev pub merged : List LineFault → List LineFault → List LineFault
merged [] ys = ys
merged (x ∷ xs) ys = insert_among x (merged xs) ys
