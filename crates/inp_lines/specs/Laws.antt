use Rattle.std.specs.Prelude.{◌≡◌, ℕ, Bool, true, false, List, [], ◌∷◌, ⊤}
use Rattle.net_types.specs.declared.faults.LineFault.{LineFault}
use Rattle.inp_lines.specs.declared.line.Line.{Line}
use Rattle.inp_lines.specs.declared.line.SectionName.{SectionName}
use Rattle.inp_lines.specs.Faults.{cut}
use Rattle.inp_lines.specs.Gather.{gather}
use Rattle.inp_lines.specs.Merge.{merged}
use Rattle.inp_lines.specs.Order.{Rise}
use Rattle.inp_lines.specs.Sources.{FaultsIn, both_of}
use Rattle.inp_lines.specs.declared.reading.Reading.{Reading}
use Rattle.inp_lines.specs.declared.reading.Reading.TheVariants.{Other, Record, Faulty}

-- What a line gives is right: a line of the kind gives one record, which is as `Is` says, another line none.
-- Source: this project's profile.
abbrev pub Gives : {R : Type 0} → (Line → R → Type 0) → (Line → Bool) → Line → List R → Type 0
Gives Is of_kind line [] = of_kind line ≡ false
Gives Is of_kind line (r ∷ []) = (of_kind line ≡ true) × Is line r
Gives Is of_kind line (r ∷ s ∷ more) = ⊥

-- The same of what a line is read as; of a line at fault nothing is said. Source: this project's profile.
abbrev pub Fits : {R : Type 0} → (Line → R → Type 0) → (Line → Bool) → Line → Reading R → Type 0
Fits Is of_kind line Other = of_kind line ≡ false
Fits Is of_kind line (Record r) = (of_kind line ≡ true) × Is line r
Fits Is of_kind line (Faulty fault) = ⊤

-- The faults so far and the faults of other sections merged into them. Source: this project's profile.
abbrev pub MergesInLineOrder : Type 0
MergesInLineOrder = (s t : SectionName → Bool) (f g : List Line → Line → List LineFault) → FaultsIn s f → FaultsIn t g
    → ((name : SectionName) → s name ≡ true → t name ≡ false)
    → (above : ℕ) (lines : List Line) → Rise above lines → (old new : List LineFault)
    → old ≡ cut (gather f [] lines) → new ≡ cut (merged old (cut (gather g [] lines)))
    → new ≡ cut (gather (both_of f g) [] lines)
