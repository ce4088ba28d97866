use Rattle.std.proofs.Common.{◌≡◌, ◌∷◌, ◌++◌, [], List, Bool, true, false, cond}
use Rattle.std.proofs.Common.{Option, refl, ap, sym, ◌∙◌, filter, ℕ, subst}
use Rattle.std.specs.List.{AllZip}
use Rattle.inp_lines.specs.declared.line.Line.{Line}
use Rattle.inp_lines.specs.declared.names.Naming.{Naming}
use Rattle.inp_lines.specs.declared.reading.Reading.{Reading}
use Rattle.inp_lines.specs.declared.reading.Reading.TheVariants.{Other, Record, Faulty}
use Rattle.inp_lines.specs.Gather.{gather, record_at, fault_at, records_in, faults_in, reading_at}
use Rattle.inp_lines.specs.Names.{defined, naming_of}
use Rattle.inp_lines.specs.Laws.{Gives, Fits}

left_nil : {A : Type 0} (xs ys : List A) → xs ++ ys ≡ [] → xs ≡ []
left_nil [] ys h = refl
left_nil (x ∷ xs) ys h = cc

right_nil : {A : Type 0} (xs ys : List A) → xs ++ ys ≡ [] → ys ≡ []
right_nil [] ys h = h
right_nil (x ∷ xs) ys h = cc

-- where no line is at fault, the records of a walk are those of the lines of its kind, one each
pub zip_gathered : {R F : Type 0} (Is : Line → R → Type 0) (of_kind : Line → Bool) (records : List Line → Line → List R) (faults : List Line → Line → List F) → ((before : List Line) (line : Line) → faults before line ≡ [] → Gives Is of_kind line (records before line)) → (before lines : List Line) → gather faults before lines ≡ [] → AllZip Is (filter of_kind lines) (gather records before lines)
zip_gathered Is of_kind records faults gives before [] none = tt
zip_gathered {R} Is of_kind records faults gives before (line ∷ lines) none =
    step (records before line) (gives before line (left_nil (faults before line) (gather faults (before ++ line ∷ []) lines) none))
    (zip_gathered Is of_kind records faults gives (before ++ line ∷ []) lines (right_nil (faults before line) (gather faults (before ++ line ∷ []) lines) none)) where
      rest : List R
      rest = gather records (before ++ line ∷ []) lines

      keep : (b : Bool) (xs : List R) → of_kind line ≡ b → AllZip Is (cond b (line ∷ filter of_kind lines) (filter of_kind lines)) xs → AllZip Is (cond (of_kind line) (line ∷ filter of_kind lines) (filter of_kind lines)) xs
      keep b xs e h = let P : Bool → Type 0 = λ c. AllZip Is (cond c (line ∷ filter of_kind lines) (filter of_kind lines)) xs in subst P (sym e) h

      step : (here : List R) → Gives Is of_kind line here → AllZip Is (filter of_kind lines) rest → AllZip Is (cond (of_kind line) (line ∷ filter of_kind lines) (filter of_kind lines)) (here ++ rest)
      step [] g h = keep false rest g h
      step (r ∷ []) g h = keep true (r ∷ rest) g.0 (g.1, h)
      step (r ∷ s ∷ more) g h = absurd g

-- the same for a kind where each line gives one record
pub zip_records : {R : Type 0} (Is : Line → R → Type 0) (of_kind : Line → Bool) (name_of : Line → Option (List ℕ)) (reading_of : Naming → Line → Reading R) → ((naming : Naming) (line : Line) → Fits Is of_kind line (reading_of naming line)) → (lines : List Line) → gather (fault_at name_of reading_of) [] lines ≡ [] → AllZip Is (filter of_kind lines) (gather (record_at name_of reading_of) [] lines)
zip_records {R} Is of_kind name_of reading_of fits lines none = zip_gathered Is of_kind (record_at name_of reading_of) (fault_at name_of reading_of) (λ before line h. given line (reading_at name_of reading_of before line) (fits (naming_of (defined name_of before) (name_of line)) line) h) [] lines none where
  given : (line : Line) (reading : Reading R) → Fits Is of_kind line reading → faults_in line reading ≡ [] → Gives Is of_kind line (records_in reading)
  given line Other f h = f
  given line (Record r) f h = f
  given line (Faulty x) f h = cc

-- two lists of records of the same lines are equal where a line has one record
pub zip_unique : {L R : Type 0} (Is : L → R → Type 0) → ((line : L) (r s : R) → Is line r → Is line s → r ≡ s) → (lines : List L) (rs ss : List R) → AllZip Is lines rs → AllZip Is lines ss → rs ≡ ss
zip_unique Is unique [] [] [] h k = refl
zip_unique Is unique [] [] (s ∷ ss) h k = absurd k
zip_unique Is unique [] (r ∷ rs) ss h k = absurd h
zip_unique Is unique (l ∷ lines) [] ss h k = absurd h
zip_unique Is unique (l ∷ lines) (r ∷ rs) [] h k = absurd k
zip_unique Is unique (l ∷ lines) (r ∷ rs) (s ∷ ss) h k = ap (λ x. x ∷ rs) (unique l r s h.0 k.0) ∙ ap (λ l. s ∷ l) (zip_unique Is unique lines rs ss h.1 k.1)
