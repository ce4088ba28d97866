use Rattle.std.proofs.Common.{◌≡◌, ◌∷◌, ◌++◌, [], ◌≤◌, ◌<◌, length, ℕ, ◌+◌, List, take, drop, get_or}
use Rattle.std.proofs.Common.{refl, ap, sym, ◌∙◌, append_assoc, append-nil, take-append-drop}
use Rattle.std.proofs.lemmas.List.{take_all, take_more, drop_more}
use Rattle.net_types.specs.declared.faults.LineFault.{LineFault}
use Rattle.inp_lines.specs.declared.line.Line.{Line}
use Rattle.inp_lines.specs.declared.reading.Reading.{Reading}
use Rattle.inp_lines.specs.declared.reading.Reading.TheVariants.{Other, Record}
use Rattle.inp_lines.specs.Faults.{cut}
use Rattle.inp_lines.specs.Gather.{gather, faults_in}
use Rattle.inp_lines.proofs.CutLemmas.{cut_cut}

-- a walk over some lines and then others
pub gather_append : {A : Type 0} (f : List Line → Line → List A) (before xs ys : List Line) → gather f before (xs ++ ys) ≡ gather f before xs ++ gather f (before ++ xs) ys
gather_append f before [] ys = ap (λ b. gather f b ys) (sym (append-nil before))
gather_append f before (x ∷ xs) ys =
    ap (λ l. f before x ++ l) (gather_append f (before ++ x ∷ []) xs ys)
    ∙ (ap (λ b. f before x ++ (gather f (before ++ x ∷ []) xs ++ gather f b ys)) (append_assoc before (x ∷ []) xs)
    ∙ sym (append_assoc (f before x) (gather f (before ++ x ∷ []) xs) (gather f (before ++ x ∷ xs) ys)))

-- one line more
pub gather_push : {A : Type 0} (f : List Line → Line → List A) (lines : List Line) (line : Line) → gather f [] (lines ++ line ∷ []) ≡ gather f [] lines ++ f lines line
gather_push f lines line = gather_append f [] lines (line ∷ []) ∙ ap (λ l. gather f [] lines ++ l) (append-nil (f lines line))

pub line_push : (lines : List Line) (i : ℕ) (line : Line) → i < length lines → line ≡ get_or lines i line → take (i + 1) lines ≡ take i lines ++ line ∷ []
line_push lines i line h e = take_more lines i line h ∙ ap (λ x. take i lines ++ x ∷ []) (sym e)

pub line_split : (lines : List Line) (i : ℕ) (line : Line) → i < length lines → line ≡ get_or lines i line → take i lines ++ line ∷ drop (i + 1) lines ≡ lines
line_split lines i line h e = ap (λ l. take i lines ++ l) (ap (λ x. x ∷ drop (i + 1) lines) e ∙ sym (drop_more lines i line h)) ∙ take-append-drop i lines

pub gather_next : {A : Type 0} (f : List Line → Line → List A) (lines : List Line) (i : ℕ) (line : Line) → i < length lines → line ≡ get_or lines i line → gather f [] (take (i + 1) lines) ≡ gather f [] (take i lines) ++ f (take i lines) line
gather_next f lines i line h e = ap (λ l. gather f [] l) (line_push lines i line h e) ∙ gather_push f (take i lines) line

-- the steps of a loop over lines: what was gathered so far, with what the next line gives
pub gather_kept : {A : Type 0} (f : List Line → Line → List A) (lines : List Line) (i : ℕ) (line : Line) (start held more given : List A) → i < length lines → line ≡ get_or lines i line → given ≡ f (take i lines) line → held ≡ start ++ gather f [] (take i lines) → more ≡ held ++ given → more ≡ start ++ gather f [] (take (i + 1) lines)
gather_kept f lines i line start held more given h e g inv step =
    step ∙ (ap (λ l. l ++ given) inv ∙ (append_assoc start (gather f [] (take i lines)) given
    ∙ ap (λ l. start ++ l) (ap (λ l. gather f [] (take i lines) ++ l) g ∙ sym (gather_next f lines i line h e))))

pub gather_cut : {A : Type 0} (f : List Line → Line → List A) (lines : List Line) (i : ℕ) (line : Line) (start held more given : List A) → i < length lines → line ≡ get_or lines i line → given ≡ f (take i lines) line → held ≡ cut (start ++ gather f [] (take i lines)) → more ≡ cut (held ++ given) → more ≡ cut (start ++ gather f [] (take (i + 1) lines))
gather_cut f lines i line start held more given h e g inv step =
    step ∙ (ap (λ l. cut (l ++ given)) inv ∙ (cut_cut 100 (start ++ gather f [] (take i lines)) given
    ∙ ap cut (gather_kept f lines i line start (start ++ gather f [] (take i lines)) ((start ++ gather f [] (take i lines)) ++ given) given h e g refl refl)))

-- the end of such a loop
pub gather_all : {A : Type 0} (f : List Line → Line → List A) (lines : List Line) (i : ℕ) → length lines ≤ i → gather f [] (take i lines) ≡ gather f [] lines
gather_all f lines i h = ap (λ l. gather f [] l) (take_all i lines h)

-- a line without a fault adds none
pub no_fault_other : {A : Type 0} (faults : List LineFault) (line : Line) (reading : Reading A) → length faults ≤ 100 → reading ≡ Other → faults ≡ cut (faults ++ faults_in line reading)
no_fault_other faults line reading h e = sym (ap (λ r. cut (faults ++ faults_in line r)) e ∙ (ap cut (append-nil faults) ∙ take_all 100 faults h))

pub no_fault_record : {A : Type 0} (faults : List LineFault) (line : Line) (reading : Reading A) (x : A) → length faults ≤ 100 → reading ≡ Record x → faults ≡ cut (faults ++ faults_in line reading)
no_fault_record faults line reading x h e = sym (ap (λ r. cut (faults ++ faults_in line r)) e ∙ (ap cut (append-nil faults) ∙ take_all 100 faults h))
