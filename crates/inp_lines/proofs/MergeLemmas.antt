use Rattle.std.proofs.Common.{◌≡◌, ◌∷◌, ◌++◌, [], ◌≤◌, ◌<◌, ℕ, zero, suc, List, Bool, true, false}
use Rattle.std.proofs.Common.{cond, take, refl, ap, sym, ◌∙◌, arith, ◌||◌, nat_le, subst, append-nil}
use Rattle.std.specs.Bool.{⊤}
use Rattle.std.proofs.lemmas.Bool.Decides.{nat_tests}
use Rattle.std.proofs.lemmas.List.{take-take}
use Rattle.net_types.specs.declared.faults.LineFault.{LineFault}
use Rattle.inp_lines.specs.declared.line.Line.{Line}
use Rattle.inp_lines.specs.declared.line.SectionName.{SectionName}
use Rattle.inp_lines.specs.Faults.{cut}
use Rattle.inp_lines.specs.Gather.{gather}
use Rattle.inp_lines.specs.Merge.{merged, insert_among}
use Rattle.inp_lines.specs.Order.{Rise}
use Rattle.inp_lines.specs.Sources.{FaultsIn, OneOn, both_of}

-- all faults stand on later lines
abbrev Later : ℕ → List LineFault → Type 0
Later n [] = ⊤
Later n (x ∷ xs) = (n < x.line) × Later n xs

later_append : (n : ℕ) (xs ys : List LineFault) → Later n xs → Later n ys → Later n (xs ++ ys)
later_append n [] ys h k = k
later_append n (x ∷ xs) ys h k = (h.0, later_append n xs ys h.1 k)

later_one : (n m : ℕ) (xs : List LineFault) → n < m → OneOn m xs → Later n xs
later_one n m [] h k = tt
later_one n m (x ∷ []) h k = (omega (arith, k), tt)
later_one n m (x ∷ y ∷ xs) h k = absurd k

gather_later : (f : List Line → Line → List LineFault) (one : (before : List Line) (line : Line) → OneOn line.number (f before line)) (n m : ℕ) (before lines : List Line) → n ≤ m → Rise m lines → Later n (gather f before lines)
gather_later f one n m before [] h rise = tt
gather_later f one n m before (line ∷ lines) h rise =
    later_append n (f before line) (gather f (before ++ line ∷ []) lines)
    (later_one n line.number (f before line) (omega (arith, rise.0)) (one before line))
    (gather_later f one n line.number (before ++ line ∷ []) lines (omega (arith, rise.0)) rise.1)

-- the first fault of the left list, where the right one's stand later
merge_left : (x : LineFault) (xs ys : List LineFault) (n : ℕ) → x.line ≡ n → Later n ys → merged (x ∷ xs) ys ≡ x ∷ merged xs ys
merge_left x xs [] n e h = refl
merge_left x xs (y ∷ ys) n e h = ap (λ b. cond b (x ∷ merged xs (y ∷ ys)) (y ∷ insert_among x (merged xs) ys)) test where
  test : nat_le x.line y.line ≡ true
  test = let before : x.line ≤ y.line = omega (arith, h.0) in grind (arith, nat_tests)

merge_right : (y : LineFault) (xs ys : List LineFault) (n : ℕ) → y.line ≡ n → Later n xs → merged xs (y ∷ ys) ≡ y ∷ merged xs ys
merge_right y [] ys n e h = refl
merge_right y (x ∷ xs) ys n e h = ap (λ b. cond b (x ∷ merged xs (y ∷ ys)) (y ∷ insert_among x (merged xs) ys)) test where
  test : nat_le x.line y.line ≡ false
  test = let after : y.line < x.line = omega (arith, h.0) in grind (arith, nat_tests)

-- one line's fault before those of later lines
merge_head : (n : ℕ) (a b xs ys : List LineFault) → OneOn n a → OneOn n b → OneOn n (a ++ b) → Later n xs → Later n ys → merged (a ++ xs) (b ++ ys) ≡ (a ++ b) ++ merged xs ys
merge_head n [] [] xs ys ha hb hc hx hy = refl
merge_head n [] (y ∷ []) xs ys ha hb hc hx hy = merge_right y xs ys n hb hx
merge_head n [] (y ∷ z ∷ b) xs ys ha hb hc hx hy = absurd hb
merge_head n (x ∷ []) [] xs ys ha hb hc hx hy = merge_left x xs ys n ha hy
merge_head n (x ∷ []) (y ∷ b) xs ys ha hb hc hx hy = absurd hc
merge_head n (x ∷ z ∷ a) b xs ys ha hb hc hx hy = absurd ha

-- faults of two sources that have no line in common, merged, are the faults of both in the order of lines
pub merged_gather : (f g : List Line → Line → List LineFault) → ((before : List Line) (line : Line) → OneOn line.number (f before line)) → ((before : List Line) (line : Line) → OneOn line.number (g before line)) → ((before : List Line) (line : Line) → OneOn line.number (f before line ++ g before line)) → (above : ℕ) (before lines : List Line) → Rise above lines → merged (gather f before lines) (gather g before lines) ≡ gather (both_of f g) before lines
merged_gather f g one_f one_g one above before [] rise = refl
merged_gather f g one_f one_g one above before (line ∷ lines) rise =
    let more = before ++ line ∷ [] in
    merge_head line.number (f before line) (g before line) (gather f more lines) (gather g more lines) (one_f before line) (one_g before line) (one before line)
    (gather_later f one_f line.number line.number more lines (omega arith) rise.1) (gather_later g one_g line.number line.number more lines (omega arith) rise.1)
    ∙ ap (λ l. (f before line ++ g before line) ++ l) (merged_gather f g one_f one_g one line.number more lines rise.1)

-- cutting both lists before they are merged changes nothing of what is kept
abbrev KeepsInsert : ℕ → Type 0
KeepsInsert n = (a b : ℕ) (x : LineFault) (xs ys : List LineFault) → n ≤ suc a → n ≤ b → take n (insert_among x (merged (take a xs)) (take b ys)) ≡ take n (insert_among x (merged xs) ys)

keeps_merge : (n : ℕ) → KeepsInsert n → (a b : ℕ) (xs ys : List LineFault) → n ≤ a → n ≤ b → take n (merged (take a xs) (take b ys)) ≡ take n (merged xs ys)
keeps_merge n insert zero b [] ys h k = take-take n b ys k
keeps_merge n insert (suc a) b [] ys h k = take-take n b ys k
keeps_merge zero insert zero b (x ∷ xs) ys h k = refl
keeps_merge (suc n) insert zero b (x ∷ xs) ys h k = absurd (omega (arith, h))
keeps_merge n insert (suc a) b (x ∷ xs) ys h k = insert a b x xs ys h k

keeps_insert : (n : ℕ) → KeepsInsert n
keeps_insert zero a b x xs ys h k = refl
keeps_insert (suc n) a zero x xs ys h k = absurd (omega (arith, k))
keeps_insert (suc n) a (suc b) x xs [] h k = ap (λ l. x ∷ l) (keeps_merge n (keeps_insert n) a (suc b) xs [] (omega (arith, h)) (omega (arith, k)))
keeps_insert (suc n) a (suc b) x xs (y ∷ ys) h k = step (nat_le x.line y.line) (keeps_merge n (keeps_insert n) a (suc b) xs (y ∷ ys) (omega (arith, h)) (omega (arith, k))) (keeps_insert n a b x xs ys (omega (arith, h)) (omega (arith, k))) where
  step : (t : Bool) → take n (merged (take a xs) (y ∷ take b ys)) ≡ take n (merged xs (y ∷ ys)) → take n (insert_among x (merged (take a xs)) (take b ys)) ≡ take n (insert_among x (merged xs) ys)
      → take (suc n) (cond t (x ∷ merged (take a xs) (y ∷ take b ys)) (y ∷ insert_among x (merged (take a xs)) (take b ys))) ≡ take (suc n) (cond t (x ∷ merged xs (y ∷ ys)) (y ∷ insert_among x (merged xs) ys))
  step true e d = ap (λ l. x ∷ l) e
  step false e d = ap (λ l. y ∷ l) d

pub merged_take : (n : ℕ) (xs ys : List LineFault) → take n (merged (take n xs) (take n ys)) ≡ take n (merged xs ys)
merged_take n xs ys = keeps_merge n (keeps_insert n) n n xs ys (omega arith) (omega arith)

pub merged_cut : (xs ys : List LineFault) → cut (merged (cut xs) (cut ys)) ≡ cut (merged xs ys)
merged_cut xs ys = merged_take 100 xs ys

-- two sources of different sections are one of both
pub faults_in_both : (s t : SectionName → Bool) (f g : List Line → Line → List LineFault) → FaultsIn s f → FaultsIn t g → ((name : SectionName) → s name ≡ true → t name ≡ false) → FaultsIn (λ name. s name || t name) (both_of f g)
faults_in_both s t f g in_f in_g apart = record { one = λ before line. pick before line (s line.section) refl; elsewhere = λ before line e. none before line (s line.section) refl e } where
  pick : (before : List Line) (line : Line) (b : Bool) → s line.section ≡ b → OneOn line.number (f before line ++ g before line)
  pick before line true e = let P : List LineFault → Type 0 = λ l. OneOn line.number (f before line ++ l) in
      subst P (sym (in_g.elsewhere before line (apart line.section e))) (let Q : List LineFault → Type 0 = λ l. OneOn line.number l in subst Q (sym (append-nil (f before line))) (in_f.one before line))
  pick before line false e = let P : List LineFault → Type 0 = λ l. OneOn line.number (l ++ g before line) in
      subst P (sym (in_f.elsewhere before line e)) (in_g.one before line)

  none : (before : List Line) (line : Line) (b : Bool) → s line.section ≡ b → (s line.section || t line.section) ≡ false → f before line ++ g before line ≡ []
  none before line true d e = cc (ap (λ b. b || t line.section) d)
  none before line false d e = ap (λ l. l ++ g before line) (in_f.elsewhere before line d) ∙ in_g.elsewhere before line (ap (λ b. b || t line.section) (sym d) ∙ e)

-- a list of faults so far, and the faults of other sections merged into it
pub merged_sections : (s t : SectionName → Bool) (f g : List Line → Line → List LineFault) → FaultsIn s f → FaultsIn t g → ((name : SectionName) → s name ≡ true → t name ≡ false) → (above : ℕ) (lines : List Line) → Rise above lines → (old new : List LineFault) → old ≡ cut (gather f [] lines) → new ≡ cut (merged old (cut (gather g [] lines))) → new ≡ cut (gather (both_of f g) [] lines)
merged_sections s t f g in_f in_g apart above lines rise old new was now =
    now ∙ (ap (λ l. cut (merged l (cut (gather g [] lines)))) was ∙ (merged_cut (gather f [] lines) (gather g [] lines)
    ∙ ap cut (merged_gather f g in_f.one in_g.one (faults_in_both s t f g in_f in_g apart).one above [] lines rise)))
