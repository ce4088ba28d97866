-- The title line of a line, and the lines of a title.
use Rattle.std.proofs.Common.{◌≡◌, ◌++◌, ◌∷◌, [], ◌<◌, ◌≤◌, ◌+◌, ℕ, List, length, take, get_or, refl, ap, sym, ◌∙◌, append-nil, flat_map, ◌-◌, Bool, true, false, cond, Some, None, drop, reverse, length-drop}
use Rattle.std.proofs.lemmas.List.{take_all, take_at, take_more, reverse-append, reverse-reverse, length-reverse, take-append-drop}
use Rattle.std.specs.List.{position, position_or_len}
use lib.Dec.{ltb}
use Rattle.std.proofs.lemmas.List.Concat.{flat_map-append}
use Rattle.inp_lines.specs.declared.line.Line.{Line}
use Rattle.inp_lines.specs.declared.line.SectionName.{SectionName}
use Rattle.inp_lines.specs.declared.line.SectionName.TheVariants as section
use Rattle.inp_lines.specs.Tokens.{before_comment}
use Rattle.inp_lines.proofs.CutLemmas.{cut_room, cut_full, cut_nothing, cut_cut}
use Rattle.inp_reader.specs.Title.{at_title, title_lines, title_of, trimmed}

one_title : (line : Line) → line.«section» ≡ section.Title → title_lines line ≡ trimmed (before_comment line.bytes) ∷ []
one_title line h = ap (λ name. at_title [] name (trimmed (before_comment line.bytes) ∷ [])) h

other_title : (name : SectionName) (text : List (List ℕ)) → (name ≡ section.Title → ⊥) → at_title [] name text ≡ []
other_title section.Title text h = absurd (h refl)
other_title _ text h = refl

-- a title line where there is room
pub title_added : (line : Line) (held more : List (List ℕ)) (text : List ℕ) → line.«section» ≡ section.Title → length held < 3 → text ≡ trimmed (before_comment line.bytes) → more ≡ held ++ text ∷ [] → more ≡ take 3 (held ++ title_lines line)
title_added line held more text is room e step =
    step ∙ (ap (λ t. held ++ t ∷ []) e ∙ (sym (cut_room 3 held (trimmed (before_comment line.bytes)) room) ∙ ap (λ l. take 3 (held ++ l)) (sym (one_title line is))))

-- and where there is none
pub title_full : (line : Line) (held : List (List ℕ)) → length held ≤ 3 → 3 ≤ length held → held ≡ take 3 (held ++ title_lines line)
title_full line held h k = sym (cut_full 3 held (title_lines line) h k)

-- a line of another section
pub title_same : (line : Line) (held : List (List ℕ)) → (line.«section» ≡ section.Title → ⊥) → length held ≤ 3 → held ≡ take 3 (held ++ title_lines line)
title_same line held not h = cut_nothing 3 held h ∙ ap (λ l. take 3 (held ++ l)) (sym (other_title line.«section» (trimmed (before_comment line.bytes) ∷ []) not))

-- one line more in a loop over lines
pub title_next : (lines : List Line) (i : ℕ) (line : Line) (held more : List (List ℕ)) → i < length lines → line ≡ get_or lines i line → held ≡ take 3 (flat_map title_lines (take i lines)) → more ≡ take 3 (held ++ title_lines line) → more ≡ take 3 (flat_map title_lines (take (i + 1) lines))
title_next lines i line held more h e at step =
    let before = flat_map title_lines (take i lines) in
    step ∙ (ap (λ l. take 3 (l ++ title_lines line)) at
    ∙ (cut_cut 3 before (title_lines line)
    ∙ ap (take 3) (ap (λ l. before ++ l) (sym (append-nil (title_lines line)))
    ∙ (sym (flat_map-append title_lines (take i lines) (line ∷ []))
    ∙ ap (flat_map title_lines) (ap (λ x. take i lines ++ x ∷ []) e ∙ sym (take_more lines i line h))))))

pub title_end : (lines all : List Line) (i : ℕ) (held : List (List ℕ)) → length lines ≤ i → lines ≡ all → held ≡ take 3 (flat_map title_lines (take i lines)) → held ≡ title_of all
unfolding title_of
title_end lines all i held h e at = at ∙ ap (λ l. take 3 (flat_map title_lines l)) (take_all i lines h ∙ e)

-- the place at which a byte was found
found_place : (i n k : ℕ) → cond (ltb i n) (Some i) None ≡ Some k → i ≡ k
found_place i n k h = step (ltb i n) h where
  step : (b : Bool) → cond b (Some i) None ≡ Some k → i ≡ k
  step true e = cc
  step false e = cc

-- a text without what stands behind a place from its end
end_cut : (text : List ℕ) (k : ℕ) → take (length text - k) text ≡ reverse (drop k (reverse text))
end_cut text k =
    let back = reverse text in
    let kept = reverse (drop k back) in
    let gone = reverse (take k back) in
    let parts : kept ++ gone ≡ text = sym (reverse-append (take k back) (drop k back)) ∙ (ap (λ l. reverse l) (take-append-drop k back) ∙ reverse-reverse text) in
    let size : length kept ≡ length text - k = length-reverse (drop k back) ∙ (length-drop k back ∙ ap (λ n. n - k) (length-reverse text)) in
    ap (take (length text - k)) (sym parts) ∙ take_at kept gone (length text - k) size

pub end_kept : (p : ℕ → Bool) (text : List ℕ) (k : ℕ) → position p (reverse text) ≡ Some k → take (length text - k) text ≡ reverse (drop (position_or_len p (reverse text)) (reverse text))
end_kept p text k h = end_cut text k ∙ ap (λ n. reverse (drop n (reverse text))) (sym (found_place (position_or_len p (reverse text)) (length (reverse text)) k h))
