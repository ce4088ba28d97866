-- Section lines.
use Rattle.std.proofs.Common.{◌≡◌, ◌≢◌, ◌↔◌, ◌==◌, ◌+◌, ◌<◌, ℕ, zero, suc, true, false}
use Rattle.std.proofs.Common.{cond, not, List, [], ◌∷◌, length, take, drop, get_or, map}
use Rattle.std.proofs.Common.{slice_index, Some, None, refl, sym, ap, ◌∙◌, one-add, arith}
use Rattle.std.specs.List.{position_or_len}
use Rattle.std.proofs.lemmas.Bool.Decides.{nat_tests}
use Rattle.inp_lines.specs.declared.line.SectionName.{SectionName}
use Rattle.inp_lines.specs.Sections.{is_key_of, first_section, behind_bracket}
use Rattle.inp_lines.specs.Tokens.{is_blank, is_semicolon, before_comment, without_blanks}

module _ {A : Type 0} (f : A → List ℕ × SectionName) (key : List ℕ) where
  -- the search goes on behind a section with another key
  pub search_on : (xs : List A) (i : ℕ) (d : A) → i < length xs → is_key_of key (f (get_or xs i d)).0 ≡ false → first_section (map f (drop (suc i) xs)) key ≡ first_section (map f (drop i xs)) key
  search_on [] i d h e = absurd (omega arith)
  search_on (x ∷ xs) zero d h e = ap (λ b. cond b (f x).1 (first_section (map f xs) key)) (sym e)
  search_on (x ∷ xs) (suc i) d h e = search_on xs i d (omega arith) e

  -- the search ends at a section with the key
  pub search_here : (xs : List A) (i : ℕ) (d : A) → i < length xs → is_key_of key (f (get_or xs i d)).0 ≡ true → first_section (map f (drop i xs)) key ≡ (f (get_or xs i d)).1
  search_here [] i d h e = absurd (omega arith)
  search_here (x ∷ xs) zero d h e = ap (λ b. cond b (f x).1 (first_section (map f xs) key)) e
  search_here (x ∷ xs) (suc i) d h e = search_here xs i d (omega arith) e

semicolon_first : (byte : ℕ) (bytes : List ℕ) → is_semicolon byte ≡ true → before_comment (byte ∷ bytes) ≡ []
semicolon_first byte bytes e = ap (λ yes. take (cond (not yes) (1 + position_or_len is_semicolon bytes) 0) (byte ∷ bytes)) e

pub other_first : (byte : ℕ) (bytes : List ℕ) → is_semicolon byte ≡ false → before_comment (byte ∷ bytes) ≡ byte ∷ before_comment bytes
other_first byte bytes e = ap (λ yes. take (cond (not yes) (1 + position_or_len is_semicolon bytes) 0) (byte ∷ bytes)) e ∙ rw one-add refl

pub word_first : (byte : ℕ) (bytes : List ℕ) → is_blank byte ≡ false → without_blanks (byte ∷ bytes) ≡ byte ∷ bytes
word_first byte bytes e = ap (λ yes. drop (cond (not (not yes)) (1 + position_or_len (λ b. not (is_blank b)) bytes) 0) (byte ∷ bytes)) e

pub blank_first : (byte : ℕ) (bytes : List ℕ) → is_blank byte ≡ true → without_blanks (byte ∷ bytes) ≡ without_blanks bytes
blank_first byte bytes e = ap (λ yes. drop (cond (not (not yes)) (1 + position_or_len (λ b. not (is_blank b)) bytes) 0) (byte ∷ bytes)) e ∙ rw one-add refl

carried : (a b c d : ℕ) → a ≡ c → b ≡ d → (c ≡ 91 ↔ d ≡ 91) → (a ≡ 91 ↔ b ≡ 91)
carried a b c d p q same = ((λ e. q ∙ same.0 (sym p ∙ e)), (λ e. p ∙ same.1 (sym q ∙ e)))

-- the bracket at the front is the same with and without the comment
pub bracket_same : (line : List ℕ) → slice_index (without_blanks (before_comment line)) 0 ≡ 91 ↔ slice_index (without_blanks line) 0 ≡ 91
bracket_same [] = ((λ e. e), (λ e. e))
bracket_same (byte ∷ bytes) =
    let line = byte ∷ bytes in
    let left = slice_index (without_blanks (before_comment line)) 0 in
    let right = slice_index (without_blanks line) 0 in
    let at = λ (text : List ℕ). slice_index text 0 in
    elim (is_blank byte) as (λ is. is_blank byte ≡ is → left ≡ 91 ↔ right ≡ 91) [
      | true ↦ λ blank.
          let plain : is_semicolon byte ≡ false = grind (arith, nat_tests) in
          carried left right (at (without_blanks (before_comment bytes))) (at (without_blanks bytes))
          (ap (λ text. at (without_blanks text)) (other_first byte bytes plain) ∙ ap at (blank_first byte (before_comment bytes) blank))
          (ap at (blank_first byte bytes blank)) (bracket_same bytes)
      | false ↦ λ word.
          elim (is_semicolon byte) as (λ is. is_semicolon byte ≡ is → left ≡ 91 ↔ right ≡ 91) [
            | true ↦ λ semicolon.
                let is : byte ≡ 59 = grind (arith, nat_tests) in
                carried left right 0 byte (ap (λ text. at (without_blanks text)) (semicolon_first byte bytes semicolon)) (ap at (word_first byte bytes word))
                ((λ e. absurd (omega arith)), (λ e. absurd (omega (arith, is, e))))
            | false ↦ λ plain.
                carried left right byte byte
                (ap (λ text. at (without_blanks text)) (other_first byte bytes plain) ∙ ap at (word_first byte (before_comment bytes) word))
                (ap at (word_first byte bytes word)) ((λ e. e), (λ e. e))
          ] refl
    ] refl

-- what stands behind a bracket, and when it is there
pub bracket_there : (text behind : List ℕ) → Some behind ≡ behind_bracket text → slice_index text 0 ≡ 91
bracket_there [] behind e = cc
bracket_there (byte ∷ bytes) behind e = elim (byte == 91) as (λ is. (byte == 91) ≡ is → Some behind ≡ cond is (Some bytes) None → byte ≡ 91) [ true ↦ λ is same. grind (arith, nat_tests) | false ↦ λ is same. cc ] refl e

pub bracket_missing : (text : List ℕ) → None ≡ behind_bracket text → slice_index text 0 ≢ 91
bracket_missing [] e = λ is. absurd (omega (arith, is))
bracket_missing (byte ∷ bytes) e = λ is. elim (byte == 91) as (λ b. (byte == 91) ≡ b → None ≡ cond b (Some bytes) None → ⊥) [ true ↦ λ test same. cc | false ↦ λ test same. absurd (grind (arith, nat_tests)) ] refl e
