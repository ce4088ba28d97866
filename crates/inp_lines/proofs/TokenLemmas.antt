-- Tokens.
use Rattle.std.proofs.Common.{◌≡◌, ◌≢◌, ◌+◌, ◌-◌, ◌<◌, ◌≤◌, ℕ, zero, suc, true, false, cond, not, List, [], ◌∷◌}
use Rattle.std.proofs.Common.{length, take, drop, get_or, length-drop, Option, Some, None, refl, sym, ap, ◌∙◌, arith}
use Rattle.std.specs.List.{before_first, after_first, position_or_len}
use Rattle.std.proofs.lemmas.Bool.Decides.{nat_tests}
use Rattle.std.proofs.lemmas.List.{take_all}
use Rattle.inp_lines.specs.Tokens.{is_blank, is_quote, without_blanks, token_and_rest, tokens_up_to, tokens_of}

-- what stands behind a token is shorter
pub rest_shorter : (text : List ℕ) (pair : List ℕ × List ℕ) → token_and_rest text ≡ Some pair → length pair.1 < length text
rest_shorter [] pair e = cc
rest_shorter (byte ∷ bytes) pair e =
    elim (is_quote byte) as (λ quote. cond quote (Some (before_first is_quote bytes, after_first is_quote bytes)) (Some (before_first is_blank (byte ∷ bytes), after_first is_blank (byte ∷ bytes))) ≡ Some pair → length pair.1 < length (byte ∷ bytes)) [
      | true ↦ λ is.
          let same : after_first is_quote bytes ≡ pair.1 = ap (λ (found : Option (List ℕ × List ℕ)). elim found [ None ↦ [] | Some p ↦ p.1 ]) is in
          let cut = length-drop (position_or_len is_quote bytes + 1) bytes in
          omega (arith, cut, ap (length {A = ℕ}) same)
      | false ↦ λ is.
          let same : after_first is_blank (byte ∷ bytes) ≡ pair.1 = ap (λ (found : Option (List ℕ × List ℕ)). elim found [ None ↦ [] | Some p ↦ p.1 ]) is in
          let cut = length-drop (position_or_len is_blank (byte ∷ bytes) + 1) (byte ∷ bytes) in
          omega (arith, cut, ap (length {A = ℕ}) same)
    ] e

pub without_blanks_short : (text : List ℕ) → length (without_blanks text) ≤ length text
without_blanks_short text = omega (arith, length-drop (position_or_len (λ byte. not (is_blank byte)) text) text)

-- one token more, where what stands behind it has the same tokens
one_more : (n m : ℕ) (text : List ℕ) → ((rest : List ℕ) → length rest < length text → tokens_up_to n rest ≡ tokens_up_to m rest) → tokens_up_to (suc n) text ≡ tokens_up_to (suc m) text
one_more n m text go =
    elim (token_and_rest (without_blanks text)) as (λ found. token_and_rest (without_blanks text) ≡ found → elim found as (λ _. List (List ℕ)) [ None ↦ [] | Some pair ↦ pair.0 ∷ tokens_up_to n pair.1 ] ≡ elim found as (λ _. List (List ℕ)) [ None ↦ [] | Some pair ↦ pair.0 ∷ tokens_up_to m pair.1 ]) [
      | None ↦ λ e. refl
      | Some pair ↦ λ e.
          let shorter = rest_shorter (without_blanks text) pair e in
          let short = without_blanks_short text in
          ap (λ more. pair.0 ∷ more) (go pair.1 (omega (arith, shorter, short)))
    ] refl

-- a number above the length gives all tokens
pub enough : (n m : ℕ) (text : List ℕ) → length text ≤ n → length text ≤ m → tokens_up_to n text ≡ tokens_up_to m text
enough zero zero text h k = refl
enough zero (suc m) [] h k = refl
enough zero (suc m) (byte ∷ bytes) h k = absurd (omega (arith, h))
enough (suc n) zero [] h k = refl
enough (suc n) zero (byte ∷ bytes) h k = absurd (omega (arith, k))
enough (suc n) (suc m) text h k = one_more n m text (λ rest short. enough n m rest (omega (arith, short, h)) (omega (arith, short, k)))

-- no token is left
pub tokens_end : (text : List ℕ) → token_and_rest (without_blanks text) ≡ None → tokens_of text ≡ []
unfolding tokens_of
tokens_end [] e = refl
tokens_end (byte ∷ bytes) e = ap (λ (found : Option (List ℕ × List ℕ)). elim found as (λ _. List (List ℕ)) [ None ↦ [] | Some pair ↦ pair.0 ∷ tokens_up_to (length bytes) pair.1 ]) e

-- the first token, and those behind it
pub tokens_step : (text word rest : List ℕ) → token_and_rest (without_blanks text) ≡ Some (word, rest) → tokens_of text ≡ word ∷ tokens_of rest
unfolding tokens_of
tokens_step [] word rest e = cc
tokens_step (byte ∷ bytes) word rest e =
    let shorter = rest_shorter (without_blanks (byte ∷ bytes)) (word, rest) e in
    let short = without_blanks_short (byte ∷ bytes) in
    ap (λ (found : Option (List ℕ × List ℕ)). elim found as (λ _. List (List ℕ)) [ None ↦ [] | Some pair ↦ pair.0 ∷ tokens_up_to (length bytes) pair.1 ]) e
    ∙ ap (λ more. word ∷ more) (enough (length bytes) (length rest) rest (omega (arith, shorter, short)) (omega arith))

-- the tokens of a text whose first byte past blanks is a quote
pub quoted_tokens : (text part word rest : List ℕ) → without_blanks text ≡ part → 0 < length part → get_or part 0 0 ≡ 34
    → word ≡ before_first is_quote (drop 1 part) → rest ≡ after_first is_quote (drop 1 part) → tokens_of text ≡ word ∷ tokens_of rest
quoted_tokens text [] word rest at some quote first behind = absurd (omega (arith, some))
quoted_tokens text (byte ∷ bytes) word rest at some quote first behind =
    let test : is_quote byte ≡ true = grind (arith, nat_tests) in
    tokens_step text word rest (ap token_and_rest at ∙ (ap (λ yes. cond yes (Some (before_first is_quote bytes, after_first is_quote bytes)) (Some (before_first is_blank (byte ∷ bytes), after_first is_blank (byte ∷ bytes)))) test
    ∙ sym (ap (λ w. Some (w, rest)) first ∙ ap (λ r. Some (before_first is_quote bytes, r)) behind)))

-- the tokens of a text whose first byte past blanks is another
pub plain_tokens : (text part word rest : List ℕ) → without_blanks text ≡ part → 0 < length part → get_or part 0 0 ≢ 34
    → word ≡ before_first is_blank part → rest ≡ after_first is_blank part → tokens_of text ≡ word ∷ tokens_of rest
plain_tokens text [] word rest at some quote first behind = absurd (omega (arith, some))
plain_tokens text (byte ∷ bytes) word rest at some quote first behind =
    let test : is_quote byte ≡ false = grind (arith, nat_tests) in
    tokens_step text word rest (ap token_and_rest at ∙ (ap (λ yes. cond yes (Some (before_first is_quote bytes, after_first is_quote bytes)) (Some (before_first is_blank (byte ∷ bytes), after_first is_blank (byte ∷ bytes)))) test
    ∙ sym (ap (λ w. Some (w, rest)) first ∙ ap (λ r. Some (before_first is_blank (byte ∷ bytes), r)) behind)))

-- the rest of a list behind a place, as a slice gives it
pub whole_rest : (i n : ℕ) (xs : List ℕ) → n ≡ length xs → take (n - i) (drop i xs) ≡ drop i xs
whole_rest i n xs e = take_all (n - i) (drop i xs) (omega (arith, length-drop i xs, e))

-- a text of blanks has no tokens
pub no_tokens : (text part : List ℕ) → part ≡ without_blanks text → length part < 1 → tokens_of text ≡ []
no_tokens text [] at none = tokens_end text (ap token_and_rest (sym at))
no_tokens text (byte ∷ bytes) at none = absurd (omega (arith, none))
