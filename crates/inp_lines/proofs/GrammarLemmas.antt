-- The grammar of tokens, and the function that gives them.
use Rattle.std.proofs.Common.{◌≡◌, inl, inr, ◌+◌, ◌<◌, ◌≤◌, ℕ, zero, suc, Bool, true, false}
use Rattle.std.proofs.Common.{cond, not, List, [], ◌∷◌, ◌++◌, length, take, drop, get_or, Option}
use Rattle.std.proofs.Common.{Some, None, refl, sym, ap, ap₂, ◌∙◌, subst, one-add, arith}
use Rattle.std.specs.Bool.{MatchBool}
use Rattle.std.specs.List.{All, before_first, after_first, position_or_len}
use Rattle.std.proofs.lemmas.Bool.Decides.{nat_tests}
use Rattle.std.proofs.lemmas.List.{take_all, drop_all, take-append-le, take-append-drop, append-nil}
use Rattle.std.proofs.lemmas.List.Elements.{All-nil, All-cons, All-head, All-tail, All-weaker, All-same}
use Rattle.std.proofs.lemmas.List.Sums.{split_at_first, passes_at_first}
use lib.Dec.{ltb}
use Rattle.inp_lines.specs.Tokens.{is_blank, is_quote, without_blanks, token_and_rest}
use Rattle.inp_lines.specs.Tokens.{tokens_of, RunsTo, BeginsWithToken, AreTokens}
use Rattle.inp_lines.proofs.SectionLemmas.{blank_first, word_first}
use Rattle.inp_lines.proofs.TokenLemmas.{rest_shorter, without_blanks_short, tokens_end, tokens_step}

take_front : (xs ys : List ℕ) → take (length xs) (xs ++ ys) ≡ xs
take_front xs ys = take-append-le (length xs) xs ys (omega arith) ∙ take_all (length xs) xs (omega arith)

drop_front : (xs : List ℕ) (y : ℕ) (ys : List ℕ) → drop (length xs + 1) (xs ++ y ∷ ys) ≡ ys
drop_front [] y ys = refl
drop_front (x ∷ xs) y ys = let e : suc (length xs) + 1 ≡ suc (length xs + 1) = omega arith in ap (λ n. drop n (x ∷ (xs ++ y ∷ ys))) e ∙ drop_front xs y ys

module _ (p : ℕ → Bool) where
  abbrev Fails : ℕ → Type 0
  Fails byte = p byte ≡ false

  position_at : (word : List ℕ) (end : ℕ) (rest : List ℕ) → All Fails word → p end ≡ true → position_or_len p (word ++ end ∷ rest) ≡ length word
  position_at [] end rest none is = ap (λ b. cond (not b) (1 + position_or_len p rest) 0) is
  position_at (byte ∷ bytes) end rest none is =
      let more = position_at bytes end rest (All-tail Fails byte bytes none) is in
      ap (λ b. cond (not b) (1 + position_or_len p (bytes ++ end ∷ rest)) 0) (All-head Fails byte bytes none) ∙ omega (arith, more)

  position_none : (word : List ℕ) → All Fails word → position_or_len p word ≡ length word
  position_none [] none = refl
  position_none (byte ∷ bytes) none =
      let more = position_none bytes (All-tail Fails byte bytes none) in
      ap (λ b. cond (not b) (1 + position_or_len p bytes) 0) (All-head Fails byte bytes none) ∙ omega (arith, more)

  -- what a word and its rest are
  runs_unique : (text word rest : List ℕ) → RunsTo p text word rest → (before_first p text ≡ word) × (after_first p text ≡ rest)
  runs_unique text word rest runs =
      elim runs.1 [
        | inl whole ↦
            let place = position_none word runs.0 in
            subst (λ t. (before_first p t ≡ word) × (after_first p t ≡ rest)) (sym whole.0)
            (ap (λ n. take n word) place ∙ take_all (length word) word (omega arith), drop_all (position_or_len p word + 1) word (omega (arith, place)) ∙ sym whole.1)
        | inr found ↦
            let place = position_at word found.0 rest runs.0 found.1 in
            subst (λ t. (before_first p t ≡ word) × (after_first p t ≡ rest)) (sym found.2)
            (ap (λ n. take n (word ++ found.0 ∷ rest)) place ∙ take_front word (found.0 ∷ rest), ap (λ n. drop (n + 1) (word ++ found.0 ∷ rest)) place ∙ drop_front word found.0 rest)
      ]

  none_before : (text : List ℕ) → All Fails (before_first p text)
  none_before [] = All-nil Fails
  none_before (byte ∷ bytes) =
      elim (p byte) as (λ is. p byte ≡ is → All Fails (take (cond (not is) (1 + position_or_len p bytes) 0) (byte ∷ bytes))) [
        | true ↦ λ e. All-nil Fails
        | false ↦ λ e. rw one-add (All-cons Fails byte (before_first p bytes) e (none_before bytes))
      ] refl

  -- what is cut off is a word and its rest
  runs_made : (text : List ℕ) → RunsTo p text (before_first p text) (after_first p text)
  runs_made [] = (All-nil Fails, inl (refl, refl))
  runs_made (byte ∷ bytes) =
      let text = byte ∷ bytes in
      let place = position_or_len p text in
      elim (ltb place (length text)) as (λ is. ltb place (length text) ≡ is → RunsTo p text (before_first p text) (after_first p text)) [
        | true ↦ λ e. let inside : place < length text = grind (arith, nat_tests) in (none_before text, inr (get_or text place 0, passes_at_first p text 0 inside, split_at_first p text 0 inside))
        | false ↦ λ e. let past : length text ≤ place = grind (arith, nat_tests) in (none_before text, inl (sym (take_all place text past), drop_all (place + 1) text (omega (arith, past))))
      ] refl

abbrev Blank : ℕ → Type 0
Blank byte = is_blank byte ≡ true

is_true : (b : Bool) → not b ≡ false → b ≡ true
is_true true e = refl
is_true false e = cc

-- the blanks at the front, and what stands behind them
abbrev blanks_of : List ℕ → List ℕ
blanks_of text = before_first (λ byte. not (is_blank byte)) text

blanks_are : (text : List ℕ) → All Blank (blanks_of text)
blanks_are text = All-weaker (λ byte. not (is_blank byte) ≡ false) Blank (λ byte e. is_true (is_blank byte) e) (blanks_of text) (none_before (λ byte. not (is_blank byte)) text)

joined : (text : List ℕ) → text ≡ blanks_of text ++ without_blanks text
joined text = sym (take-append-drop (position_or_len (λ byte. not (is_blank byte)) text) text)

skip_blanks : (blanks part : List ℕ) → All Blank blanks → without_blanks (blanks ++ part) ≡ without_blanks part
skip_blanks [] part all = refl
skip_blanks (byte ∷ bytes) part all = blank_first byte (bytes ++ part) (All-head Blank byte bytes all) ∙ skip_blanks bytes part (All-tail Blank byte bytes all)

nonblank : (text : List ℕ) (byte : ℕ) (bytes : List ℕ) → without_blanks text ≡ byte ∷ bytes → is_blank byte ≡ false
nonblank [] byte bytes e = cc
nonblank (first ∷ more) byte bytes e =
    elim (is_blank first) as (λ is. is_blank first ≡ is → is_blank byte ≡ false) [
      | true ↦ λ blank. nonblank more byte bytes (sym (blank_first first more blank) ∙ e)
      | false ↦ λ word. let lists : first ∷ more ≡ byte ∷ bytes = sym (word_first first more word) ∙ e in let same : first ≡ byte = cc in subst (λ b. is_blank b ≡ false) same word
    ] refl

abbrev chosen : Bool → ℕ → List ℕ → Option (List ℕ × List ℕ)
chosen quote byte bytes = cond quote (Some (before_first is_quote bytes, after_first is_quote bytes)) (Some (before_first is_blank (byte ∷ bytes), after_first is_blank (byte ∷ bytes)))

-- the grammar's first token is the function's
first_is : (part token rest : List ℕ) → BeginsWithToken part token rest → (without_blanks part ≡ part) × (token_and_rest part ≡ Some (token, rest))
first_is [] token rest begins = absurd begins
first_is (byte ∷ bytes) token rest begins = (
  word_first byte bytes begins.0,
  elim (is_quote byte) as (λ quote. MatchBool quote (RunsTo is_quote bytes token rest) (RunsTo is_blank (byte ∷ bytes) token rest)
      → chosen quote byte bytes ≡ Some (token, rest)) [
        | true ↦ λ runs. let parts = runs_unique is_quote bytes token rest runs in ap₂ (λ t r. Some (t, r)) parts.0 parts.1
        | false ↦ λ runs. let parts = runs_unique is_blank (byte ∷ bytes) token rest runs in ap₂ (λ t r. Some (t, r)) parts.0 parts.1
      ] begins.1,
)

-- and the other way round
unwrapped : (a b : List ℕ × List ℕ) → Some a ≡ Some b → a ≡ b
unwrapped a b e = ap (λ (found : Option (List ℕ × List ℕ)). elim found as (λ _. List ℕ × List ℕ) [ None ↦ a | Some pair ↦ pair ]) e

first_of : (part : List ℕ) (pair : List ℕ × List ℕ) → ((byte : ℕ) (bytes : List ℕ) → part ≡ byte ∷ bytes → is_blank byte ≡ false) → token_and_rest part ≡ Some pair → BeginsWithToken part pair.0 pair.1
first_of [] pair word e = cc
first_of (byte ∷ bytes) pair word e = (
  word byte bytes refl,
  elim (is_quote byte) as (λ quote. chosen quote byte bytes ≡ Some pair
      → MatchBool quote (RunsTo is_quote bytes pair.0 pair.1) (RunsTo is_blank (byte ∷ bytes) pair.0 pair.1)) [
        | true ↦ λ is. subst (λ (found : List ℕ × List ℕ). RunsTo is_quote bytes found.0 found.1) (unwrapped (before_first is_quote bytes, after_first is_quote bytes) pair is) (runs_made is_quote bytes)
        | false ↦ λ is. subst (λ (found : List ℕ × List ℕ). RunsTo is_blank (byte ∷ bytes) found.0 found.1) (unwrapped (before_first is_blank (byte ∷ bytes), after_first is_blank (byte ∷ bytes)) pair is) (runs_made is_blank (byte ∷ bytes))
      ] e,
)

distinct : {pair : List ℕ × List ℕ} → Some pair ≡ None → ⊥
distinct e = cc

no_some : (pair : List ℕ × List ℕ) (P : Type 0) → Some pair ≡ None → P
no_some pair P e = absurd (distinct e)

no_part : (part : List ℕ) → token_and_rest part ≡ None → part ≡ []
no_part [] e = refl
no_part (byte ∷ bytes) e =
    let P : Bool → Type 0 = λ quote. chosen quote byte bytes ≡ None → byte ∷ bytes ≡ [] in
    elim (is_quote byte) as (λ quote. P quote) [
      | true ↦ λ is. no_some (before_first is_quote bytes, after_first is_quote bytes) (byte ∷ bytes ≡ []) is
      | false ↦ λ is. no_some (before_first is_blank (byte ∷ bytes), after_first is_blank (byte ∷ bytes)) (byte ∷ bytes ≡ []) is
    ] e

none_left : (text : List ℕ) → token_and_rest (without_blanks text) ≡ None → All Blank text
none_left text e = All-same Blank text (blanks_of text) (joined text ∙ (ap (λ part. blanks_of text ++ part) (no_part (without_blanks text) e) ∙ append-nil (blanks_of text))) (blanks_are text)

-- the grammar allows no other tokens
pub tokens_unique : (tokens : List (List ℕ)) (text : List ℕ) → AreTokens tokens text → tokens ≡ tokens_of text
tokens_unique [] text all = sym (tokens_end text (ap token_and_rest (ap without_blanks (sym (append-nil text)) ∙ skip_blanks text [] all)))
tokens_unique (token ∷ tokens) text are =
    let first = first_is are.1 token are.2 are.5 in
    let part : without_blanks text ≡ are.1 = ap without_blanks are.3 ∙ (skip_blanks are.0 are.1 are.4 ∙ first.0) in
    sym (tokens_step text token are.2 (ap token_and_rest part ∙ first.1) ∙ ap (λ more. token ∷ more) (sym (tokens_unique tokens are.2 are.6)))

-- the grammar allows these tokens
made_up_to : (n : ℕ) (text : List ℕ) → length text ≤ n → AreTokens (tokens_of text) text
made_up_to zero [] h = subst (λ tokens. AreTokens tokens []) (sym (tokens_end [] refl)) (All-nil Blank)
made_up_to zero (byte ∷ bytes) h = absurd (omega (arith, h))
made_up_to (suc n) text h =
    elim (token_and_rest (without_blanks text)) as (λ found. token_and_rest (without_blanks text) ≡ found → AreTokens (tokens_of text) text) [
      | None ↦ λ e. subst (λ tokens. AreTokens tokens text) (sym (tokens_end text e)) (none_left text e)
      | Some pair ↦ λ e.
          let shorter = rest_shorter (without_blanks text) pair e in
          let short = without_blanks_short text in
          let more = made_up_to n pair.1 (omega (arith, shorter, short, h)) in
          subst (λ tokens. AreTokens tokens text) (sym (tokens_step text pair.0 pair.1 e))
          (blanks_of text, without_blanks text, pair.1, joined text, blanks_are text, first_of (without_blanks text) pair (nonblank text) e, more)
    ] refl

pub tokens_made : (text : List ℕ) → AreTokens (tokens_of text) text
tokens_made text = made_up_to (length text) text (omega arith)
