-- What clap sees of a word, by what the word looks like.
use Rattle.std.proofs.Common.{◌≡◌, ◌==◌, ◌&&◌, ℕ, Bool, true, false, refl, sym, subst, eqb-true, option_and_then, true≢false, List, [], ◌∷◌, Some, None, if◌then◌else◌, bytes_eq, encode_utf8_all, slice_get}
use Rattle.std.proofs.lemmas.Bool.{and_parts}
use Rattle.std.specs.Char.{encode_utf8}
use Rattle.std.specs.Str.{chars, is_utf8}
use Rattle.clap.specs.Lexer.{long_of, long_of_rest, short_of, short_of_rest, strip_byte}
use Rattle.clap.specs.Walk.{Text}
use Rattle.command_words.specs.Words as words
use Rattle.command_words.specs.Words.{Word, long_word, word_of}

abbrev pub two_dashes : Text
two_dashes = 45 ∷ 45 ∷ []

-- the text that follows a dash has a first character
pub record HasFlag (word : Text) : Type 0 where
  pub byte : ℕ
  pub rest : Text
  pub char : ℕ
  pub short : short_of word ≡ Some (byte ∷ rest)
  pub first : slice_get (chars (byte ∷ rest)) 0 ≡ Some char

abbrev pub Looks : Text → Word → Type 0
Looks word words.end = bytes_eq word two_dashes ≡ true
Looks word (words.option name value) = (bytes_eq word two_dashes ≡ false) × (long_of word ≡ Some (name, value))
Looks word words.dashed = (bytes_eq word two_dashes ≡ false) × (long_of word ≡ None) × HasFlag word
Looks word words.plain = (bytes_eq word two_dashes ≡ false) × (long_of word ≡ None) × (short_of word ≡ None)

-- what follows the first dash of a text begins with a character
after_dash : (c : ℕ) (rest : Text) → is_utf8 (45 ∷ c ∷ rest) ≡ true → (char : ℕ) × (slice_get (chars (c ∷ rest)) 0 ≡ Some char)
unfolding is_utf8 chars encode_utf8
after_dash c rest u = go (chars (c ∷ rest)) (and_parts _ _ u).1
  where
    go : (cs : List ℕ) → bytes_eq (encode_utf8_all (45 ∷ cs)) (45 ∷ c ∷ rest) ≡ true → (char : ℕ) × (slice_get cs 0 ≡ Some char)
    go [] e = absurd (true≢false (sym e))
    go (x ∷ cs) e = (x, refl)

long_looks : (b c : ℕ) (rest : Text) → (b == 45) ≡ true → (c == 45) ≡ true → Looks (b ∷ c ∷ rest) (long_word rest)
long_looks b c [] e f = rw (e, f) refl
long_looks b c (x ∷ xs) e f = (rw (e, f) refl, rw (e, f) refl)

looks_by : (b c : ℕ) (rest : Text) (s t : Bool) → (b == 45) ≡ s → (c == 45) ≡ t → is_utf8 (b ∷ c ∷ rest) ≡ true
    → Looks (b ∷ c ∷ rest) (if s then (if t then long_word rest else words.dashed) else words.plain)
looks_by b c rest true true e f u = long_looks b c rest e f
looks_by b c rest true false e f u =
    let is_dash : b ≡ 45 = eqb-true b 45 e in
    let flag = after_dash c rest (subst (λ x. is_utf8 (x ∷ c ∷ rest) ≡ true) is_dash u) in
    (rw (e, f) refl, rw (e, f) refl, record { byte = c; rest = rest; char = flag.0; short = rw (e, f) refl; first = flag.1 })
looks_by b c rest false t e f u = (rw e refl, rw e refl, rw e refl)

pub looks : (word : Text) → is_utf8 word ≡ true → Looks word (word_of word)
looks [] u = (refl, refl, refl)
looks (b ∷ []) u = (go (b == 45), long (b == 45), short (b == 45))
  where
    go : (s : Bool) → (s && false) ≡ false
    go true = refl
    go false = refl

    long : (s : Bool) → option_and_then long_of_rest (option_and_then (strip_byte 45) (if s then Some [] else None)) ≡ None
    long true = refl
    long false = refl

    short : (s : Bool) → option_and_then short_of_rest (if s then Some [] else None) ≡ None
    short true = refl
    short false = refl
looks (b ∷ c ∷ rest) u = looks_by b c rest (b == 45) (c == 45) refl refl u
