-- The tokens of a line.
use Rattle.std.specs.Prelude.{◌≡◌, ◌↔◌, ◌⊎◌, ◌==◌, ℕ, zero, suc, ◌||◌, Bool, true, false, cond}
use Rattle.std.specs.Prelude.{not, List, [], ◌∷◌, ◌++◌, length, drop, Option, Some, None}
use Rattle.std.specs.Bool.{MatchBool}
use Rattle.std.specs.List.{All, before_first, after_first, position_or_len}

-- The blanks are the space and the tab (this project's profile).
abbrev pub is_blank : ℕ → Bool
is_blank byte = (byte == 32) || (byte == 9)

abbrev pub is_quote : ℕ → Bool
is_quote byte = byte == 34

abbrev pub is_semicolon : ℕ → Bool
is_semicolon byte = byte == 59

-- What stands before the comment of a line, which begins at its first `;`, in quotes or not (User's Manual,
-- appendix D).
abbrev pub before_comment : List ℕ → List ℕ
before_comment line = before_first is_semicolon line

-- A text from its first byte that is no blank on.
abbrev pub without_blanks : List ℕ → List ℕ
without_blanks text = drop (position_or_len (λ byte. not (is_blank byte)) text) text

-- A word stands at the front of a text, up to the first byte that ends it or else to the end of the text; the rest
-- stands behind that byte.
abbrev pub RunsTo : (ℕ → Bool) → List ℕ → List ℕ → List ℕ → Type 0
RunsTo ends text word rest = All (λ byte. ends byte ≡ false) word
    × (((text ≡ word) × (rest ≡ [])) ⊎ ((end : ℕ) × (ends end ≡ true) × (text ≡ word ++ end ∷ rest)))

-- A text begins with a token. One that begins with a quote runs to the next quote or to the end and is without its
-- quotes, so what follows the closing quote is no part of it; any other runs to the next blank or to the end, and
-- a quote inside it is a byte of it (this project's profile).
abbrev pub BeginsWithToken : List ℕ → List ℕ → List ℕ → Type 0
BeginsWithToken [] token rest = ⊥
BeginsWithToken (byte ∷ bytes) token rest = (is_blank byte ≡ false)
    × MatchBool (is_quote byte) (RunsTo is_quote bytes token rest) (RunsTo is_blank (byte ∷ bytes) token rest)

-- The tokens of a text: blanks and a token, and again in what stands behind it, and at last blanks alone (this
-- project's profile).
abbrev pub AreTokens : List (List ℕ) → List ℕ → Type 0
AreTokens [] text = All (λ byte. is_blank byte ≡ true) text
AreTokens (token ∷ tokens) text = (blanks : List ℕ) × (part : List ℕ) × (rest : List ℕ) × (text ≡ blanks ++ part)
    × All (λ byte. is_blank byte ≡ true) blanks × BeginsWithToken part token rest × AreTokens tokens rest

-- The first token of a text that begins with no blank, and what stands behind it.
abbrev pub token_and_rest : List ℕ → Option (List ℕ × List ℕ)
token_and_rest [] = None
token_and_rest (byte ∷ bytes) = cond (is_quote byte)
    (Some (before_first is_quote bytes, after_first is_quote bytes))
    (Some (before_first is_blank (byte ∷ bytes), after_first is_blank (byte ∷ bytes)))

-- The first tokens of a text, at most as many as the number says.
abbrev pub tokens_up_to : ℕ → List ℕ → List (List ℕ)
tokens_up_to zero text = []
tokens_up_to (suc most) text =
    elim (token_and_rest (without_blanks text)) [ None ↦ [] | Some pair ↦ pair.0 ∷ tokens_up_to most pair.1 ]

-- The tokens of a text; each takes a byte at least, so there are at most as many as bytes.
unfoldable pub tokens_of : List ℕ → List (List ℕ)
tokens_of text = tokens_up_to (length text) text

-- These are the tokens of every text, and no others.
abbrev pub TokensAreUnique : Type 0
TokensAreUnique = (text : List ℕ) (tokens : List (List ℕ)) → AreTokens tokens text ↔ (tokens ≡ tokens_of text)
