-- The words so far are text; a word that isn't makes the whole no text.
use Rattle.std.proofs.Common.{◌≡◌, ◌∙◌, ◌+◌, ◌<◌, ◌++◌, ◌∷◌, [], ℕ, Bool, true, false, List, Some, None, if◌then◌else◌, length, take, get_or, refl, sym, subst, ap, ap₂}
use Rattle.std.proofs.lemmas.Bool.{and_from}
use Rattle.std.proofs.lemmas.List.{map-append, take_more}
use Rattle.std.proofs.lemmas.List.Folds.{list_all_at, list_all_more}
use Rattle.std.proofs.lemmas.Str.{is_utf8-from_IsUtf8, IsUtf8-from_is_utf8}
use Rattle.std.specs.List.{list_all}
use Rattle.std.specs.Str.{IsUtf8, is_utf8}
use Rattle.std.specs.Borrow.{Bor}
use Rattle.clap.specs.Walk.{Text, texts}
use Rattle.command_words.proofs.read.texts_of.Goals as goal

no_text : (bytes : Text) (b : Bool) → is_utf8 bytes ≡ b → (IsUtf8 bytes → ⊥) → is_utf8 bytes ≡ false
no_text bytes true e deny = absurd (deny (IsUtf8-from_is_utf8 bytes e))
no_text bytes false e deny = e

none_of : (words : List Text) → list_all is_utf8 words ≡ false → None ≡ (if list_all is_utf8 words then Some words else None)
none_of words e = ap (λ b. if b then Some words else None) (sym e)

-- the word at a place isn't text
fails_at : (words : List Text) (i : ℕ) (word bytes : Text) → i < length words → word ≡ get_or words i word → bytes ≡ word → (IsUtf8 bytes → ⊥)
    → None ≡ (if list_all is_utf8 words then Some words else None)
fails_at words i word bytes lt at same deny =
    none_of words (list_all_at is_utf8 words i word lt (ap is_utf8 (sym at ∙ sym same) ∙ no_text bytes (is_utf8 bytes) refl deny))

-- one more word is text
holds_at : (words : List Text) (i : ℕ) (word bytes : Text) (found more : List (Bor Text)) (text : Bor Text) → i < length words → word ≡ get_or words i word → bytes ≡ word
    → text.now ≡ bytes → IsUtf8 bytes → more ≡ found ++ text ∷ [] → texts found ≡ take i words → list_all is_utf8 (take i words) ≡ true
    → (texts more ≡ take (i + 1) words) × (list_all is_utf8 (take (i + 1) words) ≡ true)
holds_at words i word bytes found more text lt at same said is pushed so_far all = (
  ap texts pushed ∙ map-append (λ (s : Bor Text). s.now) found (text ∷ [])
      ∙ ap₂ (λ (xs : List Text) (x : Text). xs ++ x ∷ []) so_far (said ∙ same ∙ at) ∙ sym (take_more words i word lt),
  list_all_more is_utf8 words i word lt ∙ and_from (list_all is_utf8 (take i words)) (is_utf8 (get_or words i word)) all
      (ap is_utf8 (sym at ∙ sym same) ∙ is_utf8-from_IsUtf8 bytes is),
)

pub returns-in-Err : goal.returns-in-Err
returns-in-Err c =
    subst (λ words. None ≡ (if list_all is_utf8 words then Some words else None)) c.as_slice-word-items.ensures
    (fails_at c.as_slice-word-items.result.now c.loop-word.word-index c.word-item.result c.as_slice.result.now c.loop-word-test.true c.word-item.is c.as_slice.ensures
    c.in-Err.ensures.cases.0)

pub loop-word-preserved : goal.loop-word-preserved
loop-word-preserved c =
    holds_at c.as_slice-word-items.result.now c.loop-word.word-index c.word-item.result c.as_slice.result.now c.loop-word.found.items c.push.new.self.items c.in-Ok.text
    c.loop-word-test.true c.word-item.is c.as_slice.ensures c.in-Ok.ensures.cases.0 c.in-Ok.ensures.cases.1 c.in_ok-push-in-Ok.ensures.items c.loop-word.invariant.0 c.loop-word.invariant.1
