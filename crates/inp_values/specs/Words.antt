-- Keywords, which ignore the case of ASCII letters (this project's profile).
use Rattle.std.specs.Prelude.{ℕ, Bool, List, map}
use Rattle.std.specs.Char.{to_ascii_lowercase}
use Rattle.std.specs.Str.{bytes_eq}

-- the two texts are the same where the letters A to Z are read as a to z
unfoldable pub same_word : List ℕ → List ℕ → Bool
same_word text word = bytes_eq (map to_ascii_lowercase text) (map to_ascii_lowercase word)
