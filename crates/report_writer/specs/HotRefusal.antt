-- The report of an input whose hotstart is refused (this project's profile).
use Rattle.std.specs.Prelude.{ℕ, zero, suc, List, [], ◌∷◌, codes, decimal}
use Rattle.hotstart.specs.declared.read.HotRead.{HotRead}
use Rattle.hotstart.specs.declared.read.HotRead.TheVariants.{Good, BadMagic, Ends, Count, Kind, BadValue, GoesOn}
use Rattle.report_writer.specs.Texts.{joined}

-- how such a report begins
abbrev pub hot_heading : List ℕ
hot_heading = codes "SWMM5-FX REPORT\n\nInput Faults\nERROR 404 hotstart: "

-- what is said of the byte of a place
abbrev pub at_byte : List ℕ → (place : ℕ) → List ℕ
at_byte words place = joined (hot_heading ∷ words ∷ codes " at byte " ∷ decimal place ∷ codes "\n" ∷ [])

-- what is said of a number of the file that isn't that of the project
abbrev pub number_for : List ℕ → (file own : ℕ) → List ℕ
number_for words file own =
    joined (hot_heading ∷ words ∷ codes " " ∷ decimal file ∷ codes " for " ∷ decimal own ∷ codes "\n" ∷ [])

-- what a count is of, by its number
abbrev pub count_words : ℕ → List ℕ
count_words zero = codes "count of nodes"
count_words (suc zero) = codes "count of links"
count_words (suc (suc n)) = codes "count of subcatchments"

-- the report of a file that is read so; a good one is not refused
unfoldable pub hot_refusal_report : HotRead → List ℕ
hot_refusal_report (Good state) = []
hot_refusal_report (BadMagic place) = at_byte (codes "not a hotstart") place
hot_refusal_report (Ends place) = at_byte (codes "ends") place
hot_refusal_report (Count what file own) = number_for (count_words what) file own
hot_refusal_report (Kind file own) = number_for (codes "kind of infiltration") file own
hot_refusal_report (BadValue place) = at_byte (codes "value out of range") place
hot_refusal_report (GoesOn place) = at_byte (codes "goes on") place
