-- The sample input of a number (this project's profile).
use Rattle.std.specs.Prelude.{ℕ, ◌/◌, ◌%◌, List, [], ◌++◌, codes, decimal, Option, None, Some}
use Rattle.std.specs.List.{flat_map}
use Rattle.sample_maker.specs.Reaches.{reaches_of}
use Rattle.sample_maker.specs.declared.reaches.Reach.{Reach}

-- centimetres as metres with two places
abbrev pub metres : ℕ → List ℕ
metres cm = decimal (cm / 100) ++ codes "." ++ decimal (cm / 10 % 10) ++ decimal (cm % 10)

-- the name of the junction below, or of the outfall
abbrev pub name_below : Option ℕ → List ℕ
name_below None = codes "O"
name_below (Some number) = codes "J" ++ decimal number

-- ---- a line for a reach in each section
unfoldable pub junction_line : Reach → List ℕ
junction_line reach = codes "J" ++ decimal reach.number ++ codes " " ++ metres reach.elevation ++ codes " 0 0 0 0\n"

unfoldable pub conduit_line : Reach → List ℕ
conduit_line reach = codes "C" ++ decimal reach.number ++ codes " J" ++ decimal reach.number ++ codes " "
    ++ name_below reach.below ++ codes " " ++ decimal reach.length ++ codes " 0.013 0 0 0 0\n"

unfoldable pub xsection_line : Reach → List ℕ
xsection_line reach = codes "C" ++ decimal reach.number ++ codes " CIRCULAR " ++ metres reach.diameter
    ++ codes " 0 0 0 1\n"

unfoldable pub inflow_line : Reach → List ℕ
inflow_line reach = codes "J" ++ decimal reach.number ++ codes " FLOW \"\" FLOW 1.0 1.0 0.00"
    ++ decimal reach.inflow ++ codes "\n"

abbrev pub head_text : List ℕ
head_text = codes "[OPTIONS]\nFLOW_UNITS CMS\nSTART_DATE 01/01/2024\nEND_DATE 01/01/2024\nEND_TIME 00:10:00\n"
    ++ codes "ROUTING_STEP 5\nREPORT_STEP 00:01:00\n[JUNCTIONS]\n"

abbrev pub sections_of : List Reach → List ℕ
sections_of reaches = head_text
    ++ flat_map junction_line reaches
    ++ codes "[OUTFALLS]\nO 0.50 FIXED 0.80 NO\n[CONDUITS]\n"
    ++ flat_map conduit_line reaches
    ++ codes "[XSECTIONS]\n"
    ++ flat_map xsection_line reaches
    ++ codes "[INFLOWS]\n"
    ++ flat_map inflow_line reaches

unfoldable pub sample_text : (number : ℕ) → List ℕ
sample_text number = sections_of (reaches_of number 400)
