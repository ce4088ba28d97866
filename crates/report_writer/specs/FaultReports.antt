-- The reports of an input that is refused (User's Manual, appendix E, error messages; the layout is this project's
-- profile).
use Rattle.std.specs.Prelude.{ℕ, List, [], ◌∷◌, ◌++◌, codes, decimal}
use Rattle.std.specs.List.{flat_map}
use Rattle.net_types.specs.Faults.{kind_of, words_of}
use Rattle.net_types.specs.declared.faults.LineFault.{LineFault}
use Rattle.net_types.specs.declared.faults.ProjectFault.{ProjectFault}

-- what the number of a fault says
abbrev pub fault_words : ℕ → List ℕ
fault_words number = words_of (kind_of number)

-- a text behind a blank; nothing where it is empty
abbrev pub after_blank : List ℕ → List ℕ
after_blank [] = []
after_blank (b ∷ bs) = codes " " ++ (b ∷ bs)

-- how every report begins, and the heading of the faults
abbrev pub faults_heading : List ℕ
faults_heading = codes "SWMM5-FX REPORT\n\nInput Faults\n"

-- a label and a number
abbrev pub labelled : List ℕ → ℕ → List ℕ
labelled label number = label ++ decimal number

-- the end of a fault's report line: what it says, and the token or name at fault
abbrev pub fault_tail : List ℕ → List ℕ → List ℕ
fault_tail words text = (codes ": " ++ words) ++ (after_blank text ++ codes "\n")

-- the report line of a fault of a line: its number, its line, what it says, and the token
unfoldable pub line_fault_line : LineFault → List ℕ
line_fault_line fault = labelled (codes "ERROR ") fault.number
    ++ (labelled (codes " line ") fault.line ++ fault_tail (fault_words fault.number) fault.token)

-- the report line of a fault of a project: its number, what it says, and the object's name
unfoldable pub project_fault_line : ProjectFault → List ℕ
project_fault_line fault = labelled (codes "ERROR ") fault.number ++ fault_tail (fault_words fault.number) fault.name

-- the report of these faults of lines
unfoldable pub line_faults_report : List LineFault → List ℕ
line_faults_report faults = faults_heading ++ flat_map line_fault_line faults

-- the report of these faults of a project
unfoldable pub project_faults_report : List ProjectFault → List ℕ
project_faults_report faults = faults_heading ++ flat_map project_fault_line faults

-- the report of an input of more bytes than an input may have
unfoldable pub input_too_long_report : List ℕ
input_too_long_report = codes "SWMM5-FX REPORT\n\nInput Faults\nERROR 402 input longer than 33554432 bytes\n"
