-- The words of control rules (User's Manual, section [CONTROLS]; what is left out of it is this project's profile).
-- The case of letters does not count.
use Rattle.std.specs.Prelude.{ℕ, Bool, true, false, if◌then◌else◌, List, Option, Some, None, codes}
use Rattle.inp_forms.specs.declared.item.Objects.{Objects}
use Rattle.inp_forms.specs.declared.item.Objects.TheVariants as objects
use Rattle.inp_values.specs.Words.{same_word}
use Rattle.net_types.specs.declared.rules.Relation.{Relation}
use Rattle.net_types.specs.declared.rules.Relation.TheVariants as relation
use Rattle.net_types.specs.declared.rules.Subject.{Subject}
use Rattle.net_types.specs.declared.rules.Subject.TheVariants as subject
use Rattle.inp_rules.specs.declared.clauses.Clause.{Clause}
use Rattle.inp_rules.specs.declared.clauses.Clause.TheVariants as clause
use Rattle.inp_rules.specs.declared.words.Looked.{Looked}
use Rattle.inp_rules.specs.declared.words.Part.{Part}
use Rattle.inp_rules.specs.declared.words.Part.TheVariants as part
use Rattle.inp_rules.specs.declared.words.Watched.{Watched}
use Rattle.inp_rules.specs.declared.words.Watched.TheVariants as watched

-- the clause of a line by its first word
abbrev pub clause_of : List ℕ → Option Clause
clause_of word =
    if same_word word (codes "RULE") then Some clause.Rule
    else if same_word word (codes "IF") then Some clause.If
    else if same_word word (codes "AND") then Some clause.And
    else if same_word word (codes "OR") then Some clause.Or
    else if same_word word (codes "THEN") then Some clause.Then
    else if same_word word (codes "ELSE") then Some clause.Else
    else if same_word word (codes "PRIORITY") then Some clause.Priority
    else None

-- ---- tests
-- what a test looks at
abbrev pub watched_of : List ℕ → Option Watched
watched_of word =
    if same_word word (codes "NODE") then Some watched.Node
    else if same_word word (codes "LINK") then Some (watched.Link objects.Links)
    else if same_word word (codes "CONDUIT") then Some (watched.Link objects.Conduits)
    else if same_word word (codes "PUMP") then Some (watched.Link objects.Pumps)
    else if same_word word (codes "ORIFICE") then Some (watched.Link objects.Orifices)
    else if same_word word (codes "WEIR") then Some (watched.Link objects.Weirs)
    else if same_word word (codes "SIMULATION") then Some watched.Simulation
    else None

-- what of it: a value that is a number, or the words of a status for a setting
abbrev pub number_look : Subject → Option Looked
number_look look = Some (record { subject = look; by_status = false })

abbrev pub node_look_of : (node : ℕ) → List ℕ → Option Looked
node_look_of node word =
    if same_word word (codes "DEPTH") then number_look (subject.NodeDepth node)
    else if same_word word (codes "HEAD") then number_look (subject.NodeHead node)
    else if same_word word (codes "INFLOW") then number_look (subject.NodeInflow node)
    else None

abbrev pub link_look_of : (link : ℕ) → List ℕ → Option Looked
link_look_of link word =
    if same_word word (codes "FLOW") then number_look (subject.LinkFlow link)
    else if same_word word (codes "SETTING") then number_look (subject.LinkSetting link)
    else if same_word word (codes "STATUS") then Some (record { subject = subject.LinkSetting link; by_status = true })
    else None

abbrev pub clock_look_of : List ℕ → Option Looked
clock_look_of word =
    if same_word word (codes "TIME") then number_look subject.Elapsed
    else if same_word word (codes "CLOCKTIME") then number_look subject.ClockTime
    else if same_word word (codes "MONTH") then number_look subject.Month
    else if same_word word (codes "DAY") then number_look subject.Weekday
    else None

-- how it compares
abbrev pub relation_of : List ℕ → Option Relation
relation_of sign =
    if same_word sign (codes "=") then Some relation.Eq
    else if same_word sign (codes "<>") then Some relation.Ne
    else if same_word sign (codes "<") then Some relation.Lt
    else if same_word sign (codes "<=") then Some relation.Le
    else if same_word sign (codes ">") then Some relation.Gt
    else if same_word sign (codes ">=") then Some relation.Ge
    else None

-- ---- actions
-- on which kind of link an action acts
abbrev pub actor_of : List ℕ → Option Objects
actor_of word =
    if same_word word (codes "PUMP") then Some objects.Pumps
    else if same_word word (codes "CONDUIT") then Some objects.Conduits
    else if same_word word (codes "ORIFICE") then Some objects.Orifices
    else if same_word word (codes "WEIR") then Some objects.Weirs
    else None

-- what it sets: the status of a pump or a conduit, or the setting of any other link than a conduit
abbrev pub status_or_setting : List ℕ → Option Part
status_or_setting word =
    if same_word word (codes "STATUS") then Some part.PumpStatus
    else if same_word word (codes "SETTING") then Some part.Setting
    else None

abbrev pub status_alone : List ℕ → Option Part
status_alone word = if same_word word (codes "STATUS") then Some part.ConduitStatus else None

abbrev pub setting_alone : List ℕ → Option Part
setting_alone word = if same_word word (codes "SETTING") then Some part.Setting else None

abbrev pub part_of : Objects → List ℕ → Option Part
part_of objects.Pumps word = status_or_setting word
part_of objects.Conduits word = status_alone word
part_of _ word = setting_alone word

-- values of actions that are not in this profile
abbrev pub is_outside : List ℕ → Bool
is_outside word =
    if same_word word (codes "CURVE") then true
    else if same_word word (codes "TIMESERIES") then true
    else same_word word (codes "PID")
