-- The number and the words of each kind of fault (User's Manual, appendix E, error messages; the numbers from 401 on
-- and the words are this project's profile).
use Rattle.std.specs.Prelude.{ℕ, ◌==◌, List, codes, if◌then◌else◌}
use Rattle.net_types.specs.declared.faults.FaultKind.{FaultKind}
use Rattle.net_types.specs.declared.faults.FaultKind.TheVariants.{InitialDepth, OutfallLinks, NoOutfall}
use Rattle.net_types.specs.declared.faults.FaultKind.TheVariants.{CurveOrder, EndBeforeStart, SeriesOrder}
use Rattle.net_types.specs.declared.faults.FaultKind.TheVariants.{TooFewItems, InvalidKeyword, DuplicateName}
use Rattle.net_types.specs.declared.faults.FaultKind.TheVariants.{UndefinedName, InvalidNumber}
use Rattle.net_types.specs.declared.faults.FaultKind.TheVariants.{InvalidTime, RuleSequence}
use Rattle.net_types.specs.declared.faults.FaultKind.TheVariants.{NotInProfile, OverLimit, BadObject}

abbrev pub number_of : FaultKind → ℕ
number_of InitialDepth = 138
number_of OutfallLinks = 141
number_of NoOutfall = 145
number_of CurveOrder = 171
number_of SeriesOrder = 173
number_of EndBeforeStart = 191
number_of TooFewItems = 203
number_of InvalidKeyword = 205
number_of DuplicateName = 207
number_of UndefinedName = 209
number_of InvalidNumber = 211
number_of InvalidTime = 213
number_of RuleSequence = 217
number_of NotInProfile = 401
number_of OverLimit = 402
number_of BadObject = 403

abbrev pub words_of : FaultKind → List ℕ
words_of InitialDepth = codes "initial depth above full depth"
words_of OutfallLinks = codes "outfall has more than one link or an outlet link"
words_of NoOutfall = codes "no outfall"
words_of CurveOrder = codes "curve out of order"
words_of SeriesOrder = codes "series out of order"
words_of EndBeforeStart = codes "end before start"
words_of TooFewItems = codes "too few items"
words_of InvalidKeyword = codes "invalid keyword"
words_of DuplicateName = codes "duplicate name"
words_of UndefinedName = codes "undefined name"
words_of InvalidNumber = codes "invalid number"
words_of InvalidTime = codes "invalid date or time"
words_of RuleSequence = codes "rule clause out of sequence"
words_of NotInProfile = codes "not in this profile"
words_of OverLimit = codes "over a limit"
words_of BadObject = codes "bad object"

-- the kind of a number; a number of none is that of a bad object
abbrev pub kind_of : ℕ → FaultKind
kind_of number =
    if number == 138 then InitialDepth else if number == 141 then OutfallLinks else if number == 145 then NoOutfall
    else if number == 171 then CurveOrder else if number == 173 then SeriesOrder
    else if number == 191 then EndBeforeStart else if number == 203 then TooFewItems
    else if number == 205 then InvalidKeyword else if number == 207 then DuplicateName
    else if number == 209 then UndefinedName else if number == 211 then InvalidNumber
    else if number == 213 then InvalidTime else if number == 217 then RuleSequence
    else if number == 401 then NotInProfile else if number == 402 then OverLimit
    else BadObject
