-- The keywords of items (User's Manual, appendix D).
use Rattle.std.specs.Prelude.{ℕ, if◌then◌else◌, List, [], ◌∷◌, Option, Some, None, codes}
use Rattle.net_types.specs.declared.faults.FaultKind.{FaultKind}
use Rattle.net_types.specs.declared.faults.FaultKind.TheVariants.{InvalidKeyword, NotInProfile}
use Rattle.inp_values.specs.Words.{same_word}
use Rattle.inp_forms.specs.declared.words.Keyword.{Keyword}
use Rattle.inp_forms.specs.declared.words.Keyword.TheVariants as keyword
use Rattle.inp_forms.specs.declared.words.Words.{Words}
use Rattle.inp_forms.specs.declared.words.Words.TheVariants as words
use Rattle.inp_forms.specs.declared.words.TheConstants.{STAGE, STEADY_STAGE, STORE_SHAPE, STATUS, OPENING, WEIR_TYPE}
use Rattle.inp_forms.specs.declared.words.TheConstants.{SHAPE}
use Rattle.inp_forms.specs.declared.words.TheConstants.{FLOW, RAIN_FORM, RAIN_SOURCE, ROUTE, EVAPORATION, CURVE_TYPE}
use Rattle.inp_forms.specs.declared.words.TheConstants.{PATTERN_TYPE}
use Rattle.inp_forms.specs.declared.words.TheConstants.{OTHER_RAIN_FORM, OTHER_RAIN_SOURCE, OTHER_ROUTE}

-- the text of each keyword
abbrev pub text_of : Keyword → List ℕ
text_of keyword.Free = codes "FREE"
text_of keyword.Normal = codes "NORMAL"
text_of keyword.Fixed = codes "FIXED"
text_of keyword.Tidal = codes "TIDAL"
text_of keyword.TimeSeries = codes "TIMESERIES"
text_of keyword.Tabular = codes "TABULAR"
text_of keyword.Functional = codes "FUNCTIONAL"
text_of keyword.On = codes "ON"
text_of keyword.Off = codes "OFF"
text_of keyword.Side = codes "SIDE"
text_of keyword.Bottom = codes "BOTTOM"
text_of keyword.Transverse = codes "TRANSVERSE"
text_of keyword.VNotch = codes "V-NOTCH"
text_of keyword.RectOpen = codes "RECT_OPEN"
text_of keyword.RectClosed = codes "RECT_CLOSED"
text_of keyword.Trapezoidal = codes "TRAPEZOIDAL"
text_of keyword.Triangular = codes "TRIANGULAR"
text_of keyword.Circular = codes "CIRCULAR"
text_of keyword.Flow = codes "FLOW"
text_of keyword.Intensity = codes "INTENSITY"
text_of keyword.Volume = codes "VOLUME"
text_of keyword.Cumulative = codes "CUMULATIVE"
text_of keyword.File = codes "FILE"
text_of keyword.Outlet = codes "OUTLET"
text_of keyword.Impervious = codes "IMPERVIOUS"
text_of keyword.Pervious = codes "PERVIOUS"
text_of keyword.Constant = codes "CONSTANT"
text_of keyword.DryOnly = codes "DRY_ONLY"
text_of keyword.Storage = codes "STORAGE"
text_of keyword.Pump1 = codes "PUMP1"
text_of keyword.Pump2 = codes "PUMP2"
text_of keyword.Pump3 = codes "PUMP3"
text_of keyword.Pump4 = codes "PUMP4"
text_of keyword.Monthly = codes "MONTHLY"
text_of keyword.Daily = codes "DAILY"
text_of keyword.Hourly = codes "HOURLY"
text_of keyword.Weekend = codes "WEEKEND"

-- the first keyword of a list whose text it is, ASCII case ignored
abbrev pub keyword_among : List Keyword → List ℕ → Option Keyword
keyword_among [] text = None
keyword_among (first ∷ more) text = if same_word text (text_of first) then Some first else keyword_among more text

-- the keywords of each table
abbrev pub choices_of : Words → List Keyword
choices_of words.Stage = STAGE
choices_of words.SteadyStage = STEADY_STAGE
choices_of words.StoreShape = STORE_SHAPE
choices_of words.Status = STATUS
choices_of words.Opening = OPENING
choices_of words.WeirType = WEIR_TYPE
choices_of words.Shape = SHAPE
choices_of words.Constituent = FLOW
choices_of words.InflowType = FLOW
choices_of words.RainForm = RAIN_FORM
choices_of words.RainSource = RAIN_SOURCE
choices_of words.Route = ROUTE
choices_of words.Evaporation = EVAPORATION
choices_of words.CurveType = CURVE_TYPE
choices_of words.PatternType = PATTERN_TYPE

-- the keyword of a table that a text is
unfoldable pub keyword_of : Words → List ℕ → Option Keyword
keyword_of table text = keyword_among (choices_of table) text

-- the fault of a text by the word outside of this profile that it may be
abbrev pub outside_fault : Option Keyword → FaultKind
outside_fault (Some found) = NotInProfile
outside_fault None = InvalidKeyword

-- the fault of a text that is no keyword of a table
unfoldable pub word_fault : Words → List ℕ → FaultKind
word_fault words.Stage text = InvalidKeyword
word_fault words.SteadyStage text = InvalidKeyword
word_fault words.StoreShape text = InvalidKeyword
word_fault words.Status text = InvalidKeyword
word_fault words.Opening text = InvalidKeyword
word_fault words.WeirType text = NotInProfile
word_fault words.Shape text = NotInProfile
word_fault words.Constituent text = NotInProfile
word_fault words.InflowType text = InvalidKeyword
word_fault words.RainForm text = outside_fault (keyword_among OTHER_RAIN_FORM text)
word_fault words.RainSource text = outside_fault (keyword_among OTHER_RAIN_SOURCE text)
word_fault words.Route text = outside_fault (keyword_among OTHER_ROUTE text)
word_fault words.Evaporation text = NotInProfile
word_fault words.CurveType text = NotInProfile
word_fault words.PatternType text = InvalidKeyword
