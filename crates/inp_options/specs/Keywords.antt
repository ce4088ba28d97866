-- The keywords that options take (User's Manual, section [OPTIONS]).
use Rattle.std.specs.Prelude.{ℕ, Bool, true, false, cond, List, [], ◌∷◌, Option, Some, None, codes}
use Rattle.net_types.specs.declared.options.FlowUnits.{FlowUnits}
use Rattle.net_types.specs.declared.options.FlowUnits.TheVariants.{Cfs, Gpm, Mgd, Cms, Lps, Mld}
use Rattle.net_types.specs.declared.options.InfilKind.{InfilKind}
use Rattle.net_types.specs.declared.options.InfilKind.TheVariants.{ModifiedHorton, CurveNumber}
use Rattle.net_types.specs.declared.options.Damping.{Damping}
use Rattle.net_types.specs.declared.options.Damping.TheVariants.{Zero, Partial, Full}
use Rattle.net_types.specs.declared.options.Limiter.{Limiter}
use Rattle.net_types.specs.declared.options.Limiter.TheVariants.{Slope, Froude, Both}
use Rattle.inp_values.specs.Words.{same_word}

-- The choice whose word the text is, ASCII case ignored: the first of the table.
abbrev pub choice_of : {A : Type 0} → List (List ℕ × A) → List ℕ → Option A
choice_of [] text = None
choice_of (entry ∷ more) text = cond (same_word text entry.0) (Some entry.1) (choice_of more text)

-- FLOW_UNITS
abbrev pub units_named : List ℕ → Option FlowUnits
units_named text =
    choice_of ((codes "CFS", Cfs) ∷ (codes "GPM", Gpm) ∷ (codes "MGD", Mgd)
    ∷ (codes "CMS", Cms) ∷ (codes "LPS", Lps) ∷ (codes "MLD", Mld) ∷ []) text

-- INFILTRATION, the methods that are built
abbrev pub infiltration_named : List ℕ → Option InfilKind
infiltration_named text =
    choice_of ((codes "MODIFIED_HORTON", ModifiedHorton) ∷ (codes "CURVE_NUMBER", CurveNumber) ∷ []) text

-- INERTIAL_DAMPING
abbrev pub damping_named : List ℕ → Option Damping
damping_named text = choice_of ((codes "NONE", Zero) ∷ (codes "PARTIAL", Partial) ∷ (codes "FULL", Full) ∷ []) text

-- NORMAL_FLOW_LIMITED
abbrev pub limiter_named : List ℕ → Option Limiter
limiter_named text = choice_of ((codes "SLOPE", Slope) ∷ (codes "FROUDE", Froude) ∷ (codes "BOTH", Both) ∷ []) text

-- SURCHARGE_METHOD: whether it is EXTRAN
abbrev pub method_named : List ℕ → Option Bool
method_named text = choice_of ((codes "SLOT", false) ∷ (codes "EXTRAN", true) ∷ []) text

-- LINK_OFFSETS: whether they are elevations
abbrev pub offsets_named : List ℕ → Option Bool
offsets_named text = choice_of ((codes "DEPTH", false) ∷ (codes "ELEVATION", true) ∷ []) text

-- FLOW_ROUTING: the routing that is built
abbrev pub is_dynamic_wave : List ℕ → Bool
is_dynamic_wave text = same_word text (codes "DYNWAVE")
