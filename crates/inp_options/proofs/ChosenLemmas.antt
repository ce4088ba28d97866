-- What settings set.
use Rattle.std.proofs.Common.{◌≡◌, ◌∙◌, ◌++◌, ◌∷◌, [], ℕ, ◌+◌, ◌<◌, List, Option, Some, length, take, get_or, flat_map, refl, ap, sym, append-nil}
use Rattle.std.specs.List.{last_or}
use Rattle.std.proofs.lemmas.List.Concat.{flat_map-append}
use Rattle.net_types.specs.declared.options.FlowUnits.{FlowUnits}
use Rattle.inp_lines.specs.declared.line.Line.{Line}
use Rattle.inp_lines.specs.Gather.{records_in}
use Rattle.inp_lines.proofs.GatherLemmas.{line_push}
use Rattle.inp_options.specs.declared.setting.Setting.{Setting}
use Rattle.inp_options.specs.declared.chosen.Latest.{Latest}
use Rattle.inp_options.specs.Chosen.{latest_after, settings}
use Rattle.inp_options.specs.OptionLines.{reading_of}

-- the last of two lists
pub last_or-append : {A : Type 0} (o : Option A) (xs ys : List A) → last_or o (xs ++ ys) ≡ last_or (last_or o xs) ys
last_or-append o [] ys = refl
last_or-append o (x ∷ xs) ys = last_or-append (Some x) xs ys

last_more : {A : Type 0} (f : Setting → List A) (o : Option A) (xs ys : List Setting) → last_or o (flat_map f (xs ++ ys)) ≡ last_or (last_or o (flat_map f xs)) (flat_map f ys)
last_more f o xs ys = ap (last_or o) (flat_map-append f xs ys) ∙ last_or-append o (flat_map f xs) (flat_map f ys)

-- settings after others
pub latest_more : (latest : Latest) (xs ys : List Setting) → latest_after latest (xs ++ ys) ≡ latest_after (latest_after latest xs) ys
unfolding latest_after
latest_more latest xs ys = simp last_more refl

-- the settings of one line more
settings_next : (units : FlowUnits) (lines : List Line) (i : ℕ) (line : Line) → i < length lines → line ≡ get_or lines i line → settings units (take (i + 1) lines) ≡ settings units (take i lines) ++ records_in (reading_of units line)
unfolding settings
settings_next units lines i line h e =
    ap (flat_map (λ l. records_in (reading_of units l))) (line_push lines i line h e)
    ∙ (flat_map-append (λ l. records_in (reading_of units l)) (take i lines) (line ∷ [])
    ∙ ap (λ l. settings units (take i lines) ++ l) (append-nil (records_in (reading_of units line))))

pub latest_next : (units : FlowUnits) (lines : List Line) (i : ℕ) (line : Line) (first held more : Latest) → i < length lines → line ≡ get_or lines i line → held ≡ latest_after first (settings units (take i lines)) → more ≡ latest_after held (records_in (reading_of units line)) → more ≡ latest_after first (settings units (take (i + 1) lines))
latest_next units lines i line first held more h e was step =
    step ∙ (ap (λ l. latest_after l (records_in (reading_of units line))) was
    ∙ (sym (latest_more first (settings units (take i lines)) (records_in (reading_of units line)))
    ∙ ap (latest_after first) (sym (settings_next units lines i line h e))))
