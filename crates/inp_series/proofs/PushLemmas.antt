-- What lines are known by, with one line more.
use Rattle.std.proofs.Common.{◌≡◌, ◌∷◌, ◌++◌, [], length, ℕ, ◌+◌, ◌-◌, ◌&&◌, ℤ, List, Bool, true, false, cond}
use Rattle.std.proofs.Common.{Option, Some, None, is_some, refl, ap, sym, ◌∙◌, arith, length-append, filter_map}
use Rattle.std.specs.List.{last_or, list_all, cons_option}
use Rattle.std.specs.Option.{option_map, option_or}
use Rattle.std.proofs.lemmas.List.Elements.{filter_map-append}
use Rattle.std.proofs.lemmas.List.Folds.{list_all-append}
use Rattle.net_types.specs.declared.tables.PatternKind.{PatternKind}
use Rattle.inp_lines.specs.declared.line.Line.{Line}
use Rattle.inp_lines.specs.Faults.{token_at}
use Rattle.inp_lines.specs.Gather.{gather}
use Rattle.inp_lines.proofs.GatherLemmas.{gather_push}
use Rattle.inp_series.specs.Pairs.{xs_of, values_of}
use Rattle.inp_series.specs.SeriesLines.{axis_at, date_at, date_in, dated_in, entries_in, series_pairs, times_in}
use Rattle.inp_series.specs.CurveLines.{curve_pairs, is_first, kind_in, kind_of, points_in, xs_in}
use Rattle.inp_series.specs.PatternLines.{factor_items, factor_of, factors_left, items_in, kind_with, pattern_kind_in, pattern_kind_of}
use Rattle.inp_series.specs.declared.pairs.Axis.TheVariants.{Amounts}

pub last_append : {A : Type 0} (o : Option A) (xs ys : List A) → last_or o (xs ++ ys) ≡ last_or (last_or o xs) ys
last_append o [] ys = refl
last_append o (x ∷ xs) ys = last_append (Some x) xs ys

last_one : {A : Type 0} (o p : Option A) → last_or o (cons_option p []) ≡ option_or p o
last_one o None = refl
last_one o (Some x) = refl

-- ---- series
pub date_push : (own : List Line) (line : Line) → date_in (own ++ line ∷ []) ≡ option_or (date_at line) (date_in own)
date_push own line = ap (last_or None) (filter_map-append date_at own (line ∷ []))
    ∙ (last_append None (filter_map date_at own) (cons_option (date_at line) []) ∙ last_one (date_in own) (date_at line))

pub times_push : (start : ℤ) (own : List Line) (line : Line) → last_or None (times_in start (own ++ line ∷ [])) ≡ last_or (last_or None (times_in start own)) (xs_of (axis_at start own line) (series_pairs line))
times_push start own line = ap (last_or None) (gather_push (λ before line. xs_of (axis_at start before line) (series_pairs line)) own line)
    ∙ last_append None (times_in start own) (xs_of (axis_at start own line) (series_pairs line))

pub entries_push : (start : ℤ) (own : List Line) (line : Line) → entries_in start (own ++ line ∷ []) ≡ entries_in start own ++ values_of (axis_at start own line) (series_pairs line)
entries_push start own line = gather_push (λ before line. values_of (axis_at start before line) (series_pairs line)) own line

and_true : (b : Bool) → (b && true) ≡ b
and_true true = refl
and_true false = refl

pub dated_push : (own : List Line) (line : Line) → dated_in (own ++ line ∷ []) ≡ (dated_in own && is_some (date_in (own ++ line ∷ [])))
dated_push own line =
    ap (list_all (λ has_date. has_date)) (gather_push (λ before line. is_some (date_in (before ++ line ∷ [])) ∷ []) own line)
    ∙ (list_all-append (λ has_date. has_date) (gather (λ before line. is_some (date_in (before ++ line ∷ [])) ∷ []) [] own) (is_some (date_in (own ++ line ∷ [])) ∷ [])
    ∙ ap (λ b. dated_in own && b) (and_true (is_some (date_in (own ++ line ∷ [])))))

-- ---- curves
pub first_push : (own : List Line) (line : Line) → is_first (own ++ line ∷ []) ≡ false
first_push [] line = refl
first_push (first ∷ own) line = refl

pub kind_push : (own : List Line) (line : Line) → kind_in (own ++ line ∷ []) ≡ cond (is_first own) (kind_of (token_at line.tokens 1)) (kind_in own)
kind_push [] line = refl
kind_push (first ∷ own) line = refl

pub xs_push : (own : List Line) (line : Line) → last_or None (xs_in (own ++ line ∷ [])) ≡ last_or (last_or None (xs_in own)) (xs_of Amounts (curve_pairs own line))
xs_push own line = ap (last_or None) (gather_push (λ before line. xs_of Amounts (curve_pairs before line)) own line)
    ∙ last_append None (xs_in own) (xs_of Amounts (curve_pairs own line))

pub points_push : (own : List Line) (line : Line) → points_in (own ++ line ∷ []) ≡ points_in own ++ values_of Amounts (curve_pairs own line)
points_push own line = gather_push (λ before line. values_of Amounts (curve_pairs before line)) own line

-- ---- patterns
pub pattern_kind_push : (own : List Line) (line : Line) → pattern_kind_in (own ++ line ∷ []) ≡ kind_with own line
pattern_kind_push [] line = refl
pattern_kind_push (first ∷ own) line = refl

pub items_push : (own : List Line) (line : Line) → items_in (own ++ line ∷ []) ≡ items_in own ++ factor_items own line
items_push own line = gather_push factor_items own line

less_twice : (kind : Option PatternKind) (a b : ℕ) → option_map (λ left. left - b) (factors_left kind a) ≡ factors_left kind (a + b)
less_twice None a b = refl
less_twice (Some kind) a b = ap Some (omega arith)

pub left_push : (own : List Line) (line : Line) → factors_left (pattern_kind_in (own ++ line ∷ [])) (length (items_in (own ++ line ∷ []))) ≡ option_map (λ left. left - length (factor_items own line)) (factors_left (kind_with own line) (length (items_in own)))
left_push own line = ap (λ kind. factors_left kind (length (items_in (own ++ line ∷ [])))) (pattern_kind_push own line)
    ∙ (ap (factors_left (kind_with own line)) (ap length (items_push own line) ∙ length-append (items_in own) (factor_items own line))
    ∙ sym (less_twice (kind_with own line) (length (items_in own)) (length (factor_items own line))))

-- a later line is of the pattern's own type, and there are no factors before the first
pub kind_later : (own : List Line) (line : Line) → is_first own ≡ false → kind_with own line ≡ pattern_kind_in own
kind_later own line e = ap (λ b. cond b (pattern_kind_of (token_at line.tokens 1)) (pattern_kind_in own)) e

pub kind_first : (own : List Line) (line : Line) → is_first own ≡ true → kind_with own line ≡ pattern_kind_of (token_at line.tokens 1)
kind_first own line e = ap (λ b. cond b (pattern_kind_of (token_at line.tokens 1)) (pattern_kind_in own)) e

pub none_first : (own : List Line) → is_first own ≡ true → length (items_in own) ≡ 0
none_first [] e = refl
none_first (first ∷ own) e = absurd (cc)

pub left_is : (own : List Line) (line : Line) (kind : Option PatternKind) → kind ≡ kind_with own line → cond (is_first own) (factors_left kind 0) (factors_left (pattern_kind_in own) (length (items_in own))) ≡ factors_left (kind_with own line) (length (items_in own))
left_is [] line kind e = ap (λ k. factors_left k 0) e
left_is (first ∷ own) line kind e = refl

pub factors_push : (own : List Line) (line : Line) → filter_map factor_of (items_in (own ++ line ∷ [])) ≡ filter_map factor_of (items_in own) ++ filter_map factor_of (factor_items own line)
factors_push own line = ap (filter_map factor_of) (items_push own line) ∙ filter_map-append factor_of (items_in own) (factor_items own line)
