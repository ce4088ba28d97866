-- What series and curves without a fault mean, and that they are sound.
use Rattle.std.proofs.Common.{◌≡◌, ◌∷◌, ◌++◌, [], ◌≤◌, ◌<◌, length, ℕ, zero, suc, ◌-◌, ◌&&◌, List, Bool, true, false, not, cond, drop}
use Rattle.std.proofs.Common.{Option, Some, None, refl, ap, sym, ◌∙◌, subst, arith, ℤ, map, filter, sum_by, get_or, length-drop}
use Rattle.std.specs.List.{All, AllZip, last_or}
use Rattle.std.specs.Bool.{⊤}
use Rattle.std.specs.Option.{option_or, unwrap_or}
use Rattle.std.proofs.lemmas.List.{length-map}
use Rattle.fixed_num.specs.declared.constants.TheConstants.{RECORD_LIMIT}
use Rattle.fixed_num.specs.Ranges.{IsMoment}
use Rattle.net_types.specs.declared.faults.FaultKind.TheVariants.{NotInProfile}
use Rattle.net_types.specs.declared.tables.Curve.{Curve}
use Rattle.net_types.specs.declared.tables.CurveKind.{CurveKind}
use Rattle.net_types.specs.declared.tables.CurveKind.TheVariants.{Storage}
use Rattle.net_types.specs.declared.tables.Series.{Series}
use Rattle.net_types.specs.Ranges.{CurveInRange, EntryInRange, PointInRange, SeriesInRange}
use Rattle.net_types.specs.Sound.{NamesCurve}
use Rattle.inp_lines.specs.declared.line.Line.{Line}
use Rattle.inp_lines.specs.Faults.{token_at, fault_of_kind}
use Rattle.inp_lines.specs.Gather.{gather}
use Rattle.inp_lines.specs.Names.{number_in}
use Rattle.inp_lines.specs.Readings.{is_long}
use Rattle.inp_lines.specs.Sources.{FaultsIn}
use Rattle.inp_lines.proofs.NameLemmas.{number_within}
use Rattle.inp_lines.proofs.ZipLemmas.{zip_unique}
use Rattle.inp_lists.specs.Chains.{chain_names, chain_records, chain_states, kept, names_in, own_lines}
use Rattle.inp_lists.proofs.FaultlessLemmas.{Each, all_map, chain_faults_in, few_names, few_sizes, kept_whole, own_all, own_some, zip_map}
use Rattle.inp_series.specs.declared.pairs.Axis.TheVariants.{Amounts}
use Rattle.inp_series.specs.Pairs.{amount_of, are_no_pairs, pairs_fault, x_of}
use Rattle.inp_series.specs.SeriesLines.{axis_at, is_file, is_series_line, is_series_section, series_fault}
use Rattle.inp_series.specs.SeriesLines.{series_fault_in, series_form, series_from, series_is_short, series_names, series_of, series_pairs, series_place, times_in}
use Rattle.inp_series.specs.CurveLines.{curve_fault, curve_fault_in, curve_form, curve_from, curve_pairs, curve_place, curve_state, curve_states}
use Rattle.inp_series.specs.CurveLines.{curves_of, is_curve_line, is_curve_section, is_first, kind_fault, kind_in, kind_of, xs_in}
use Rattle.inp_series.specs.Meaning.{IsCurve, IsSeries, MeanCurves, MeanSeries}
use Rattle.inp_series.proofs.GrowLemmas.{AreGood, give_unique, good_none, good_push, values_grow}
use Rattle.inp_series.proofs.SameLemmas.{same_curve, same_series}
use Rattle.inp_series.proofs.TimeLemmas.{amount_in, series_x_in}

-- a fault of some kind that isn't there
or_none : {A : Type 0} (a b : Option A) → option_or a b ≡ None → (a ≡ None) × (b ≡ None)
or_none None b e = (refl, e)
or_none (Some a) b e = absurd (cc)

-- ---- series
no_file : (start : ℤ) (own : List Line) (line : Line) (b : Bool) → is_file line ≡ b → series_fault_in start own line ≡ None → (is_file line ≡ false) × (pairs_fault (axis_at start own line) (last_or None (times_in start own)) (series_place line) (series_pairs line) ≡ None)
no_file start own line true e none = absurd (let bad = sym (ap (λ b. cond b (Some (fault_of_kind NotInProfile 1)) (pairs_fault (axis_at start own line) (last_or None (times_in start own)) (series_place line) (series_pairs line))) e) ∙ none in cc)
no_file start own line false e none = (e, sym (ap (λ b. cond b (Some (fault_of_kind NotInProfile 1)) (pairs_fault (axis_at start own line) (last_or None (times_in start own)) (series_place line) (series_pairs line))) e) ∙ none)

series_paired : (line : Line) → is_file line ≡ false → series_is_short line ≡ false → are_no_pairs (length (series_pairs line)) ≡ false
series_paired line e short =
    let count : length (series_pairs line) ≡ length line.tokens - series_place line = ap (λ b. length (cond b [] (drop (series_place line) line.tokens))) e ∙ length-drop (series_place line) line.tokens in
    ap are_no_pairs count ∙ (sym (ap (λ b. not b && are_no_pairs (length line.tokens - series_place line)) e) ∙ short)

module _ (start : ℤ) (P : ℤ × ℤ → Type 0) (each : (own : List Line) (line : Line) (a b : List ℕ) (x y : ℤ) → x_of (axis_at start own line) a ≡ Some x → amount_of b ≡ Some y → P (x, y)) where
  series_step : (own : List Line) (line : Line) → AreGood (axis_at start) (λ before line. series_pairs line) P own → series_is_short line ≡ false → series_fault_in start own line ≡ None → AreGood (axis_at start) (λ before line. series_pairs line) P (own ++ line ∷ [])
  series_step own line good short none =
      let two = no_file start own line (is_file line) refl none in
      good_push (axis_at start) (λ before line. series_pairs line) P own line (series_place line) (each own line) good (series_paired line two.0 short) two.1

  series_good : (lines : List Line) → gather (series_fault start) [] lines ≡ [] → (name : List ℕ) → AreGood (axis_at start) (λ before line. series_pairs line) P (own_lines name (kept (series_form start) lines))
  unfolding series_form
  series_good lines none name = own_all (series_form start) (AreGood (axis_at start) (λ before line. series_pairs line) P) (good_none (axis_at start) (λ before line. series_pairs line) P)
      series_step lines none name

-- what lines without a fault mean
pub series_mean : (start : ℤ) (lines : List Line) → gather (series_fault start) [] lines ≡ [] → MeanSeries start lines (series_of start lines)
unfolding series_form chain_records chain_names
series_mean start lines none =
    let good = series_good start (λ pair. ⊤) (λ own line a b x y p q. tt) lines none in
    let each : (name : List ℕ) → IsSeries start name (own_lines name (kept (series_form start) lines)) (series_from start name (own_lines name (kept (series_form start) lines))) =
    λ name. record { name_is = refl; dated_is = refl; entries_are = (good name).means } in
    subst (λ l. AllZip (λ name made. IsSeries start name (own_lines name l) made) (names_in l) (series_of start lines)) (kept_whole (series_form start) lines none)
    (zip_map (λ name made. IsSeries start name (own_lines name (kept (series_form start) lines)) made) (λ name. series_from start name (own_lines name (kept (series_form start) lines))) (names_in (kept (series_form start) lines)) each)

pub series_one : (start : ℤ) (lines : List Line) (a b : List Series) → MeanSeries start lines a → MeanSeries start lines b → a ≡ b
series_one start lines a b p q = zip_unique (λ name made. IsSeries start name (own_lines name (filter is_series_line lines)) made)
    (λ name r s h k. same_series r s (h.name_is ∙ sym k.name_is) (h.dated_is ∙ sym k.dated_is)
    (give_unique (axis_at start) (λ before line. series_pairs line) [] (own_lines name (filter is_series_line lines)) r.entries s.entries h.entries_are k.entries_are))
    (names_in (filter is_series_line lines)) a b p q

-- which are sound
pub series_in_range : (start : ℤ) (lines : List Line) → IsMoment start → gather (series_fault start) [] lines ≡ [] → All SeriesInRange (series_of start lines)
unfolding series_form chain_records chain_names
series_in_range start lines moment none =
    let good = series_good start EntryInRange (λ own line a b x y p q. record { time_in = series_x_in start own line a x moment p; value_in = amount_in b y q }) lines none in
    all_map (λ name. 1 ≤ length (own_lines name (kept (series_form start) lines))) SeriesInRange (λ name. series_from start name (own_lines name (kept (series_form start) lines))) (names_in (kept (series_form start) lines))
    (λ name some. record { some = (good name).some some; entries_in = (good name).ranges; rising = (good name).rises.rising }) (own_some (series_form start) lines)

pub few_series : (start : ℤ) (lines : List Line) → length (series_of start lines) ≤ RECORD_LIMIT
unfolding chain_records chain_names
few_series start lines = let few = few_names (series_form start) lines in
    omega (arith, few, length-map (names_in (kept (series_form start) lines)) (λ name. (series_form start).record_of name (own_lines name (kept (series_form start) lines))))

pub few_entries : (start : ℤ) (lines : List Line) → sum_by (λ series. length series.entries) (series_of start lines) ≤ 1_000_000
unfolding series_form chain_records chain_names
few_entries start lines = few_sizes (series_form start) (λ series. length series.entries) (λ name. refl) (λ name own line. values_grow (axis_at start) (λ before line. series_pairs line) own line) lines

pub series_numbers : (start : ℤ) (lines : List Line) (name : List ℕ) (n : ℕ) → number_in (series_names start lines) name ≡ Some n → n < length (series_of start lines)
unfolding chain_records
series_numbers start lines name n e = let within = number_within (series_names start lines) name n e in
    omega (arith, within, length-map (series_names start lines) (λ name. (series_form start).record_of name (own_lines name (kept (series_form start) lines))))

not_series : (line : Line) → is_series_section line.section ≡ false → is_series_line line ≡ false
not_series line e = ap (λ b. b && not (is_long line)) e

pub series_faults_in : (start : ℤ) → FaultsIn is_series_section (series_fault start)
unfolding series_form
series_faults_in start = chain_faults_in (series_form start) is_series_section not_series

-- ---- curves
curve_paired : (own : List Line) (line : Line) → are_no_pairs (length line.tokens - curve_place own) ≡ false → are_no_pairs (length (curve_pairs own line)) ≡ false
curve_paired own line short = ap are_no_pairs (length-drop (curve_place own) line.tokens) ∙ short

-- the type of a curve stands on its first line
record IsTyped (own : List Line) : Type 0 where
  typed : 1 ≤ length own → (kind : CurveKind) × (kind_in own ≡ Some kind)

kind_there : (kind : Option CurveKind) → kind_fault kind ≡ None → (found : CurveKind) × (kind ≡ Some found)
kind_there None e = absurd (cc)
kind_there (Some kind) e = (kind, refl)

typed_push : (own : List Line) (line : Line) → IsTyped own → cond (is_first own) (kind_fault (kind_of (token_at line.tokens 1))) None ≡ None → IsTyped (own ++ line ∷ [])
typed_push [] line is none = record { typed = λ some. kind_there (kind_of (token_at line.tokens 1)) none }
typed_push (first ∷ own) line is none = record { typed = λ some. is.typed (omega arith) }

curve_step : (own : List Line) (line : Line) → AreGood (λ before line. Amounts) curve_pairs PointInRange own × IsTyped own → are_no_pairs (length line.tokens - curve_place own) ≡ false → curve_fault_in own line ≡ None → AreGood (λ before line. Amounts) curve_pairs PointInRange (own ++ line ∷ []) × IsTyped (own ++ line ∷ [])
curve_step own line good short none =
    let two = or_none (cond (is_first own) (kind_fault (kind_of (token_at line.tokens 1))) None) (pairs_fault Amounts (last_or None (xs_in own)) (curve_place own) (curve_pairs own line)) none in (
      good_push (λ before line. Amounts) curve_pairs PointInRange own line (curve_place own) (λ a b x y p q. record { x_in = amount_in a x p; y_in = amount_in b y q }) good.0 (curve_paired own line short) two.1,
      typed_push own line good.1 two.0,
    )

curve_good : (lines : List Line) → gather curve_fault [] lines ≡ [] → (name : List ℕ) → AreGood (λ before line. Amounts) curve_pairs PointInRange (own_lines name (kept curve_form lines)) × IsTyped (own_lines name (kept curve_form lines))
unfolding curve_form
curve_good lines none name = own_all curve_form (λ own. AreGood (λ before line. Amounts) curve_pairs PointInRange own × IsTyped own)
    (good_none (λ before line. Amounts) curve_pairs PointInRange, record { typed = λ some. absurd (omega (arith, some)) }) curve_step lines none name

or_else : (o : Option CurveKind) (kind : CurveKind) → o ≡ Some kind → unwrap_or o Storage ≡ kind
or_else o kind e = ap (λ o. unwrap_or o Storage) e

zip_some : {A B : Type 0} (P : A → Type 0) (Q : A → B → Type 0) (f : A → B) (xs : List A) → ((x : A) → P x → Q x (f x)) → Each P xs → AllZip Q xs (map f xs)
zip_some P Q f [] each all = tt
zip_some P Q f (x ∷ xs) each all = (each x all.0, zip_some P Q f xs each all.1)

pub curves_mean : (lines : List Line) → gather curve_fault [] lines ≡ [] → MeanCurves lines (curves_of lines)
unfolding curve_form chain_records chain_names
curves_mean lines none =
    let good = curve_good lines none in
    let each : (name : List ℕ) → 1 ≤ length (own_lines name (kept curve_form lines)) → IsCurve name (own_lines name (kept curve_form lines)) (curve_from name (own_lines name (kept curve_form lines))) =
    λ name some. let kind = (good name).1.typed some in record { name_is = refl; kind_is = kind.1 ∙ ap Some (sym (or_else (kind_in (own_lines name (kept curve_form lines))) kind.0 kind.1)); points_are = (good name).0.means } in
    subst (λ l. AllZip (λ name made. IsCurve name (own_lines name l) made) (names_in l) (curves_of lines)) (kept_whole curve_form lines none)
    (zip_some (λ name. 1 ≤ length (own_lines name (kept curve_form lines))) (λ name made. IsCurve name (own_lines name (kept curve_form lines)) made) (λ name. curve_from name (own_lines name (kept curve_form lines))) (names_in (kept curve_form lines)) each (own_some curve_form lines))

pub curves_one : (lines : List Line) (a b : List Curve) → MeanCurves lines a → MeanCurves lines b → a ≡ b
curves_one lines a b p q = zip_unique (λ name made. IsCurve name (own_lines name (filter is_curve_line lines)) made)
    (λ name r s h k. same_curve r s (h.name_is ∙ sym k.name_is) (let same : Some r.kind ≡ Some s.kind = sym h.kind_is ∙ k.kind_is in cc)
    (give_unique (λ before line. Amounts) curve_pairs [] (own_lines name (filter is_curve_line lines)) r.points s.points h.points_are k.points_are))
    (names_in (filter is_curve_line lines)) a b p q

pub curves_in_range : (lines : List Line) → gather curve_fault [] lines ≡ [] → All CurveInRange (curves_of lines)
unfolding curve_form chain_records chain_names
curves_in_range lines none =
    let good = curve_good lines none in
    all_map (λ name. 1 ≤ length (own_lines name (kept curve_form lines))) CurveInRange (λ name. curve_from name (own_lines name (kept curve_form lines))) (names_in (kept curve_form lines))
    (λ name some. record { some = (good name).0.some some; points_in = (good name).0.ranges; rising = (good name).0.rises.rising }) (own_some curve_form lines)

pub few_curves : (lines : List Line) → length (curves_of lines) ≤ RECORD_LIMIT
unfolding chain_records chain_names
few_curves lines = let few = few_names curve_form lines in
    omega (arith, few, length-map (names_in (kept curve_form lines)) (λ name. curve_form.record_of name (own_lines name (kept curve_form lines))))

pub few_points : (lines : List Line) → sum_by (λ curve. length curve.points) (curves_of lines) ≤ 1_000_000
unfolding curve_form chain_records chain_names
few_points lines = few_sizes curve_form (λ curve. length curve.points) (λ name. refl) (λ name own line. values_grow (λ before line. Amounts) curve_pairs own line) lines

-- the type in the state of a curve is that of the curve
kinds_at : (own : List ℕ → List Line) (names : List (List ℕ)) (n : ℕ) (kind : CurveKind) → get_or (map (λ state. state.kind) (map (λ name. curve_state (own name)) names)) n None ≡ Some kind → NamesCurve (map (λ name. curve_from name (own name)) names) n kind
kinds_at own [] n kind e = absurd (cc)
kinds_at own (name ∷ names) zero kind e = record { there = omega arith; kind_is = or_else (kind_in (own name)) kind e }
kinds_at own (name ∷ names) (suc n) kind e = let rest = kinds_at own names n kind e in
    let there = rest.there in record { there = omega (arith, there); kind_is = rest.kind_is }

pub curve_kinds_are : (lines : List Line) (n : ℕ) (kind : CurveKind) → get_or (map (λ state. state.kind) (curve_states lines)) n None ≡ Some kind → NamesCurve (curves_of lines) n kind
unfolding curve_form chain_records chain_states chain_names
curve_kinds_are lines n kind e = kinds_at (λ name. own_lines name (kept curve_form lines)) (names_in (kept curve_form lines)) n kind e

not_curve : (line : Line) → is_curve_section line.section ≡ false → is_curve_line line ≡ false
not_curve line e = ap (λ b. b && not (is_long line)) e

pub curve_faults_in : FaultsIn is_curve_section curve_fault
unfolding curve_form
curve_faults_in = chain_faults_in curve_form is_curve_section not_curve
