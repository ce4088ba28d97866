-- What patterns without a fault mean, and that they are sound.
use Rattle.std.proofs.Common.{◌≡◌, ◌∷◌, ◌++◌, [], ◌≤◌, ◌<◌, length, ℕ, zero, suc, ◌+◌, ◌-◌, ◌&&◌, List, false, not, cond}
use Rattle.std.proofs.Common.{Option, Some, None, refl, ap, sym, ◌∙◌, subst, arith, ℤ, map, filter, filter_map, length-append}
use Rattle.std.specs.Bool.{⊤}
use Rattle.std.specs.List.{All, AllZip, cons_option}
use Rattle.std.specs.Option.{option_map, option_or, unwrap_or}
use Rattle.std.proofs.lemmas.List.{length-map}
use Rattle.std.proofs.lemmas.List.Elements.{All-nil, All-cons, filter_map-append}
use Rattle.std.proofs.lemmas.Slice.Zip.{AllZip-long}
use Rattle.fixed_num.specs.declared.constants.TheConstants.{RECORD_LIMIT}
use Rattle.fixed_num.specs.Decimal.{IsStored}
use Rattle.fixed_num.specs.Ranges.{IsCoefficient}
use Rattle.fixed_num.proofs.DecimalLemmas.{IsStored-scaled_of, IsStored-unique}
use Rattle.net_types.specs.declared.options.FlowUnits.TheVariants.{Cms}
use Rattle.net_types.specs.declared.tables.Pattern.{Pattern}
use Rattle.net_types.specs.declared.tables.PatternKind.{PatternKind}
use Rattle.net_types.specs.declared.tables.PatternKind.TheVariants.{Monthly}
use Rattle.net_types.specs.Ranges.{PatternInRange, most_factors}
use Rattle.inp_values.specs.declared.quantities.Quantity.TheVariants.{Coefficient}
use Rattle.inp_values.specs.Units.{unit_for}
use Rattle.inp_lines.specs.declared.line.Line.{Line}
use Rattle.inp_lines.specs.Faults.{token_at}
use Rattle.inp_lines.specs.Gather.{gather}
use Rattle.inp_lines.specs.Names.{number_in}
use Rattle.inp_lines.specs.Readings.{is_long}
use Rattle.inp_lines.specs.Sources.{FaultsIn}
use Rattle.inp_lines.proofs.NameLemmas.{number_within}
use Rattle.inp_lines.proofs.ZipLemmas.{zip_unique}
use Rattle.inp_lists.specs.Chains.{chain_names, chain_records, kept, names_in, own_lines}
use Rattle.inp_lists.proofs.FaultlessLemmas.{Each, all_map, chain_faults_in, few_names, kept_whole, own_all, own_some}
use Rattle.inp_series.specs.CurveLines.{is_first}
use Rattle.inp_series.specs.PatternLines.{factor_fault, factor_items, factor_of, factors_fault, factors_left, is_pattern_line, is_pattern_section}
use Rattle.inp_series.specs.PatternLines.{items_in, kind_with, pattern_fault, pattern_fault_in, pattern_form, pattern_from, pattern_kind_fault}
use Rattle.inp_series.specs.PatternLines.{pattern_kind_in, pattern_kind_of, pattern_names, pattern_place, patterns_of, value_fault}
use Rattle.inp_series.specs.Meaning.{IsPattern, MeanPatterns}
use Rattle.inp_series.proofs.SameLemmas.{same_pattern}
use Rattle.inp_series.proofs.PushLemmas.{items_push, pattern_kind_push}

or_none : {A : Type 0} (a b : Option A) → option_or a b ≡ None → (a ≡ None) × (b ≡ None)
or_none None b e = (refl, e)
or_none (Some a) b e = absurd (cc)

-- ---- factors without a fault
abbrev AreFactors : List (List ℕ) → List ℤ → Type 0
AreFactors items factors = AllZip (IsStored (unit_for Cms Coefficient)) items factors

abbrev HaveRoom : Option ℕ → ℕ → Type 0
HaveRoom None count = ⊤
HaveRoom (Some left) count = count ≤ left

factor_there : (left : Option ℕ) (place : ℕ) (text : List ℕ) → factor_fault left place text ≡ None → (value : ℤ) × (factor_of text ≡ Some value) × HaveRoom left 1
factor_there (Some zero) place text none = absurd (cc)
factor_there (Some (suc left)) place text none = go (factor_of text) refl where
  go : (o : Option ℤ) → factor_of text ≡ o → (value : ℤ) × (factor_of text ≡ Some value) × HaveRoom (Some (suc left)) 1
  go None e = absurd (let bad = sym (ap (value_fault place) e) ∙ none in cc)
  go (Some value) e = (value, e, omega arith)
factor_there None place text none = go (factor_of text) refl where
  go : (o : Option ℤ) → factor_of text ≡ o → (value : ℤ) × (factor_of text ≡ Some value) × HaveRoom None 1
  go None e = absurd (let bad = sym (ap (value_fault place) e) ∙ none in cc)
  go (Some value) e = (value, e, tt)

more_room : (left : Option ℕ) (count : ℕ) → HaveRoom left 1 → HaveRoom (option_map (λ n. n - 1) left) count → HaveRoom left (count + 1)
more_room None count one room = tt
more_room (Some left) count one room = omega (arith, one, room)

factors_good : (left : Option ℕ) (place : ℕ) (items : List (List ℕ)) → factors_fault left place items ≡ None → AreFactors items (filter_map factor_of items) × HaveRoom left (length items)
factors_good None place [] none = (tt, tt)
factors_good (Some left) place [] none = (tt, omega arith)
factors_good left place (text ∷ items) none =
    let two = or_none (factor_fault left place text) (factors_fault (option_map (λ n. n - 1) left) (place + 1) items) none in
    let one = factor_there left place text two.0 in
    let rest = factors_good (option_map (λ n. n - 1) left) (place + 1) items two.1 in
    let split : filter_map factor_of (text ∷ items) ≡ one.0 ∷ filter_map factor_of items = ap (λ o. cons_option o (filter_map factor_of items)) one.1 in
    (subst (AreFactors (text ∷ items)) (sym split) (IsStored-scaled_of one.1, rest.0), subst (HaveRoom left) (omega arith) (more_room left (length items) one.2 rest.1))

zip_append : {A B : Type 0} (R : A → B → Type 0) (xs ys : List A) (us vs : List B) → AllZip R xs us → AllZip R ys vs → AllZip R (xs ++ ys) (us ++ vs)
zip_append R [] ys [] vs p q = q
zip_append R [] ys (u ∷ us) vs p q = absurd p
zip_append R (x ∷ xs) ys [] vs p q = absurd p
zip_append R (x ∷ xs) ys (u ∷ us) vs p q = (p.0, zip_append R xs ys us vs p.1 q)

-- what the lines of a name without a fault give
record IsGood (own : List Line) : Type 0 where
  factors : AreFactors (items_in own) (filter_map factor_of (items_in own))
  few : (kind : PatternKind) → pattern_kind_in own ≡ Some kind → length (items_in own) ≤ most_factors kind
  typed : 1 ≤ length own → (kind : PatternKind) × (pattern_kind_in own ≡ Some kind)

good_none : IsGood []
good_none = record { factors = tt; few = λ kind e. omega arith; typed = λ some. absurd (omega (arith, some)) }

there : (kind : Option PatternKind) → pattern_kind_fault kind ≡ None → (found : PatternKind) × (kind ≡ Some found)
there None e = absurd (cc)
there (Some kind) e = (kind, refl)

typed_with : (own : List Line) (line : Line) → IsGood own → cond (is_first own) (pattern_kind_fault (kind_with own line)) None ≡ None → (kind : PatternKind) × (kind_with own line ≡ Some kind)
typed_with [] line good none = there (pattern_kind_of (token_at line.tokens 1)) none
typed_with (first ∷ own) line good none = good.typed (omega arith)

-- before the first line there are no factors; a later line is of the same type
few_before : (own : List Line) (line : Line) (kind : PatternKind) → IsGood own → kind_with own line ≡ Some kind → length (items_in own) ≤ most_factors kind
few_before [] line kind good e = omega arith
few_before (first ∷ own) line kind good e = good.few kind e

room_left : (kind : PatternKind) (count more : ℕ) → count ≤ most_factors kind → more ≤ most_factors kind - count → count + more ≤ most_factors kind
room_left kind count more few room = omega (arith, few, room)

good_push : (own : List Line) (line : Line) → IsGood own → pattern_fault_in own line ≡ None → IsGood (own ++ line ∷ [])
good_push own line good none =
    let two = or_none (cond (is_first own) (pattern_kind_fault (kind_with own line)) None) (factors_fault (factors_left (kind_with own line) (length (items_in own))) (pattern_place own) (factor_items own line)) none in
    let here = factors_good (factors_left (kind_with own line) (length (items_in own))) (pattern_place own) (factor_items own line) two.1 in
    let typed = typed_with own line good two.0 in
    let kind_is = pattern_kind_push own line in
    let items = items_push own line in
    let values : filter_map factor_of (items_in (own ++ line ∷ [])) ≡ filter_map factor_of (items_in own) ++ filter_map factor_of (factor_items own line) = ap (filter_map factor_of) items ∙ filter_map-append factor_of (items_in own) (factor_items own line) in
    let room : length (factor_items own line) ≤ most_factors typed.0 - length (items_in own) = subst (λ o. HaveRoom (factors_left o (length (items_in own))) (length (factor_items own line))) typed.1 here.1 in
    let whole : length (items_in (own ++ line ∷ [])) ≤ most_factors typed.0 = subst (λ n. n ≤ most_factors typed.0) (sym (ap length items ∙ length-append (items_in own) (factor_items own line))) (room_left typed.0 (length (items_in own)) (length (factor_items own line)) (few_before own line typed.0 good typed.1) room) in
    record {
      factors = subst (λ l. AreFactors l (filter_map factor_of (items_in (own ++ line ∷ [])))) (sym items) (subst (AreFactors (items_in own ++ factor_items own line)) (sym values)
          (zip_append (IsStored (unit_for Cms Coefficient)) (items_in own) (factor_items own line) (filter_map factor_of (items_in own)) (filter_map factor_of (factor_items own line)) good.factors here.0));
      few = λ kind e. (let same : Some typed.0 ≡ Some kind = sym typed.1 ∙ (sym kind_is ∙ e) in let is : typed.0 ≡ kind = cc in subst (λ k. length (items_in (own ++ line ∷ [])) ≤ most_factors k) is whole);
      typed = λ some. (typed.0, kind_is ∙ typed.1);
    }

pattern_good : (lines : List Line) → gather pattern_fault [] lines ≡ [] → (name : List ℕ) → IsGood (own_lines name (kept pattern_form lines))
unfolding pattern_form
pattern_good lines none name = own_all pattern_form IsGood good_none (λ own line good short fault. good_push own line good fault) lines none name

or_else : (o : Option PatternKind) (kind : PatternKind) → o ≡ Some kind → unwrap_or o Monthly ≡ kind
or_else o kind e = ap (λ o. unwrap_or o Monthly) e

zip_some : {A B : Type 0} (P : A → Type 0) (Q : A → B → Type 0) (f : A → B) (xs : List A) → ((x : A) → P x → Q x (f x)) → Each P xs → AllZip Q xs (map f xs)
zip_some P Q f [] each all = tt
zip_some P Q f (x ∷ xs) each all = (each x all.0, zip_some P Q f xs each all.1)

pub patterns_mean : (lines : List Line) → gather pattern_fault [] lines ≡ [] → MeanPatterns lines (patterns_of lines)
unfolding pattern_form chain_records chain_names
patterns_mean lines none =
    let good = pattern_good lines none in
    let each : (name : List ℕ) → 1 ≤ length (own_lines name (kept pattern_form lines)) → IsPattern name (own_lines name (kept pattern_form lines)) (pattern_from name (own_lines name (kept pattern_form lines))) =
    λ name some. let kind = (good name).typed some in record { name_is = refl; kind_is = kind.1 ∙ ap Some (sym (or_else (pattern_kind_in (own_lines name (kept pattern_form lines))) kind.0 kind.1)); factors_are = (good name).factors } in
    subst (λ l. AllZip (λ name made. IsPattern name (own_lines name l) made) (names_in l) (patterns_of lines)) (kept_whole pattern_form lines none)
    (zip_some (λ name. 1 ≤ length (own_lines name (kept pattern_form lines))) (λ name made. IsPattern name (own_lines name (kept pattern_form lines)) made) (λ name. pattern_from name (own_lines name (kept pattern_form lines))) (names_in (kept pattern_form lines)) each (own_some pattern_form lines))

pub patterns_one : (lines : List Line) (a b : List Pattern) → MeanPatterns lines a → MeanPatterns lines b → a ≡ b
patterns_one lines a b p q = zip_unique (λ name made. IsPattern name (own_lines name (filter is_pattern_line lines)) made)
    (λ name r s h k. same_pattern r s (h.name_is ∙ sym k.name_is) (let same : Some r.kind ≡ Some s.kind = sym h.kind_is ∙ k.kind_is in cc)
    (zip_unique (IsStored (unit_for Cms Coefficient)) (λ text x y u v. IsStored-unique (unit_for Cms Coefficient) text x y u v) (items_in (own_lines name (filter is_pattern_line lines))) r.factors6 s.factors6 h.factors_are k.factors_are))
    (names_in (filter is_pattern_line lines)) a b p q

factors_in : (items : List (List ℕ)) (factors : List ℤ) → AreFactors items factors → All IsCoefficient factors
unfolding unit_for
factors_in [] [] are = All-nil IsCoefficient
factors_in [] (factor ∷ factors) are = absurd are
factors_in (text ∷ items) [] are = absurd are
factors_in (text ∷ items) (factor ∷ factors) are = All-cons IsCoefficient factor factors are.0.range (factors_in items factors are.1)

pub patterns_in_range : (lines : List Line) → gather pattern_fault [] lines ≡ [] → All PatternInRange (patterns_of lines)
unfolding pattern_form chain_records chain_names
patterns_in_range lines none =
    let good = pattern_good lines none in
    all_map (λ name. 1 ≤ length (own_lines name (kept pattern_form lines))) PatternInRange (λ name. pattern_from name (own_lines name (kept pattern_form lines))) (names_in (kept pattern_form lines))
    (λ name some. (let kind = (good name).typed some in
    let long = AllZip-long (IsStored (unit_for Cms Coefficient)) (items_in (own_lines name (kept pattern_form lines))) (filter_map factor_of (items_in (own_lines name (kept pattern_form lines)))) (good name).factors in
    let few = (good name).few kind.0 kind.1 in
    record {
      few = subst (λ k. length (filter_map factor_of (items_in (own_lines name (kept pattern_form lines)))) ≤ most_factors k) (sym (or_else (pattern_kind_in (own_lines name (kept pattern_form lines))) kind.0 kind.1)) (omega (arith, long, few));
      factors_in = factors_in (items_in (own_lines name (kept pattern_form lines))) (filter_map factor_of (items_in (own_lines name (kept pattern_form lines)))) (good name).factors;
    })) (own_some pattern_form lines)

pub few_patterns : (lines : List Line) → length (patterns_of lines) ≤ RECORD_LIMIT
unfolding chain_records chain_names
few_patterns lines = let few = few_names pattern_form lines in
    omega (arith, few, length-map (names_in (kept pattern_form lines)) (λ name. pattern_form.record_of name (own_lines name (kept pattern_form lines))))

pub pattern_numbers : (lines : List Line) (name : List ℕ) (n : ℕ) → number_in (pattern_names lines) name ≡ Some n → n < length (patterns_of lines)
unfolding chain_records
pattern_numbers lines name n e = let within = number_within (pattern_names lines) name n e in
    omega (arith, within, length-map (pattern_names lines) (λ name. pattern_form.record_of name (own_lines name (kept pattern_form lines))))

not_pattern : (line : Line) → is_pattern_section line.section ≡ false → is_pattern_line line ≡ false
not_pattern line e = ap (λ b. b && not (is_long line)) e

pub pattern_faults_in : FaultsIn is_pattern_section pattern_fault
unfolding pattern_form
pattern_faults_in = chain_faults_in pattern_form is_pattern_section not_pattern
