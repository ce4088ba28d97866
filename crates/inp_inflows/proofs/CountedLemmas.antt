-- Counted lines: their count along a walk over lines, what a line is read as, and what lines mean.
use Rattle.std.proofs.Common.{◌≡◌, ◌∷◌, [], ◌++◌, ◌+◌, ◌<◌, ◌≤◌, ◌&&◌, ℕ, true, false, cond, not, Bool, List, length, take}
use Rattle.std.proofs.Common.{get_or, nat_le, nat_lt, min, refl, ap, sym, subst, ◌∙◌, arith, length-append, filter, Result, Ok, Err}
use Rattle.std.specs.Bool.{⊤}
use Rattle.std.specs.List.{AllZip}
use Rattle.std.proofs.lemmas.Bool.Decides.{nat_tests}
use Rattle.std.proofs.lemmas.List.Elements.{filter-append}
use Rattle.fixed_num.specs.declared.constants.TheConstants.{RECORD_LIMIT}
use Rattle.net_types.specs.declared.faults.FaultKind.TheVariants.{OverLimit}
use Rattle.inp_lines.specs.declared.fault.Fault.{Fault}
use Rattle.inp_lines.specs.declared.line.Line.{Line}
use Rattle.inp_lines.specs.declared.line.SectionName.{SectionName}
use Rattle.inp_lines.specs.declared.names.Naming.TheVariants.{First}
use Rattle.inp_lines.specs.declared.reading.Reading.{Reading}
use Rattle.inp_lines.specs.declared.reading.Reading.TheVariants.{Other, Record, Faulty}
use Rattle.inp_lines.specs.Faults.{too_few_of, fault_of_kind}
use Rattle.inp_lines.specs.Gather.{gather, records_in, faults_in}
use Rattle.inp_lines.specs.Laws.{Gives}
use Rattle.inp_lines.specs.Readings.{is_long, and_then, reading_from}
use Rattle.inp_lines.specs.Sources.{FaultsIn, OneOn}
use Rattle.inp_lines.proofs.GatherLemmas.{line_push}
use Rattle.inp_lines.proofs.ZipLemmas.{zip_gathered, zip_unique}
use Rattle.inp_forms.specs.declared.item.Value.{Value}
use Rattle.inp_forms.specs.Context.{Context}
use Rattle.inp_forms.specs.Forms.{RowForm, row_reading}
use Rattle.inp_forms.specs.Items.{values_of}
use Rattle.inp_forms.specs.Meaning.{IsMade}
use Rattle.inp_forms.proofs.ItemLemmas.{values_mean, values_unique}
use Rattle.inp_inflows.specs.Counted.{CountedForm, MeanCounted, count_after, counted_at, counted_fault, counted_of, counted_reading}
use Rattle.inp_inflows.specs.Counted.{is_counted, is_full, is_line_of, is_short, reading_with}

-- the test of the limit on a count that ends at it
pub full_by_count : (n count : ℕ) → count ≡ min 20000 n → nat_le 20000 count ≡ nat_le 20000 n
full_by_count n count e = elim (nat_le 20000 n) as (λ b. nat_le 20000 n ≡ b → nat_le 20000 count ≡ b) [ true ↦ λ t. grind (arith, nat_tests) | false ↦ λ t. grind (arith, nat_tests) ] refl

-- the count after one more line
one_more : (n : ℕ) (yes : Bool) (line : Line) → min 20000 (n + length (cond yes (line ∷ []) [])) ≡ cond yes (min 20000 (min 20000 n + 1)) (min 20000 n)
one_more n true line = omega arith
one_more n false line = omega arith

-- records of these lines and of those before them
few_step : (k g n : ℕ) (line : Line) (full one : Bool) → nat_le 20000 n ≡ full → k ≤ cond full 0 (cond one 1 0) → g + min 20000 (n + length (cond one (line ∷ []) [])) ≤ 20000 → (k + g) + min 20000 n ≤ 20000
few_step k g n line true one e a b = let h : 20000 ≤ n = grind (arith, nat_tests) in omega (arith, h, a, b)
few_step k g n line false true e a b = let h : n < 20000 = grind (arith, nat_tests) in omega (arith, h, a, b)
few_step k g n line false false e a b = let h : n < 20000 = grind (arith, nat_tests) in omega (arith, h, a, b)

few_in : {R : Type 0} (reading : Reading R) → length (records_in reading) ≤ 1
few_in Other = omega arith
few_in (Record made) = omega arith
few_in (Faulty fault) = omega arith

one_of : {A : Type 0} (line : Line) (reading : Reading A) → OneOn line.number (faults_in line reading)
one_of line Other = tt
one_of line (Record value) = tt
one_of line (Faulty fault) = refl

module _ {R : Type 0} (form : CountedForm R) where
  -- the count of the records of lines, which ends at the limit
  abbrev pub counted : List Line → ℕ
  counted lines = min 20000 (length (filter (is_counted form) lines))

  pub count_next : (lines : List Line) (i : ℕ) (line : Line) → i < length lines → line ≡ get_or lines i line → counted (take (i + 1) lines) ≡ count_after form line (counted (take i lines))
  count_next lines i line h e =
      ap counted (line_push lines i line h e)
      ∙ (ap (λ (l : List Line). min 20000 (length l)) (filter-append (is_counted form) (take i lines) (line ∷ []))
      ∙ (ap (λ n. min 20000 n) (length-append (filter (is_counted form) (take i lines)) (filter (is_counted form) (line ∷ [])))
      ∙ one_more (length (filter (is_counted form) (take i lines))) (is_counted form line) line))

  module _ (known : Context) where
    -- a line gives a record only where it counts as one and there is room
    given_with : (line : Line) (full of_kind short : Bool) (rest : Reading R) → length (records_in (cond of_kind (cond short (Faulty (too_few_of line.tokens)) (cond full (Faulty (fault_of_kind OverLimit 0)) rest)) Other)) ≤ cond full 0 (cond (of_kind && not short) 1 0)
    given_with line true false short rest = omega arith
    given_with line false false short rest = omega arith
    given_with line true true true rest = omega arith
    given_with line false true true rest = omega arith
    given_with line true true false rest = omega arith
    given_with line false true false rest = few_in rest

    given_room : (before : List Line) (line : Line) → length (counted_at known form before line) ≤ cond (is_full form before) 0 (cond (is_counted form line) 1 0)
    unfolding counted_reading
    given_room before line = given_with line (is_full form before) (is_line_of form line) (is_short form line) (row_reading known First form.row line)

    few_more : (before lines : List Line) → length (gather (counted_at known form) before lines) + counted before ≤ 20000
    few_more before [] = omega arith
    few_more before (line ∷ lines) =
        let given = counted_at known form before line in
        let rest = gather (counted_at known form) (before ++ line ∷ []) lines in
        let n = length (filter (is_counted form) before) in
        let next : length rest + min 20000 (n + length (filter (is_counted form) (line ∷ []))) ≤ 20000 =
        subst (λ m. length rest + min 20000 m ≤ 20000) (ap (λ (l : List Line). length l) (filter-append (is_counted form) before (line ∷ [])) ∙ length-append (filter (is_counted form) before) (filter (is_counted form) (line ∷ []))) (few_more (before ++ line ∷ []) lines) in
        subst (λ m. m + min 20000 n ≤ 20000) (sym (length-append given rest))
        (few_step (length given) (length rest) n line (is_full form before) (is_counted form line) refl (given_room before line) next)

    pub few_counted : (lines : List Line) → length (counted_of known form lines) ≤ RECORD_LIMIT
    unfolding counted_of
    few_counted lines = let few = few_more [] lines in omega (arith, few)

    -- ---- faults
    no_kind : (full : Bool) (line : Line) (here : Bool) → form.is_of line.section ≡ here → here ≡ false → faults_in line (reading_with known form full line) ≡ []
    no_kind full line here e h = ap (λ b. faults_in line (cond (b && not (is_long line)) (cond (is_short form line) (Faulty (too_few_of line.tokens)) (cond full (Faulty (fault_of_kind OverLimit 0)) (row_reading known First form.row line))) Other)) (e ∙ h)

    pub faults_counted : FaultsIn form.is_of (counted_fault known form)
    unfolding counted_reading
    faults_counted = record {
      one = λ before line. one_of line (counted_reading known form before line);
      elsewhere = λ before line e. no_kind (is_full form before) line (form.is_of line.section) refl e;
    }

    -- ---- meaning
    Is : Line → R → Type 0
    Is line made = IsMade known form.row line.tokens made

    row_given : (line : Line) (r : Result (List Value) Fault) → values_of known First form.row.items line.tokens ≡ r → is_line_of form line ≡ true → faults_in line (reading_from (and_then r (λ values. Ok (form.row.make line.tokens values)))) ≡ [] → Gives Is (is_line_of form) line (records_in (reading_from (and_then r (λ values. Ok (form.row.make line.tokens values)))))
    unfolding Is
    row_given line (Ok values) e of_kind none = (of_kind, record { values = values; are = values_mean known First form.row.items line.tokens values e; made_is = refl })
    row_given line (Err fault) e of_kind none = absurd (cc)

    long_and : (a b : Bool) → (a && not b) ≡ true → b ≡ false
    long_and true true e = absurd (cc)
    long_and true false e = refl
    long_and false b e = absurd (cc)

    gives_row : (line : Line) → is_line_of form line ≡ true → faults_in line (row_reading known First form.row line) ≡ [] → Gives Is (is_line_of form) line (records_in (row_reading known First form.row line))
    unfolding row_reading
    gives_row line of_kind = go (is_long line) (long_and (form.is_of line.section) (is_long line) of_kind) where
      go : (long : Bool) → long ≡ false → faults_in line (cond long Other (reading_from (and_then (values_of known First form.row.items line.tokens) (λ values. Ok (form.row.make line.tokens values))))) ≡ [] → Gives Is (is_line_of form) line (records_in (cond long Other (reading_from (and_then (values_of known First form.row.items line.tokens) (λ values. Ok (form.row.make line.tokens values))))))
      go true e none = absurd (cc)
      go false e none = row_given line (values_of known First form.row.items line.tokens) refl of_kind none

    gives_with : (line : Line) (full of_kind short : Bool) → is_line_of form line ≡ of_kind → faults_in line (cond of_kind (cond short (Faulty (too_few_of line.tokens)) (cond full (Faulty (fault_of_kind OverLimit 0)) (row_reading known First form.row line))) Other) ≡ [] → Gives Is (is_line_of form) line (records_in (cond of_kind (cond short (Faulty (too_few_of line.tokens)) (cond full (Faulty (fault_of_kind OverLimit 0)) (row_reading known First form.row line))) Other))
    gives_with line full false short e none = e
    gives_with line full true true e none = absurd (cc)
    gives_with line true true false e none = absurd (cc)
    gives_with line false true false e none = gives_row line e none

    gives : (before : List Line) (line : Line) → counted_fault known form before line ≡ [] → Gives Is (is_line_of form) line (counted_at known form before line)
    unfolding counted_reading
    gives before line none = gives_with line (is_full form before) (is_line_of form line) (is_short form line) refl none

    pub counted_mean : (lines : List Line) → gather (counted_fault known form) [] lines ≡ [] → MeanCounted known form lines (counted_of known form lines)
    unfolding counted_of Is
    counted_mean lines none = zip_gathered Is (is_line_of form) (counted_at known form) (counted_fault known form) gives [] lines none

    made_unique : (line : Line) (a b : R) → IsMade known form.row line.tokens a → IsMade known form.row line.tokens b → a ≡ b
    made_unique line a b p q = p.made_is ∙ (ap (form.row.make line.tokens) (values_unique known form.row.items line.tokens p.values q.values p.are q.are) ∙ sym q.made_is)

    pub counted_mean_one : (lines : List Line) (a b : List R) → MeanCounted known form lines a → MeanCounted known form lines b → a ≡ b
    counted_mean_one lines a b p q = zip_unique (λ line made. IsMade known form.row line.tokens made) made_unique (filter (is_line_of form) lines) a b p q
