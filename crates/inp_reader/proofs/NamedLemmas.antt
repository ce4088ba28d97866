-- Records that are read by forms have the names that their lines define, which are new.
use Rattle.std.proofs.Common.{◌≡◌, ◌++◌, ◌∷◌, [], ◌≤◌, ◌<◌, ◌||◌, ◌+◌, ℕ, true, false, Bool, cond, nat_lt, nat_le, length, List, Option, Some, None}
use Rattle.std.proofs.Common.{Result, Ok, Err, refl, ap, sym, ◌∙◌, subst, arith, map, append-nil, append_assoc, length-append}
use Rattle.std.specs.Bool.{⊤}
use Rattle.std.proofs.lemmas.Bool.Decides.{nat_tests}
use Rattle.std.proofs.lemmas.List.{map-append, length-map}
use Rattle.inp_lines.specs.declared.fault.Fault.{Fault}
use Rattle.inp_lines.specs.declared.line.Line.{Line}
use Rattle.inp_lines.specs.declared.line.SectionName.{SectionName}
use Rattle.inp_lines.specs.declared.names.Naming.{Naming}
use Rattle.inp_lines.specs.declared.names.Naming.TheVariants.{First, Repeated, OverLimit}
use Rattle.inp_lines.specs.declared.reading.Reading.{Reading}
use Rattle.inp_lines.specs.declared.reading.Reading.TheVariants.{Other, Record, Faulty}
use Rattle.inp_lines.specs.Faults.{token_at, too_few_of}
use Rattle.inp_lines.specs.Gather.{gather, records_in, faults_in, reading_at, record_at, fault_at}
use Rattle.inp_lines.specs.Names.{is_repeat, with_first, with_name, firsts_after, defined, naming_of, naming_by, naming_among}
use Rattle.fixed_num.specs.declared.constants.TheConstants.{RECORD_LIMIT}
use Rattle.inp_lines.specs.Readings.{is_long, first_token, new_name_of, and_then, reading_from}
use Rattle.inp_lines.proofs.NameLemmas.{defined_none, defined_more, first_new}
use Rattle.inp_forms.specs.declared.item.Item.{Item}
use Rattle.inp_forms.specs.declared.item.Item.TheVariants.{Needed}
use Rattle.inp_forms.specs.declared.item.Value.{Value}
use Rattle.inp_forms.specs.declared.item.Value.TheVariants.{Nothing}
use Rattle.inp_forms.specs.declared.item.What.TheVariants.{Name}
use Rattle.inp_forms.specs.Context.{Context}
use Rattle.inp_forms.specs.Forms.{RowForm, Forms, form_name, form_reading, name_by, reading_by, row_name, row_reading}
use Rattle.inp_forms.specs.Items.{items_of, least_of, values_of}
use Rattle.inp_forms.specs.Laws.{MeanRecords}
use Rattle.inp_forms.specs.Values.{found_of, value_of}
use Rattle.inp_forms.proofs.FormLemmas.{forms_mean, forms_mean_one}

-- ---- names that are read one by one
-- how a reading stands to the name that its line gives: a record has it, and it is new
abbrev pub Named : {R : Type 0} → (R → List ℕ) → Option (List ℕ) → Naming → Reading R → Type 0
Named name_in name standing Other = name ≡ None
Named name_in name standing (Record r) = (name ≡ Some (name_in r)) × (standing ≡ First)
Named name_in name standing (Faulty fault) = ⊤

new_there : (held : List (List ℕ)) (name : List ℕ) → naming_among held name ≡ First → with_first held name ≡ held ++ name ∷ []
new_there held name h = step (is_repeat held name) refl h where
  room : (b : Bool) → nat_le RECORD_LIMIT (length held) ≡ b → cond b OverLimit First ≡ First → is_repeat held name ≡ false → with_first held name ≡ held ++ name ∷ []
  room true e f g = cc
  room false e f g = first_new held name g (grind (arith, nat_tests))

  step : (b : Bool) → is_repeat held name ≡ b → naming_by b (length held) ≡ First → with_first held name ≡ held ++ name ∷ []
  step true e f = cc
  step false e f = room (nat_le RECORD_LIMIT (length held)) refl f e

name_added : {R : Type 0} (name_in : R → List ℕ) (held : List (List ℕ)) (line : Line) (name : Option (List ℕ)) (reading : Reading R) → Named name_in name (naming_of held name) reading → faults_in line reading ≡ [] → with_name held name ≡ held ++ map name_in (records_in reading)
name_added name_in held line name Other n h = ap (with_name held) n ∙ sym (append-nil held)
name_added name_in held line name (Record r) n h = ap (with_name held) n.0 ∙ new_there held (name_in r) (ap (naming_of held) (sym n.0) ∙ n.1)
name_added name_in held line name (Faulty fault) n h = cc

no_left : {A : Type 0} (xs ys : List A) → xs ++ ys ≡ [] → xs ≡ []
no_left [] ys h = refl
no_left (x ∷ xs) ys h = cc

no_right : {A : Type 0} (xs ys : List A) → xs ++ ys ≡ [] → ys ≡ []
no_right [] ys h = h
no_right (x ∷ xs) ys h = cc

module _ {R : Type 0} (name_of : Line → Option (List ℕ)) (reading_of : Naming → Line → Reading R) (name_in : R → List ℕ) (named : (standing : Naming) (line : Line) → Named name_in (name_of line) standing (reading_of standing line)) where
  names_after : (before lines : List Line) → gather (fault_at name_of reading_of) before lines ≡ [] → defined name_of (before ++ lines) ≡ defined name_of before ++ map name_in (gather (record_at name_of reading_of) before lines)
  names_after before [] h = ap (λ l. defined name_of l) (append-nil before) ∙ sym (append-nil (defined name_of before))
  names_after before (line ∷ lines) h =
      let held = defined name_of before in
      let reading = reading_at name_of reading_of before line in
      let here = faults_in line reading in
      let behind = gather (record_at name_of reading_of) (before ++ line ∷ []) lines in
      ap (λ l. defined name_of l) (sym (append_assoc before (line ∷ []) lines))
      ∙ (names_after (before ++ line ∷ []) lines (no_right here (gather (fault_at name_of reading_of) (before ++ line ∷ []) lines) h)
      ∙ (ap (λ l. l ++ map name_in behind) (defined_more name_of before line ∙ name_added name_in held line (name_of line) reading (named (naming_of held (name_of line)) line) (no_left here (gather (fault_at name_of reading_of) (before ++ line ∷ []) lines) h))
      ∙ (append_assoc held (map name_in (records_in reading)) (map name_in behind)
      ∙ ap (λ l. held ++ l) (sym (map-append name_in (records_in reading) behind)))))

  -- where no line is at fault, the records have the names that the lines define, in their order
  pub names_gathered : (lines : List Line) → gather (fault_at name_of reading_of) [] lines ≡ [] → map name_in (gather (record_at name_of reading_of) [] lines) ≡ defined name_of lines
  names_gathered lines h = sym (names_after [] lines h ∙ ap (λ l. l ++ map name_in (gather (record_at name_of reading_of) [] lines)) (defined_none name_of))

-- ---- forms whose lines begin with the name that they define
pub record BeginsWithName {R : Type 0} (name_in : R → List ℕ) (form : RowForm R) : Type 0 where
  pub rest : List Item
  pub items_are : form.items ≡ Needed Name ∷ rest
  pub name_is : (tokens : List (List ℕ)) (values : List Value) → name_in (form.make tokens values) ≡ token_at tokens 0

abbrev pub AllBegin : {R : Type 0} → (R → List ℕ) → Option (List (List ℕ) → RowForm R) → Type 0
AllBegin name_in None = ⊤
AllBegin name_in (Some form) = (tokens : List (List ℕ)) → BeginsWithName name_in (form tokens)

name_first : (least : ℕ) (tokens : List (List ℕ)) → 1 ≤ least → nat_lt (length tokens) least ≡ false → first_token tokens ≡ Some (token_at tokens 0)
name_first least [] some h = let none : least ≤ 0 = grind (arith, nat_tests) in absurd (omega (arith, some, none))
name_first least (token ∷ tokens) some h = refl

row_named : {R : Type 0} (known : Context) (standing : Naming) (name_in : R → List ℕ) (rest : List Item) (make : List (List ℕ) → List Value → R) (line : Line)
    → ((values : List Value) → name_in (make line.tokens values) ≡ token_at line.tokens 0)
    → Named name_in (row_name (record { items = Needed Name ∷ rest; make = make }) line) standing (row_reading known standing (record { items = Needed Name ∷ rest; make = make }) line)
unfolding row_reading values_of items_of value_of found_of
row_named {R} known standing name_in rest make line name = go standing (is_long line) (nat_lt (length line.tokens) (least_of (Needed Name ∷ rest))) refl where
  values : Naming → Result (List Value) Fault
  values s = items_of known s rest line.tokens 1

  ended : (r : Result (List Value) Fault) → nat_lt (length line.tokens) (least_of (Needed Name ∷ rest)) ≡ false
      → Named name_in (first_token line.tokens) First (reading_from (and_then (and_then r (λ values. Ok (Nothing ∷ values))) (λ values. Ok (make line.tokens values))))
  ended (Ok more) e = (name_first (least_of (Needed Name ∷ rest)) line.tokens (omega arith) e ∙ ap (λ n. Some n) (sym (name (Nothing ∷ more))), refl)
  ended (Err fault) e = tt

  go : (s : Naming) (long short : Bool) → nat_lt (length line.tokens) (least_of (Needed Name ∷ rest)) ≡ short
      → Named name_in (cond long None (cond short None (first_token line.tokens))) s
      (cond long Other (reading_from (and_then (cond short (Err (too_few_of line.tokens)) (and_then (and_then (new_name_of s) (λ _. Ok Nothing)) (λ value.
      and_then (values s) (λ values. Ok (value ∷ values))))) (λ values. Ok (make line.tokens values)))))
  go s true short e = refl
  go s false true e = tt
  go First false false e = ended (values First) e
  go Repeated false false e = tt
  go OverLimit false false e = tt

form_row_named : {R : Type 0} (known : Context) (standing : Naming) (name_in : R → List ℕ) (form : RowForm R) (line : Line) → BeginsWithName name_in form
    → Named name_in (row_name form line) standing (row_reading known standing form line)
form_row_named {R} known standing name_in form line is =
    let P : List Item → Type 0 = λ items. Named name_in (row_name (record { items = items; make = form.make }) line) standing (row_reading known standing (record { items = items; make = form.make }) line) in
    subst P (sym is.items_are) (row_named known standing name_in is.rest form.make line (is.name_is line.tokens))

by_named : {R : Type 0} (known : Context) (standing : Naming) (name_in : R → List ℕ) (o : Option (List (List ℕ) → RowForm R)) (line : Line) → AllBegin name_in o
    → Named name_in (name_by o line) standing (reading_by known standing o line)
by_named known standing name_in None line is = refl
by_named known standing name_in (Some form) line is = form_row_named known standing name_in (form line.tokens) line (is line.tokens)

pub form_named : {R : Type 0} (known : Context) (forms : Forms R) (name_in : R → List ℕ) → ((name : SectionName) → AllBegin name_in (forms name)) → (standing : Naming) (line : Line)
    → Named name_in (form_name forms line) standing (form_reading known forms standing line)
form_named known forms name_in begin standing line = by_named known standing name_in (forms line.section) line (begin line.section)

-- lines without a fault mean as many records as they define names
pub as_many : {R : Type 0} (known : Context) (forms : Forms R) (name_in : R → List ℕ) → ((name : SectionName) → AllBegin name_in (forms name)) → (lines : List Line)
    → gather (fault_at (form_name forms) (form_reading known forms)) [] lines ≡ [] → (records : List R) → MeanRecords known forms lines records
    → length records ≡ length (defined (form_name forms) lines)
as_many {R} known forms name_in begin lines none records mean =
    let read = gather (record_at (form_name forms) (form_reading known forms)) [] lines in
    ap (λ (l : List R). length l) (forms_mean_one known forms lines records read mean (forms_mean known forms lines none))
    ∙ (sym (length-map read name_in) ∙ ap (λ (l : List (List ℕ)). length l) (names_gathered (form_name forms) (form_reading known forms) name_in (form_named known forms name_in begin) lines none))

-- ---- lines define at most as many names as may be
first_few : (held : List (List ℕ)) (name : List ℕ) → length held ≤ RECORD_LIMIT → length (with_first held name) ≤ RECORD_LIMIT
unfolding with_first
first_few held name h = step (is_repeat held name) (nat_le RECORD_LIMIT (length held)) refl where
  step : (b c : Bool) → nat_le RECORD_LIMIT (length held) ≡ c → length (cond (b || c) held (held ++ name ∷ [])) ≤ RECORD_LIMIT
  step true c e = h
  step false true e = h
  step false false e = let room : length held < RECORD_LIMIT = grind (arith, nat_tests) in omega (arith, length-append held (name ∷ []), room)

firsts_few : (held names : List (List ℕ)) → length held ≤ RECORD_LIMIT → length (firsts_after held names) ≤ RECORD_LIMIT
unfolding firsts_after
firsts_few held [] h = h
firsts_few held (name ∷ names) h = firsts_few (with_first held name) names (first_few held name h)

pub defined_few : (name_of : Line → Option (List ℕ)) (lines : List Line) → length (defined name_of lines) ≤ RECORD_LIMIT
defined_few name_of lines = firsts_few [] _ (omega arith)
