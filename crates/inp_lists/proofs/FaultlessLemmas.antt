-- Lines of a kind without faults, and how many names and pairs lines have.
use Rattle.std.proofs.Common.{◌≡◌, ◌∷◌, ◌++◌, [], ◌≤◌, ◌<◌, length, ℕ, ◌+◌, List, Bool, true, false, not}
use Rattle.std.proofs.Common.{cond, Option, Some, None, refl, ap, ap₂, sym, ◌∙◌, arith, subst, ◌||◌, ◌&&◌, map, filter}
use Rattle.std.proofs.Common.{bytes_eq, append_assoc, append-nil, length-append, sum_by, is_some, nat_le}
use Rattle.std.specs.Bool.{⊤}
use Rattle.std.specs.List.{All, AllZip}
use Rattle.std.proofs.lemmas.Bool.Decides.{nat_tests}
use Rattle.std.proofs.lemmas.List.{map-append, length-map}
use Rattle.std.proofs.lemmas.List.Elements.{filter-append, All-nil, All-cons}
use Rattle.std.proofs.lemmas.List.Sums.{sum_by-cons, sum_by_push, sum_by-set}
use Rattle.std.proofs.lemmas.Slice.Eq.{bytes_eq-Decides}
use Rattle.fixed_num.specs.declared.constants.TheConstants.{RECORD_LIMIT}
use Rattle.net_types.specs.declared.faults.LineFault.{LineFault}
use Rattle.inp_lines.specs.declared.fault.Fault.{Fault}
use Rattle.inp_lines.specs.declared.line.Line.{Line}
use Rattle.inp_lines.specs.declared.line.SectionName.{SectionName}
use Rattle.inp_lines.specs.Sources.{FaultsIn, OneOn}
use Rattle.inp_lines.specs.Gather.{gather, fault_found, walk_fault}
use Rattle.inp_lines.specs.Names.{is_repeat, naming_among, number_in, with_first}
use Rattle.inp_lines.proofs.NameLemmas.{first_known, first_full, first_new, placed_any}
use Rattle.inp_lists.specs.Chains.{ChainForm, chain_fault, counts, fault_in, is_over, kept, line_name, most_pairs}
use Rattle.inp_lists.specs.Chains.{names_in, own_lines, size_in}
use Rattle.inp_lists.specs.Holding.{AreNamed, IsApart}
use Rattle.inp_lists.proofs.PlaceLemmas.{room_first, set_number, at_number, map_other}
use Rattle.inp_lists.proofs.ChainLemmas.{IsCounted, counted_in, kept_by, kept_counted, kept_named, kept_none, kept_other}
use Rattle.inp_lists.proofs.ChainLemmas.{fault_other, fault_same, names_none, names_push, named_none, named_push, own_other, own_push, own_same, size_none, size_push}

left_nil : {A : Type 0} (xs ys : List A) → xs ++ ys ≡ [] → xs ≡ []
left_nil [] ys h = refl
left_nil (x ∷ xs) ys h = cc

right_nil : {A : Type 0} (xs ys : List A) → xs ++ ys ≡ [] → ys ≡ []
right_nil [] ys h = h
right_nil (x ∷ xs) ys h = cc

none_found : (line : Line) (fault : Option Fault) → fault_found line fault ≡ [] → fault ≡ None
none_found line None h = refl
none_found line (Some fault) h = absurd (cc)

module _ {R S : Type 0} (form : ChainForm R S) where
  -- one line without a fault
  faultless_line : (before : List Line) (line : Line) → form.is_of line ≡ true → walk_fault (chain_fault form) before line ≡ [] → fault_in form (kept form before) line ≡ None
  faultless_line before line e h = sym (fault_same form before line e) ∙ none_found line (chain_fault form before line) h

  kept_line : (before : List Line) (line : Line) → form.is_of line ≡ true → walk_fault (chain_fault form) before line ≡ [] → kept form (before ++ line ∷ []) ≡ kept form before ++ line ∷ []
  kept_line before line e h = kept_counted form before line None e (sym (faultless_line before line e h))

  line_good : (before : List Line) (line : Line) → form.is_of line ≡ true → walk_fault (chain_fault form) before line ≡ [] → IsCounted form (own_lines (line_name line) (kept form before)) (naming_among (names_in (kept form before)) (line_name line)) (size_in form (kept form before)) line None
  line_good before line e h = counted_in form (kept form before) line None (sym (faultless_line before line e h)) refl

  whole_from : (before lines : List Line) → kept form before ≡ filter form.is_of before → gather (walk_fault (chain_fault form)) before lines ≡ [] → kept form (before ++ lines) ≡ filter form.is_of (before ++ lines)
  whole_from before [] same none = subst (λ l. kept form l ≡ filter form.is_of l) (sym (append-nil before)) same
  whole_from before (line ∷ lines) same none =
      subst (λ l. kept form l ≡ filter form.is_of l) (append_assoc before (line ∷ []) lines)
      (whole_from (before ++ line ∷ []) lines (next (form.is_of line) refl) (right_nil (walk_fault (chain_fault form) before line) (gather (walk_fault (chain_fault form)) (before ++ line ∷ []) lines) none)) where
        here : walk_fault (chain_fault form) before line ≡ []
        here = left_nil (walk_fault (chain_fault form) before line) (gather (walk_fault (chain_fault form)) (before ++ line ∷ []) lines) none

        pushed : (b : Bool) → form.is_of line ≡ b → filter form.is_of (before ++ line ∷ []) ≡ filter form.is_of before ++ cond b (line ∷ []) []
        pushed b e = filter-append form.is_of before (line ∷ []) ∙ ap (λ b. filter form.is_of before ++ cond b (line ∷ []) []) e

        next : (b : Bool) → form.is_of line ≡ b → kept form (before ++ line ∷ []) ≡ filter form.is_of (before ++ line ∷ [])
        next true e = kept_line before line e here ∙ (ap (λ l. l ++ line ∷ []) same ∙ sym (pushed true e))
        next false e = kept_other form before line e ∙ (same ∙ (sym (append-nil (filter form.is_of before)) ∙ sym (pushed false e)))

  -- where no line is at fault, all lines of the kind count
  pub kept_whole : (lines : List Line) → gather (walk_fault (chain_fault form)) [] lines ≡ [] → kept form lines ≡ filter form.is_of lines
  kept_whole lines none = whole_from [] lines (kept_none form) none

  own_from : (P : List Line → Type 0) → ((own : List Line) (line : Line) → P own → form.is_short own line ≡ false → form.item_fault own line ≡ None → P (own ++ line ∷ [])) → (before lines : List Line) → gather (walk_fault (chain_fault form)) before lines ≡ [] → ((name : List ℕ) → P (own_lines name (kept form before))) → (name : List ℕ) → P (own_lines name (kept form (before ++ lines)))
  own_from P step before [] none all = subst (λ l. (name : List ℕ) → P (own_lines name (kept form l))) (sym (append-nil before)) all
  own_from P step before (line ∷ lines) none all =
      subst (λ l. (name : List ℕ) → P (own_lines name (kept form l))) (append_assoc before (line ∷ []) lines)
      (own_from P step (before ++ line ∷ []) lines (right_nil (walk_fault (chain_fault form) before line) (gather (walk_fault (chain_fault form)) (before ++ line ∷ []) lines) none) (next (form.is_of line) refl)) where
        here : walk_fault (chain_fault form) before line ≡ []
        here = left_nil (walk_fault (chain_fault form) before line) (gather (walk_fault (chain_fault form)) (before ++ line ∷ []) lines) none

        pushed : form.is_of line ≡ true → (name : List ℕ) (b : Bool) → bytes_eq name (line_name line) ≡ b → P (own_lines name (kept form before ++ line ∷ []))
        pushed e name false f = subst P (sym (own_other name (kept form before) line f)) (all name)
        pushed e name true f = let same : name ≡ line_name line = (bytes_eq-Decides name (line_name line)).0 f in
            let good = line_good before line e here in
            let own = own_lines (line_name line) (kept form before) in
            let more : P (own ++ line ∷ []) = step own line (all (line_name line)) good.enough (sym good.fault_is) in
            subst P (sym (own_same name (kept form before) line same)) (subst (λ n. P (own_lines n (kept form before) ++ line ∷ [])) (sym same) more)

        next : (b : Bool) → form.is_of line ≡ b → (name : List ℕ) → P (own_lines name (kept form (before ++ line ∷ [])))
        next false e name = subst (λ l. P (own_lines name l)) (sym (kept_other form before line e)) (all name)
        next true e name = subst (λ l. P (own_lines name l)) (sym (kept_line before line e here)) (pushed e name (bytes_eq name (line_name line)) refl)

  -- where no line is at fault, what holds of no lines and of each line more without a fault holds of the lines of a name
  pub own_all : (P : List Line → Type 0) → P [] → ((own : List Line) (line : Line) → P own → form.is_short own line ≡ false → form.item_fault own line ≡ None → P (own ++ line ∷ [])) → (lines : List Line) → gather (walk_fault (chain_fault form)) [] lines ≡ [] → (name : List ℕ) → P (own_lines name (kept form lines))
  own_all P start step lines none name = own_from P step [] lines none (λ name. subst (λ l. P (own_lines name l)) (sym (kept_none form)) start) name

-- ---- the names of lines
-- a fact of each item of a list
abbrev pub Each : {A : Type 0} → (A → Type 0) → List A → Type 0
Each P [] = ⊤
Each P (x ∷ xs) = P x × Each P xs

-- a fact of all names of a list, with one name more
all_push : {A : Type 0} (P : A → Type 0) (xs : List A) (x : A) → Each P xs → P x → Each P (xs ++ x ∷ [])
all_push P [] x all one = (one, tt)
all_push P (y ∷ xs) x all one = (all.0, all_push P xs x all.1 one)

all_more : {A : Type 0} (P Q : A → Type 0) (xs : List A) → ((x : A) → P x → Q x) → Each P xs → Each Q xs
all_more P Q [] more all = tt
all_more P Q (x ∷ xs) more all = (more x all.0, all_more P Q xs more all.1)

all_first : (P : List ℕ → Type 0) (names : List (List ℕ)) (name : List ℕ) → Each P names → P name → Each P (with_first names name)
all_first P names name all one = go (is_repeat names name) refl where
  full : (b : Bool) → nat_le RECORD_LIMIT (length names) ≡ b → is_repeat names name ≡ false → Each P (with_first names name)
  full true k e = let limit : RECORD_LIMIT ≤ length names = grind (arith, nat_tests) in subst (Each P) (sym (first_full names name limit)) all
  full false k e = let room : length names < RECORD_LIMIT = grind (arith, nat_tests) in subst (Each P) (sym (first_new names name e room)) (all_push P names name all one)

  go : (b : Bool) → is_repeat names name ≡ b → Each P (with_first names name)
  go true e = subst (Each P) (sym (first_known names name e)) all
  go false e = full (nat_le RECORD_LIMIT (length names)) refl e

few_first : (names : List (List ℕ)) (name : List ℕ) → length names ≤ RECORD_LIMIT → length (with_first names name) ≤ RECORD_LIMIT
few_first names name few = go (is_repeat names name) refl where
  full : (b : Bool) → nat_le RECORD_LIMIT (length names) ≡ b → is_repeat names name ≡ false → length (with_first names name) ≤ RECORD_LIMIT
  full true k e = let limit : RECORD_LIMIT ≤ length names = grind (arith, nat_tests) in subst (λ l. length l ≤ RECORD_LIMIT) (sym (first_full names name limit)) few
  full false k e = let room : length names < RECORD_LIMIT = grind (arith, nat_tests) in subst (λ l. length l ≤ RECORD_LIMIT) (sym (first_new names name e room)) (omega (arith, length-append names (name ∷ [])))

  go : (b : Bool) → is_repeat names name ≡ b → length (with_first names name) ≤ RECORD_LIMIT
  go true e = subst (λ l. length l ≤ RECORD_LIMIT) (sym (first_known names name e)) few
  go false e = full (nat_le RECORD_LIMIT (length names)) refl e

own_grows : (lines : List Line) (line : Line) (name : List ℕ) → 1 ≤ length (own_lines name lines) → 1 ≤ length (own_lines name (lines ++ line ∷ []))
own_grows lines line name some = subst (λ l. 1 ≤ length l) (sym (own_push name lines line)) (omega (arith, length-append (own_lines name lines) (cond (bytes_eq name (line_name line)) (line ∷ []) []), some))

own_new : (lines : List Line) (line : Line) → 1 ≤ length (own_lines (line_name line) (lines ++ line ∷ []))
own_new lines line = subst (λ l. 1 ≤ length l) (sym (own_same (line_name line) lines line refl)) (omega (arith, length-append (own_lines (line_name line) lines) (line ∷ [])))

apart_from : (names : List (List ℕ)) (name : List ℕ) → is_repeat names name ≡ false → IsApart name names
apart_from [] name h = tt
apart_from (x ∷ names) name h = go (bytes_eq name x) refl h (apart_from names name) where
  go : (b : Bool) → bytes_eq name x ≡ b → (b || is_repeat names name) ≡ false → (is_repeat names name ≡ false → IsApart name names) → (bytes_eq name x ≡ false) × IsApart name names
  go true e f more = absurd (cc)
  go false e f more = (e, more f)

number_there : (names : List (List ℕ)) (name : List ℕ) → is_repeat names name ≡ true → (k : ℕ) × (number_in names name ≡ Some k)
number_there names name e = go (number_in names name) refl where
  go : (o : Option ℕ) → number_in names name ≡ o → (k : ℕ) × (o ≡ Some k)
  go (Some k) f = (k, refl)
  go None f = absurd (let bad : false ≡ true = sym (ap is_some f) ∙ (placed_any (bytes_eq name) 0 names ∙ e) in cc)

module _ {R S : Type 0} (form : ChainForm R S) where
  -- each name has a line
  pub own_some : (lines : List Line) → Each (λ name. 1 ≤ length (own_lines name (kept form lines))) (names_in (kept form lines))
  own_some lines = kept_by form (λ lines. Each (λ name. 1 ≤ length (own_lines name lines)) (names_in lines))
      (subst (Each (λ name. 1 ≤ length (own_lines name []))) (sym names_none) tt)
      (λ before line all is one. let lines = kept form before in
      subst (Each (λ name. 1 ≤ length (own_lines name (lines ++ line ∷ [])))) (sym (names_push lines line))
      (all_first (λ name. 1 ≤ length (own_lines name (lines ++ line ∷ []))) (names_in lines) (line_name line)
      (all_more (λ name. 1 ≤ length (own_lines name lines)) (λ name. 1 ≤ length (own_lines name (lines ++ line ∷ []))) (names_in lines) (own_grows lines line) all) (own_new lines line)))
      lines

  -- there are at most as many names as may be
  pub few_names : (lines : List Line) → length (names_in (kept form lines)) ≤ RECORD_LIMIT
  few_names lines = kept_by form (λ lines. length (names_in lines) ≤ RECORD_LIMIT)
      (subst (λ l. length l ≤ RECORD_LIMIT) (sym names_none) (omega arith))
      (λ before line few is one. subst (λ l. length l ≤ RECORD_LIMIT) (sym (names_push (kept form before) line)) (few_first (names_in (kept form before)) (line_name line) few))
      lines

  -- there are at most as many pairs as may be
  pub few_pairs : (lines : List Line) → size_in form (kept form lines) ≤ most_pairs
  few_pairs lines = kept_by form (λ lines. size_in form lines ≤ most_pairs)
      (subst (λ n. n ≤ most_pairs) (sym (size_none form)) (omega arith))
      (λ before line few is one. subst (λ n. n ≤ most_pairs) (sym (size_push form (kept form before) line)) one.room)
      lines

  -- the sizes of records that grow by no more than the lines are no more than those of the lines
  module _ (size : R → ℕ) (nothing : (name : List ℕ) → size (form.record_of name []) ≡ 0) (grows : (name : List ℕ) (own : List Line) (line : Line) → size (form.record_of name (own ++ line ∷ [])) ≤ size (form.record_of name own) + form.size_of own line) where
    one_size : List Line → List ℕ → ℕ
    one_size lines name = size (form.record_of name (own_lines name lines))

    all_sizes : List Line → List (List ℕ) → ℕ
    all_sizes lines names = sum_by (λ n. n) (map (one_size lines) names)

    same_size : (lines : List Line) (line : Line) (q : List ℕ) → bytes_eq q (line_name line) ≡ false → one_size lines q ≡ one_size (lines ++ line ∷ []) q
    unfolding one_size
    same_size lines line q e = ap (λ own. size (form.record_of q own)) (sym (own_other q lines line e))

    new_size : (lines : List Line) (line : Line) → one_size (lines ++ line ∷ []) (line_name line) ≤ one_size lines (line_name line) + form.size_of (own_lines (line_name line) lines) line
    unfolding one_size
    new_size lines line = subst (λ own. size (form.record_of (line_name line) own) ≤ size (form.record_of (line_name line) (own_lines (line_name line) lines)) + form.size_of (own_lines (line_name line) lines) line)
        (sym (own_same (line_name line) lines line refl)) (grows (line_name line) (own_lines (line_name line) lines) line)

    sizes_push : (lines : List Line) (line : Line) → AreNamed lines → is_over (naming_among (names_in lines) (line_name line)) ≡ false → all_sizes (lines ++ line ∷ []) (with_first (names_in lines) (line_name line)) ≤ all_sizes lines (names_in lines) + form.size_of (own_lines (line_name line) lines) line
    unfolding all_sizes one_size
    sizes_push lines line are over = go (is_repeat (names_in lines) (line_name line)) refl where
      go : (b : Bool) → is_repeat (names_in lines) (line_name line) ≡ b → all_sizes (lines ++ line ∷ []) (with_first (names_in lines) (line_name line)) ≤ all_sizes lines (names_in lines) + form.size_of (own_lines (line_name line) lines) line
      go true e =
          let at = number_there (names_in lines) (line_name line) e in
          let there = at_number (one_size lines) (names_in lines) (line_name line) at.0 0 at.1 in
          let within : at.0 < length (map (one_size lines) (names_in lines)) = omega (arith, length-map (names_in lines) (one_size lines), there.1) in
          let stored = sum_by-set (λ n. n) (map (one_size lines) (names_in lines)) at.0 (one_size (lines ++ line ∷ []) (line_name line)) 0 within in
          let as_map = ap (sum_by (λ n. n)) (set_number (one_size lines) (one_size (lines ++ line ∷ [])) (names_in lines) (line_name line) at.0 are.apart at.1 (same_size lines line)) in
          let same = ap (all_sizes (lines ++ line ∷ [])) (first_known (names_in lines) (line_name line) e) in
          let more = new_size lines line in
          omega (arith, there.0, stored, as_map, same, more)
      go false e =
          let room = room_first (names_in lines) (line_name line) e over in
          let same = ap (all_sizes (lines ++ line ∷ [])) (first_new (names_in lines) (line_name line) e room) in
          let split = ap (sum_by (λ n. n)) (map-append (one_size (lines ++ line ∷ [])) (names_in lines) (line_name line ∷ [])) in
          let push = sum_by_push (λ n. n) (map (one_size (lines ++ line ∷ [])) (names_in lines)) (one_size (lines ++ line ∷ []) (line_name line)) in
          let others = ap (sum_by (λ n. n)) (map_other (one_size lines) (one_size (lines ++ line ∷ [])) (line_name line) (names_in lines) (apart_from (names_in lines) (line_name line) e) (same_size lines line)) in
          let none : one_size lines (line_name line) ≡ 0 = ap (λ own. size (form.record_of (line_name line) own)) (are.named (line_name line) e) ∙ nothing (line_name line) in
          let more = new_size lines line in
          omega (arith, same, split, push, others, none, more)

    sum_map : (names : List (List ℕ)) (lines : List Line) → sum_by size (map (λ name. form.record_of name (own_lines name lines)) names) ≡ all_sizes lines names
    unfolding all_sizes one_size
    sum_map [] lines = refl
    sum_map (x ∷ names) lines = sum_by-cons size (form.record_of x (own_lines x lines)) (map (λ name. form.record_of name (own_lines name lines)) names)
        ∙ (ap (λ n. size (form.record_of x (own_lines x lines)) + n) (sum_map names lines) ∙ sym (sum_by-cons (λ n. n) (one_size lines x) (map (one_size lines) names)))

    none_small : all_sizes [] [] ≤ size_in form []
    unfolding all_sizes
    none_small = omega arith

    size_step : (before : List Line) (line : Line) → all_sizes (kept form before) (names_in (kept form before)) ≤ size_in form (kept form before) → is_over (naming_among (names_in (kept form before)) (line_name line)) ≡ false → all_sizes (kept form before ++ line ∷ []) (names_in (kept form before ++ line ∷ [])) ≤ size_in form (kept form before ++ line ∷ [])
    size_step before line few over =
        let lines = kept form before in
        let names = ap (all_sizes (lines ++ line ∷ [])) (names_push lines line) in
        let push = sizes_push lines line (kept_named form before) over in
        omega (arith, few, names, push, size_push form lines line)

    pub few_sizes : (lines : List Line) → sum_by size (map (λ name. form.record_of name (own_lines name (kept form lines))) (names_in (kept form lines))) ≤ most_pairs
    few_sizes lines =
        let all : all_sizes (kept form lines) (names_in (kept form lines)) ≤ size_in form (kept form lines) = kept_by form (λ lines. all_sizes lines (names_in lines) ≤ size_in form lines)
        (subst (λ names. all_sizes [] names ≤ size_in form []) (sym names_none) none_small)
        (λ before line few is one. size_step before line few one.name_room) lines in
        omega (arith, few_pairs lines, all, sum_map (names_in (kept form lines)) (kept form lines))

-- a fact of each name and its record
pub zip_map : {A B : Type 0} (P : A → B → Type 0) (f : A → B) (xs : List A) → ((x : A) → P x (f x)) → AllZip P xs (map f xs)
zip_map P f [] each = tt
zip_map P f (x ∷ xs) each = (each x, zip_map P f xs each)

pub all_map : {A B : Type 0} (P : A → Type 0) (Q : B → Type 0) (f : A → B) (xs : List A) → ((x : A) → P x → Q (f x)) → Each P xs → All Q (map f xs)
all_map P Q f [] each all = All-nil Q
all_map P Q f (x ∷ xs) each all = All-cons Q (f x) (map f xs) (each x all.0) (all_map P Q f xs each all.1)

-- ---- the faults of a kind whose lines stand in some sections
one_found : (line : Line) (fault : Option Fault) → OneOn line.number (fault_found line fault)
one_found line None = tt
one_found line (Some fault) = refl

pub chain_faults_in : {R S : Type 0} (form : ChainForm R S) (sections : SectionName → Bool) → ((line : Line) → sections line.section ≡ false → form.is_of line ≡ false) → FaultsIn sections (walk_fault (chain_fault form))
chain_faults_in form sections other = record {
  one = λ before line. one_found line (chain_fault form before line);
  elsewhere = λ before line e. ap (fault_found line) (fault_other form before line (other line e));
}
