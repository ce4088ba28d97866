-- The lines that count, one line after the other.
use Rattle.std.proofs.Common.{◌≡◌, ◌∷◌, ◌++◌, [], ◌≤◌, ◌<◌, length, ℕ, ◌+◌, ◌==◌, List, Bool, true, false, not}
use Rattle.std.proofs.Common.{cond, Option, Some, None, refl, ap, ap₂, sym, ◌∙◌, arith, subst, ◌||◌, ◌&&◌, map, filter}
use Rattle.std.proofs.Common.{nat_lt, bytes_eq, append_assoc, append-nil, length-append, sum}
use Rattle.std.specs.List.{list_any}
use Rattle.std.proofs.lemmas.Bool.Decides.{nat_tests}
use Rattle.std.proofs.lemmas.List.Elements.{filter-append}
use Rattle.std.proofs.lemmas.List.Folds.{list_any-append}
use Rattle.std.proofs.lemmas.List.Sums.{sum_by_push}
use Rattle.std.proofs.lemmas.Slice.Eq.{bytes_eq-Decides}
use Rattle.inp_lines.specs.declared.fault.Fault.{Fault}
use Rattle.inp_lines.specs.declared.line.Line.{Line}
use Rattle.inp_lines.specs.declared.names.Naming.{Naming}
use Rattle.inp_lines.specs.declared.names.Naming.TheVariants as naming
use Rattle.inp_lines.specs.Faults.{too_few_of, fault_of_kind}
use Rattle.inp_lines.specs.Gather.{gather}
use Rattle.inp_lines.specs.Names.{is_repeat, naming_among, with_first}
use Rattle.inp_lines.proofs.GatherLemmas.{gather_push}
use Rattle.inp_lines.proofs.NameLemmas.{defined_more, defined_none, first_known, first_new}
use Rattle.net_types.specs.declared.faults.FaultKind.TheVariants.{OverLimit}
use Rattle.inp_lists.specs.Chains.{ChainForm, chain_fault, counts, fault_by, fault_in, is_over, kept, kept_after}
use Rattle.inp_lists.specs.Chains.{line_name, most_pairs, names_in, own_lines, size_at, size_in, with_line}
use Rattle.inp_lists.specs.Holding.{AreDistinct, AreNamed, with_counted}
use Rattle.inp_lists.proofs.PlaceLemmas.{distinct_first, room_first}

-- ---- one line more
pub names_push : (lines : List Line) (line : Line) → names_in (lines ++ line ∷ []) ≡ with_first (names_in lines) (line_name line)
unfolding names_in
names_push lines line = defined_more (λ line. Some (line_name line)) lines line

pub names_none : names_in [] ≡ []
unfolding names_in
names_none = defined_none (λ line. Some (line_name line))

pub own_push : (name : List ℕ) (lines : List Line) (line : Line) → own_lines name (lines ++ line ∷ []) ≡ own_lines name lines ++ cond (bytes_eq name (line_name line)) (line ∷ []) []
own_push name lines line = filter-append (λ line. bytes_eq name (line_name line)) lines (line ∷ [])

pub own_same : (name : List ℕ) (lines : List Line) (line : Line) → name ≡ line_name line → own_lines name (lines ++ line ∷ []) ≡ own_lines name lines ++ line ∷ []
own_same name lines line e = own_push name lines line ∙ ap (λ b. own_lines name lines ++ cond b (line ∷ []) []) ((bytes_eq-Decides name (line_name line)).1 e)

pub own_other : (name : List ℕ) (lines : List Line) (line : Line) → bytes_eq name (line_name line) ≡ false → own_lines name (lines ++ line ∷ []) ≡ own_lines name lines
own_other name lines line e = own_push name lines line ∙ (ap (λ b. own_lines name lines ++ cond b (line ∷ []) []) e ∙ append-nil (own_lines name lines))

sum_push : (xs : List ℕ) (n : ℕ) → sum (xs ++ n ∷ []) ≡ sum xs + n
sum_push xs n = sum_by_push (λ m. m) xs n

module _ {R S : Type 0} (form : ChainForm R S) where
  pub size_push : (lines : List Line) (line : Line) → size_in form (lines ++ line ∷ []) ≡ size_in form lines + form.size_of (own_lines (line_name line) lines) line
  unfolding size_in
  size_push lines line = ap sum (gather_push (size_at form) lines line) ∙ sum_push (gather (size_at form) [] lines) (form.size_of (own_lines (line_name line) lines) line)

  pub size_none : size_in form [] ≡ 0
  unfolding size_in
  size_none = refl

  kept_append : (held xs ys : List Line) → kept_after form held (xs ++ ys) ≡ kept_after form (kept_after form held xs) ys
  unfolding kept_after
  kept_append held [] ys = refl
  kept_append held (x ∷ xs) ys = kept_append (with_line form held x) xs ys

  kept_one : (held : List Line) (line : Line) → kept_after form held (line ∷ []) ≡ with_line form held line
  unfolding kept_after
  kept_one held line = refl

  pub kept_none : kept form [] ≡ []
  unfolding kept_after
  kept_none = refl

  pub kept_push : (lines : List Line) (line : Line) → kept form (lines ++ line ∷ []) ≡ with_line form (kept form lines) line
  kept_push lines line = kept_append [] lines (line ∷ []) ∙ kept_one (kept form lines) line

  -- a line of another kind, and one of this kind
  pub kept_other : (lines : List Line) (line : Line) → form.is_of line ≡ false → kept form (lines ++ line ∷ []) ≡ kept form lines
  kept_other lines line e = kept_push lines line ∙ ap (λ b. cond (b && counts (fault_in form (kept form lines) line)) (kept form lines ++ line ∷ []) (kept form lines)) e

  pub kept_counted : (lines : List Line) (line : Line) (fault : Option Fault) → form.is_of line ≡ true → fault ≡ fault_in form (kept form lines) line → kept form (lines ++ line ∷ []) ≡ with_counted (kept form lines) line fault
  kept_counted lines line fault e f = kept_push lines line ∙ (ap (λ b. cond (b && counts (fault_in form (kept form lines) line)) (kept form lines ++ line ∷ []) (kept form lines)) e
      ∙ ap (λ f. cond (counts f) (kept form lines ++ line ∷ []) (kept form lines)) (sym f))

  -- the fault of a line
  pub fault_other : (before : List Line) (line : Line) → form.is_of line ≡ false → chain_fault form before line ≡ None
  unfolding chain_fault
  fault_other before line e = ap (λ b. cond b (fault_in form (kept form before) line) None) e

  pub fault_same : (before : List Line) (line : Line) → form.is_of line ≡ true → chain_fault form before line ≡ fault_in form (kept form before) line
  unfolding chain_fault
  fault_same before line e = ap (λ b. cond b (fault_in form (kept form before) line) None) e

  -- ---- a line that counts has enough items, and is over no limit
  pub record IsCounted (own : List Line) (standing : Naming) (total : ℕ) (line : Line) (fault : Option Fault) : Type 0 where
    pub enough : form.is_short own line ≡ false
    pub name_room : is_over standing ≡ false
    pub room : total + form.size_of own line ≤ most_pairs
    pub fault_is : fault ≡ form.item_fault own line

  pub counted : (own : List Line) (standing : Naming) (total : ℕ) (line : Line) (fault : Option Fault) → fault ≡ fault_by form own standing total line → counts fault ≡ true → IsCounted own standing total line fault
  counted own standing total line fault e h = short (form.is_short own line) refl where
    Good : Type 0
    Good = IsCounted own standing total line fault

    full : (b : Bool) → nat_lt most_pairs (total + form.size_of own line) ≡ b → form.is_short own line ≡ false → is_over standing ≡ false → fault ≡ cond b (Some (fault_of_kind OverLimit 0)) (form.item_fault own line) → Good
    full true test enough name f = absurd (let bad : false ≡ true = ap counts (sym f) ∙ h in cc)
    full false test enough name f = record { enough = enough; name_room = name; room = grind (arith, nat_tests); fault_is = f }

    over : (b : Bool) → is_over standing ≡ b → form.is_short own line ≡ false → fault ≡ cond b (Some (fault_of_kind OverLimit 0)) (cond (nat_lt most_pairs (total + form.size_of own line)) (Some (fault_of_kind OverLimit 0)) (form.item_fault own line)) → Good
    over true test enough f = absurd (let bad : false ≡ true = ap counts (sym f) ∙ h in cc)
    over false test enough f = full (nat_lt most_pairs (total + form.size_of own line)) refl enough test f

    short : (b : Bool) → form.is_short own line ≡ b → Good
    short true test = absurd (let bad : false ≡ true = ap counts (sym (e ∙ ap (λ b. cond b (Some (too_few_of line.tokens)) (cond (is_over standing) (Some (fault_of_kind OverLimit 0)) (cond (nat_lt most_pairs (total + form.size_of own line)) (Some (fault_of_kind OverLimit 0)) (form.item_fault own line)))) test)) ∙ h in cc)
    short false test = over (is_over standing) refl test (e ∙ ap (λ b. cond b (Some (too_few_of line.tokens)) (cond (is_over standing) (Some (fault_of_kind OverLimit 0)) (cond (nat_lt most_pairs (total + form.size_of own line)) (Some (fault_of_kind OverLimit 0)) (form.item_fault own line)))) test)

  pub counted_in : (lines : List Line) (line : Line) (fault : Option Fault) → fault ≡ fault_in form lines line → counts fault ≡ true → IsCounted (own_lines (line_name line) lines) (naming_among (names_in lines) (line_name line)) (size_in form lines) line fault
  unfolding fault_in
  counted_in lines line fault e h = counted (own_lines (line_name line) lines) (naming_among (names_in lines) (line_name line)) (size_in form lines) line fault e h

  pub fault_in_is : (lines : List Line) (line : Line) → fault_in form lines line ≡ fault_by form (own_lines (line_name line) lines) (naming_among (names_in lines) (line_name line)) (size_in form lines) line
  unfolding fault_in
  fault_in_is lines line = refl

-- ---- the names of lines that count
repeat_push : (names : List (List ℕ)) (name q : List ℕ) → is_repeat (names ++ name ∷ []) q ≡ false → (is_repeat names q ≡ false) × (bytes_eq q name ≡ false)
repeat_push [] name q h = (refl, or_left (bytes_eq q name) h) where
  or_left : (b : Bool) → (b || false) ≡ false → b ≡ false
  or_left true e = absurd (cc)
  or_left false e = refl
repeat_push (x ∷ names) name q h = go (bytes_eq q x) refl h (repeat_push names name q) where
  go : (b : Bool) → bytes_eq q x ≡ b → (b || is_repeat (names ++ name ∷ []) q) ≡ false → (is_repeat (names ++ name ∷ []) q ≡ false → (is_repeat names q ≡ false) × (bytes_eq q name ≡ false)) → ((b || is_repeat names q) ≡ false) × (bytes_eq q name ≡ false)
  go true e f more = absurd (cc)
  go false e f more = more f

same_repeat : (names : List (List ℕ)) (name q : List ℕ) → is_repeat names name ≡ true → is_repeat names q ≡ false → bytes_eq q name ≡ false
same_repeat names name q h k = go (bytes_eq q name) refl where
  go : (b : Bool) → bytes_eq q name ≡ b → b ≡ false
  go false e = refl
  go true e = let same : q ≡ name = (bytes_eq-Decides q name).0 e in
      let bad : true ≡ false = sym h ∙ (ap (is_repeat names) (sym same) ∙ k) in cc

-- a line whose name isn't one too many has its name among those of the lines with it
pub named_push : (lines : List Line) (line : Line) → is_over (naming_among (names_in lines) (line_name line)) ≡ false → AreNamed lines → AreNamed (lines ++ line ∷ [])
named_push lines line over are = record { apart = subst AreDistinct (sym (names_push lines line)) (distinct_first (names_in lines) (line_name line) are.apart); named = go (is_repeat (names_in lines) (line_name line)) refl } where
  go : (b : Bool) → is_repeat (names_in lines) (line_name line) ≡ b → (q : List ℕ) → is_repeat (names_in (lines ++ line ∷ [])) q ≡ false → own_lines q (lines ++ line ∷ []) ≡ []
  go true e q h =
      let before : is_repeat (names_in lines) q ≡ false = ap (λ n. is_repeat n q) (sym (names_push lines line ∙ first_known (names_in lines) (line_name line) e)) ∙ h in
      own_other q lines line (same_repeat (names_in lines) (line_name line) q e before) ∙ are.named q before
  go false e q h =
      let two = repeat_push (names_in lines) (line_name line) q (ap (λ n. is_repeat n q) (sym (names_push lines line ∙ first_new (names_in lines) (line_name line) e (room_first (names_in lines) (line_name line) e over))) ∙ h) in
      own_other q lines line two.1 ∙ are.named q two.0

pub named_none : AreNamed []
named_none = record { apart = subst AreDistinct (sym names_none) (record { distinct = tt }); named = λ name h. refl }

module _ {R S : Type 0} (form : ChainForm R S) where
  -- what holds of no lines, and of each line more that counts, holds of the lines that count
  pub kept_holds : (P : List Line → Type 0) → P [] → ((before : List Line) (line : Line) → P (kept form before) → form.is_of line ≡ true → IsCounted form (own_lines (line_name line) (kept form before)) (naming_among (names_in (kept form before)) (line_name line)) (size_in form (kept form before)) line (fault_in form (kept form before) line) → P (kept form before ++ line ∷ [])) → (before lines : List Line) → P (kept form before) → P (kept form (before ++ lines))
  kept_holds P start step before [] h = subst (λ l. P (kept form l)) (sym (append-nil before)) h
  kept_holds P start step before (line ∷ lines) h = subst (λ l. P (kept form l)) (append_assoc before (line ∷ []) lines) (kept_holds P start step (before ++ line ∷ []) lines (next (form.is_of line) refl)) where
    next : (b : Bool) → form.is_of line ≡ b → P (kept form (before ++ line ∷ []))
    next false e = subst P (sym (kept_other form before line e)) h
    next true e = go (counts (fault_in form (kept form before) line)) refl where
      go : (c : Bool) → counts (fault_in form (kept form before) line) ≡ c → P (kept form (before ++ line ∷ []))
      go false f = subst P (sym (kept_counted form before line (fault_in form (kept form before) line) e refl ∙ ap (λ c. cond c (kept form before ++ line ∷ []) (kept form before)) f)) h
      go true f = subst P (sym (kept_counted form before line (fault_in form (kept form before) line) e refl ∙ ap (λ c. cond c (kept form before ++ line ∷ []) (kept form before)) f))
          (step before line h e (counted_in form (kept form before) line (fault_in form (kept form before) line) refl f))

  pub kept_by : (P : List Line → Type 0) → P [] → ((before : List Line) (line : Line) → P (kept form before) → form.is_of line ≡ true → IsCounted form (own_lines (line_name line) (kept form before)) (naming_among (names_in (kept form before)) (line_name line)) (size_in form (kept form before)) line (fault_in form (kept form before) line) → P (kept form before ++ line ∷ [])) → (lines : List Line) → P (kept form lines)
  kept_by P start step lines = kept_holds P start step [] lines (subst P (sym (kept_none form)) start)

  -- all lines that count have a name that is defined
  pub kept_named : (lines : List Line) → AreNamed (kept form lines)
  kept_named lines = kept_by AreNamed named_none (λ before line are is one. named_push (kept form before) line one.name_room are) lines
