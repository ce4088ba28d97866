-- What the walk holds, one line on.
use Rattle.std.proofs.Common.{◌≡◌, ◌∷◌, ◌++◌, [], ◌≤◌, ◌<◌, length, ℕ, ◌+◌, List, Bool, true, false, cond, map, set, get_or}
use Rattle.std.proofs.Common.{Option, Some, None, is_some, refl, ap, ap₂, sym, ◌∙◌, arith, subst, bytes_eq, length-append, Result, Ok, Err, IfOk}
use Rattle.std.proofs.lemmas.List.{map-append, length-map}
use Rattle.std.proofs.lemmas.Slice.Eq.{bytes_eq-Decides}
use Rattle.fixed_num.specs.declared.constants.TheConstants.{RECORD_LIMIT}
use Rattle.inp_lines.specs.declared.fault.Fault.{Fault}
use Rattle.inp_lines.specs.declared.line.Line.{Line}
use Rattle.inp_lines.specs.Names.{is_repeat, naming_among, number_in, with_first}
use Rattle.inp_lines.specs.Numbers.{numbers_of}
use Rattle.inp_lines.proofs.NameLemmas.{first_known, first_new, placed_any, placed_none}
use Rattle.inp_lists.specs.declared.held.Held.{Held}
use Rattle.inp_lists.specs.Chains.{ChainForm, counts, fault_in, is_over, kept, line_name, most_pairs, names_in, own_lines, size_in}
use Rattle.inp_lists.specs.Holding.{AreDistinct, AreNamed, HoldsLines, HoldsNames, with_counted}
use Rattle.inp_lists.proofs.PlaceLemmas.{at_number, room_first, set_number}
use Rattle.inp_lists.proofs.ChainLemmas.{kept_counted, kept_none, kept_other, names_none, names_push, own_other, own_same, size_none, size_push}

-- a name that has no number, and one that has one
no_repeat : (names : List (List ℕ)) (name : List ℕ) → number_in names name ≡ None → is_repeat names name ≡ false
no_repeat names name e = sym (placed_any (bytes_eq name) 0 names) ∙ ap is_some e

a_repeat : (names : List (List ℕ)) (name : List ℕ) (k : ℕ) → number_in names name ≡ Some k → is_repeat names name ≡ true
a_repeat names name k e = sym (placed_any (bytes_eq name) 0 names) ∙ ap is_some e

module _ {R S : Type 0} (form : ChainForm R S) where
  pub hold_none : (held : Held R S) → numbers_of held.names ≡ number_in [] → held.count ≡ 0 → held.total ≡ 0 → held.records ≡ [] → held.states ≡ [] → HoldsLines form (kept form []) held
  hold_none held n c t r s = subst (λ l. HoldsLines form l held) (sym (kept_none form)) (record {
    names = subst (λ names. HoldsNames form names [] held) (sym names_none) (record { numbers = n; count = sym c; records = r; states = s });
    total = size_none form ∙ sym t;
    room = omega (arith, t);
  })

  pub hold_other : (held : Held R S) (before : List Line) (line : Line) → form.is_of line ≡ false → HoldsLines form (kept form before) held → HoldsLines form (kept form (before ++ line ∷ [])) held
  hold_other held before line e holds = subst (λ l. HoldsLines form l held) (sym (kept_other form before line e)) holds

  pub hold_kept : (held : Held R S) (before : List Line) (line : Line) (fault : Option Fault) → form.is_of line ≡ true → fault ≡ fault_in form (kept form before) line → HoldsLines form (with_counted (kept form before) line fault) held → HoldsLines form (kept form (before ++ line ∷ [])) held
  hold_kept held before line fault e f holds = subst (λ l. HoldsLines form l held) (sym (kept_counted form before line fault e f)) holds

  -- the state of the lines of a name
  pub state_there : (held : Held R S) (lines : List Line) (name : List ℕ) (k : ℕ) (state : S) → HoldsLines form lines held → numbers_of held.names name ≡ Some k → get_or held.states k state ≡ form.state_of (own_lines name lines)
  state_there held lines name k state holds e =
      let number : number_in (names_in lines) name ≡ Some k = ap (λ f. f name) (sym holds.names.numbers) ∙ e in
      ap (λ l. get_or l k state) holds.names.states ∙ (at_number (λ name. form.state_of (own_lines name lines)) (names_in lines) name k state number).0

  pub within_there : (held : Held R S) (lines : List Line) (name : List ℕ) (k : ℕ) → HoldsLines form lines held → numbers_of held.names name ≡ Some k → k < length held.states
  within_there held lines name k holds e =
      let number : number_in (names_in lines) name ≡ Some k = ap (λ f. f name) (sym holds.names.numbers) ∙ e in
      let within = (at_number (λ (name : List ℕ). name) (names_in lines) name k [] number).1 in
      omega (arith, ap length holds.names.states, length-map (names_in lines) (λ name. form.state_of (own_lines name lines)), within)

  pub state_missing : (held : Held R S) (lines : List Line) (name : List ℕ) → HoldsLines form lines held → AreNamed lines → numbers_of held.names name ≡ None → form.state_of [] ≡ form.state_of (own_lines name lines)
  state_missing held lines name holds are e =
      let number : number_in (names_in lines) name ≡ None = ap (λ f. f name) (sym holds.names.numbers) ∙ e in
      ap form.state_of (sym (are.named name (no_repeat (names_in lines) name number)))

  -- the place of a name that is defined, and of a new one
  pub place_known : (held : Held R S) (lines : List Line) (name : List ℕ) (k : ℕ) → HoldsNames form (names_in lines) lines held → numbers_of held.names name ≡ Some k → HoldsNames form (with_first (names_in lines) name) lines held × (number_in (with_first (names_in lines) name) name ≡ Some k)
  place_known held lines name k holds e =
      let number : number_in (names_in lines) name ≡ Some k = ap (λ f. f name) (sym holds.numbers) ∙ e in
      let same = first_known (names_in lines) name (a_repeat (names_in lines) name k number) in
      (subst (λ names. HoldsNames form names lines held) (sym same) holds, ap (λ names. number_in names name) same ∙ number)

  pub place_new : (old new : Held R S) (lines : List Line) (name : List ℕ) → HoldsNames form (names_in lines) lines old → AreNamed lines → is_over (naming_among (names_in lines) name) ≡ false → numbers_of old.names name ≡ None
      → (numbers_of new.names ≡ number_in (with_first (names_in lines) name)) × (length (with_first (names_in lines) name) ≡ new.count)
      → new.records ≡ old.records ++ form.record_of name [] ∷ [] → new.states ≡ old.states ++ form.state_of [] ∷ []
      → HoldsNames form (with_first (names_in lines) name) lines new × (number_in (with_first (names_in lines) name) name ≡ Some old.count)
  place_new old new lines name holds are over e defines r s =
      let none : number_in (names_in lines) name ≡ None = ap (λ f. f name) (sym holds.numbers) ∙ e in
      let fresh = no_repeat (names_in lines) name none in
      let added = first_new (names_in lines) name fresh (room_first (names_in lines) name fresh over) in
      let own = are.named name fresh in
      let placed = placed_none (bytes_eq name) 0 old.count (names_in lines) name (omega (arith, holds.count)) none in (
        record {
          numbers = defines.0;
          count = defines.1;
          records = r ∙ (ap (λ l. l ++ form.record_of name [] ∷ []) holds.records ∙ (ap (λ own. map (λ name. form.record_of name (own_lines name lines)) (names_in lines) ++ form.record_of name own ∷ []) (sym own)
              ∙ (sym (map-append (λ name. form.record_of name (own_lines name lines)) (names_in lines) (name ∷ [])) ∙ ap (map (λ name. form.record_of name (own_lines name lines))) (sym added))));
          states = s ∙ (ap (λ l. l ++ form.state_of [] ∷ []) holds.states ∙ (ap (λ own. map (λ name. form.state_of (own_lines name lines)) (names_in lines) ++ form.state_of own ∷ []) (sym own)
              ∙ (sym (map-append (λ name. form.state_of (own_lines name lines)) (names_in lines) (name ∷ [])) ∙ ap (map (λ name. form.state_of (own_lines name lines))) (sym added))));
        },
        ap (λ names. number_in names name) added ∙ (placed ∙ ap (λ b. cond b (Some old.count) None) ((bytes_eq-Decides name name).1 refl)),
      )

  -- the record of a name at its place, and the records where a line is added to it
  pub record_there : (held : Held R S) (names : List (List ℕ)) (lines : List Line) (name : List ℕ) (k : ℕ) (default : R) → HoldsNames form names lines held → number_in names name ≡ Some k → get_or held.records k default ≡ form.record_of name (own_lines name lines)
  record_there held names lines name k default holds number =
      ap (λ l. get_or l k default) holds.records ∙ (at_number (λ name. form.record_of name (own_lines name lines)) names name k default number).0

  pub record_within : (held : Held R S) (names : List (List ℕ)) (lines : List Line) (name : List ℕ) (k : ℕ) → HoldsNames form names lines held → number_in names name ≡ Some k → (k < length held.records) × (k < length held.states)
  record_within held names lines name k holds number =
      let within = (at_number (λ (name : List ℕ). name) names name k [] number).1 in (
        omega (arith, ap length holds.records, length-map names (λ name. form.record_of name (own_lines name lines)), within),
        omega (arith, ap length holds.states, length-map names (λ name. form.state_of (own_lines name lines)), within),
      )

  pub line_added : (old new : Held R S) (names : List (List ℕ)) (lines : List Line) (line : Line) (name : List ℕ) (k : ℕ) → HoldsNames form names lines old → AreDistinct names → number_in names name ≡ Some k → name ≡ line_name line
      → numbers_of new.names ≡ numbers_of old.names → new.count ≡ old.count
      → new.records ≡ set old.records k (form.record_of name (own_lines name lines ++ line ∷ [])) → new.states ≡ set old.states k (form.state_of (own_lines name lines ++ line ∷ []))
      → HoldsNames form names (lines ++ line ∷ []) new
  line_added old new names lines line name k holds apart number is n c r s =
      let own = own_same name lines line is in
      let other : (q : List ℕ) → bytes_eq q name ≡ false → own_lines q lines ≡ own_lines q (lines ++ line ∷ []) = λ q e. sym (own_other q lines line (ap (bytes_eq q) (sym is) ∙ e)) in
      record {
        numbers = n ∙ holds.numbers;
        count = holds.count ∙ sym c;
        records = r ∙ (ap₂ (λ l own. set l k (form.record_of name own)) holds.records (sym own)
            ∙ set_number (λ name. form.record_of name (own_lines name lines)) (λ name. form.record_of name (own_lines name (lines ++ line ∷ []))) names name k apart number (λ q e. ap (form.record_of q) (other q e)));
        states = s ∙ (ap₂ (λ l own. set l k (form.state_of own)) holds.states (sym own)
            ∙ set_number (λ name. form.state_of (own_lines name lines)) (λ name. form.state_of (own_lines name (lines ++ line ∷ []))) names name k apart number (λ q e. ap form.state_of (other q e)));
      }

  -- a line that counts is held
  pub hold_line : (held new : Held R S) (lines : List Line) (line : Line) (fault : Option Fault) → counts fault ≡ true → HoldsNames form (with_first (names_in lines) (line_name line)) (lines ++ line ∷ []) held
      → numbers_of new.names ≡ numbers_of held.names → new.count ≡ held.count → new.records ≡ held.records → new.states ≡ held.states
      → new.total ≡ size_in form lines + form.size_of (own_lines (line_name line) lines) line → size_in form lines + form.size_of (own_lines (line_name line) lines) line ≤ most_pairs → HoldsLines form (with_counted lines line fault) new
  hold_line held new lines line fault counts_is holds n c r s total room =
      let whole : HoldsLines form (lines ++ line ∷ []) new = record {
        names = subst (λ names. HoldsNames form names (lines ++ line ∷ []) new) (sym (names_push lines line)) (record {
          numbers = n ∙ holds.numbers;
          count = holds.count ∙ sym c;
          records = r ∙ holds.records;
          states = s ∙ holds.states;
        });
        total = size_push form lines line ∙ sym total;
        room = omega (arith, total, room);
      } in
      subst (λ b. HoldsLines form (cond b (lines ++ line ∷ []) lines) new) (sym counts_is) whole

-- what holds of the value of an outcome
pub ok_then : {A E : Type 0} (r : Result A E) (P Q : A → Type 0) → IfOk r P → ((x : A) → P x → Q x) → IfOk r Q
ok_then (Ok x) P Q h more = more x h
ok_then (Err e) P Q h more = tt
