-- The tests and actions of clauses that are read without fault are sound.
use Rattle.std.proofs.Common.{◌≡◌, ◌≤◌, ◌<◌, ◌^◌, ◌+◌, ◌∷◌, [], ℕ, ℤ, pos, ◌≤ℤ◌, int_le, Bool, true, false, cond, List, length, nat_lt}
use Rattle.std.proofs.Common.{Option, Some, None, Result, Ok, Err, refl, ap, sym, subst, ◌∙◌, arith, codes}
use Rattle.std.proofs.lemmas.Int.{ints}
use Rattle.std.specs.Bool.{⊤}
use Rattle.fixed_num.specs.Ranges.{IsBetween, IsCoefficient, IsPart, IsRaw}
use Rattle.fixed_num.proofs.Bounds.{le_number, within_both, within_minus, within_number}
use Rattle.net_types.specs.declared.faults.FaultKind.{FaultKind}
use Rattle.net_types.specs.declared.faults.FaultKind.TheVariants as fault_kind
use Rattle.net_types.specs.declared.project.Project.{Project}
use Rattle.net_types.specs.declared.rules.Action.{Action}
use Rattle.net_types.specs.declared.rules.Relation.{Relation}
use Rattle.net_types.specs.declared.rules.Subject.{Subject}
use Rattle.net_types.specs.declared.rules.Subject.TheVariants as subject
use Rattle.net_types.specs.declared.rules.Test.{Test}
use Rattle.net_types.specs.Ranges.{ActionInRange, TestInRange, ValueInRange}
use Rattle.net_types.specs.Sound.{ActionNames, SubjectNames, TestNames}
use Rattle.inp_values.specs.declared.quantities.Quantity.{Quantity}
use Rattle.inp_values.specs.declared.quantities.Quantity.TheVariants as quantity
use Rattle.inp_values.specs.Clock.{time_of_day_of}
use Rattle.inp_values.specs.Units.{unit_for}
use Rattle.inp_values.specs.Words.{same_word}
use Rattle.inp_values.proofs.ClockLemmas.{time_told}
use Rattle.inp_lines.specs.declared.fault.Fault.{Fault}
use Rattle.inp_lines.specs.declared.names.Naming.TheVariants.{First}
use Rattle.inp_lines.specs.Faults.{token_at, too_few_of, fault_of_kind}
use Rattle.inp_lines.specs.Readings.{and_then, new_name_of}
use Rattle.inp_forms.specs.declared.item.Objects.{Objects}
use Rattle.inp_forms.specs.declared.item.Objects.TheVariants as objects
use Rattle.inp_forms.specs.declared.item.Value.{Value}
use Rattle.inp_forms.specs.declared.item.Value.TheVariants.{Amount}
use Rattle.inp_forms.specs.declared.item.What.{What}
use Rattle.inp_forms.specs.declared.item.What.TheVariants as what
use Rattle.inp_forms.specs.Context.{Context, kept_if, object_number, that_is}
use Rattle.inp_forms.specs.Meaning.{IsAmount, IsHourAmount, IsValue, IsWholeAmount}
use Rattle.inp_forms.specs.Values.{checked, found_of, is_own, value_from, value_of, wrong_of}
use Rattle.inp_forms.proofs.PlaceLemmas.{IsInRange}
use Rattle.inp_forms.proofs.ValueLemmas.{found_means}
use Rattle.inp_rules.specs.declared.words.Looked.{Looked}
use Rattle.inp_rules.specs.declared.words.Part.{Part}
use Rattle.inp_rules.specs.declared.words.Part.TheVariants as part
use Rattle.inp_rules.specs.declared.words.Watched.{Watched}
use Rattle.inp_rules.specs.declared.words.Watched.TheVariants as watched
use Rattle.inp_rules.specs.Actions.{action_of, actor_action, part_action, priority_of, setting_action}
use Rattle.inp_rules.specs.Laws.{NamesObjects}
use Rattle.inp_rules.specs.RuleValues.{amount_in, either_status, found_or, number_at, object_at, set_value, setting_at, setting_by, status_by}
use Rattle.inp_rules.specs.RuleValues.{subject_value, tested_value, up_to_one}
use Rattle.inp_rules.specs.RuleWords.{actor_of, clock_look_of, is_outside, link_look_of, node_look_of, number_look, part_of, relation_of, watched_of}
use Rattle.inp_rules.specs.Tests.{compared, least_of_test, looked_test, test_of, watched_test}

-- a test and an action lie in their ranges, and their numbers name objects
pub record IsSoundTest (project : Project) (test : Test) : Type 0 where
  pub range : TestInRange test
  pub names : TestNames project test

pub record IsSoundAction (project : Project) (action : Action) : Type 0 where
  pub range : ActionInRange action
  pub names : ActionNames project action

-- what a test may look at; the words of a status stand for a setting
record IsLook (project : Project) (looked : Looked) : Type 0 where
  names : SubjectNames project looked.subject
  status : looked.by_status ≡ true → (z : ℤ) → IsCoefficient z → ValueInRange looked.subject z

-- ---- what is chosen by words
choice : {A : Type 0} (P : A → Type 0) (b : Bool) (a : A) (rest : Option A) (x : A) → P a → (rest ≡ Some x → P x) → cond b (Some a) rest ≡ Some x → P x
choice P true a rest x p q e = let same : a ≡ x = cc in subst P same p
choice P false a rest x p q e = q e

no_choice : {A : Type 0} (P : A → Type 0) (x : A) → None ≡ Some x → P x
no_choice P x e = absurd (cc)

found_some : {A : Type 0} (o : Option A) (kind : FaultKind) (place : ℕ) (x : A) → found_or o kind place ≡ Ok x → o ≡ Some x
found_some None kind place x e = absurd (cc)
found_some (Some y) kind place x e = let same : y ≡ x = cc in ap Some same

-- what a reading in two steps read first
first_step : {A B : Type 0} (r : Result A Fault) (next : A → Result B Fault) (x : B) → and_then r next ≡ Ok x → (a : A) × (r ≡ Ok a) × (next a ≡ Ok x)
first_step (Ok a) next x e = (a, refl, e)
first_step (Err fault) next x e = absurd (cc)

not_short : {A : Type 0} (b : Bool) (fault : Fault) (r : Result A Fault) (x : A) → cond b (Err fault) r ≡ Ok x → (b ≡ false) × (r ≡ Ok x)
not_short true fault r x e = absurd (cc)
not_short false fault r x e = (refl, e)

same_value : {A : Type 0} (a b : A) (r s : Result A Fault) → r ≡ Ok a → s ≡ Ok b → r ≡ s → a ≡ b
same_value a b r s p q e = cc

module _ (known : Context) where
  -- ---- numbers
  checked_first : (b : Bool) (v w : Value) → cond b (and_then (new_name_of First) (λ _. Ok v)) (Ok v) ≡ Ok w → v ≡ w
  checked_first true v w e = cc
  checked_first false v w e = cc

  value_means : (item : What) (text : List ℕ) (place : ℕ) (v : Value) → value_of known First item text place ≡ Ok v → IsValue known item text v
  unfolding value_of
  value_means item text place v = go (found_of known item text) refl where
    go : (o : Option Value) → found_of known item text ≡ o → value_from First item (wrong_of known item text) place o ≡ Ok v → IsValue known item text v
    go None h e = absurd (cc)
    go (Some w) h e = found_means known item text v (h ∙ ap Some (checked_first (is_own item) w v e))

  number_means : (item : What) (text : List ℕ) (place : ℕ) (z : ℤ) → number_at known item text place ≡ Ok z → (v : Value) × IsValue known item text v × (amount_in v ≡ z)
  number_means item text place z e =
      let step = first_step (value_of known First item text place) (λ value. Ok (amount_in value)) z e in
      (step.0, value_means item text place step.0 step.1, same_value (amount_in step.0) z (Ok (amount_in step.0)) (Ok z) refl refl step.2)

  number_range : (of : Quantity) (text : List ℕ) (place : ℕ) (z : ℤ) → number_at known (what.Number of) text place ≡ Ok z → IsInRange known of z
  number_range of text place z e =
      let means = number_means (what.Number of) text place z e in
      let is : IsAmount known of text means.0 = means.1 in
      subst (IsInRange known of) (sym (ap amount_in is.value_is) ∙ means.2) is.stored.range

  hours_range : (least most : ℤ) (text : List ℕ) (place : ℕ) (z : ℤ) → number_at known (what.Hours least most) text place ≡ Ok z → IsBetween least z most
  hours_range least most text place z e =
      let means = number_means (what.Hours least most) text place z e in
      let is : IsHourAmount least most text means.0 = means.1 in
      subst (λ x. IsBetween least x most) (sym (ap amount_in is.value_is) ∙ means.2) is.range

  whole_range : (least most : ℕ) (text : List ℕ) (place : ℕ) (z : ℤ) → number_at known (what.Whole least most) text place ≡ Ok z → IsBetween (pos least) z (pos most)
  whole_range least most text place z e =
      let means = number_means (what.Whole least most) text place z e in
      let is : IsWholeAmount least most text means.0 = means.1 in
      subst (λ x. IsBetween (pos least) x (pos most)) (sym (ap amount_in is.value_is) ∙ means.2)
      (record { from = omega (arith, ints, is.from); to = omega (arith, ints, is.to) })

  day_range : (text : List ℕ) (z : ℤ) → time_of_day_of text ≡ Some z → IsBetween (pos 0) z (pos 86_399_999)
  day_range text z e =
      let told = time_told text z e in
      record { from = omega (arith, ints, told.clock.value); to = omega (arith, ints, told.below) }

  subject_range : (look : Subject) (text : List ℕ) (place : ℕ) (z : ℤ) → subject_value known look text place ≡ Ok z → ValueInRange look z
  unfolding unit_for
  subject_range (subject.NodeDepth node) text place z e = number_range quantity.Depth text place z e
  subject_range (subject.NodeHead node) text place z e = within_both (number_range quantity.Elevation text place z e) (within_minus (10 ^ 10)) (within_number (10 ^ 10))
  subject_range (subject.NodeInflow node) text place z e = within_both (number_range quantity.Flow text place z e) (within_minus (10 ^ 12)) (within_number (10 ^ 12))
  subject_range (subject.LinkFlow link) text place z e = within_both (number_range quantity.Flow text place z e) (within_minus (10 ^ 12)) (within_number (10 ^ 12))
  subject_range (subject.LinkSetting link) text place z e = number_range quantity.Coefficient text place z e
  subject_range subject.Elapsed text place z e = hours_range (pos 0) (pos (10 ^ 12)) text place z e
  subject_range subject.ClockTime text place z e = day_range text z (found_some (time_of_day_of text) _ place z e)
  subject_range subject.Month text place z e = whole_range 1 12 text place z e
  subject_range subject.Weekday text place z e = whole_range 1 7 text place z e

  pub priority_range : (tokens : List (List ℕ)) (z : ℤ) → priority_of known tokens ≡ Ok z → IsRaw z
  unfolding priority_of unit_for
  priority_range tokens z e =
      let step = not_short (nat_lt (length tokens) 2) (too_few_of tokens) (number_at known (what.Number quantity.Raw) (token_at tokens 1) 1) z e in
      within_both (number_range quantity.Raw (token_at tokens 1) 1 z step.1) (within_minus (10 ^ 15)) (within_number (10 ^ 15))

  -- ---- the words of a status
  one_in : IsCoefficient (pos (10 ^ 6))
  one_in = record { from = le_number tt; to = le_number tt }

  zero_in : IsCoefficient (pos 0)
  zero_in = record { from = le_number tt; to = le_number tt }

  either_range : (text : List ℕ) (z : ℤ) → either_status text ≡ Some z → IsCoefficient z
  either_range text z =
      choice IsCoefficient (same_word text (codes "ON")) _ _ z one_in
      (choice IsCoefficient (same_word text (codes "OPEN")) _ _ z one_in
      (choice IsCoefficient (same_word text (codes "OFF")) _ _ z zero_in
      (choice IsCoefficient (same_word text (codes "CLOSED")) _ _ z zero_in (no_choice IsCoefficient z))))

  one_part : IsPart (pos (10 ^ 6))
  one_part = record { from = le_number tt; to = le_number tt }

  zero_part : IsPart (pos 0)
  zero_part = record { from = le_number tt; to = le_number tt }

  status_range : (on off text : List ℕ) (place : ℕ) (z : ℤ) → status_by on off text place ≡ Ok z → IsPart z
  status_range on off text place z e =
      choice IsPart (same_word text on) _ _ z one_part
      (choice IsPart (same_word text off) _ _ z zero_part (no_choice IsPart z)) (found_some (setting_by on off text) _ place z e)

  one_range : (v : ℤ) (place : ℕ) (z : ℤ) → IsCoefficient v → up_to_one v place ≡ Ok z → IsPart z
  one_range v place z range = go (int_le v (pos (10 ^ 6))) refl where
    go : (b : Bool) → int_le v (pos (10 ^ 6)) ≡ b → cond b (Ok v) (Err (fault_of_kind fault_kind.InvalidNumber place)) ≡ Ok z → IsPart z
    go true t e = let same : v ≡ z = cc in let below : v ≤ℤ pos (10 ^ 6) = grind (arith, ints) in subst IsPart same (record { from = range.from; to = below })
    go false t e = absurd (cc)

  setting_range : (text : List ℕ) (place : ℕ) (z : ℤ) → setting_at known text place ≡ Ok z → IsPart z
  unfolding unit_for
  setting_range text place z e =
      let inside = not_short (is_outside text) _ (and_then (number_at known (what.Number quantity.Coefficient) text place) (λ value. up_to_one value place)) z e in
      let step = first_step (number_at known (what.Number quantity.Coefficient) text place) (λ value. up_to_one value place) z inside.1 in
      one_range step.0 place z (number_range quantity.Coefficient text place step.0 step.1) step.2

  set_range : (set : Part) (text : List ℕ) (place : ℕ) (z : ℤ) → set_value known set text place ≡ Ok z → IsPart z
  unfolding set_value
  set_range part.PumpStatus text place z e = status_range (codes "ON") (codes "OFF") text place z e
  set_range part.ConduitStatus text place z e = status_range (codes "OPEN") (codes "CLOSED") text place z e
  set_range part.Setting text place z e = setting_range text place z e

  module _ (project : Project) (objects_are : NamesObjects known project) where
    -- ---- names
    abbrev AreLinks : Objects → Type 0
    AreLinks kind = (name : List ℕ) (n : ℕ) → object_number known kind name ≡ Some n → n < length project.links

    kept_some : (test : ℕ → Bool) (o : Option ℕ) (n : ℕ) → that_is test o ≡ Some n → o ≡ Some n
    kept_some test None n e = absurd (cc)
    kept_some test (Some k) n e = go (test k) e where
      go : (b : Bool) → kept_if b k ≡ Some n → Some k ≡ Some n
      go true h = h
      go false h = absurd (cc)

    links_in : AreLinks objects.Links
    unfolding object_number
    links_in name n e = objects_are.links name n e

    conduits_in : AreLinks objects.Conduits
    unfolding object_number
    conduits_in name n e = objects_are.links name n (kept_some _ (known.links name) n e)

    pumps_in : AreLinks objects.Pumps
    unfolding object_number
    pumps_in name n e = objects_are.links name n (kept_some _ (known.links name) n e)

    orifices_in : AreLinks objects.Orifices
    unfolding object_number
    orifices_in name n e = objects_are.links name n (kept_some _ (known.links name) n e)

    weirs_in : AreLinks objects.Weirs
    unfolding object_number
    weirs_in name n e = objects_are.links name n (kept_some _ (known.links name) n e)

    object_in : (kind : Objects) (name : List ℕ) (place n : ℕ) → object_at known kind name place ≡ Ok n → object_number known kind name ≡ Some n
    object_in kind name place n e = found_some (object_number known kind name) _ place n e

    -- ---- tests
    number_sound : (look : Subject) → SubjectNames project look → IsLook project (record { subject = look; by_status = false })
    number_sound look names = record { names = names; status = λ e z range. absurd (cc) }

    node_look : (n : ℕ) (word : List ℕ) (looked : Looked) → n < length project.nodes → node_look_of n word ≡ Some looked → IsLook project looked
    node_look n word looked h =
        choice (IsLook project) (same_word word (codes "DEPTH")) _ _ looked (number_sound (subject.NodeDepth n) h)
        (choice (IsLook project) (same_word word (codes "HEAD")) _ _ looked (number_sound (subject.NodeHead n) h)
        (choice (IsLook project) (same_word word (codes "INFLOW")) _ _ looked (number_sound (subject.NodeInflow n) h) (no_choice (IsLook project) looked)))

    link_look : (n : ℕ) (word : List ℕ) (looked : Looked) → n < length project.links → link_look_of n word ≡ Some looked → IsLook project looked
    link_look n word looked h =
        choice (IsLook project) (same_word word (codes "FLOW")) _ _ looked (number_sound (subject.LinkFlow n) h)
        (choice (IsLook project) (same_word word (codes "SETTING")) _ _ looked (number_sound (subject.LinkSetting n) h)
        (choice (IsLook project) (same_word word (codes "STATUS")) _ _ looked (record { names = h; status = λ e z range. range }) (no_choice (IsLook project) looked)))

    clock_look : (word : List ℕ) (looked : Looked) → clock_look_of word ≡ Some looked → IsLook project looked
    clock_look word looked =
        choice (IsLook project) (same_word word (codes "TIME")) _ _ looked (number_sound subject.Elapsed tt)
        (choice (IsLook project) (same_word word (codes "CLOCKTIME")) _ _ looked (number_sound subject.ClockTime tt)
        (choice (IsLook project) (same_word word (codes "MONTH")) _ _ looked (number_sound subject.Month tt)
        (choice (IsLook project) (same_word word (codes "DAY")) _ _ looked (number_sound subject.Weekday tt) (no_choice (IsLook project) looked))))

    tested_range : (looked : Looked) (text : List ℕ) (place : ℕ) (z : ℤ) → IsLook project looked → tested_value known looked text place ≡ Ok z → ValueInRange looked.subject z
    unfolding tested_value
    tested_range looked text place z is = go looked.by_status refl where
      go : (b : Bool) → looked.by_status ≡ b → cond b (found_or (either_status text) fault_kind.InvalidKeyword place) (subject_value known looked.subject text place) ≡ Ok z → ValueInRange looked.subject z
      go true h e = is.status h z (either_range text z (found_some (either_status text) _ place z e))
      go false h e = subject_range looked.subject text place z e

    compared_sound : (tokens : List (List ℕ)) (place : ℕ) (looked : Looked) (test : Test) → IsLook project looked → compared known tokens place looked ≡ Ok test → IsSoundTest project test
    unfolding compared
    compared_sound tokens place looked test is e =
        let sign = first_step (found_or (relation_of (token_at tokens place)) _ place) _ test e in
        let value = first_step (tested_value known looked (token_at tokens (place + 1)) (place + 1)) _ test sign.2 in
        made sign.0 value.0 (tested_range looked (token_at tokens (place + 1)) (place + 1) value.0 is value.1) _ refl value.2 where
          made : (how : Relation) (z : ℤ) → ValueInRange looked.subject z → (r : Result Test Fault) → r ≡ Ok (record { subject = looked.subject; relation = how; value = z }) → r ≡ Ok test → IsSoundTest project test
          made how z range r p q = let same = same_value (record { subject = looked.subject; relation = how; value = z }) test r r p q refl in
              subst (IsSoundTest project) same (record { range = record { value_in = range }; names = record { subject = is.names } })

    looked_sound : (tokens : List (List ℕ)) (place : ℕ) (o : Option Looked) (test : Test) → ((looked : Looked) → o ≡ Some looked → IsLook project looked) → looked_test known tokens place o ≡ Ok test → IsSoundTest project test
    looked_sound tokens place None test is e = absurd (cc)
    looked_sound tokens place (Some looked) test is e = compared_sound tokens (place + 1) looked test (is looked refl) e

    -- a link that is watched is one of a kind of links
    abbrev AreWatched : Watched → Type 0
    AreWatched watched.Node = ⊤
    AreWatched (watched.Link kind) = AreLinks kind
    AreWatched watched.Simulation = ⊤

    watched_in : (word : List ℕ) (found : Watched) → watched_of word ≡ Some found → AreWatched found
    watched_in word found =
        choice AreWatched (same_word word (codes "NODE")) _ _ found tt
        (choice AreWatched (same_word word (codes "LINK")) _ _ found links_in
        (choice AreWatched (same_word word (codes "CONDUIT")) _ _ found conduits_in
        (choice AreWatched (same_word word (codes "PUMP")) _ _ found pumps_in
        (choice AreWatched (same_word word (codes "ORIFICE")) _ _ found orifices_in
        (choice AreWatched (same_word word (codes "WEIR")) _ _ found weirs_in
        (choice AreWatched (same_word word (codes "SIMULATION")) _ _ found tt (no_choice AreWatched found)))))))

    watched_sound : (tokens : List (List ℕ)) (o : Option Watched) (test : Test) → ((found : Watched) → o ≡ Some found → AreWatched found) → watched_test known tokens o ≡ Ok test → IsSoundTest project test
    unfolding object_number
    watched_sound tokens None test is e = absurd (cc)
    watched_sound tokens (Some watched.Node) test is e =
        let node = first_step (object_at known objects.Nodes (token_at tokens 2) 2) _ test e in
        looked_sound tokens 3 (node_look_of node.0 (token_at tokens 3)) test
        (λ looked. node_look node.0 (token_at tokens 3) looked (objects_are.nodes (token_at tokens 2) node.0 (object_in objects.Nodes (token_at tokens 2) 2 node.0 node.1))) node.2
    watched_sound tokens (Some (watched.Link kind)) test is e =
        let link = first_step (object_at known kind (token_at tokens 2) 2) _ test e in
        looked_sound tokens 3 (link_look_of link.0 (token_at tokens 3)) test
        (λ looked. link_look link.0 (token_at tokens 3) looked (is (watched.Link kind) refl (token_at tokens 2) link.0 (object_in kind (token_at tokens 2) 2 link.0 link.1))) link.2
    watched_sound tokens (Some watched.Simulation) test is e =
        looked_sound tokens 2 (clock_look_of (token_at tokens 2)) test (λ looked. clock_look (token_at tokens 2) looked) e

    pub test_sound : (tokens : List (List ℕ)) (test : Test) → test_of known tokens ≡ Ok test → IsSoundTest project test
    unfolding test_of
    test_sound tokens test e =
        let long = not_short (nat_lt (length tokens) (least_of_test (token_at tokens 1))) (too_few_of tokens) (watched_test known tokens (watched_of (token_at tokens 1))) test e in
        watched_sound tokens (watched_of (token_at tokens 1)) test (λ found. watched_in (token_at tokens 1) found) long.1

    -- ---- actions
    actor_in : (word : List ℕ) (kind : Objects) → actor_of word ≡ Some kind → AreLinks kind
    actor_in word kind =
        choice AreLinks (same_word word (codes "PUMP")) _ _ kind pumps_in
        (choice AreLinks (same_word word (codes "CONDUIT")) _ _ kind conduits_in
        (choice AreLinks (same_word word (codes "ORIFICE")) _ _ kind orifices_in
        (choice AreLinks (same_word word (codes "WEIR")) _ _ kind weirs_in (no_choice AreLinks kind))))

    set_sound : (tokens : List (List ℕ)) (n : ℕ) (set : Part) (action : Action) → n < length project.links → setting_action known tokens n set ≡ Ok action → IsSoundAction project action
    unfolding setting_action
    set_sound tokens n set action h = go (same_word (token_at tokens 4) (codes "=")) where
      made : (z : ℤ) → IsPart z → (r : Result Action Fault) → r ≡ Ok (record { link = n; setting6 = z }) → r ≡ Ok action → IsSoundAction project action
      made z range r p q = let same = same_value (record { link = n; setting6 = z }) action r r p q refl in
          subst (IsSoundAction project) same (record { range = record { setting_in = range }; names = record { link = h } })

      go : (b : Bool) → cond b (and_then (set_value known set (token_at tokens 5) 5) (λ setting. Ok (record { link = n; setting6 = setting }))) (Err (fault_of_kind fault_kind.InvalidKeyword 4)) ≡ Ok action → IsSoundAction project action
      go true e = let value = first_step (set_value known set (token_at tokens 5) 5) _ action e in made value.0 (set_range set (token_at tokens 5) 5 value.0 value.1) _ refl value.2
      go false e = absurd (cc)

    part_sound : (tokens : List (List ℕ)) (n : ℕ) (o : Option Part) (action : Action) → n < length project.links → part_action known tokens n o ≡ Ok action → IsSoundAction project action
    part_sound tokens n None action h e = absurd (cc)
    part_sound tokens n (Some set) action h e = set_sound tokens n set action h e

    actor_sound : (tokens : List (List ℕ)) (o : Option Objects) (action : Action) → ((kind : Objects) → o ≡ Some kind → AreLinks kind) → actor_action known tokens o ≡ Ok action → IsSoundAction project action
    actor_sound tokens None action is e = absurd (cc)
    actor_sound tokens (Some kind) action is e =
        let link = first_step (object_at known kind (token_at tokens 2) 2) _ action e in
        part_sound tokens link.0 (part_of kind (token_at tokens 3)) action (is kind refl (token_at tokens 2) link.0 (object_in kind (token_at tokens 2) 2 link.0 link.1)) link.2

    pub action_sound : (tokens : List (List ℕ)) (action : Action) → action_of known tokens ≡ Ok action → IsSoundAction project action
    unfolding action_of
    action_sound tokens action e =
        let long = not_short (nat_lt (length tokens) 6) (too_few_of tokens) (actor_action known tokens (actor_of (token_at tokens 1))) action e in
        actor_sound tokens (actor_of (token_at tokens 1)) action (λ kind. actor_in (token_at tokens 1) kind) long.1
