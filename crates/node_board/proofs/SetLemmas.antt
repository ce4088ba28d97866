-- What the lead sets of links and nodes, and the state that stands then.
use Rattle.std.proofs.Common.{◌≡◌, ℕ, ◌+◌, ◌-◌, ◌<◌, ◌⊎◌, inl, inr, false, nat_lt, ℤ, pos, List, length}
use Rattle.std.proofs.Common.{slice_set, slice_index_or, refl, sym, ap, subst, ◌∙◌, arith}
use Rattle.std.proofs.lemmas.Bool.Decides.{nat_tests}
use Rattle.std.proofs.lemmas.List.{length-set, get_or-set_same, get_or-set_other}
use Rattle.std.proofs.lemmas.List.FromFn.{fill_by_all, length-map-range_with_len}
use Rattle.fixed_num.specs.Lists.{number, list_of}
use Rattle.fixed_num.specs.Ranges.{IsFlow}
use Rattle.phase_law.specs.Law.{Law}
use Rattle.phase_law.specs.Laws.{IsLaw}
use Rattle.phase_law.specs.Ranges.{HeadInRange}
use Rattle.phase_law.specs.declared.values.LinkFixed.{LinkFixed}
use Rattle.phase_law.specs.declared.values.NodeFixed.{NodeFixed}
use Rattle.trial_model.specs.declared.nets.Nets.{Nets}
use Rattle.trial_model.specs.Start.{no_link, no_node}
use Rattle.trial_model.proofs.FlowLemmas.{list_same}
use Rattle.trial_model.proofs.LoopLemmas.{number_same, number_other}
use Rattle.trial_model.proofs.RangeLemmas.{listed}
use Rattle.phase_machine.specs.Places.{link_place, node_place, least_place, word_count, is_odd, written, other}
use Rattle.phase_machine.specs.Places.{link_fixed_in, node_fixed_in, nets_in, IsRead, IsInRange, LinkWord, NodeWord}
use Rattle.phase_machine.specs.Places.{link_fixed, flow, node_fixed, head}
use Rattle.phase_machine.proofs.PlaceLemmas.{equal_or_not, written_few, link_range, node_range}
use Rattle.phase_machine.proofs.PlaceLemmas.{flow_word, head_word}
use Rattle.node_board.specs.declared.views.Plan.{Plan}
use Rattle.node_board.specs.Coding.{is_plain}
use Rattle.node_board.specs.Known.{with_link, with_node, CanSetWord}
use Rattle.node_board.specs.Steps.{Rests}
use Rattle.node_board.proofs.CodeLemmas.{link_signed, node_kind}
use Rattle.node_board.proofs.LoadSteps.{link_low, node_low}

-- ---- the words that may be set
module _ {law : Law} (good : IsLaw law) (plan : Plan) (rests : Rests plan) (even : is_odd plan.phase ≡ false) where
  -- a word k of a link that the next trial reads
  link_settable : (l k word : ℕ) (value : ℤ) → l < law.links → k < 6 → LinkWord k value
      → IsRead law (written plan.phase) (link_place l k) → word ≡ link_place l k + 1 → CanSetWord law word value plan
  link_settable l k word value h few range read at =
      let e : word - 1 ≡ link_place l k = omega (arith, at) in
      record {
        rests = rests;
        even = even;
        behind = omega (arith, at);
        reads = subst (λ (j : ℕ). IsRead law (written plan.phase) j) (sym e) read;
        range = subst (λ (j : ℕ). IsInRange law j value) (sym e) (link_range l k h few value range);
        signed = ap (is_plain law) e ∙ link_signed law l k h few;
        low = link_low k value few range;
      }

  pub fixed_link : (l k word : ℕ) (value : ℤ) → l < law.links → k < 4 → LinkWord k value → word ≡ link_place l k + 1
      → CanSetWord law word value plan
  fixed_link l k word value h few range at =
      link_settable l k word value h (omega (arith, few)) range (link_fixed l k h few) at

  pub flow_link : (l word : ℕ) (value : ℤ) → l < law.links → IsFlow value
      → word ≡ link_place l (4 + written plan.phase) + 1 → CanSetWord law word value plan
  flow_link l word value h range at =
      let few = written_few plan.phase in
      link_settable l (4 + written plan.phase) word value h (omega (arith, few))
      (flow_word (written plan.phase) value few range) (flow l h) at

  -- a word k of a node that the next trial reads
  node_settable : (n k word : ℕ) (value : ℤ) → n < law.nodes → k < 7 → NodeWord law k value
      → IsRead law (written plan.phase) (node_place law n k) → word ≡ node_place law n k + 1
      → CanSetWord law word value plan
  node_settable n k word value h few range read at =
      let e : word - 1 ≡ node_place law n k = omega (arith, at) in
      let off : nat_lt 6 k ≡ false = grind (arith, nat_tests, few) in
      record {
        rests = rests;
        even = even;
        behind = omega (arith, at);
        reads = subst (λ (j : ℕ). IsRead law (written plan.phase) j) (sym e) read;
        range = subst (λ (j : ℕ). IsInRange law j value) (sym e) (node_range n k h few value range);
        signed = ap (is_plain law) e ∙ node_kind law n k h (omega (arith, few)) ∙ off;
        low = node_low law good k value few range;
      }

  pub fixed_node : (n k word : ℕ) (value : ℤ) → n < law.nodes → k < 5 → NodeWord law k value → word ≡ node_place law n k + 1
      → CanSetWord law word value plan
  fixed_node n k word value h few range at =
      node_settable n k word value h (omega (arith, few)) range (node_fixed n k h few) at

  pub head_node : (n word : ℕ) (value : ℤ) → n < law.nodes → HeadInRange law value
      → word ≡ node_place law n (5 + written plan.phase) + 1 → CanSetWord law word value plan
  head_node n word value h range at =
      let few = written_few plan.phase in
      node_settable n (5 + written plan.phase) word value h (omega (arith, few))
      (head_word law (written plan.phase) value few range) (head n h) at

-- ---- lists that change at one place
listed_set : {A : Type 0} (f g : ℕ → A) (count i : ℕ) (v default : A) → i < count → g i ≡ v
    → ((k : ℕ) → k < count → ¬ (k ≡ i) → g k ≡ f k) → list_of g count ≡ slice_set (list_of f count) i v
listed_set f g count i v default within here others =
    sym (fill_by_all g (slice_set (list_of f count) i v) count default
    (length-set (list_of f count) i v ∙ length-map-range_with_len f 0 count) each)
  where
    size : length (list_of f count) ≡ count
    size = length-map-range_with_len f 0 count

    each : (k : ℕ) → k < count → slice_index_or (slice_set (list_of f count) i v) k default ≡ g k
    each k h =
        elim (equal_or_not k i) [
          | inl same ↦
              ap (λ (j : ℕ). slice_index_or (slice_set (list_of f count) i v) j default) same
              ∙ get_or-set_same (list_of f count) i v default (omega (arith, size, within))
              ∙ sym here
              ∙ ap g (sym same)
          | inr differ ↦
              get_or-set_other (list_of f count) i k v default differ
              ∙ listed f count k default h
              ∙ sym (others k h differ)
        ]

equal_nets : (h f i o a r h2 f2 i2 o2 a2 r2 : List ℤ) (l l2 : List LinkFixed) (n n2 : List NodeFixed) (m m2 : ℤ)
    → h ≡ h2 → f ≡ f2 → i ≡ i2 → o ≡ o2 → a ≡ a2 → r ≡ r2 → l ≡ l2 → n ≡ n2 → m ≡ m2
    → ◌≡◌ {A = Nets}
    (record { heads = h; flows = f; inflows = i; outflows = o; areas = a; read_heads = r; links = l; nodes = n; least = m })
    (record { heads = h2; flows = f2; inflows = i2; outflows = o2; areas = a2; read_heads = r2; links = l2; nodes = n2; least = m2 })
equal_nets h f i o a r h2 f2 i2 o2 a2 r2 l l2 n n2 m m2 e1 e2 e3 e4 e5 e6 e7 e8 e9 = cc

-- ---- a link that is set
module _ (law : Law) (b l : ℕ) (fixed : LinkFixed) (q : ℤ) (words : List ℤ) (few : b < 2) (h : l < law.links)
    (size : length words ≡ word_count law) where
  other_word : (j : ℕ) → ((k : ℕ) → k < 6 → ¬ (j ≡ link_place l k)) → number (with_link b l fixed q words) j ≡ number words j
  other_word j apart =
      number_other _ (link_place l (4 + b)) j q (apart (4 + b) (omega (arith, few)))
      ∙ number_other _ (link_place l 3) j fixed.dt (apart 3 (omega arith))
      ∙ number_other _ (link_place l 2) j fixed.setting (apart 2 (omega arith))
      ∙ number_other _ (link_place l 1) j fixed.a_old (apart 1 (omega arith))
      ∙ number_other words (link_place l 0) j fixed.q_old (apart 0 (omega arith))

  others : (i k : ℕ) → ¬ (i ≡ l) → k < 6 → number (with_link b l fixed q words) (link_place i k) ≡ number words (link_place i k)
  others i k differ small = other_word (link_place i k) (λ m less e. differ (omega (arith, e, small, less)))

  apart_node : (n k : ℕ) → number (with_link b l fixed q words) (node_place law n k) ≡ number words (node_place law n k)
  apart_node n k = other_word (node_place law n k) (λ m less e. omega (arith, e, less, h))

  -- the words after one store, two, three and four
  abbrev after1 : List ℤ
  after1 = slice_set words (link_place l 0) fixed.q_old

  abbrev after2 : List ℤ
  after2 = slice_set after1 (link_place l 1) fixed.a_old

  abbrev after3 : List ℤ
  after3 = slice_set after2 (link_place l 2) fixed.setting

  abbrev after4 : List ℤ
  after4 = slice_set after3 (link_place l 3) fixed.dt

  size1 : length after1 ≡ word_count law
  size1 = length-set words (link_place l 0) fixed.q_old ∙ size

  size2 : length after2 ≡ word_count law
  size2 = length-set after1 (link_place l 1) fixed.a_old ∙ size1

  size3 : length after3 ≡ word_count law
  size3 = length-set after2 (link_place l 2) fixed.setting ∙ size2

  size4 : length after4 ≡ word_count law
  size4 = length-set after3 (link_place l 3) fixed.dt ∙ size3

  q_old_is : number (with_link b l fixed q words) (link_place l 0) ≡ fixed.q_old
  q_old_is =
      number_other after4 (link_place l (4 + b)) (link_place l 0) q (λ e. omega (arith, e))
      ∙ number_other after3 (link_place l 3) (link_place l 0) fixed.dt (λ e. omega (arith, e))
      ∙ number_other after2 (link_place l 2) (link_place l 0) fixed.setting (λ e. omega (arith, e))
      ∙ number_other after1 (link_place l 1) (link_place l 0) fixed.a_old (λ e. omega (arith, e))
      ∙ number_same words (link_place l 0) fixed.q_old (omega (arith, size, h))

  a_old_is : number (with_link b l fixed q words) (link_place l 1) ≡ fixed.a_old
  a_old_is =
      number_other after4 (link_place l (4 + b)) (link_place l 1) q (λ e. omega (arith, e))
      ∙ number_other after3 (link_place l 3) (link_place l 1) fixed.dt (λ e. omega (arith, e))
      ∙ number_other after2 (link_place l 2) (link_place l 1) fixed.setting (λ e. omega (arith, e))
      ∙ number_same after1 (link_place l 1) fixed.a_old (omega (arith, size1, h))

  setting_is : number (with_link b l fixed q words) (link_place l 2) ≡ fixed.setting
  setting_is =
      number_other after4 (link_place l (4 + b)) (link_place l 2) q (λ e. omega (arith, e))
      ∙ number_other after3 (link_place l 3) (link_place l 2) fixed.dt (λ e. omega (arith, e))
      ∙ number_same after2 (link_place l 2) fixed.setting (omega (arith, size2, h))

  link_dt_is : number (with_link b l fixed q words) (link_place l 3) ≡ fixed.dt
  link_dt_is =
      number_other after4 (link_place l (4 + b)) (link_place l 3) q (λ e. omega (arith, e))
      ∙ number_same after3 (link_place l 3) fixed.dt (omega (arith, size3, h))

  flow_is : number (with_link b l fixed q words) (link_place l (4 + b)) ≡ q
  flow_is = number_same after4 (link_place l (4 + b)) q (omega (arith, size4, h, few))

  fixed_is : link_fixed_in (with_link b l fixed q words) l ≡ fixed
  fixed_is = rw (q_old_is, a_old_is, setting_is, link_dt_is) refl

  fixed_others : (k : ℕ) → k < law.links → ¬ (k ≡ l)
      → link_fixed_in (with_link b l fixed q words) k ≡ link_fixed_in words k
  fixed_others k less differ =
      rw (others k 0 differ (omega arith), others k 1 differ (omega arith), others k 2 differ (omega arith), others k 3 differ (omega arith)) refl

  same_nodes : (n : ℕ) → n < law.nodes
      → node_fixed_in law (with_link b l fixed q words) n ≡ node_fixed_in law words n
  same_nodes n less = rw (apart_node n 0, apart_node n 1, apart_node n 2, apart_node n 3, apart_node n 4) refl

  node_column : (k : ℕ) → list_of (λ n. number (with_link b l fixed q words) (node_place law n k)) law.nodes
      ≡ list_of (λ n. number words (node_place law n k)) law.nodes
  node_column k =
      list_same (λ n. number (with_link b l fixed q words) (node_place law n k)) (λ n. number words (node_place law n k)) (pos 0)
      law.nodes (λ n less. apart_node n k)

  pub link_state : nets_in law (with_link b l fixed q words) b
      ≡ record (nets_in law words b) {
        links = slice_set (nets_in law words b).links l fixed;
        flows = slice_set (nets_in law words b).flows l q;
      }
  unfolding nets_in
  link_state =
      equal_nets _ _ _ _ _ _ _ _ _ _ _ _ _ _ _ _ _ _
      (node_column (5 + b))
      (listed_set (λ k. number words (link_place k (4 + b))) (λ k. number (with_link b l fixed q words) (link_place k (4 + b)))
      law.links l q (pos 0) h flow_is (λ k less differ. others k (4 + b) differ (omega (arith, few))))
      (node_column 7)
      (node_column 8)
      (node_column 9)
      (node_column (5 + other b))
      (listed_set (link_fixed_in words) (link_fixed_in (with_link b l fixed q words)) law.links l fixed no_link h fixed_is fixed_others)
      (list_same (node_fixed_in law (with_link b l fixed q words)) (node_fixed_in law words) no_node law.nodes same_nodes)
      (other_word (least_place law) (λ m less e. omega (arith, e, less, h)))

-- ---- a node that is set
module _ (law : Law) (b n : ℕ) (fixed : NodeFixed) (z : ℤ) (words : List ℤ) (few : b < 2) (h : n < law.nodes)
    (size : length words ≡ word_count law) where
  beside : (j : ℕ) → ((k : ℕ) → k < 7 → (k < 5) ⊎ (k ≡ 5 + b) → ¬ (j ≡ node_place law n k))
      → number (with_node law b n fixed z words) j ≡ number words j
  beside j apart =
      number_other _ (node_place law n (5 + b)) j z (apart (5 + b) (omega (arith, few)) (inr refl))
      ∙ number_other _ (node_place law n 4) j fixed.dt (apart 4 (omega arith) (inl (omega arith)))
      ∙ number_other _ (node_place law n 3) j fixed.stage (apart 3 (omega arith) (inl (omega arith)))
      ∙ number_other _ (node_place law n 2) j fixed.lateral (apart 2 (omega arith) (inl (omega arith)))
      ∙ number_other _ (node_place law n 1) j fixed.net_old (apart 1 (omega arith) (inl (omega arith)))
      ∙ number_other words (node_place law n 0) j fixed.h_old (apart 0 (omega arith) (inl (omega arith)))

  at_others : (i k : ℕ) → ¬ (i ≡ n) → k < 10
      → number (with_node law b n fixed z words) (node_place law i k) ≡ number words (node_place law i k)
  at_others i k differ small = beside (node_place law i k) (λ m less kind e. differ (omega (arith, e, small, less)))

  at_link : (i k : ℕ) → i < law.links → k < 6
      → number (with_node law b n fixed z words) (link_place i k) ≡ number words (link_place i k)
  at_link i k within small = beside (link_place i k) (λ m less kind e. omega (arith, e, small, within))

  at_sum : (i s : ℕ) → s < 3
      → number (with_node law b n fixed z words) (node_place law i (7 + s)) ≡ number words (node_place law i (7 + s))
  at_sum i s small = beside (node_place law i (7 + s)) (λ m less kind e. omega (arith, e, small, less))

  at_other_head : (i : ℕ) → number (with_node law b n fixed z words) (node_place law i (5 + other b))
      ≡ number words (node_place law i (5 + other b))
  at_other_head i =
      beside (node_place law i (5 + other b)) (λ m less kind e. elim kind [
        | inl fix ↦ omega (arith, e, fix, few)
        | inr is ↦ omega (arith, e, is, few)
      ])

  -- the words after one store, two, three, four and five
  abbrev then1 : List ℤ
  then1 = slice_set words (node_place law n 0) fixed.h_old

  abbrev then2 : List ℤ
  then2 = slice_set then1 (node_place law n 1) fixed.net_old

  abbrev then3 : List ℤ
  then3 = slice_set then2 (node_place law n 2) fixed.lateral

  abbrev then4 : List ℤ
  then4 = slice_set then3 (node_place law n 3) fixed.stage

  abbrev then5 : List ℤ
  then5 = slice_set then4 (node_place law n 4) fixed.dt

  room1 : length then1 ≡ word_count law
  room1 = length-set words (node_place law n 0) fixed.h_old ∙ size

  room2 : length then2 ≡ word_count law
  room2 = length-set then1 (node_place law n 1) fixed.net_old ∙ room1

  room3 : length then3 ≡ word_count law
  room3 = length-set then2 (node_place law n 2) fixed.lateral ∙ room2

  room4 : length then4 ≡ word_count law
  room4 = length-set then3 (node_place law n 3) fixed.stage ∙ room3

  room5 : length then5 ≡ word_count law
  room5 = length-set then4 (node_place law n 4) fixed.dt ∙ room4

  h_old_is : number (with_node law b n fixed z words) (node_place law n 0) ≡ fixed.h_old
  h_old_is =
      number_other then5 (node_place law n (5 + b)) (node_place law n 0) z (λ e. omega (arith, e))
      ∙ number_other then4 (node_place law n 4) (node_place law n 0) fixed.dt (λ e. omega (arith, e))
      ∙ number_other then3 (node_place law n 3) (node_place law n 0) fixed.stage (λ e. omega (arith, e))
      ∙ number_other then2 (node_place law n 2) (node_place law n 0) fixed.lateral (λ e. omega (arith, e))
      ∙ number_other then1 (node_place law n 1) (node_place law n 0) fixed.net_old (λ e. omega (arith, e))
      ∙ number_same words (node_place law n 0) fixed.h_old (omega (arith, size, h))

  net_old_is : number (with_node law b n fixed z words) (node_place law n 1) ≡ fixed.net_old
  net_old_is =
      number_other then5 (node_place law n (5 + b)) (node_place law n 1) z (λ e. omega (arith, e))
      ∙ number_other then4 (node_place law n 4) (node_place law n 1) fixed.dt (λ e. omega (arith, e))
      ∙ number_other then3 (node_place law n 3) (node_place law n 1) fixed.stage (λ e. omega (arith, e))
      ∙ number_other then2 (node_place law n 2) (node_place law n 1) fixed.lateral (λ e. omega (arith, e))
      ∙ number_same then1 (node_place law n 1) fixed.net_old (omega (arith, room1, h))

  lateral_is : number (with_node law b n fixed z words) (node_place law n 2) ≡ fixed.lateral
  lateral_is =
      number_other then5 (node_place law n (5 + b)) (node_place law n 2) z (λ e. omega (arith, e))
      ∙ number_other then4 (node_place law n 4) (node_place law n 2) fixed.dt (λ e. omega (arith, e))
      ∙ number_other then3 (node_place law n 3) (node_place law n 2) fixed.stage (λ e. omega (arith, e))
      ∙ number_same then2 (node_place law n 2) fixed.lateral (omega (arith, room2, h))

  stage_is : number (with_node law b n fixed z words) (node_place law n 3) ≡ fixed.stage
  stage_is =
      number_other then5 (node_place law n (5 + b)) (node_place law n 3) z (λ e. omega (arith, e))
      ∙ number_other then4 (node_place law n 4) (node_place law n 3) fixed.dt (λ e. omega (arith, e))
      ∙ number_same then3 (node_place law n 3) fixed.stage (omega (arith, room3, h))

  node_dt_is : number (with_node law b n fixed z words) (node_place law n 4) ≡ fixed.dt
  node_dt_is =
      number_other then5 (node_place law n (5 + b)) (node_place law n 4) z (λ e. omega (arith, e))
      ∙ number_same then4 (node_place law n 4) fixed.dt (omega (arith, room4, h))

  head_is : number (with_node law b n fixed z words) (node_place law n (5 + b)) ≡ z
  head_is = number_same then5 (node_place law n (5 + b)) z (omega (arith, room5, h, few))

  node_is : node_fixed_in law (with_node law b n fixed z words) n ≡ fixed
  node_is = rw (h_old_is, net_old_is, lateral_is, stage_is, node_dt_is) refl

  node_others : (k : ℕ) → k < law.nodes → ¬ (k ≡ n)
      → node_fixed_in law (with_node law b n fixed z words) k ≡ node_fixed_in law words k
  node_others k less differ =
      rw (
        at_others k 0 differ (omega arith),
        at_others k 1 differ (omega arith),
        at_others k 2 differ (omega arith),
        at_others k 3 differ (omega arith),
        at_others k 4 differ (omega arith),
      )
      refl

  same_links : (l : ℕ) → l < law.links → link_fixed_in (with_node law b n fixed z words) l ≡ link_fixed_in words l
  same_links l less =
      rw (at_link l 0 less (omega arith), at_link l 1 less (omega arith), at_link l 2 less (omega arith), at_link l 3 less (omega arith)) refl

  sum_column : (s : ℕ) → s < 3 → list_of (λ i. number (with_node law b n fixed z words) (node_place law i (7 + s))) law.nodes
      ≡ list_of (λ i. number words (node_place law i (7 + s))) law.nodes
  sum_column s small =
      list_same (λ i. number (with_node law b n fixed z words) (node_place law i (7 + s))) (λ i. number words (node_place law i (7 + s)))
      (pos 0) law.nodes (λ i less. at_sum i s small)

  pub node_state : nets_in law (with_node law b n fixed z words) b
      ≡ record (nets_in law words b) {
        nodes = slice_set (nets_in law words b).nodes n fixed;
        heads = slice_set (nets_in law words b).heads n z;
      }
  unfolding nets_in
  node_state =
      equal_nets _ _ _ _ _ _ _ _ _ _ _ _ _ _ _ _ _ _
      (listed_set (λ i. number words (node_place law i (5 + b))) (λ i. number (with_node law b n fixed z words) (node_place law i (5 + b)))
      law.nodes n z (pos 0) h head_is (λ i less differ. at_others i (5 + b) differ (omega (arith, few))))
      (list_same (λ l. number (with_node law b n fixed z words) (link_place l (4 + b))) (λ l. number words (link_place l (4 + b)))
      (pos 0) law.links (λ l less. at_link l (4 + b) less (omega (arith, few))))
      (sum_column 0 (omega arith))
      (sum_column 1 (omega arith))
      (sum_column 2 (omega arith))
      (list_same (λ i. number (with_node law b n fixed z words) (node_place law i (5 + other b)))
      (λ i. number words (node_place law i (5 + other b))) (pos 0) law.nodes (λ i less. at_other_head i))
      (list_same (link_fixed_in (with_node law b n fixed z words)) (link_fixed_in words) no_link law.links same_links)
      (listed_set (node_fixed_in law words) (node_fixed_in law (with_node law b n fixed z words)) law.nodes n fixed no_node h node_is node_others)
      (beside (least_place law) (λ m less kind e. omega (arith, e, less, h)))
