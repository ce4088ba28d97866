-- A project without faults is good, and a good one has none.
use Rattle.std.proofs.Common.{◌≡◌, ◌∙◌, ℕ, zero, suc, ◌+◌, ◌<◌, ◌≤◌, nat_le, ◌==◌, Bool, true, false, not, ◌&&◌}
use Rattle.std.proofs.Common.{◌||◌, cond, List, [], ◌∷◌, ◌++◌, length, take, get_or, flat_map, IsTrue, IsSome}
use Rattle.std.proofs.Common.{IfSome, Option, Some, None, ℤ, pos, ◌≤ℤ◌, ◌<ℤ◌, refl, ap, sym, subst, arith}
use Rattle.std.specs.Prelude.{int_le, int_lt}
use Rattle.std.specs.Bool.{Decides, ⊤}
use Rattle.std.specs.List.{All, range_with_len}
use Rattle.std.proofs.lemmas.Bool.Decides.{Decides-and, Decides-or, Decides-not, Decides-int_eq}
use Rattle.std.proofs.lemmas.Bool.Decides.{Decides-eqb, Decides-like, nat_tests}
use Rattle.std.proofs.lemmas.Int.{ints}
use Rattle.std.proofs.lemmas.List.Elements.{All-nil, All-cons, All-head, All-tail}
use Rattle.std.proofs.lemmas.List.Concat.{flat_map-cons}
use Rattle.std.proofs.lemmas.List.FromFn.{get_or-range_with_len, length-range_with_len}
use Rattle.std.proofs.lemmas.List.Folds.{Any-from_list_any, list_any-from_Any}
use Rattle.net_types.specs.declared.faults.FaultKind.{FaultKind}
use Rattle.net_types.specs.declared.faults.FaultKind.TheVariants.{NoOutfall, EndBeforeStart, OverLimit, BadObject}
use Rattle.net_types.specs.declared.faults.ProjectFault.{ProjectFault}
use Rattle.net_types.specs.declared.hydrology.Infil.{Infil}
use Rattle.net_types.specs.declared.hydrology.Infil.TheVariants.{Horton, Number}
use Rattle.net_types.specs.declared.hydrology.Sub.{Sub}
use Rattle.net_types.specs.declared.hydrology.SubAreas.{SubAreas}
use Rattle.net_types.specs.declared.network.Link.{Link}
use Rattle.net_types.specs.declared.network.LinkKind.{LinkKind}
use Rattle.net_types.specs.declared.network.Node.{Node}
use Rattle.net_types.specs.declared.network.Section.{Section}
use Rattle.net_types.specs.declared.options.Options.{Options}
use Rattle.net_types.specs.declared.project.Project.{Project}
use Rattle.net_types.specs.Records.{node_at}
use Rattle.net_types.specs.Sound.{IsSound}
use Rattle.project_check.specs.declared.ends.NodeEnds.{NodeEnds}
use Rattle.project_check.specs.Ends.{ends_of}
use Rattle.project_check.specs.Faultless.{IsFaultless, HasGoodTimes, IsGoodNode, IsGoodSection}
use Rattle.project_check.specs.Faultless.{IsGoodLink, HasGoodRates, IsGoodSub, IsGood}
use Rattle.project_check.specs.FullHeight.{kind_height, full_height_of}
use Rattle.project_check.specs.Network.{has_outfall, is_outfall, is_storage, link_ends, links_from}
use Rattle.project_check.specs.Objects.{has_wrong_links, begins_too_high, is_too_shallow, node_fault, fits_kind}
use Rattle.project_check.specs.Objects.{needs_none, section_area, has_good_area, has_good_section, is_good_link}
use Rattle.project_check.specs.Objects.{has_good_rates, has_good_infiltration, has_runoff, is_good_sub}
use Rattle.project_check.specs.ProjectFaults.{fault_where, fault_if, general_faults, node_faults}
use Rattle.project_check.specs.ProjectFaults.{link_faults, sub_faults, all_faults, project_faults}
use Rattle.project_check.specs.Times.{EndsBeforeStart, IsOverLimit, ends_before_start}
use Rattle.project_check.specs.Times.{is_over_limit, duration, longest, most_steps_time}

-- ---- lists of nothing
cut_none : {A : Type 0} (xs : List A) → take 100 xs ≡ [] → xs ≡ []
cut_none [] h = refl
cut_none (x ∷ xs) h = let no : ⊥ = cc in absurd no

left_none : {A : Type 0} (xs ys : List A) → xs ++ ys ≡ [] → xs ≡ []
left_none [] ys h = refl
left_none (x ∷ xs) ys h = let no : ⊥ = cc in absurd no

right_none : {A : Type 0} (xs ys : List A) → xs ++ ys ≡ [] → ys ≡ []
right_none [] ys h = h
right_none (x ∷ xs) ys h = let no : ⊥ = cc in absurd no

each_none : {A B : Type 0} (f : A → List B) (xs : List A) → flat_map f xs ≡ [] → All (λ x. f x ≡ []) xs
each_none f [] h = All-nil (λ x. f x ≡ [])
each_none f (x ∷ xs) h =
    let parts : f x ++ flat_map f xs ≡ [] = sym (flat_map-cons f x xs) ∙ h in
    All-cons (λ x. f x ≡ []) x xs (left_none (f x) (flat_map f xs) parts) (each_none f xs (right_none (f x) (flat_map f xs) parts))

none_each : {A B : Type 0} (f : A → List B) (xs : List A) → All (λ x. f x ≡ []) xs → flat_map f xs ≡ []
none_each f [] all = refl
none_each f (x ∷ xs) all =
    flat_map-cons f x xs ∙ (ap (λ l. l ++ flat_map f xs) (All-head (λ x. f x ≡ []) x xs all) ∙ none_each f xs (All-tail (λ x. f x ≡ []) x xs all))

-- the same of the first numbers
numbers_none : {B : Type 0} (f : ℕ → List B) (count : ℕ) → flat_map f (range_with_len 0 count) ≡ [] → (k : ℕ) → k < count → f k ≡ []
numbers_none f count h k less =
    let is : get_or (range_with_len 0 count) k k ≡ k = get_or-range_with_len 0 count k k less ∙ zero_plus k in
    subst (λ n. f n ≡ []) is (each_none f (range_with_len 0 count) h k k (omega (arith, less, length-range_with_len 0 count)))
  where
    zero_plus : (k : ℕ) → 0 + k ≡ k
    zero_plus k = omega arith

none_numbers : {B : Type 0} (f : ℕ → List B) (count : ℕ) → ((k : ℕ) → k < count → f k ≡ []) → flat_map f (range_with_len 0 count) ≡ []
none_numbers f count each =
    none_each f (range_with_len 0 count)
    (λ k d less.
    let inside : k < count = omega (arith, less, length-range_with_len 0 count) in
    let is : k ≡ get_or (range_with_len 0 count) k d = sym (get_or-range_with_len 0 count k d inside ∙ zero_plus k) in
    subst (λ n. f n ≡ []) is (each k inside))
  where
    zero_plus : (k : ℕ) → 0 + k ≡ k
    zero_plus k = omega arith

-- ---- one fault
stands_not : (b : Bool) (kind : FaultKind) (name : List ℕ) → fault_where b kind name ≡ [] → b ≡ false
stands_not true kind name h = let no : ⊥ = cc in absurd no
stands_not false kind name h = refl

not_stands : (b : Bool) (kind : FaultKind) (name : List ℕ) → b ≡ false → fault_where b kind name ≡ []
not_stands true kind name h = let no : ⊥ = cc in absurd no
not_stands false kind name h = refl

none_is : (o : Option FaultKind) (name : List ℕ) → fault_if o name ≡ [] → o ≡ None
none_is (Some kind) name h = let no : ⊥ = cc in absurd no
none_is None name h = refl

twice_not : (b : Bool) → not b ≡ false → b ≡ true
twice_not true h = refl
twice_not false h = let no : ⊥ = cc in absurd no

not_twice : (b : Bool) → b ≡ true → not b ≡ false
not_twice true h = refl
not_twice false h = let no : ⊥ = cc in absurd no

true_not : {b : Bool} → b ≡ false → ¬ (IsTrue b)
true_not {b} h t = let no : ⊥ = cc in absurd no

not_true : (b : Bool) → ¬ (IsTrue b) → b ≡ false
not_true true h = absurd (h refl)
not_true false h = refl

-- ---- the times
early : (o : Options) → Decides (ends_before_start o) (EndsBeforeStart o)
early o = ((λ h. grind (arith, ints)), (λ h. grind (arith, ints)))

less : (a b : ℤ) → Decides (int_lt a b) (a <ℤ b)
less a b = ((λ h. grind (arith, ints)), (λ h. grind (arith, ints)))

at_most : (a b : ℤ) → Decides (int_le a b) (a ≤ℤ b)
at_most a b = ((λ h. grind (arith, ints)), (λ h. grind (arith, ints)))

too_long : (o : Options) → Decides (is_over_limit o) (IsOverLimit o)
too_long o = Decides-or _ _ (less longest (duration o)) (less (most_steps_time o) (duration o))

-- ---- a node
record NodeTests (node : Node) (ends : NodeEnds) : Type 0 where
  links : has_wrong_links node ends ≡ false
  depth : begins_too_high node ends ≡ false
  deep : is_too_shallow node ≡ false

tests_of : (a b c : Bool) (x y z : FaultKind) → cond a (Some x) (cond b (Some y) (cond c (Some z) None)) ≡ None → (a ≡ false) × (b ≡ false) × (c ≡ false)
tests_of true b c x y z h = let no : ⊥ = cc in absurd no
tests_of false true c x y z h = let no : ⊥ = cc in absurd no
tests_of false false true x y z h = let no : ⊥ = cc in absurd no
tests_of false false false x y z h = (refl, refl, refl)

node_tests : (node : Node) (ends : NodeEnds) → node_fault node ends ≡ None → NodeTests node ends
unfolding node_fault
node_tests node ends h =
    let t = tests_of (has_wrong_links node ends) (begins_too_high node ends) (is_too_shallow node) _ _ _ h in
    record { links = t.0; depth = t.1; deep = t.2 }

tests_node : (node : Node) (ends : NodeEnds) → NodeTests node ends → node_fault node ends ≡ None
unfolding node_fault
tests_node node ends t = let a = t.links in let b = t.depth in let c = t.deep in rw (a, b, c) refl

few_links : (a : Bool) (ends begins : ℕ) → (a && (nat_le 2 ends || nat_le 1 begins)) ≡ false → IsTrue a → (ends ≤ 1) × (begins ≡ 0)
few_links true ends begins h t = (few (nat_le 2 ends) (nat_le 1 begins) h refl, none (nat_le 2 ends) (nat_le 1 begins) h refl) where
  few : (b c : Bool) → (b || c) ≡ false → nat_le 2 ends ≡ b → ends ≤ 1
  few true c h e = let no : ⊥ = cc in absurd no
  few false c h e = grind (arith, nat_tests)

  none : (b c : Bool) → (b || c) ≡ false → nat_le 1 begins ≡ c → begins ≡ 0
  none true c h e = let no : ⊥ = cc in absurd no
  none false true h e = let no : ⊥ = cc in absurd no
  none false false h e = grind (arith, nat_tests)
few_links false ends begins h t = let no : ⊥ = cc in absurd no

links_few : (a : Bool) (ends begins : ℕ) → (IsTrue a → (ends ≤ 1) × (begins ≡ 0)) → (a && (nat_le 2 ends || nat_le 1 begins)) ≡ false
links_few true ends begins h =
    let f = (h refl).0 in
    let n = (h refl).1 in
    let p : nat_le 2 ends ≡ false = grind (arith, nat_tests, f) in
    let q : nat_le 1 begins ≡ false = grind (arith, nat_tests, n) in
    rw (p, q) refl
links_few false ends begins h = refl

deep_enough : (a : Bool) (y : ℤ) → (a && int_lt y (pos 1_000)) ≡ false → IsTrue a → pos 1_000 ≤ℤ y
deep_enough true y h t = grind (arith, ints)
deep_enough false y h t = let no : ⊥ = cc in absurd no

enough_deep : (a : Bool) (y : ℤ) → (IsTrue a → pos 1_000 ≤ℤ y) → (a && int_lt y (pos 1_000)) ≡ false
enough_deep true y h = let e = h refl in grind (arith, ints, e)
enough_deep false y h = refl

good_node : (project : Project) (k : ℕ) → node_faults project k ≡ [] → IsGoodNode project k
good_node project k h =
    let node = node_at project.nodes k in
    let ends = ends_of project.links k in
    let t = node_tests node ends (none_is (node_fault node ends) node.name h) in
    let few = few_links (is_outfall node) (link_ends project.links k) (links_from project.links k) t.links in
    record {
      one_link = λ o. (few o).0;
      ends_there = λ o. (few o).1;
      depth = not_less (full_height_of project k) node.y0 t.depth;
      deep = deep_enough (is_storage node) node.y_max t.deep;
    }
  where
    not_less : (a b : ℤ) → int_lt a b ≡ false → b ≤ℤ a
    not_less a b h = grind (arith, ints)

node_good : (project : Project) (k : ℕ) → IsGoodNode project k → node_faults project k ≡ []
node_good project k good =
    let node = node_at project.nodes k in
    let ends = ends_of project.links k in
    ap (λ o. fault_if o node.name) (tests_node node ends (record {
      links = links_few (is_outfall node) (link_ends project.links k) (links_from project.links k) (λ o. (good.one_link o, good.ends_there o));
      depth = less_not (full_height_of project k) node.y0 good.depth;
      deep = enough_deep (is_storage node) node.y_max good.deep;
    }))
  where
    less_not : (a b : ℤ) → b ≤ℤ a → int_lt a b ≡ false
    less_not a b h = grind (arith, ints)

-- ---- a link
good_area : (s : Section) → Decides (has_good_area s) ((¬ (section_area s ≡ pos 0)) × (section_area s ≤ℤ pos 100_000_000_000))
good_area s = Decides-and _ _ (Decides-not _ (Decides-int_eq (section_area s) (pos 0))) (at_most (section_area s) (pos 100_000_000_000))

is_itself : (b : Bool) → Decides b (IsTrue b)
is_itself b = ((λ h. h), (λ h. h))

some_section : (kind : LinkKind) (s : Section) → Decides (fits_kind kind s.shape && has_good_area s) (IsGoodSection kind s)
some_section kind s =
    Decides-like {P = IsTrue (fits_kind kind s.shape) × ((¬ (section_area s ≡ pos 0)) × (section_area s ≤ℤ pos 100_000_000_000))} (fits_kind kind s.shape && has_good_area s)
    (λ p. record { fits = p.0; some_area = p.1.0; most_area = p.1.1 }) (λ g. (g.fits, (g.some_area, g.most_area)))
    (Decides-and _ _ (is_itself (fits_kind kind s.shape)) (good_area s))

nothing_there : (A : Type 0) → IsSome {T = A} None → ⊥
nothing_there A h = let no : ⊥ = cc in no

needed : (b : Bool) → (¬ (IsTrue b) → ⊥) → b ≡ true
needed true h = refl
needed false h = absurd (h (λ t. let no : ⊥ = cc in no))

record SectionFits (kind : LinkKind) (section : Option Section) : Type 0 where
  there : ¬ (IsTrue (needs_none kind)) → IsSome section
  good : IfSome section (IsGoodSection kind)

good_section : (kind : LinkKind) (section : Option Section) → Decides (has_good_section kind section) (SectionFits kind section)
good_section kind (Some s) = (
  (λ h. record { there = λ n. refl; good = (some_section kind s).0 h }),
  (λ g. (some_section kind s).1 g.good),
)
good_section kind None = (
  (λ h. record { there = λ n. absurd (n h); good = tt }),
  (λ g. needed (needs_none kind) (λ n. nothing_there Section (g.there n))),
)

good_link : (link : Link) → Decides (is_good_link link) (IsGoodLink link)
unfolding is_good_link
good_link link =
    Decides-like {P = (¬ (link.first ≡ link.second)) × SectionFits link.kind link.section} (not (link.first == link.second) && has_good_section link.kind link.section)
    (λ p. record { ends_differ = p.0; has_section = p.1.there; good_section = p.1.good })
    (λ g. (g.ends_differ, record { there = g.has_section; good = g.good_section }))
    (Decides-and _ _ (Decides-not _ (Decides-eqb link.first link.second)) (good_section link.kind link.section))

-- ---- a subcatchment
good_rates : (infil : Infil) → Decides (has_good_rates infil) (HasGoodRates infil)
good_rates (Horton max min decay6 dry volume) = at_most min max
good_rates (Number cn6 dry) = ((λ h. tt), (λ h. refl))

record Infiltrates (infil : Option Infil) : Type 0 where
  there : IsSome infil
  rates : IfSome infil HasGoodRates

good_infiltration : (infil : Option Infil) → Decides (has_good_infiltration infil) (Infiltrates infil)
good_infiltration (Some infil) = ((λ h. record { there = refl; rates = (good_rates infil).0 h }), (λ g. (good_rates infil).1 g.rates))
good_infiltration None = ((λ h. let no : ⊥ = cc in absurd no), (λ g. absurd (nothing_there Infil g.there)))

good_runoff : (areas : Option SubAreas) (infil : Option Infil) → Decides (has_runoff areas infil) (IsSome areas × Infiltrates infil)
good_runoff (Some areas) infil = ((λ h. (refl, (good_infiltration infil).0 h)), (λ g. (good_infiltration infil).1 g.1))
good_runoff None infil = ((λ h. let no : ⊥ = cc in absurd no), (λ g. absurd (nothing_there SubAreas g.0)))

good_sub : (sub : Sub) → Decides (is_good_sub sub) (IsGoodSub sub)
good_sub sub =
    Decides-like {P = IsSome sub.sub_areas × Infiltrates sub.infil} (is_good_sub sub)
    (λ p. record { has_areas = p.0; has_infil = p.1.there; rates = p.1.rates })
    (λ g. (g.has_areas, record { there = g.has_infil; rates = g.rates }))
    (good_runoff sub.sub_areas sub.infil)

-- ---- the whole
links_good : (links : List Link) → flat_map link_faults links ≡ [] → All IsGoodLink links
links_good links h k d few =
    let one = each_none link_faults links h k d few in
    (good_link (get_or links k d)).0 (twice_not (is_good_link (get_or links k d)) (stands_not (not (is_good_link (get_or links k d))) BadObject (get_or links k d).name one))

good_links : (links : List Link) → All IsGoodLink links → flat_map link_faults links ≡ []
good_links links good =
    none_each link_faults links
    (λ k d few. not_stands (not (is_good_link (get_or links k d))) BadObject (get_or links k d).name (not_twice (is_good_link (get_or links k d)) ((good_link (get_or links k d)).1 (good k d few))))

subs_good : (subs : List Sub) → flat_map sub_faults subs ≡ [] → All IsGoodSub subs
subs_good subs h k d few =
    let one = each_none sub_faults subs h k d few in
    (good_sub (get_or subs k d)).0 (twice_not (is_good_sub (get_or subs k d)) (stands_not (not (is_good_sub (get_or subs k d))) BadObject (get_or subs k d).name one))

good_subs : (subs : List Sub) → All IsGoodSub subs → flat_map sub_faults subs ≡ []
good_subs subs good =
    none_each sub_faults subs
    (λ k d few. not_stands (not (is_good_sub (get_or subs k d))) BadObject (get_or subs k d).name (not_twice (is_good_sub (get_or subs k d)) ((good_sub (get_or subs k d)).1 (good k d few))))

pub faultless_good : (project : Project) → IsFaultless project → IsGood project
unfolding project_faults
faultless_good project f =
    let general = general_faults project in
    let nodes = flat_map (node_faults project) (range_with_len 0 (length project.nodes)) in
    let links = flat_map link_faults project.links in
    let subs = flat_map sub_faults project.subs in
    let all = cut_none (all_faults project) f.faultless in
    let three = left_none (general ++ nodes ++ links) subs all in
    let two = left_none (general ++ nodes) links three in
    let one = left_none general nodes two in
    let a = fault_where (not (has_outfall project.nodes)) NoOutfall [] in
    let b = fault_where (ends_before_start project.options) EndBeforeStart [] in
    let c = fault_where (is_over_limit project.options) OverLimit [] in
    let ab = left_none (a ++ b) c one in
    record {
      outfall = Any-from_list_any is_outfall project.nodes (twice_not (has_outfall project.nodes) (stands_not (not (has_outfall project.nodes)) NoOutfall [] (left_none a b ab)));
      times = record {
        order = λ e. true_not (stands_not (ends_before_start project.options) EndBeforeStart [] (right_none a b ab)) ((early project.options).1 e);
        limit = λ l. true_not (stands_not (is_over_limit project.options) OverLimit [] (right_none (a ++ b) c one)) ((too_long project.options).1 l);
      };
      nodes = λ k inside. good_node project k (numbers_none (node_faults project) (length project.nodes) (right_none general nodes two) k inside);
      links = links_good project.links (right_none (general ++ nodes) links three);
      subs = subs_good project.subs (right_none (general ++ nodes ++ links) subs all);
    }

both_none : {A : Type 0} {xs ys : List A} → xs ≡ [] → ys ≡ [] → xs ++ ys ≡ []
both_none e f = rw (e, f) refl

pub good_faultless : (project : Project) → IsSound project → IsGood project → IsFaultless project
unfolding project_faults
good_faultless project sound good =
    let outfall = not_stands (not (has_outfall project.nodes)) NoOutfall [] (not_twice (has_outfall project.nodes) (list_any-from_Any is_outfall project.nodes good.outfall)) in
    let order = not_stands (ends_before_start project.options) EndBeforeStart [] (not_true (ends_before_start project.options) (λ t. good.times.order ((early project.options).0 t))) in
    let limit = not_stands (is_over_limit project.options) OverLimit [] (not_true (is_over_limit project.options) (λ t. good.times.limit ((too_long project.options).0 t))) in
    let nodes = none_numbers (node_faults project) (length project.nodes) (λ k inside. node_good project k (good.nodes k inside)) in
    record {
      sound = sound;
      faultless = ap (take 100) (both_none (both_none (both_none (both_none (both_none outfall order) limit) nodes) (good_links project.links good.links)) (good_subs project.subs good.subs));
    }
