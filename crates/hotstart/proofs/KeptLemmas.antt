-- A state whose numbers are above what a file keeps is written as one whose numbers are not.
use Rattle.std.proofs.Common.{◌≡◌, ◌∙◌, ℕ, zero, suc, ◌^◌, List, [], ◌∷◌, ◌++◌, length, map}
use Rattle.std.proofs.Common.{ℤ, pos, ◌≤ℤ◌, All, refl, sym, ap, subst, arith, codes, zip, flat_map}
use Rattle.std.proofs.lemmas.Int.{ints, clamps}
use Rattle.std.proofs.lemmas.List.{length-map}
use Rattle.infiltration.specs.declared.states.InfilState.{InfilState}
use Rattle.infiltration.specs.declared.states.InfilState.TheVariants.{Horton, Number}
use Rattle.net_types.specs.declared.options.InfilKind.{InfilKind}
use Rattle.net_types.specs.declared.options.InfilKind.TheVariants.{ModifiedHorton, CurveNumber}
use Rattle.net_types.specs.declared.project.Project.{Project}
use Rattle.hotstart.specs.HotBytes.{count_bytes, hot_bytes, kept, kind_number, link_bytes, sub_bytes, sub_row, value_bytes}
use Rattle.hotstart.specs.HotRanges.{IsHotState, IsHotSub, IsKept, IsKeptSub, IsStateOf, infil_numbers}
use Rattle.hotstart.specs.Reading.{reading_of}
use Rattle.hotstart.specs.WrittenBack.{HasThreeDepths, IsStateFor, kept_infil, kept_state, kept_sub}
use Rattle.hotstart.specs.declared.read.HotRead.TheVariants.{Good}
use Rattle.hotstart.specs.declared.state.HotState.{HotState}
use Rattle.hotstart.specs.declared.state.HotSub.{HotSub}
use Rattle.hotstart.proofs.BackLemmas.{kept_back}
use Rattle.hotstart.proofs.EqualLemmas.{IsThree, hot_sub, later_all, three_hot, three_parts}

-- ---- numbers
kept_twice : (v : ℤ) → kept (kept v) ≡ kept v
unfolding kept
kept_twice v = omega (arith, ints, clamps)

kept_most : (v : ℤ) → kept v ≤ℤ pos (10 ^ 15)
unfolding kept
kept_most v = omega (arith, ints, clamps)

kept_least : (v : ℤ) → pos 0 ≤ℤ v → pos 0 ≤ℤ kept v
unfolding kept
kept_least v h = omega (arith, ints, clamps)

all_kept_twice : (vs : List ℤ) → map kept (map kept vs) ≡ map kept vs
all_kept_twice [] = refl
all_kept_twice (v ∷ vs) =
    ap (λ (x : ℤ). x ∷ map kept (map kept vs)) (kept_twice v)
    ∙ ap (λ (l : List ℤ). kept v ∷ l) (all_kept_twice vs)

kept_numbers : (i : InfilState) → infil_numbers (kept_infil i) ≡ map kept (infil_numbers i)
kept_numbers (Horton s) = refl
kept_numbers (Number s) = refl

kept_kind : (method : InfilKind) (i : InfilState) → IsStateOf method i → IsStateOf method (kept_infil i)
kept_kind ModifiedHorton (Horton s) h = h
kept_kind ModifiedHorton (Number s) h = absurd h
kept_kind CurveNumber (Horton s) h = absurd h
kept_kind CurveNumber (Number s) h = h

-- ---- a subcatchment
three_row : (d0 d1 d2 flow : ℤ) (i : InfilState)
    → sub_row (kept_sub (three_hot d0 d1 d2 flow i)) ≡ sub_row (three_hot d0 d1 d2 flow i)
three_row d0 d1 d2 flow i =
    let rest : map kept (infil_numbers (kept_infil i)) ≡ map kept (infil_numbers i) =
    ap (map kept) (kept_numbers i) ∙ all_kept_twice (infil_numbers i) in
    same (kept_twice d0) (kept_twice d1) (kept_twice d2) rest
  where
    same : {a b c d e f g : ℤ} {xs ys : List ℤ} → a ≡ b → c ≡ d → e ≡ f → xs ≡ ys
        → a ∷ c ∷ e ∷ g ∷ xs ≡ b ∷ d ∷ f ∷ g ∷ ys
    same p q r s = cc

sub_bytes_same : (sub : HotSub) → length sub.depths ≡ 3 → sub_bytes (kept_sub sub) ≡ sub_bytes sub
sub_bytes_same sub h = by_parts (three_parts sub.depths h)
  where
    by_parts : IsThree sub.depths → sub_bytes (kept_sub sub) ≡ sub_bytes sub
    by_parts p =
        let is : three_hot p.one p.two p.three sub.flow sub.infil ≡ sub =
        sym (ap (λ (l : List ℤ). hot_sub l sub.flow sub.infil) p.is) in
        subst (λ (s : HotSub). sub_bytes (kept_sub s) ≡ sub_bytes s) is
        (ap (flat_map value_bytes) (three_row p.one p.two p.three sub.flow sub.infil))

subs_bytes_same : (subs : List HotSub) → All (λ (sub : HotSub). length sub.depths ≡ 3) subs
    → flat_map sub_bytes (map kept_sub subs) ≡ flat_map sub_bytes subs
subs_bytes_same [] all = refl
subs_bytes_same (s ∷ ss) all =
    ap (λ (l : List ℕ). l ++ flat_map sub_bytes (map kept_sub ss)) (sub_bytes_same s (all 0 s (omega arith)))
    ∙ ap (λ (l : List ℕ). sub_bytes s ++ l)
    (subs_bytes_same ss (later_all (λ (sub : HotSub). length sub.depths ≡ 3) s ss all))

-- a number of a list that is kept
all_mapped : {A : Type 0} (P Q : A → Type 0) (f : A → A) (xs : List A) → ((x : A) → P x → Q (f x)) → All P xs
    → All Q (map f xs)
all_mapped P Q f [] h all k d g = absurd (omega (arith, g))
all_mapped P Q f (x ∷ xs) h all zero d g = h x (all 0 x (omega arith))
all_mapped P Q f (x ∷ xs) h all (suc k) d g =
    all_mapped P Q f xs h (later_all P x xs all) k d (omega (arith, g))

all_appended : (P : ℤ → Type 0) (xs ys : List ℤ) → All P xs → All P ys → All P (xs ++ ys)
all_appended P [] ys a b k d g = b k d g
all_appended P (x ∷ xs) ys a b zero d g = a 0 x (omega arith)
all_appended P (x ∷ xs) ys a b (suc k) d g =
    all_appended P xs ys (later_all P x xs a) b k d (omega (arith, g))

all_front : (P : ℤ → Type 0) (xs ys : List ℤ) → All P (xs ++ ys) → All P xs
all_front P [] ys a k d g = absurd (omega (arith, g))
all_front P (x ∷ xs) ys a zero d g = a 0 x (omega arith)
all_front P (x ∷ xs) ys a (suc k) d g = all_front P xs ys (later_all P x (xs ++ ys) a) k d (omega (arith, g))

all_rest : (P : ℤ → Type 0) (xs ys : List ℤ) → All P (xs ++ ys) → All P ys
all_rest P [] ys a = a
all_rest P (x ∷ xs) ys a = all_rest P xs ys (later_all P x (xs ++ ys) a)

depth_numbers_kept : (sub : HotSub) → (P : ℤ → Type 0) → All P (map kept sub.depths)
    → All P (map kept (infil_numbers sub.infil))
    → All P (map kept sub.depths ++ infil_numbers (kept_infil sub.infil))
depth_numbers_kept sub P a b =
    all_appended P (map kept sub.depths) (infil_numbers (kept_infil sub.infil)) a
    (subst (All P) (sym (kept_numbers sub.infil)) b)

record GoodSub (method : InfilKind) (sub : HotSub) : Type 0 where
  hot : IsHotSub method sub
  three : length sub.depths ≡ 3

sub_hot : (method : InfilKind) (sub : HotSub) → GoodSub method sub → IsHotSub method (kept_sub sub)
sub_hot method sub h =
    let low : ℤ → Type 0 = λ v. pos 0 ≤ℤ v in
    record {
      depths = depth_numbers_kept sub low
          (all_mapped low low kept sub.depths kept_least
          (all_front low sub.depths (infil_numbers sub.infil) h.hot.depths))
          (all_mapped low low kept (infil_numbers sub.infil) kept_least
          (all_rest low sub.depths (infil_numbers sub.infil) h.hot.depths));
      flow = h.hot.flow;
      kind_is = kept_kind method sub.infil h.hot.kind_is;
    }

sub_held : (method : InfilKind) (sub : HotSub) → GoodSub method sub → IsKeptSub (kept_sub sub)
sub_held method sub h =
    let any : ℤ → Type 0 = λ v. pos 0 ≤ℤ v in
    let high : ℤ → Type 0 = λ v. v ≤ℤ pos (10 ^ 15) in
    record {
      three = length-map sub.depths kept ∙ h.three;
      most = depth_numbers_kept sub high
          (all_mapped any high kept sub.depths (λ v _. kept_most v)
          (all_front any sub.depths (infil_numbers sub.infil) h.hot.depths))
          (all_mapped any high kept (infil_numbers sub.infil) (λ v _. kept_most v)
          (all_rest any sub.depths (infil_numbers sub.infil) h.hot.depths));
    }

-- ---- the whole state
kept_is_kept : (state : HotState) → IsHotState state → HasThreeDepths state → IsKept (kept_state state)
kept_is_kept state h three =
    let good : All (GoodSub state.kind) state.subs = λ k d g. record { hot = h.subs k d g; three = three k d g } in
    let count = length-map state.subs kept_sub in
    record {
      written = record {
        few_nodes = h.few_nodes;
        few_links = h.few_links;
        as_many = h.as_many;
        few_subs = omega (arith, count, h.few_subs);
        heads = h.heads;
        flows = h.flows;
        settings = h.settings;
        least = h.least;
        subs = all_mapped (GoodSub state.kind) (IsHotSub state.kind) kept_sub state.subs (sub_hot state.kind) good;
        no_subs = λ none. h.no_subs (sym count ∙ none);
      };
      subs = all_mapped (GoodSub state.kind) IsKeptSub kept_sub state.subs (sub_held state.kind) good;
    }

bytes_same : (state : HotState) → HasThreeDepths state → hot_bytes (kept_state state) ≡ hot_bytes state
unfolding hot_bytes
bytes_same state three =
    let heads = flat_map value_bytes state.heads in
    let links = flat_map link_bytes (zip state.flows state.settings) in
    ap (λ (n : ℕ). codes "SWMMFXH2" ++ flat_map count_bytes (length state.heads ∷ length state.flows ∷ n
    ∷ kind_number state.kind ∷ []) ++ heads ++ links
    ++ (value_bytes state.least ++ flat_map sub_bytes (map kept_sub state.subs))) (length-map state.subs kept_sub)
    ∙ ap (λ (l : List ℕ). codes "SWMMFXH2" ++ flat_map count_bytes (length state.heads ∷ length state.flows
    ∷ length state.subs ∷ kind_number state.kind ∷ []) ++ heads ++ links ++ (value_bytes state.least ++ l))
    (subs_bytes_same state.subs three)

pub written_back : (project : Project) (state : HotState) → IsHotState state → HasThreeDepths state
    → IsStateFor project state → reading_of project (hot_bytes state) ≡ Good (kept_state state)
written_back project state h three f =
    let fits : IsStateFor project (kept_state state) = record {
      nodes = f.nodes;
      links = f.links;
      subs = length-map state.subs kept_sub ∙ f.subs;
      kind = f.kind;
    } in
    ap (reading_of project) (sym (bytes_same state three))
    ∙ kept_back project (kept_state state) (kept_is_kept state h three) fits
