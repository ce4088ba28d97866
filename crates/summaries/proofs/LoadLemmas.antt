-- The summaries of outfalls, with no state and with one state more.
use Rattle.std.proofs.Common.{◌≡◌, ◌∙◌, ℕ, zero, suc, ◌+◌, ◌*◌, ◌^◌, ◌<◌, ◌≤◌, ◌==◌, Bool, true, false, if◌then◌else◌}
use Rattle.std.proofs.Common.{List, [], ◌∷◌, ◌++◌, length, map, take, get_or, ℤ, pos, ◌+ℤ◌, refl, sym, ap, subst, arith}
use Rattle.std.proofs.Common.{◌/◌, negsuc, ◌*ℤ◌, inl, inr, append_assoc}
use Rattle.std.specs.Prelude.{int_div}
use Rattle.std.specs.Int.{int_max}
use Rattle.std.proofs.lemmas.Bool.{cases_lt}
use Rattle.std.proofs.lemmas.Bool.Decides.{nat_tests}
use Rattle.std.proofs.lemmas.Int.{ints}
use Rattle.std.proofs.lemmas.List.{ext_get_or, get_or-map, map-append, take_more, length-map}
use Rattle.fixed_num.specs.Ranges.{IsBetween, IsWithin}
use Rattle.fixed_num.proofs.Bounds.{within_add, within_mul, within_up}
use Rattle.fixed_num.specs.Sums.{sum_below}
use Rattle.net_types.specs.declared.network.Node.{Node}
use Rattle.net_types.specs.declared.project.Project.{Project}
use Rattle.trial_model.specs.declared.nets.Nets.{Nets}
use Rattle.summaries.specs.Loads.{AreLoads, AreLoadsOf, Loads, is_outfall_node, load_at, load_of, most_of, net_in}
use Rattle.summaries.specs.Loads.{no_load, no_loads, outfall_nodes, outfalls_from, volume_in, with_load}
use Rattle.summaries.specs.declared.outfall_summary.OutfallSummary.{OutfallSummary}

-- ---- no state
no_volume : (ns : List ℕ) (k : ℕ) → (load_at (map no_load ns) k).volume ≡ pos 0
no_volume [] k = refl
no_volume (n ∷ ns) zero = refl
no_volume (n ∷ ns) (suc k) = no_volume ns k

-- the number of each outfall among these nodes, with more behind or not
number_within : (first most : ℕ) (later : List ℕ) (b : Bool) → first < most
    → ((j : ℕ) → j < length (map no_load later) → (load_at (map no_load later) j).node < most)
    → (j : ℕ) → j < length (map no_load (if b then first ∷ later else later))
    → (load_at (map no_load (if b then first ∷ later else later)) j).node < most
number_within first most later true below all zero h = below
number_within first most later true below all (suc j) h = all j (omega (arith, h))
number_within first most later false below all j h = all j h

node_within : (first : ℕ) (nodes : List Node) (k : ℕ) → k < length (map no_load (outfalls_from first nodes))
    → (load_at (map no_load (outfalls_from first nodes)) k).node < first + length nodes
node_within first [] k h = absurd (omega (arith, h))
node_within first (node ∷ nodes) k h =
    number_within first (first + length (node ∷ nodes)) (outfalls_from (first + 1) nodes) (is_outfall_node node)
    (omega arith) (λ j g. omega (arith, node_within (first + 1) nodes j g)) k h

pub no_loads_are : (project : Project) → AreLoadsOf (length project.nodes) (no_loads project)
no_loads_are project = record {
  volumes = λ k. rw (no_volume (outfalls_from 0 project.nodes) k) (record { within = omega (arith, ints) });
  nodes_of = λ k h. omega (arith, node_within 0 project.nodes k h);
}

-- the outfalls of some nodes and one node more
one_number : (b : Bool) (m n : ℕ) → m ≡ n → (if b then m ∷ [] else []) ≡ (if b then n ∷ [] else [])
one_number true m n e = ap (λ (x : ℕ). x ∷ []) e
one_number false m n e = refl

front_number : (b : Bool) (first : ℕ) (more later end : List ℕ) → more ≡ later ++ end
    → (if b then first ∷ more else more) ≡ (if b then first ∷ later else later) ++ end
front_number true first more later end e = ap (λ (l : List ℕ). first ∷ l) e
front_number false first more later end e = e

from_more : (first : ℕ) (xs : List Node) (y : Node) → outfalls_from first (xs ++ y ∷ [])
    ≡ outfalls_from first xs ++ (if is_outfall_node y then (first + length xs) ∷ [] else [])
from_more first [] y = one_number (is_outfall_node y) first (first + 0) (omega arith)
from_more first (x ∷ xs) y =
    let same : first + 1 + length xs ≡ first + length (x ∷ xs) = omega arith in
    front_number (is_outfall_node x) first (outfalls_from (first + 1) (xs ++ y ∷ [])) (outfalls_from (first + 1) xs)
    (if is_outfall_node y then (first + length (x ∷ xs)) ∷ [] else [])
    (from_more (first + 1) xs y
    ∙ ap (λ (l : List ℕ). outfalls_from (first + 1) xs ++ l)
    (one_number (is_outfall_node y) (first + 1 + length xs) (first + length (x ∷ xs)) same))

-- the summaries of the outfalls among the first nodes, and among one more
pub outfalls_more : (nodes : List Node) (n : ℕ) (d : Node) → n < length nodes
    → map no_load (outfalls_from 0 (take (n + 1) nodes))
    ≡ map no_load (outfalls_from 0 (take n nodes))
    ++ map no_load (if is_outfall_node (get_or nodes n d) then n ∷ [] else [])
outfalls_more nodes n d h =
    let count : 0 + length (take n nodes) ≡ n = omega (arith, h, take_length nodes n h) in
    ap (λ (l : List Node). map no_load (outfalls_from 0 l)) (take_more nodes n d h)
    ∙ ap (map no_load) (from_more 0 (take n nodes) (get_or nodes n d))
    ∙ ap (λ (m : ℕ). map no_load (outfalls_from 0 (take n nodes)
    ++ (if is_outfall_node (get_or nodes n d) then m ∷ [] else []))) count
    ∙ map-append no_load (outfalls_from 0 (take n nodes)) (if is_outfall_node (get_or nodes n d) then n ∷ [] else [])
  where
    take_length : {A : Type 0} (xs : List A) (m : ℕ) → m < length xs → length (take m xs) ≡ m
    take_length [] m g = absurd (omega (arith, g))
    take_length (x ∷ xs) zero g = refl
    take_length (x ∷ xs) (suc m) g = omega (arith, take_length xs m (omega (arith, g)))

-- ---- one state more
sum_more : (f : ℕ → ℤ) (n : ℕ) → sum_below f (suc n + 1) ≡ sum_below f (n + 1) +ℤ f (suc n)
sum_more f n =
    let up : suc n + 1 ≡ suc (suc n) = omega arith in
    let down : suc n ≡ n + 1 = omega arith in
    ap (sum_below f) up ∙ ap (λ (m : ℕ). sum_below f m +ℤ f (suc n)) down

load_first : (run : ℕ → Nets) (lengths : ℕ → ℤ) (s : OutfallSummary)
    → with_load true s (net_in (run 0) s.node) (volume_in (run 0) (lengths 0) s.node) ≡ load_of run lengths 0 s.node
unfolding load_of
load_first run lengths s =
    ap (λ (v : ℤ). record { node = s.node; volume = v; max_flow = net_in (run 0) s.node })
    (alone (volume_in (run 0) (lengths 0) s.node))
  where
    alone : (x : ℤ) → x ≡ pos 0 +ℤ x
    alone x = omega (arith, ints)

load_more : (run : ℕ → Nets) (lengths : ℕ → ℤ) (last node : ℕ)
    → with_load false (load_of run lengths last node) (net_in (run (suc last)) node)
    (volume_in (run (suc last)) (lengths (suc last)) node) ≡ load_of run lengths (suc last) node
unfolding load_of
load_more run lengths last node =
    ap (λ (v : ℤ). record { node = node; volume = v; max_flow = most_of (λ k. net_in (run k) node) (suc last) })
    (sym (sum_more (λ k. volume_in (run k) (lengths k) node) last))

keeps_node : (first : Bool) (s : OutfallSummary) (net volume : ℤ) → (with_load first s net volume).node ≡ s.node
keeps_node true s net volume = refl
keeps_node false s net volume = refl

pub nodes_kept : (first : Bool) (nets : Nets) (ms : ℤ) (old new : List OutfallSummary) → length new ≡ length old
    → ((k : ℕ) → k < length old → load_at new k
    ≡ with_load first (load_at old k) (net_in nets (load_at old k).node) (volume_in nets ms (load_at old k).node))
    → outfall_nodes new ≡ outfall_nodes old
nodes_kept first nets ms old new same each =
    let node = λ (s : OutfallSummary). s.node in
    ext_get_or 0 (map node new) (map node old) (length-map new node ∙ same ∙ sym (length-map old node))
    (λ k inside.
    let there : k < length new = omega (arith, inside, length-map new node) in
    let before : k < length old = omega (arith, there, same) in
    let s = load_at old k in
    get_or-map node new k (no_load 0) 0 there ∙ ap node (each k before)
    ∙ keeps_node first s (net_in nets s.node) (volume_in nets ms s.node) ∙ sym (get_or-map node old k (no_load 0) 0 before))

not_first : (n : ℕ) → (suc n == 0) ≡ false
not_first n = grind (arith, nat_tests)

pub loads_more : (run : ℕ → Nets) (lengths : ℕ → ℤ) (old : Loads) (new : List OutfallSummary) → AreLoads run lengths old
    → length new ≡ length old.outfalls
    → ((k : ℕ) → k < length old.outfalls → load_at new k ≡ with_load (old.states == 0) (load_at old.outfalls k)
    (net_in (run old.states) (load_at old.outfalls k).node)
    (volume_in (run old.states) (lengths old.states) (load_at old.outfalls k).node))
    → AreLoads run lengths (record { outfalls = new; states = old.states + 1 })
loads_more run lengths old new sums same each = record { each = λ last e k h. one last (omega (arith, e)) k (omega (arith, h, same)) }
  where
    by_last : (last : ℕ) → old.states ≡ last → (k : ℕ) → k < length old.outfalls
        → with_load (last == 0) (load_at old.outfalls k) (net_in (run last) (load_at old.outfalls k).node)
        (volume_in (run last) (lengths last) (load_at old.outfalls k).node)
        ≡ load_of run lengths last (load_at old.outfalls k).node
    by_last zero e k h = load_first run lengths (load_at old.outfalls k)
    by_last (suc last) e k h =
        let s = load_at old.outfalls k in
        let was : load_at old.outfalls k ≡ load_of run lengths last (load_at old.outfalls k).node =
        sums.each last (omega (arith, e)) k h in
        ap (λ (b : Bool). with_load b s (net_in (run (suc last)) s.node)
        (volume_in (run (suc last)) (lengths (suc last)) s.node)) (not_first last)
        ∙ ap (λ (t : OutfallSummary). with_load false t (net_in (run (suc last)) s.node)
        (volume_in (run (suc last)) (lengths (suc last)) s.node)) was
        ∙ load_more run lengths last s.node

    one : (last : ℕ) → old.states ≡ last → (k : ℕ) → k < length old.outfalls
        → load_at new k ≡ load_of run lengths last (load_at new k).node
    one last e k h =
        let s = load_at old.outfalls k in
        let is = each k h in
        let node : (load_at new k).node ≡ (load_at old.outfalls k).node =
        ap (λ (t : OutfallSummary). t.node) is
        ∙ keeps_node (old.states == 0) s (net_in (run old.states) s.node) (volume_in (run old.states) (lengths old.states) s.node) in
        is ∙ ap (λ (m : ℕ). with_load (m == 0) s (net_in (run m) s.node) (volume_in (run m) (lengths m) s.node)) e
        ∙ by_last last e k h ∙ ap (load_of run lengths last) (sym node)

-- each volume grows by at most 10^24 mm³
past : (outfalls : List OutfallSummary) (k : ℕ) → length outfalls ≤ k → (load_at outfalls k).volume ≡ pos 0
past [] k h = refl
past (s ∷ outfalls) zero h = absurd (omega (arith, h))
past (s ∷ outfalls) (suc k) h = past outfalls k (omega (arith, h))

pub loads_are : (nodes : ℕ) (old : Loads) (new : List OutfallSummary) (nets : Nets) (ms : ℤ) → AreLoadsOf nodes old
    → length new ≡ length old.outfalls
    → ((k : ℕ) → k < length old.outfalls → load_at new k ≡ with_load (old.states == 0) (load_at old.outfalls k)
    (net_in nets (load_at old.outfalls k).node) (volume_in nets ms (load_at old.outfalls k).node))
    → ((k : ℕ) → k < length old.outfalls → IsWithin (10 ^ 24) (volume_in nets ms (load_at old.outfalls k).node))
    → AreLoadsOf nodes (record { outfalls = new; states = old.states + 1 })
loads_are nodes old new nets ms are same each small = record {
  volumes = λ k. elim (cases_lt k (length old.outfalls)) [
    | inl less ↦ within k less
    | inr over ↦ rw (past new k (omega (arith, over, same))) (record { within = omega (arith, ints) })
  ];
  nodes_of = λ k h.
      let inside : k < length old.outfalls = omega (arith, h, same) in
      let s = load_at old.outfalls k in
      omega (
        arith,
        are.nodes_of k inside,
        ap (λ (t : OutfallSummary). t.node) (each k inside)
            ∙ keeps_node (old.states == 0) s (net_in nets s.node) (volume_in nets ms s.node),
      );
}
  where
    by_first : (first : Bool) (s : OutfallSummary) (net volume : ℤ) → IsWithin (10 ^ 24 * old.states) s.volume
        → IsWithin (10 ^ 24) volume → IsWithin (10 ^ 24 * (old.states + 1)) (with_load first s net volume).volume
    by_first true s net volume a b = record { within = omega (arith, ints, b.within) }
    by_first false s net volume a b = record { within = omega (arith, ints, a.within, b.within) }

    within : (k : ℕ) → k < length old.outfalls → IsWithin (10 ^ 24 * (old.states + 1)) (load_at new k).volume
    within k h =
        let s = load_at old.outfalls k in
        rw (each k h) (by_first (old.states == 0) s (net_in nets s.node) (volume_in nets ms s.node) (are.volumes k) (small k h))

-- half of the length of a step, and what comes in over it
half_of : (n : ℕ) → int_div (pos n) (pos 2) ≡ pos (n / 2)
half_of n = refl

pub half_within : {ms : ℤ} → IsBetween (pos 0) ms (pos 3_600_000) → IsWithin 1_800_000 (int_div ms (pos 2))
half_within {ms = pos n} h =
    let m = h.to in
    let small : n ≤ 3_600_000 = omega (arith, ints) in
    let half : n / 2 ≤ 1_800_000 = omega arith in
    rw (half_of n) (record { within = omega (arith, ints) })
half_within {ms = negsuc n} h = let low = h.from in absurd (omega (arith, ints, low))

pub volume_within : {old net ms : ℤ} → IsBetween (pos 0) ms (pos 3_600_000) → IsWithin (3 * 10 ^ 16) old
    → IsWithin (3 * 10 ^ 16) net → IsWithin (10 ^ 24) (int_div ms (pos 2) *ℤ (old +ℤ net))
volume_within h p q = within_up (within_mul (half_within h) (within_add p q)) tt

-- what holds of all numbers below one, and of that one
pub below_more : (P : ℕ → Type 0) (n : ℕ) → ((k : ℕ) → k < n → P k) → P n → (k : ℕ) → k < n + 1 → P k
below_more P n all p k h = elim (cases_lt k n) [
  | inl less ↦ all k less
  | inr past ↦ let same : n ≡ k = omega (arith, h, past) in subst P same p
]
