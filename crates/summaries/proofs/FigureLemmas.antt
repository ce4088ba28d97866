-- The figures of a run, with no state and with one state more.
use Rattle.std.proofs.Common.{◌≡◌, ◌==◌, true, false, int_lt, ℕ, zero, suc, ◌+◌, ◌*◌, ◌^◌, ◌<◌}
use Rattle.std.proofs.Common.{◌≤◌, List, [], ◌∷◌, length, replicate, take, drop, ◌++◌, ℤ, pos}
use Rattle.std.proofs.Common.{◌+ℤ◌, ◌-ℤ◌, refl, sym, ap, ◌∙◌, inl, inr, arith, add-one}
use Rattle.std.specs.Int.RustNames.{unsigned_abs}
use Rattle.std.specs.List.{All}
use Rattle.std.proofs.lemmas.Bool.{cases_lt}
use Rattle.std.proofs.lemmas.Bool.Decides.{nat_tests}
use Rattle.std.proofs.lemmas.Int.{ints}
use Rattle.std.proofs.lemmas.List.{length-map, length-replicate, get_or-map, get_or_past}
use Rattle.std.proofs.Math.Seq.{take-append_seam}
use Rattle.std.proofs.lemmas.List.FromFn.{fill_by_all, get_or-map-range_with_len}
use Rattle.fixed_num.specs.Ranges.{IsBetween, IsElevation}
use Rattle.net_types.specs.declared.network.Node.{Node}
use Rattle.net_types.specs.declared.network.NodeKind.TheVariants.{Outfall}
use Rattle.net_types.specs.declared.network.Stage.TheVariants.{Free}
use Rattle.net_types.specs.declared.project.Project.{Project}
use Rattle.trial_model.specs.declared.nets.Nets.{Nets}
use Rattle.fixed_num.specs.Lists.{number, list_of}
use Rattle.summaries.specs.Figures.{Figures, AreFigures, AreSummaries, HasGoodInvert}
use Rattle.summaries.specs.Figures.{inverts_of, new_figures, node_summary, link_summary}
use Rattle.summaries.specs.Peaks.{Peak, peak_of, raised}
use Rattle.summaries.specs.Steps.{node_summary_at, link_summary_at, node_with, with_node}
use Rattle.summaries.specs.Steps.{with_link, no_node_summary, no_link_summary}
use Rattle.summaries.specs.declared.node_summary.NodeSummary.{NodeSummary}
use Rattle.summaries.specs.declared.link_summary.LinkSummary.{LinkSummary}

-- ---- no state
no_node : Node
no_node = record { name = []; invert = pos 0; y_max = pos 0; y0 = pos 0; kind = Outfall Free false }

inverts_in : (nodes : List Node) → All HasGoodInvert nodes → (n : ℕ) → IsElevation (number (inverts_of nodes) n)
inverts_in nodes good n = elim (cases_lt n (length nodes)) [
  | inl less ↦ rw (get_or-map (λ (node : Node). node.invert) nodes n no_node (pos 0) less) (good n no_node less)
  | inr past ↦ rw (get_or_past (inverts_of nodes) n (pos 0) (omega (arith, past, length-map nodes (λ (node : Node). node.invert)))) (record { within = omega (arith, ints) })
]

nothing_flooded : (count n : ℕ) → (node_summary_at (replicate count no_node_summary) n).flooded ≡ pos 0
nothing_flooded zero n = refl
nothing_flooded (suc count) zero = refl
nothing_flooded (suc count) (suc n) = nothing_flooded count n

pub new_figures_are : (project : Project) → All HasGoodInvert project.nodes → AreFigures (new_figures project)
new_figures_are project good = record {
  nodes = length-replicate (length project.nodes) no_node_summary ∙ sym (length-map project.nodes (λ node. node.invert));
  inverts = inverts_in project.nodes good;
  flooded = λ n. rw (nothing_flooded (length project.nodes) n) (record { from = omega (arith, ints); to = omega (arith, ints) });
}

-- ---- one state more
none_past : (nodes : List NodeSummary) (n : ℕ) → length nodes ≤ n → node_summary_at nodes n ≡ no_node_summary
none_past [] n h = refl
none_past (s ∷ nodes) zero h = absurd (omega arith)
none_past (s ∷ nodes) (suc n) h = none_past nodes n (omega arith)

pub flooded_more : (old new : List NodeSummary) (floods : List ℤ) (states : ℕ) → length new ≡ length old
    → ((n : ℕ) → IsBetween (pos 0) (node_summary_at old n).flooded (pos (10 ^ 28 * states)))
    → ((n : ℕ) → IsBetween (pos 0) (number floods n) (pos (10 ^ 28)))
    → ((n : ℕ) → n < length old → (node_summary_at new n).flooded ≡ (node_summary_at old n).flooded +ℤ number floods n)
    → (n : ℕ) → IsBetween (pos 0) (node_summary_at new n).flooded (pos (10 ^ 28 * (states + 1)))
flooded_more old new floods states same before flood each n = elim (cases_lt n (length old)) [
  | inl less ↦ let b = before n in let f = flood n in let e = each n less in rw e (record { from = omega (arith, ints, b.from, f.from); to = omega (arith, ints, b.to, f.to) })
  | inr past ↦ rw (none_past new n (omega (arith, past, same))) (record { from = omega (arith, ints); to = omega (arith, ints) })
]

node_first : (run : ℕ → Nets) (flooded : ℕ → List ℤ) (moments : ℕ → ℤ) (invert : ℤ) (n : ℕ) (old : NodeSummary)
    → node_summary run flooded moments 0 invert n ≡ with_node true old (number (run 0).heads n -ℤ invert) (number (run 0).heads n) (number (flooded 0) n) (moments 0)
unfolding node_summary peak_of
node_first run flooded moments invert n old =
    ap (λ (z : ℤ). node_with (record { value = number (run 0).heads n -ℤ invert; at = moments 0 }) (number (run 0).heads n) z) (alone (number (flooded 0) n))
  where
    alone : (x : ℤ) → pos 0 +ℤ x ≡ x
    alone x = omega (arith, ints)

node_more : (run : ℕ → Nets) (flooded : ℕ → List ℤ) (moments : ℕ → ℤ) (last : ℕ) (invert : ℤ) (n : ℕ)
    → node_summary run flooded moments (suc last) invert n
    ≡ with_node false (node_summary run flooded moments last invert n) (number (run (suc last)).heads n -ℤ invert) (number (run (suc last)).heads n) (number (flooded (suc last)) n) (moments (suc last))
unfolding node_summary peak_of
node_more run flooded moments last invert n = rw (add-one (suc last), add-one last) refl

link_first : (run : ℕ → Nets) (moments : ℕ → ℤ) (l : ℕ) (old : LinkSummary)
    → link_summary run moments 0 l ≡ with_link true old (pos (unsigned_abs (number (run 0).flows l))) (number (run 0).flows l) (moments 0)
unfolding link_summary peak_of
link_first run moments l old = refl

link_more : (run : ℕ → Nets) (moments : ℕ → ℤ) (last l : ℕ)
    → link_summary run moments (suc last) l
    ≡ with_link false (link_summary run moments last l) (pos (unsigned_abs (number (run (suc last)).flows l))) (number (run (suc last)).flows l) (moments (suc last))
unfolding link_summary peak_of
link_more run moments last l = refl

not_first : (last : ℕ) → (suc last == 0) ≡ false
not_first last = grind (arith, nat_tests)

-- the summary of a node, or of a link, in the figures of one state more
node_next : (run : ℕ → Nets) (flooded : ℕ → List ℤ) (moments : ℕ → ℤ) (old : Figures) → AreSummaries run flooded moments old → (last : ℕ) → old.states ≡ last
    → (n : ℕ) → n < length old.inverts
    → with_node (last == 0) (node_summary_at old.nodes n) (number (run last).heads n -ℤ number old.inverts n) (number (run last).heads n) (number (flooded last) n) (moments last)
    ≡ node_summary run flooded moments last (number old.inverts n) n
node_next run flooded moments old sums zero e n h = sym (node_first run flooded moments (number old.inverts n) n (node_summary_at old.nodes n))
node_next run flooded moments old sums (suc last) e n h =
    let was : node_summary_at old.nodes n ≡ node_summary run flooded moments last (number old.inverts n) n =
    ap (λ (l : List NodeSummary). node_summary_at l n) (sums.nodes last (e ∙ sym (add-one last)))
    ∙ get_or-map-range_with_len (λ k. node_summary run flooded moments last (number old.inverts k) k) 0 (length old.inverts) n n no_node_summary h (omega arith) in
    rw (not_first last, was) (sym (node_more run flooded moments last (number old.inverts n) n))

link_next : (run : ℕ → Nets) (flooded : ℕ → List ℤ) (moments : ℕ → ℤ) (old : Figures) → AreSummaries run flooded moments old → (last : ℕ) → old.states ≡ last
    → (l : ℕ) → l < length old.links
    → with_link (last == 0) (link_summary_at old.links l) (pos (unsigned_abs (number (run last).flows l))) (number (run last).flows l) (moments last)
    ≡ link_summary run moments last l
link_next run flooded moments old sums zero e l h = sym (link_first run moments l (link_summary_at old.links l))
link_next run flooded moments old sums (suc last) e l h =
    let was : link_summary_at old.links l ≡ link_summary run moments last l =
    ap (λ (s : List LinkSummary). link_summary_at s l) (sums.links last (e ∙ sym (add-one last)))
    ∙ get_or-map-range_with_len (link_summary run moments last) 0 (length old.links) l l no_link_summary h (omega arith) in
    rw (not_first last, was) (sym (link_more run moments last l))

pub nodes_more : (run : ℕ → Nets) (flooded : ℕ → List ℤ) (moments : ℕ → ℤ) (old : Figures) → AreFigures old → AreSummaries run flooded moments old → (new : List NodeSummary) → length new ≡ length old.nodes
    → ((n : ℕ) → n < length old.nodes → node_summary_at new n
    ≡ with_node (old.states == 0) (node_summary_at old.nodes n) (number (run old.states).heads n -ℤ number old.inverts n) (number (run old.states).heads n) (number (flooded old.states) n) (moments old.states))
    → (last : ℕ) → old.states ≡ last
    → new ≡ list_of (λ n. node_summary run flooded moments last (number old.inverts n) n) (length old.inverts)
nodes_more run flooded moments old good sums new same each last e =
    fill_by_all (λ n. node_summary run flooded moments last (number old.inverts n) n) new (length old.inverts) no_node_summary (same ∙ good.nodes)
    (λ n h. each n (omega (arith, h, good.nodes)) ∙ rw e (node_next run flooded moments old sums last e n h))

pub links_more : (run : ℕ → Nets) (flooded : ℕ → List ℤ) (moments : ℕ → ℤ) (old : Figures) → AreSummaries run flooded moments old → (new : List LinkSummary) → length new ≡ length old.links
    → ((l : ℕ) → l < length old.links → link_summary_at new l
    ≡ with_link (old.states == 0) (link_summary_at old.links l) (pos (unsigned_abs (number (run old.states).flows l))) (number (run old.states).flows l) (moments old.states))
    → (last : ℕ) → old.states ≡ last
    → new ≡ list_of (link_summary run moments last) (length new)
links_more run flooded moments old sums new same each last e =
    fill_by_all (link_summary run moments last) new (length new) no_link_summary refl
    (λ l h. each l (omega (arith, h, same)) ∙ rw e (link_next run flooded moments old sums last e l (omega (arith, h, same))))

-- a peak with a value above it, and with one that is not
pub raised_up : (peak : Peak) (value at : ℤ) → int_lt peak.value value ≡ true → raised peak value at ≡ record { value = value; at = at }
raised_up peak value at e = rw e refl

pub raised_not : (peak : Peak) (value at : ℤ) → int_lt peak.value value ≡ false → raised peak value at ≡ peak
raised_not peak value at e = rw e refl

-- a loan of a whole list that is given back
pub written_whole : {A : Type 0} (xs ys : List A) → length ys ≡ length xs → take (length xs) (ys ++ drop (length ys) xs) ≡ ys
written_whole xs ys e = rw (sym e) (take-append_seam ys (drop (length ys) xs))
